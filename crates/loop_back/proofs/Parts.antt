-- The registry's bytes as a join: the tree, the walk's byte, and three that say nothing.
use Prim.Native.Nat.{ℕ, ◌≤◌}
use mathlib.Core.Path.{◌≡◌, refl, sym, ap, ◌∙◌}
use mathlib.Core.List.{List, [], ◌∷◌, ◌++◌}
use native.Mathlib.Omega.{arith}
use lib.ListN.{length, get_or, set, take, drop, length-append, length-drop, take-append-drop}
use lib.Seq.{take_at, drop_at, drop-cons, get_or-drop, length-take-le}
use borrow.Rule.Slice.PartMut.{put_mid}
use Rattle.entry_tree.specs.Places as tree
use Rattle.entry_tree.specs.Walks.{walk_over}
use Rattle.entry_tree.proofs.Laid as trees
use Rattle.loop_back.specs.Registry.{Registry}
use Rattle.loop_back.specs.Bytes.{tree_part, laid}

pub record Joined (s T : List ℕ) (v : ℕ) (R : List ℕ) : Type 0 where
  pub is : s ≡ T ++ (v ∷ R)
  pub long-t : length T ≡ 385
  pub long-r : length R ≡ 3

set_after : (T R : List ℕ) (n v u : ℕ) → length T ≡ n → set (T ++ (v ∷ R)) n u ≡ T ++ (u ∷ R)
set_after T R n v u h = ap (λ (k : ℕ). set (T ++ (v ∷ R)) k u) (sym h) ∙ go T
  where
    go : (B : List ℕ) → set (B ++ (v ∷ R)) (length B) u ≡ B ++ (u ∷ R)
    go [] = refl
    go (b ∷ B) = ap (λ (l : List ℕ). b ∷ l) (go B)

module _ (s T : List ℕ) (v : ℕ) (R : List ℕ) (h : Joined s T v R) where
  pub tree_is : tree_part s ≡ T
  tree_is = ap (take 385) h.is ∙ take_at T (v ∷ R) 385 h.long-t

  tail-is : drop 385 s ≡ v ∷ R
  tail-is = ap (drop 385) h.is ∙ drop_at T (v ∷ R) 385 h.long-t

  pub byte-is : get_or s 385 0 ≡ v
  byte-is = sym (get_or-drop 385 s 0 0) ∙ ap (λ (z : List ℕ). get_or z 0 0) tail-is

  pub long : length s ≡ 389
  long = ap length h.is ∙ length-append T (v ∷ R) ∙ omega (arith, h.long-t, h.long-r)

  -- ---- stores

  pub put_tree : (p : List ℕ) → length p ≡ 385 → Joined (put_mid 0 385 s p) p v R
  put_tree p l = record { is = ap (λ (z : List ℕ). p ++ z) tail-is; long-t = l; long-r = h.long-r }

  pub set-byte : (u : ℕ) → Joined (set s 385 u) T u R
  set-byte u = record { is = ap (λ (z : List ℕ). set z 385 u) h.is ∙ set_after T R 385 v u h.long-t; long-t = h.long-t; long-r = h.long-r }

pub split : (s : List ℕ) → length s ≡ 389 → Joined s (tree_part s) (get_or s 385 0) (drop 386 s)
split s l = record {
  is = sym (take-append-drop 385 s) ∙ ap (λ (z : List ℕ). take 385 s ++ z) (drop-cons s 385 0 (omega arith));
  long-t = length-take-le 385 s (omega arith);
  long-r = length-drop 386 s ∙ omega arith;
}

-- ---- what is laid

pub laid-joined : (m : Registry) (b : List ℕ) → length b ≡ 389 → length m.entries ≤ 128 → Joined (laid m b) (tree.laid m.entries (tree_part b)) (walk_over m.walk (get_or b 385 0)) (drop 386 b)
unfolding laid
laid-joined m b l n = let s = split b l in record { is = refl; long-t = trees.length-laid (tree_part b) s.long-t m.entries n; long-r = s.long-r }

pub laid_from : {s T R : List ℕ} {v : ℕ} (m : Registry) (b : List ℕ) → Joined s T v R → T ≡ tree.laid m.entries (tree_part b) → v ≡ walk_over m.walk (get_or b 385 0) → R ≡ drop 386 b → s ≡ laid m b
unfolding laid
laid_from m b j t v r = j.is ∙ λ k. t k ++ (v k ∷ r k)
