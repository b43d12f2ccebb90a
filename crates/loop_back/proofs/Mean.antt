-- Whatever is valid is laid out as whole bytes, which mean it; so the theorem of specs/Means.antt.
use Prim.Native.Nat.{ℕ, zero, suc, ◌+◌, ◌<◌}
use mathlib.Core.Path.{◌≡◌, refl, sym, ap, ◌∙◌, subst}
use mathlib.Core.List.{List, ◌∷◌}
use Rattle.std.specs.Prelude.{Some}
use mathlib.Core.Bool.{true}
use native.Mathlib.Omega.{arith}
use lib.Dec.{eqb}
use lib.ListN.{length, get_or, drop, replicate, length-replicate}
use lib.Seq.{get_or-drop}
use borrow.Author.Tests.{eqb-true}
use Rattle.state.specs.Lengths.{loop_back_length}
use Rattle.state.specs.Outcome.{done, Bytes}
use Rattle.state.specs.declared.Refusal.TheVariants.{NotWhole}
use Rattle.state.proofs.Bytes.{bytes-part, bytes-append}
use Rattle.state.proofs.Outcomes.{opened-is, means_of}
use Rattle.state.proofs.Filled.{zero-bytes}
use Rattle.entry_tree.specs.Places as tree
use Rattle.entry_tree.specs.Walks.{walk_of, walk_over}
use Rattle.entry_tree.proofs.Laid as trees
use Rattle.entry_tree.proofs.Passing.{range_inside}
use Rattle.entry_tree.proofs.Walking.{walk-back, walk-byte, walk_same}
use Rattle.loop_back.specs.Registry as registry
use Rattle.loop_back.specs.Registry.{Registry, fresh}
use Rattle.loop_back.specs.Bytes.{tree_part, whole_b, read, laid}
use Rattle.loop_back.specs.Steps.{step}
use Rattle.loop_back.specs.Calls.{opening}
use Rattle.loop_back.specs.Means.{Valid, Sized, LoopBackMeans}
use Rattle.loop_back.proofs.Parts.{Joined, tree_is, byte-is, long, split, laid-joined, laid_from}
use Rattle.loop_back.proofs.Facts.{Facts, facts_of, of_facts, at_most, whole_of, of_whole}
use Rattle.loop_back.proofs.Keeping.{fresh-facts, step_valid}

-- ---- whole bytes are the bytes of what they mean

pub tree_self : (b : List ℕ) → Bytes b → whole_b b ≡ true → tree_part b ≡ tree.laid (read b).entries (tree_part b)
tree_self b y h = let w = whole_of b h in sym (trees.laid_read (tree_part b) (split b w.long).long-t w.size (bytes-part 0 385 b y))

pub laid_read : (b : List ℕ) → Bytes b → whole_b b ≡ true → laid (read b) b ≡ b
laid_read b y h = sym (laid_from (read b) b (split b (whole_of b h).long) (tree_self b y h) (walk_same (get_or b 385 0)) refl)

-- ---- what is laid reads back

module _ (m : Registry) (b : List ℕ) (y : Bytes b) (f : Valid m) (l : length b ≡ loop_back_length) where
  w : Facts m
  w = facts_of m f

  T : List ℕ
  T = tree.laid m.entries (tree_part b)

  v : ℕ
  v = walk_over m.walk (get_or b 385 0)

  j : Joined (laid m b) T v (drop 386 b)
  unfolding T v
  j = laid-joined m b l (at_most m w)

  walks : (e : ℕ) → m.walk ≡ Some e → e < 128
  walks e q = omega (arith, range_inside 8191 m.entries w.range e (w.walks e q))

  pub read_laid : read (laid m b) ≡ m
  unfolding T v
  read_laid =
      let s = split b l in
      let t : tree.read (tree_part (laid m b)) ≡ m.entries = ap tree.read (tree_is (laid m b) T v (drop 386 b) j) ∙ trees.read_laid (tree_part b) s.long-t m.entries (at_most m w) in
      let p : walk_of (get_or (laid m b) 385 0) ≡ m.walk = ap walk_of (byte-is (laid m b) T v (drop 386 b) j) ∙ walk-back m.walk (get_or b 385 0) walks in
      λ k. record { entries = t k; walk = p k }

  pub laid_whole : whole_b (laid m b) ≡ true
  unfolding T v
  laid_whole = of_whole (laid m b) (record {
    long = long (laid m b) T v (drop 386 b) j;
    size = omega (arith, ap tree.size (tree_is (laid m b) T v (drop 386 b) j), trees.size-laid (tree_part b) (split b l).long-t m.entries (at_most m w), at_most m w);
    means = ap registry.whole_b read_laid ∙ f;
  })

  tail-bytes : Bytes (v ∷ drop 386 b)
  unfolding v
  tail-bytes zero = walk-byte m.walk (get_or b 385 0) walks (y 385)
  tail-bytes (suc i) = omega (arith, get_or-drop 386 b i 0, y (386 + i))

  pub laid_bytes : Bytes (laid m b)
  unfolding T v
  laid_bytes = subst Bytes (sym j.is) (bytes-append T (v ∷ drop 386 b) (trees.bytes-laid (tree_part b) (split b l).long-t m.entries (at_most m w) 8191 (bytes-part 0 385 b y) (omega arith) w.range) tail-bytes)

-- ---- the theorem

opened : (b : ℕ) (a : Unit {0}) (m : Registry) → opening b ≡ done a m → whole_b (laid m (replicate b 0)) ≡ true
unfolding opening
opened b a m q =
    let i = opened-is (eqb b loop_back_length) tt NotWhole fresh a m q in
    subst (λ (x : Registry). whole_b (laid x (replicate b 0)) ≡ true) i.1
    (laid_whole fresh (replicate b 0) (zero-bytes b) (of_facts fresh fresh-facts) (length-replicate {A = ℕ} b 0 ∙ eqb-true b loop_back_length i.0))

pub means : LoopBackMeans
means =
    record {
      opened = opened;
      meaning = means_of whole_b read laid Valid Sized laid_bytes laid_whole read_laid step (λ b y h. (whole_of b h).means) (λ b h. (whole_of b h).long) laid_read step_valid (λ k m n f z. z);
    }
