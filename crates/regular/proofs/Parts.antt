-- The registry's bytes as the join of their parts: what a store into a part leaves of the others.
use Prim.Native.Nat.{ℕ, suc, ◌+◌, ◌<◌}
use mathlib.Core.Path.{◌≡◌, refl, sym, ap, ◌∙◌}
use mathlib.Core.List.{List, [], ◌∷◌, ◌++◌}
use native.Mathlib.Omega.{arith}
use lib.ListN.{length, get_or, set, take, drop, length-append, length-drop, length-set, take-append-drop}
use lib.Seq.{take_at, drop_at, drop-drop, get_or-drop, length-take-le}
use borrow.Rule.Slice.PartMut.{put_mid}
use Rattle.regular.specs.Bytes.{active_part, inactive_part, queue_part}

unfoldable pub join : List ℕ → List ℕ → List ℕ → List ℕ → List ℕ
join A I Q T = A ++ (I ++ (Q ++ T))

pub record Joined (s A I Q T : List ℕ) : Type 0 where
  pub is : s ≡ join A I Q T
  pub long-a : length A ≡ 385
  pub long-i : length I ≡ 385
  pub long-q : length Q ≡ 262
  pub long-t : length T ≡ 4

assoc : (x y z : List ℕ) → (x ++ y) ++ z ≡ x ++ (y ++ z)
assoc [] y z = refl
assoc (a ∷ x) y z = ap (λ (l : List ℕ). a ∷ l) (assoc x y z)

set_after : (A R : List ℕ) (n j v : ℕ) → length A ≡ n → set (A ++ R) (n + j) v ≡ A ++ set R j v
set_after A R n j v h = ap (λ (k : ℕ). set (A ++ R) (k + j) v) (sym h) ∙ go A
  where
    go : (B : List ℕ) → set (B ++ R) (length B + j) v ≡ B ++ set R j v
    go [] = ap (λ (k : ℕ). set R k v) (omega arith)
    go (b ∷ B) =
        let q : suc (length B) + j ≡ suc (length B + j) = omega arith in
        ap (λ (k : ℕ). set (b ∷ (B ++ R)) k v) q ∙ ap (λ (l : List ℕ). b ∷ l) (go B)

-- over variables, so that no numeral is taken apart
module _ (A I Q T : List ℕ) (a i q : ℕ) (ha : length A ≡ a) (hi : length I ≡ i) (hq : length Q ≡ q) where
  at_i : drop a (A ++ (I ++ (Q ++ T))) ≡ I ++ (Q ++ T)
  at_i = drop_at A (I ++ (Q ++ T)) a ha

  at-q : drop (a + i) (A ++ (I ++ (Q ++ T))) ≡ Q ++ T
  at-q = sym (drop-drop i a (A ++ (I ++ (Q ++ T)))) ∙ ap (drop i) at_i ∙ drop_at I (Q ++ T) i hi

  at-t : drop (a + i + q) (A ++ (I ++ (Q ++ T))) ≡ T
  at-t = sym (drop-drop q (a + i) (A ++ (I ++ (Q ++ T)))) ∙ ap (drop q) at-q ∙ drop_at Q T q hq

  to-q : take (a + i) (A ++ (I ++ (Q ++ T))) ≡ A ++ I
  to-q = ap (take (a + i)) (sym (assoc A I (Q ++ T))) ∙ take_at (A ++ I) (Q ++ T) (a + i) (length-append A I ∙ omega (arith))

module _ (s A I Q T : List ℕ) (h : Joined s A I Q T) where
  pub active-is : active_part s ≡ A
  unfolding join
  active-is = ap (λ (z : List ℕ). take 385 z) h.is ∙ take_at A (I ++ (Q ++ T)) 385 h.long-a

  pub inactive-is : inactive_part s ≡ I
  unfolding join
  inactive-is = ap (λ (z : List ℕ). take 385 (drop 385 z)) h.is ∙ ap (take 385) (at_i A I Q T 385 385 262 h.long-a h.long-i h.long-q) ∙ take_at I (Q ++ T) 385 h.long-i

  pub queue-is : queue_part s ≡ Q
  unfolding join
  queue-is = ap (λ (z : List ℕ). take 262 (drop 770 z)) h.is ∙ ap (take 262) (at-q A I Q T 385 385 262 h.long-a h.long-i h.long-q) ∙ take_at Q T 262 h.long-q

  tail-is : drop 1032 s ≡ T
  unfolding join
  tail-is = ap (drop 1032) h.is ∙ at-t A I Q T 385 385 262 h.long-a h.long-i h.long-q

  pub long : length s ≡ 1036
  unfolding join
  long = ap length h.is ∙ length-append A (I ++ (Q ++ T)) ∙ omega (arith, length-append I (Q ++ T), length-append Q T, h.long-a, h.long-i, h.long-q, h.long-t)

  pub tail_at : (j : ℕ) → get_or s (1032 + j) 0 ≡ get_or T j 0
  tail_at j = sym (get_or-drop 1032 s j 0) ∙ ap (λ (z : List ℕ). get_or z j 0) tail-is

  -- ---- stores

  pub put-active : (p : List ℕ) → length p ≡ 385 → Joined (put_mid 0 385 s p) p I Q T
  unfolding join
  put-active p l = record {
    is = ap (λ (z : List ℕ). p ++ z) (ap (drop 385) h.is ∙ at_i A I Q T 385 385 262 h.long-a h.long-i h.long-q);
    long-a = l;
    long-i = h.long-i;
    long-q = h.long-q;
    long-t = h.long-t;
  }

  pub put-inactive : (p : List ℕ) → length p ≡ 385 → Joined (put_mid 385 385 s p) A p Q T
  unfolding join
  put-inactive p l = record {
    is = ap (λ (z : List ℕ). take 385 z ++ (p ++ drop 385 (drop 385 z))) h.is ∙ rw (take_at A (I ++ (Q ++ T)) 385 h.long-a, at_i A I Q T 385 385 262 h.long-a h.long-i h.long-q, drop_at I (Q ++ T) 385 h.long-i);
    long-a = h.long-a;
    long-i = l;
    long-q = h.long-q;
    long-t = h.long-t;
  }

  pub put-queue : (p : List ℕ) → length p ≡ 262 → Joined (put_mid 770 262 s p) A I p T
  unfolding join
  put-queue p l = record {
    is = ap (λ (z : List ℕ). take 770 z ++ (p ++ drop 262 (drop 770 z))) h.is ∙ rw (to-q A I Q T 385 385 262 h.long-a h.long-i h.long-q, at-q A I Q T 385 385 262 h.long-a h.long-i h.long-q, drop_at Q T 262 h.long-q, assoc A I (p ++ T));
    long-a = h.long-a;
    long-i = h.long-i;
    long-q = l;
    long-t = h.long-t;
  }

  pub set-tail : (j v : ℕ) → j < 4 → Joined (set s (1032 + j) v) A I Q (set T j v)
  unfolding join
  set-tail j v l =
      let n : 1032 + j ≡ 385 + (385 + (262 + j)) = omega arith in
      record {
        is = ap (λ (z : List ℕ). set z (1032 + j) v) h.is ∙ ap (λ (k : ℕ). set (A ++ (I ++ (Q ++ T))) k v) n ∙ set_after A (I ++ (Q ++ T)) 385 (385 + (262 + j)) v h.long-a
            ∙ ap (λ (z : List ℕ). A ++ z) (set_after I (Q ++ T) 385 (262 + j) v h.long-i ∙ ap (λ (z : List ℕ). I ++ z) (set_after Q T 262 j v h.long-q));
        long-a = h.long-a;
        long-i = h.long-i;
        long-q = h.long-q;
        long-t = length-set T j v ∙ h.long-t;
      }

pub split : (s : List ℕ) → length s ≡ 1036 → Joined s (active_part s) (inactive_part s) (queue_part s) (drop 1032 s)
unfolding join
split s l = record {
  is = sym (take-append-drop 385 s) ∙ ap (λ (z : List ℕ). take 385 s ++ z) (sym (take-append-drop 385 (drop 385 s))
      ∙ ap (λ (z : List ℕ). take 385 (drop 385 s) ++ z) (drop-drop 385 385 s ∙ sym (take-append-drop 262 (drop 770 s)) ∙ ap (λ (z : List ℕ). take 262 (drop 770 s) ++ z) (drop-drop 262 770 s)));
  long-a = length-take-le 385 s (omega arith);
  long-i = length-take-le 385 (drop 385 s) (omega (arith, length-drop 385 s));
  long-q = length-take-le 262 (drop 770 s) (omega (arith, length-drop 770 s));
  long-t = length-drop 1032 s ∙ omega arith;
}
