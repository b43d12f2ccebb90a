-- Laws of tests and lists over the numbers below n.
use Prim.Native.Nat.{ℕ, zero, suc, ◌<◌}
use mathlib.Core.Path.{◌≡◌, refl, sym, ap, ◌∙◌, subst}
use mathlib.Core.Logic.{◌≢◌, ⊎_elim}
use mathlib.Core.Bool.{Bool, true, false, and-false, or-true}
use mathlib.Core.List.{List, [], ◌∷◌, map}
use native.Mathlib.Omega.{arith}
use native.Mathlib.Decide.{ℕ_discrete}
use native.Mathlib.Nat.{not-suc-le-zero}
use lib.ListN.{length, get_or, set}
use Rattle.std.specs.List.{list_all, range_with_len}
use Rattle.std.proofs.Common.{zero-add}
use Rattle.std.proofs.lemmas.List.FromFn.{get_or-range_with_len, length-range_with_len}
use Rattle.std.proofs.lemmas.List.Recursion.{and_at, and_from_places}
use Rattle.state.specs.Seq.{all_b, some_b, each}
use Rattle.state.proofs.Tests.{and_l, and_r, or_split, not-both, same_test}

-- ---- all

pub all_true : (n : ℕ) (f : ℕ → Bool) → ((k : ℕ) → k < n → f k ≡ true) → all_b n f ≡ true
unfolding all_b
all_true zero f h = refl
all_true (suc n) f h = rw (h n (omega arith), all_true n f (λ k l. h k (omega arith)))

pub all-false : (n : ℕ) (f : ℕ → Bool) (k : ℕ) → k < n → f k ≡ false → all_b n f ≡ false
unfolding all_b
all-false zero f k l h = absurd (not-suc-le-zero l)
all-false (suc n) f k l h = elim (ℕ_discrete k n) [ yes e ↦ rw (subst (λ (j : ℕ). f j ≡ false) e h) | no ne ↦ rw (all-false n f k (omega arith) h, and-false) ]

pub all-at : (n : ℕ) (f : ℕ → Bool) → all_b n f ≡ true → (k : ℕ) → k < n → f k ≡ true
unfolding all_b
all-at zero f h k l = absurd (not-suc-le-zero l)
all-at (suc n) f h k l = elim (ℕ_discrete k n) [ yes e ↦ rw e (and_l _ _ h) | no ne ↦ all-at n f (and_r (f n) _ h) k (omega arith) ]

-- the test of an iterator over 0..n
pub all_over_range : (n : ℕ) (f : ℕ → Bool) → list_all f (range_with_len 0 n) ≡ all_b n f
all_over_range n f =
    let xs = range_with_len 0 n in
    let at : (k : ℕ) → k < n → get_or xs k 0 ≡ k = λ k l. get_or-range_with_len 0 n k 0 l ∙ zero-add k in
    same_test (list_all f xs) (all_b n f)
    (λ h. all_true n f (λ k l. ap f (sym (at k l)) ∙ and_at (list_all f) f refl (λ _ _. refl) xs k 0 (omega (arith, length-range_with_len 0 n)) h))
    (λ h. and_from_places (list_all f) f refl (λ _ _. refl) xs 0 (λ k l. let i : k < n = omega (arith, length-range_with_len 0 n) in ap f (at k i) ∙ all-at n f h k i))

-- ---- some

pub some-true : (n : ℕ) (f : ℕ → Bool) (k : ℕ) → k < n → f k ≡ true → some_b n f ≡ true
unfolding some_b
some-true zero f k l h = absurd (not-suc-le-zero l)
some-true (suc n) f k l h = elim (ℕ_discrete k n) [ yes e ↦ rw (subst (λ (j : ℕ). f j ≡ true) e h) | no ne ↦ rw (some-true n f k (omega arith) h, or-true) ]

pub some_at : (n : ℕ) (f : ℕ → Bool) → some_b n f ≡ true → (k : ℕ) × (k < n) × (f k ≡ true)
unfolding some_b
some_at zero f h = not-both (sym h)
some_at (suc n) f h =
    ⊎_elim
    (λ q. (n, omega arith, q))
    (λ q. let r = some_at n f q in (r.0, omega (arith, r.1), r.2))
    (or_split (f n) (some_b n f) h)

-- ---- each

pub each_same : {A : Type 0} (n : ℕ) (f g : ℕ → A) → ((k : ℕ) → k < n → f k ≡ g k) → each n f ≡ each n g
unfolding each
each_same zero f g h = refl
each_same {A} (suc n) f g h =
    ap (λ (x : A). x ∷ each n (λ k. f (suc k))) (h 0 (omega arith)) ∙ ap (λ (t : List A). g 0 ∷ t) (each_same n (λ k. f (suc k)) (λ k. g (suc k)) (λ k l. h (suc k) (omega arith)))

pub map_each : {A B : Type 0} (m : A → B) (n : ℕ) (f : ℕ → A) → map m (each n f) ≡ each n (λ k. m (f k))
unfolding each
map_each m zero f = refl
map_each {A} {B} m (suc n) f = ap (λ (t : List B). m (f 0) ∷ t) (map_each m n (λ k. f (suc k)))

pub get_d_each : {A : Type 0} (n : ℕ) (f : ℕ → A) (k : ℕ) (d : A) → k < n → get_or (each n f) k d ≡ f k
unfolding each
get_d_each zero f k d h = absurd (not-suc-le-zero h)
get_d_each (suc n) f zero d h = refl
get_d_each (suc n) f (suc k) d h = get_d_each n (λ j. f (suc j)) k d (omega arith)

pub set-each : {A : Type 0} (n : ℕ) (f g : ℕ → A) (q : ℕ) (v : A) → g q ≡ v → ((k : ℕ) → k ≢ q → g k ≡ f k) → q < n → set (each n f) q v ≡ each n g
unfolding each
set-each zero f g q v e o h = absurd (not-suc-le-zero h)
set-each {A} (suc n) f g zero v e o h =
    ap (λ (x : A). x ∷ each n (λ k. f (suc k))) (sym e) ∙ ap (λ (t : List A). g 0 ∷ t) (each_same n (λ k. f (suc k)) (λ k. g (suc k)) (λ k l. sym (o (suc k) (omega arith))))
set-each {A} (suc n) f g (suc q) v e o h =
    ap (λ (x : A). x ∷ set (each n (λ k. f (suc k))) q v) (sym (o 0 (omega arith))) ∙ ap (λ (t : List A). g 0 ∷ t) (set-each n (λ k. f (suc k)) (λ k. g (suc k)) q v e (λ k l. o (suc k) (omega arith)) (omega arith))

pub length-each : {A : Type 0} (n : ℕ) (f : ℕ → A) → length (each n f) ≡ n
unfolding each
length-each zero f = refl
length-each (suc n) f = ap suc (length-each n (λ k. f (suc k)))

pub each_get_d : {A : Type 0} (d : A) (l : List A) → each (length l) (λ k. get_or l k d) ≡ l
unfolding each
each_get_d d [] = refl
each_get_d {A} d (x ∷ l) = ap (λ (t : List A). x ∷ t) (each_get_d d l)
