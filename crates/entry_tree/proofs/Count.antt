-- Comparisons with what the test computes to, and counts in lists of pairs.
use Prim.Native.Nat.{ℕ, zero, suc, ◌+◌, ◌≤◌, ◌<◌}
use mathlib.Core.Path.{◌≡◌, refl}
use mathlib.Core.Logic.{◌≢◌}
use mathlib.Core.Bool.{Bool, true, false, not, ◌&&◌, and-false}
use mathlib.Core.List.{List, [], ◌∷◌, ◌++◌}
use native.Mathlib.Omega.{arith}
use lib.Dec.{T, eqb, leb}
use lib.ListN.{length}
use borrow.Author.Tests.{leb-true, leb-false, ltb-true, ltb-false, eqb-true, eqb-false, eq-eqb, lt-ltb, le-ltb}
use Rattle.state.specs.Seq.{to_nat}
use Rattle.entry_tree.specs.Pairs.{Pair, count, any, is_entry, on_subject, without}
use Rattle.entry_tree.proofs.Changes.{without-count, without-count-same, without-length}

pub data Same (a b : ℕ) : Type 0 where
  same : a ≡ b → eqb a b ≡ true → Same a b
  diff : a ≢ b → eqb a b ≡ false → Same a b

pub data Order (a b : ℕ) : Type 0 where
  below : a ≤ b → leb a b ≡ true → Order a b
  above : b < a → leb a b ≡ false → Order a b

pub compare_eq : (a b : ℕ) → Same a b
compare_eq a b = go (eqb a b) refl
  where
    go : (t : Bool) → eqb a b ≡ t → Same a b
    go true q = same (eqb-true a b q) q
    go false q = diff (eqb-false a b q) q

pub compare_le : (a b : ℕ) → Order a b
compare_le a b = go (leb a b) refl
  where
    go : (t : Bool) → leb a b ≡ t → Order a b
    go true q = below (leb-true a b q) q
    go false q = above (leb-false a b q) q

pub T_true : (b : Bool) → T b → b ≡ true
T_true true t = refl
T_true false t = absurd t

pub eqb-self : (a : ℕ) → eqb a a ≡ true
eqb-self a = eq-eqb a a refl

-- ---- any and none

pub any-true : (t : Pair → Bool) (l : List Pair) → any t l ≡ true → 0 < count t l
any-true t l q = ltb-true 0 (count t l) q

pub any_false : (t : Pair → Bool) (l : List Pair) → any t l ≡ false → count t l ≡ 0
any_false t l q = omega (arith, ltb-false 0 (count t l) q)

pub true-any : (t : Pair → Bool) (l : List Pair) → 0 < count t l → any t l ≡ true
true-any t l h = lt-ltb 0 (count t l) h

pub false-any : (t : Pair → Bool) (l : List Pair) → count t l ≡ 0 → any t l ≡ false
false-any t l h = le-ltb 0 (count t l) (omega arith)

pub both-le : (s t : Pair → Bool) (l : List Pair) → count (λ p. s p && t p) l ≤ count s l
both-le s t [] = omega arith
both-le s t (p ∷ l) = go (s p) (t p) (both-le s t l)
  where
    go : (a b : Bool) → count (λ p. s p && t p) l ≤ count s l → to_nat (a && b) + count (λ p. s p && t p) l ≤ to_nat a + count s l
    go true true h = omega arith
    go true false h = omega arith
    go false b h = omega arith

-- ---- the first pair

pub count-self : (p : Pair) (l : List Pair) → 0 < count (is_entry p.entry) (p ∷ l)
count-self p l = rw (eqb-self p.entry) (omega arith)

pub count-subject : (p : Pair) (l : List Pair) → 0 < count (on_subject p.subject) (p ∷ l)
count-subject p l = rw (eqb-self p.subject) (omega arith)

pub first-only : (p : Pair) (l : List Pair) → count (is_entry p.entry) (p ∷ l) ≤ 1 → count (is_entry p.entry) l ≡ 0
first-only p l u = omega (arith, rw (eqb-self p.entry) at u)

pub count-off : (x : ℕ) (p : Pair) (l : List Pair) → x ≢ p.subject → count (on_subject x) l ≡ 0 → count (on_subject x) (p ∷ l) ≡ 0
count-off x p l n z = elim (compare_eq x p.subject) [ same q t ↦ absurd (n q) | diff m t ↦ rw t (omega arith) ]

pub not_there : (e x : ℕ) (l : List Pair) → count (is_entry e) l ≡ 0 → 0 < count (is_entry x) l → x ≢ e
not_there e x l z i w = omega (arith, rw w at i)

-- ---- lists together

pub count-append : (t : Pair → Bool) (l k : List Pair) → count t (l ++ k) ≡ count t l + count t k
count-append t [] k = omega arith
count-append t (p ∷ l) k = rw (count-append t l k) (omega arith)

-- ---- without an entry

and_yes : (b : Bool) → (b && true) ≡ b
and_yes true = refl
and_yes false = refl

pub count-without : (t : Pair → Bool) (e : ℕ) (l : List Pair) → count t (without e l) ≡ count (λ p. t p && not (is_entry e p)) l
count-without t e [] = refl
count-without t e (p ∷ l) =
    elim (compare_eq e p.entry) [
      | same q r ↦ rw (r, and-false (t p)) (omega (arith, count-without t e l))
      | diff n r ↦ rw (r, and_yes (t p)) (omega (arith, count-without t e l))
    ]

-- lists with the same counts have the same counts without an entry
pub same-without : (e : ℕ) (l k : List Pair) → ((t : Pair → Bool) → count t l ≡ count t k) → (t : Pair → Bool) → count t (without e l) ≡ count t (without e k)
same-without e l k h t = rw (count-without t e l, count-without t e k) (h (λ p. t p && not (is_entry e p)))

-- ---- lengths

pub count-all : (l : List Pair) → count (λ p. true) l ≡ length l
count-all [] = refl
count-all (p ∷ l) = omega (arith, count-all l)

-- entries below n, each once, are at most n
pub few-entries : (n : ℕ) (l : List Pair) → ((e : ℕ) → count (is_entry e) l ≤ 1) → ((e : ℕ) → 0 < count (is_entry e) l → e < n) → length l ≤ n
few-entries zero [] u h = omega arith
few-entries zero (p ∷ l) u h = absurd (omega (arith, h p.entry (count-self p l)))
few-entries (suc n) l u h =
    omega (
      arith,
      u n,
      without-length n l,
      few-entries n (without n l) (λ e. omega (arith, u e, without-count n (is_entry e) l)) (λ e i. elim (compare_eq e n) [
        | same q t ↦ absurd (omega (arith, without-count-same n l, rw q at i))
        | diff d t ↦ omega (arith, h e (omega (arith, without-count n (is_entry e) l)))
      ]),
    )
