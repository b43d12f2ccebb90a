-- Laws of lists of pairs: the first pair that passes a test, and the place of an entry.
use Prim.Native.Nat.{ℕ, zero, suc, ◌+◌, ◌-◌, ◌<◌, ◌≤◌}
use mathlib.Core.Path.{◌≡◌, refl, sym, ap, ◌∙◌}
use mathlib.Core.List.{List, [], ◌∷◌}
use mathlib.Core.Bool.{Bool, true, false, cond, not}
use native.Mathlib.Omega.{arith}
use native.Mathlib.Nat.{not-suc-le-zero}
use lib.ListN.{length, get_or, drop}
use lib.Dec.{ltb, leb-suc-suc}
use borrow.Author.Tests.{lt-ltb}
use Rattle.std.specs.Prelude.{Option, Some, None, is_some, position}
use Rattle.std.specs.List.{position_or_len}
use Rattle.std.proofs.lemmas.List.Sums.{position_or_len_is}
use Rattle.std.proofs.lemmas.List.Quantifiers.{position-Some}
use Rattle.state.specs.Seq.{to_nat}
use Rattle.entry_tree.specs.Pairs.{Pair, pair, count, any, is_entry, Place, find, place_of, past}

-- what stands past the end of a list
abbrev pub none : Pair
none = pair 0 0

-- ---- the first pair that passes a test

-- it is at the place i
pub record First (test : Pair → Bool) (l : List Pair) (i : ℕ) : Type 0 where
  pub within : i < length l
  pub here : test (get_or l i none) ≡ true
  pub before : (k : ℕ) → k < i → test (get_or l k none) ≡ false

module _ (test : Pair → Bool) where
  pub first_of : (l : List Pair) (i : ℕ) → position test l ≡ Some i → First test l i
  first_of l i q = let p = position-Some test l i none q in record { within = p.0; here = p.1; before = p.2 }

  pub position-first : (l : List Pair) (i : ℕ) → First test l i → position test l ≡ Some i
  position-first l i f = rw (position_or_len_is test l i none (omega (arith, f.within)) f.before (λ h. f.here), lt-ltb i (length l) f.within)

  pub count_at : (l : List Pair) (i : ℕ) → i < length l → test (get_or l i none) ≡ true → 0 < count test l
  count_at [] i h q = absurd (not-suc-le-zero h)
  count_at (p ∷ l) zero h q = rw q (omega arith)
  count_at (p ∷ l) (suc i) h q = omega (arith, count_at l i (omega arith) q)

  -- a pair that alone passes
  pub first-alone : (l : List Pair) (i : ℕ) → i < length l → test (get_or l i none) ≡ true → count test l ≤ 1 → First test l i
  first-alone [] i h q u = absurd (not-suc-le-zero h)
  first-alone (p ∷ l) zero h q u = record { within = h; here = q; before = λ k g. absurd (not-suc-le-zero g) }
  first-alone (p ∷ l) (suc i) h q u =
      let f = first-alone l i (omega arith) q (omega arith) in
      record { within = h; here = q; before = before f }
    where
      before : First test l i → (k : ℕ) → k < suc i → test (get_or (p ∷ l) k none) ≡ false
      before f zero g = others (test p) u (count_at l i (omega arith) q)
        where
          others : (b : Bool) → to_nat b + count test l ≤ 1 → 0 < count test l → b ≡ false
          others true a c = absurd (omega arith)
          others false a c = refl
      before f (suc k) g = f.before k (omega arith)

  has_first : (l : List Pair) → any test l ≡ ltb (position_or_len test l) (length l)
  has_first [] = refl
  has_first (p ∷ l) = cases (test p) (has_first l)
    where
      cases : (b : Bool) → any test l ≡ ltb (position_or_len test l) (length l) → ltb 0 (to_nat b + count test l) ≡ ltb (cond (not b) (1 + position_or_len test l) 0) (suc (length l))
      cases true h = lt-ltb 0 (1 + count test l) (omega arith) ∙ sym (lt-ltb 0 (suc (length l)) (omega arith))
      cases false h =
          let a : 0 + count test l ≡ count test l = omega arith in
          let b : 1 + position_or_len test l ≡ suc (position_or_len test l) = omega arith in
          ap (ltb 0) a ∙ h ∙ sym (ap (λ (n : ℕ). ltb n (suc (length l))) b ∙ leb-suc-suc (suc (position_or_len test l)) (length l))

  pub any-position : (l : List Pair) → is_some (position test l) ≡ any test l
  any-position l = placed (ltb (position_or_len test l) (length l)) ∙ sym (has_first l)
    where
      placed : (b : Bool) → is_some (cond b (Some (position_or_len test l)) None) ≡ b
      placed true = refl
      placed false = refl

  -- where one passes, there is a place
  pub placed : (l : List Pair) (o : Option ℕ) → o ≡ position test l → any test l ≡ true → is_some o ≡ true
  placed l o q h = ap is_some q ∙ any-position l ∙ h

  pub has-placed : (l : List Pair) (i : ℕ) → position test l ≡ Some i → any test l ≡ true
  has-placed l i q = sym (any-position l) ∙ ap is_some q

  -- the code's answer is no place
  pub nowhere : (l : List Pair) (o : Option ℕ) → o ≡ position test l → ((i : ℕ) → o ≡ Some i → ⊥) → position test l ≡ None
  nowhere l None q n = sym q
  nowhere l (Some i) q n = absurd (n i refl)

  pub not-placed : (l : List Pair) → position test l ≡ None → any test l ≡ false
  not-placed l q = sym (any-position l) ∙ ap is_some q

-- ---- the place of an entry

-- the first subject past the pair before i
abbrev pub from_at : ℕ → ℕ → List Pair → ℕ
from_at from zero l = from
from_at from (suc k) l = suc (get_or l k none).subject

record At (from i : ℕ) (l : List Pair) (p : Place) : Type 0 where
  from_at_lem : p.from ≡ from_at from i l
  subject-at : p.subject ≡ (get_or l i none).subject
  rest_at : p.rest ≡ drop (suc i) l

from_more : (x : ℕ) (p : Pair) (i : ℕ) (l : List Pair) → from_at (suc p.subject) i l ≡ from_at x (suc i) (p ∷ l)
from_more x p zero l = refl
from_more x p (suc i) l = refl

find_at : (e from : ℕ) (l : List Pair) (i : ℕ) → First (is_entry e) l i → At from i l (find e from l)
find_at e from [] i f = absurd (not-suc-le-zero f.within)
find_at e from (p ∷ l) zero f = rw f.here (record { from_at_lem = refl; subject-at = refl; rest_at = refl })
find_at e from (p ∷ l) (suc i) f =
    let a = find_at e (suc p.subject) l i (record { within = omega (arith, f.within); here = f.here; before = λ k h. f.before (suc k) (omega arith) }) in
    rw (f.before 0 (omega arith)) (record { from_at_lem = a.from_at_lem ∙ from_more from p i l; subject-at = a.subject-at; rest_at = a.rest_at })

module _ (e : ℕ) (l : List Pair) (i : ℕ) (q : position (is_entry e) l ≡ Some i) where
  at : At 0 i l (place_of e l)
  at = find_at e 0 l i (first_of (is_entry e) l i q)

  pub place-subject : (place_of e l).subject ≡ (get_or l i none).subject
  place-subject = at.subject-at

  pub place-from : (place_of e l).from ≡ from_at 0 i l
  place-from = at.from_at_lem

  pub place_rest : (place_of e l).rest ≡ drop (suc i) l
  place_rest = at.rest_at

pub from_first : (x : ℕ) (l : List Pair) (i : ℕ) → i ≡ 0 → from_at x i l ≡ x
from_first x l i q = ap (λ (j : ℕ). from_at x j l) q

pub from_next : (x : ℕ) (l : List Pair) (i : ℕ) → 0 < i → from_at x i l ≡ suc (get_or l (i - 1) none).subject
from_next x l zero h = absurd (not-suc-le-zero h)
from_next x l (suc i) h = ap (λ (j : ℕ). suc (get_or l j none).subject) (omega arith)

-- the first subject past the last pair
pub past-at : (x : ℕ) (l : List Pair) → past x l ≡ from_at x (length l) l
past-at x [] = refl
past-at x (p ∷ l) = past-at (suc p.subject) l ∙ from_more x p (length l) l

pub past-none : (x : ℕ) (l : List Pair) → length l ≡ 0 → past x l ≡ x
past-none x l q = past-at x l ∙ from_first x l (length l) q

pub past-last : (x : ℕ) (l : List Pair) → 0 < length l → past x l ≡ suc (get_or l (length l - 1) none).subject
past-last x l h = past-at x l ∙ from_next x l (length l) h
