-- Where entries and subjects stand in a tree's bytes.
use Prim.Native.Nat.{ℕ, suc, ◌+◌, ◌<◌, ◌≤◌}
use mathlib.Core.Path.{◌≡◌, refl, sym, ap, ◌∙◌}
use mathlib.Core.List.{List, [], ◌∷◌, ◌++◌, map}
use Rattle.std.specs.Prelude.{Some, None, position}
use Rattle.std.proofs.lemmas.List.{length-map, get_or-map}
use mathlib.Core.Bool.{Bool, true, cond}
use native.Mathlib.Omega.{arith}
use lib.Dec.{ltb}
use lib.ListN.{length, get_or, drop, length-append, drop_of_length-le}
use lib.Seq.{drop-cons}
use borrow.Author.Tests.{lt-ltb, le-ltb}
use Rattle.entry_tree.specs.Pairs.{Pair, pair, count, is_entry, without, place_of}
use Rattle.entry_tree.specs.Places as tree
use Rattle.entry_tree.specs.Places.{size, entry_at, subject_at, pair_at}
use Rattle.entry_tree.specs.Walks.{first, next_on}
use Rattle.entry_tree.specs.Inner.{pair_of, removed_at}
use Rattle.entry_tree.proofs.Lists.{none, place_rest, first_of, position-first, count_at, first-alone}
use Rattle.entry_tree.proofs.Reading.{read_length, read_at, read-place-subject}
use Rattle.entry_tree.proofs.Changes.{removed-without}
use Rattle.entry_tree.proofs.Count.{same, diff, compare_eq, eqb-self, count-append, few-entries}

-- ---- a tree's places

module _ (t : List ℕ) where
  pub place_in : (test : Pair → Bool) (i : ℕ) → position test (tree.read t) ≡ Some i → i < size t
  place_in test i q = omega (arith, (first_of test (tree.read t) i q).within, read_length t)

  entry-passes : (i : ℕ) → i < size t → is_entry (entry_at t i) (get_or (tree.read t) i none) ≡ true
  entry-passes i h = ap (is_entry (entry_at t i)) (read_at t i h) ∙ eqb-self (entry_at t i)

  pub entry-counts : (i : ℕ) → i < size t → 0 < count (is_entry (entry_at t i)) (tree.read t)
  entry-counts i h = count_at (is_entry (entry_at t i)) (tree.read t) i (omega (arith, read_length t)) (entry-passes i h)

  pub entry_place : (i : ℕ) → i < size t → count (is_entry (entry_at t i)) (tree.read t) ≤ 1 → position (is_entry (entry_at t i)) (tree.read t) ≡ Some i
  entry_place i h u =
      let test = is_entry (entry_at t i) in
      position-first test (tree.read t) i (first-alone test (tree.read t) i (omega (arith, read_length t)) (entry-passes i h) u)

  -- the pairs after a place
  pub drop-next : (i j : ℕ) → j ≡ suc i → j < size t → drop (suc i) (tree.read t) ≡ pair_at t j ∷ drop (suc j) (tree.read t)
  drop-next i j q h = ap (λ (k : ℕ). drop k (tree.read t)) (sym q) ∙ drop-cons (tree.read t) j none (omega (arith, read_length t)) ∙ ap (λ (p : Pair). p ∷ drop (suc j) (tree.read t)) (read_at t j h)

  pub drop_end : (i : ℕ) → size t ≤ suc i → drop (suc i) (tree.read t) ≡ []
  drop_end i h = drop_of_length-le (tree.read t) {i = suc i} (omega (arith, read_length t))

-- the pair after the place i, as the code reads it
module _ (t : List ℕ) (places : List (List ℕ)) (q : tree.read t ≡ map pair_of places) (i : ℕ) (h : i + 1 < length places) (b : List ℕ) (at : b ≡ get_or places (i + 1) b) where
  after-place : drop (suc i) (tree.read t) ≡ pair_of b ∷ drop (suc (i + 1)) (tree.read t)
  after-place =
      let inside : i + 1 < size t = omega (arith, read_length t, ap length q, length-map places pair_of) in
      drop-next t i (i + 1) (omega arith) inside
      ∙ ap (λ (p : Pair). p ∷ drop (suc (i + 1)) (tree.read t))
      (sym (read_at t (i + 1) inside) ∙ ap (λ (l : List Pair). get_or l (i + 1) none) q ∙ get_or-map pair_of places (i + 1) b none h ∙ sym (ap pair_of at))

  pub next_first : Some (get_or b 0 0) ≡ first (drop (suc i) (tree.read t))
  next_first = sym (ap first after-place)

  module _ (s x : ℕ) (qs : s ≡ subject_at t i) (qx : x ≡ (pair_of b).subject) where
    next-is : next_on (subject_at t i) (drop (suc i) (tree.read t)) ≡ cond (ltb s x) None (Some (get_or b 0 0))
    next-is = ap (next_on (subject_at t i)) after-place ∙ rw (qs, qx) refl

    pub next_past : s < x → None ≡ next_on (subject_at t i) (drop (suc i) (tree.read t))
    next_past l = sym (next-is ∙ rw (lt-ltb s x l) refl)

    pub next_same : x ≤ s → Some (get_or b 0 0) ≡ next_on (subject_at t i) (drop (suc i) (tree.read t))
    next_same l = sym (next-is ∙ rw (le-ltb s x l) refl)

-- ---- the place of an entry

module _ (t : List ℕ) (e i : ℕ) (q : position (is_entry e) (tree.read t) ≡ Some i) where
  pub place-rest-at : (place_of e (tree.read t)).rest ≡ drop (suc i) (tree.read t)
  place-rest-at = place_rest e (tree.read t) i q

  pub place-next : next_on (place_of e (tree.read t)).subject (place_of e (tree.read t)).rest ≡ next_on (subject_at t i) (drop (suc i) (tree.read t))
  place-next = rw (read-place-subject t e i q, place-rest-at) refl

  pub removed-is : count (is_entry e) (tree.read t) ≤ 1 → removed_at i (tree.read t) ≡ without e (tree.read t)
  removed-is u = let f = first_of (is_entry e) (tree.read t) i q in removed-without e (tree.read t) i f.within f.here u

-- an entry below n that is in neither list: there is room for it
pub few-others : (e n : ℕ) (l k : List Pair) → e < n → count (is_entry e) l ≡ 0 → count (is_entry e) k ≡ 0 → ((x : ℕ) → count (is_entry x) l + count (is_entry x) k ≤ 1)
    → ((x : ℕ) → 0 < count (is_entry x) l + count (is_entry x) k → x < n) → length l + length k < n
few-others e n l k b u v once inside =
    let both : (x : ℕ) → count (is_entry x) (l ++ k) ≡ count (is_entry x) l + count (is_entry x) k = λ x. count-append (is_entry x) l k in
    omega (
      arith,
      length-append l k,
      few-entries n (pair e 0 ∷ (l ++ k))
          (λ x. elim (compare_eq x e) [ same q t ↦ rw t (omega (arith, both x, rw (← q) at u, rw (← q) at v)) | diff d t ↦ rw t (omega (arith, both x, once x)) ])
          (λ x i. elim (compare_eq x e) [ same q t ↦ omega arith | diff d t ↦ inside x (omega (arith, both x, rw t at i)) ]),
    )
