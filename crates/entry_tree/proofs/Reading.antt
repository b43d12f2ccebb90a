-- The pairs that the bytes of a tree mean.
use Prim.Native.Nat.{ℕ, zero, suc, ◌+◌, ◌*◌, ◌-◌, ◌<◌, ◌≤◌}
use mathlib.Core.Path.{◌≡◌, refl, sym, ap, ◌∙◌}
use mathlib.Core.List.{List, [], ◌∷◌, map}
use mathlib.Core.Bool.{Bool, cond, not}
use native.Mathlib.Omega.{arith}
use native.Mathlib.Nat.{not-suc-le-zero}
use lib.ListN.{length, get_or, take, drop, length-drop}
use lib.Seq.{ext_get_or, length-take-le, take_all, get_or-take, get_or-drop, drop-drop}
use borrow.Author.Tests.{eqb-true}
use Rattle.std.specs.Prelude.{Some, is_some, position}
use Rattle.std.specs.List.{position_or_len}
use Rattle.std.specs.Simd.{first_chunks}
use Rattle.std.proofs.lemmas.List.{length-map, get_or-map}
use mir.Val.{Fits}
use mir.Syntax.{w8}
use Rattle.state.specs.Outcome.{Bytes}
use Rattle.state.proofs.Seq.{length-each, get_d_each}
use Rattle.entry_tree.specs.Pairs.{Pair, pair, is_entry, on_subject, has_entry, has_subject, place_of}
use Rattle.entry_tree.specs.Places.{size, entry_at, subject_at, pair_at, read}
use Rattle.entry_tree.specs.Inner.{pair_of}
use Rattle.entry_tree.proofs.Lists.{none, First, first_of, any-position, place-subject, place-from, from_first, from_next}

pub bytes_of : (s : List ℕ) → ((i : ℕ) → Fits w8 (get_or s i 0)) → Bytes s
bytes_of s g i = omega (arith, g i)

pub read_length : (t : List ℕ) → length (read t) ≡ size t
unfolding read
read_length t = length-each (size t) (pair_at t)

pub read_at : (t : List ℕ) (i : ℕ) → i < size t → get_or (read t) i none ≡ pair_at t i
unfolding read
read_at t i h = get_d_each (size t) (pair_at t) i none h

-- ---- the pairs as the code cuts them: three bytes each

chunk_at : (k : ℕ) (s : List ℕ) (i : ℕ) → i < k → get_or (first_chunks 3 k s) i [] ≡ take 3 (drop (3 * i) s)
chunk_at zero s i h = absurd (not-suc-le-zero h)
chunk_at (suc k) s zero h = refl
chunk_at (suc k) s (suc i) h =
    let z : 3 + 3 * i ≡ 3 * suc i = omega arith in
    chunk_at k (drop 3 s) i (omega arith) ∙ ap (take 3) (drop-drop (3 * i) 3 s ∙ ap (λ (j : ℕ). drop j s) z)

length-chunks : (k : ℕ) (s : List ℕ) → length (first_chunks 3 k s) ≡ k
length-chunks zero s = refl
length-chunks (suc k) s = ap suc (length-chunks k (drop 3 s))

-- of the bytes past the first, which hold k places
pub read_chunks : (t : List ℕ) (k n : ℕ) → n ≡ size t → n ≤ k → read t ≡ map pair_of (take n (first_chunks 3 k (take (length t - 1) (drop 1 t))))
read_chunks t k n q m =
    let rest : take (length t - 1) (drop 1 t) ≡ drop 1 t = take_all (length t - 1) (drop 1 t) (omega (arith, length-drop 1 t)) in
    let chunks = first_chunks 3 k (drop 1 t) in
    let long : length (take n chunks) ≡ n = length-take-le n chunks (omega (arith, length-chunks k (drop 1 t))) in
    rw rest
    (ext_get_or none (read t) (map pair_of (take n chunks)) (read_length t ∙ sym q ∙ sym (length-map (take n chunks) pair_of ∙ long)) (λ i h.
    let b : i < n = omega (arith, read_length t) in
    read_at t i (omega arith)
    ∙ sym (get_or-map pair_of (take n chunks) i [] none (omega arith)
    ∙ ap pair_of (get_or-take n chunks i [] b ∙ chunk_at k (drop 1 t) i (omega arith))
    ∙ pair-chunk i)))
  where
    pair-chunk : (i : ℕ) → pair_of (take 3 (drop (3 * i) (drop 1 t))) ≡ pair_at t i
    pair-chunk i =
        let byte : (j k : ℕ) → j < 3 → 1 + (3 * i + j) ≡ k → get_or (take 3 (drop (3 * i) (drop 1 t))) j 0 ≡ get_or t k 0 = λ j k h q.
        get_or-take 3 (drop (3 * i) (drop 1 t)) j 0 h ∙ get_or-drop (3 * i) (drop 1 t) j 0 ∙ get_or-drop 1 t (3 * i + j) 0 ∙ ap (λ (z : ℕ). get_or t z 0) q in
        let e = byte 0 (1 + 3 * i) (omega arith) (omega arith) in
        let l = byte 1 (2 + 3 * i) (omega arith) (omega arith) in
        let h = byte 2 (3 + 3 * i) (omega arith) (omega arith) in
        λ z. pair (e z) (l z + 256 * h z)

-- the first of the pairs' bytes that passes a test is the first pair
pub position-read : (test : Pair → Bool) (t : List ℕ) (places : List (List ℕ)) → read t ≡ map pair_of places → position (λ p. test (pair_of p)) places ≡ position test (read t)
position-read test t places q = sym (ap (position test) q ∙ rw (first places, length-map places pair_of))
  where
    first : (l : List (List ℕ)) → position_or_len test (map pair_of l) ≡ position_or_len (λ p. test (pair_of p)) l
    first [] = refl
    first (x ∷ l) = ap (λ (n : ℕ). cond (not (test (pair_of x))) (1 + n) 0) (first l)

pub entry_stands : (e : ℕ) (t : List ℕ) → has_entry e (read t) ≡ is_some (position (is_entry e) (read t))
entry_stands e t = sym (any-position (is_entry e) (read t))

pub subject_stands : (x : ℕ) (t : List ℕ) → has_subject x (read t) ≡ is_some (position (on_subject x) (read t))
subject_stands x t = sym (any-position (on_subject x) (read t))

-- ---- the place of an entry, and the last pair, in the bytes

read-subject : (t : List ℕ) (i : ℕ) → i < size t → (get_or (read t) i none).subject ≡ subject_at t i
read-subject t i h = ap (λ (p : Pair). p.subject) (read_at t i h)

module _ (t : List ℕ) (e i : ℕ) (q : position (is_entry e) (read t) ≡ Some i) where
  first : First (is_entry e) (read t) i
  first = first_of (is_entry e) (read t) i q

  within : i < size t
  within = omega (arith, first.within, read_length t)

  pub read-place-entry : entry_at t i ≡ e
  read-place-entry = sym (eqb-true e (get_or (read t) i none).entry first.here ∙ ap (λ (p : Pair). p.entry) (read_at t i within))

  pub read-place-subject : (place_of e (read t)).subject ≡ subject_at t i
  read-place-subject = place-subject e (read t) i q ∙ read-subject t i within

  pub read-place-first : i ≡ 0 → (place_of e (read t)).from ≡ 0
  read-place-first z = place-from e (read t) i q ∙ from_first 0 (read t) i z

  pub read-place-from : 0 < i → (place_of e (read t)).from ≡ suc (subject_at t (i - 1))
  read-place-from z = place-from e (read t) i q ∙ from_next 0 (read t) i z ∙ ap suc (read-subject t (i - 1) (omega (arith, within)))
