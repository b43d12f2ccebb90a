-- Where a pair belongs, and that the changed bytes are those of the changed list.
use Prim.Native.Nat.{ℕ, suc, ◌+◌, ◌-◌, ◌*◌, ◌<◌, ◌≤◌}
use mathlib.Core.Path.{◌≡◌, sym, ap, ◌∙◌}
use mathlib.Core.List.{List, [], map}
use mathlib.Core.Bool.{true, false}
use native.Mathlib.Omega.{arith}
use native.Mathlib.Decide.{ℕ_discrete, dec_lt}
use lib.Dec.{leb}
use lib.ListN.{length, get_or, set, length-set}
use lib.Seq.{get_or-set_same}
use borrow.Author.Tests.{leb-true, leb-false, le-leb}
use Rattle.std.specs.List.{CopiedTo, SameBelow, SameFrom}
use Rattle.std.specs.List.Sorted.{IsPartitionedBy, IsPartitionPoint}
use Rattle.std.proofs.lemmas.List.{get_or-map}
use Rattle.state.specs.Outcome.{Bytes}
use Rattle.entry_tree.specs.Pairs.{Pair, pair, inserted, in_order}
use Rattle.entry_tree.specs.Places.{size, subject_at, read, laid}
use Rattle.entry_tree.specs.Inner.{tree_length, IsUpperBound, pair_of, cell_at, cell_of, set_cell, removed_at}
use Rattle.entry_tree.proofs.Lists.{none}
use Rattle.entry_tree.proofs.Reading.{read_length, read_at}
use Rattle.entry_tree.proofs.Changes.{order-at, inserted-length, inserted-at, Joined, removed-length, removed-before, removed-after}
use Rattle.entry_tree.proofs.Cells.{cell_same, set-length, set_other, set_same, number_cell}
use Rattle.entry_tree.proofs.Laid.{has_one, laid-has, freed, cell_pair}

-- a pair of the list, as its place's bytes
at_read : (t : List ℕ) → Bytes t → (i : ℕ) → i < size t → (p : Pair) → p ≡ get_or (read t) i none → cell_at t i ≡ cell_of p
at_read t y i h p q = cell_pair t y i ∙ ap cell_of (sym (read_at t i h) ∙ sym q)

read-subject : (t : List ℕ) (i : ℕ) → i < size t → (get_or (read t) i none).subject ≡ subject_at t i
read-subject t i h = ap (λ (p : Pair). p.subject) (read_at t i h)

-- ---- where a pair on the subject x belongs: the places as the code cuts them are parted there

module _ (t : List ℕ) (x : ℕ) (places : List (List ℕ)) (q : read t ≡ map pair_of places) (long : length places ≡ size t) where
  subject-of : (k : ℕ) (d : List ℕ) → k < size t → (get_or (read t) k none).subject ≡ (pair_of (get_or places k d)).subject
  subject-of k d h = ap (λ (p : Pair). p.subject) (ap (λ (l : List Pair). get_or l k none) q ∙ get_or-map pair_of places k d none (omega arith))

  pub parted : in_order 0 (read t) ≡ true → IsPartitionedBy (λ b. leb (pair_of b).subject x) places
  parted order i j d h b p =
      le-leb (pair_of (get_or places i d)).subject x (omega (
        arith,
        leb-true (pair_of (get_or places j d)).subject x p,
        subject-of i d (omega arith),
        subject-of j d (omega arith),
        order-at 0 (read t) order i j h (omega (arith, read_length t)),
      ))

  pub bound-at : (i : ℕ) → i ≤ length places → IsPartitionPoint (λ b. leb (pair_of b).subject x ≡ true) (λ b. leb (pair_of b).subject x ≡ false) places i → IsUpperBound t x i
  bound-at i m h =
      record {
        most = omega arith;
        below = λ k b. omega (arith, leb-true (pair_of (get_or places k [])).subject x (h.0 k [] (omega arith) b), subject-of k [] (omega arith), read-subject t k (omega arith));
        above = λ k a b. omega (arith, leb-false (pair_of (get_or places k [])).subject x (h.1 k [] a (omega arith)), subject-of k [] b, read-subject t k b);
      }

-- ---- n places from `from` on are copied to `to` on

pub record Copied (t u : List ℕ) (from to n : ℕ) : Type 0 where
  pub len : length u ≡ length t
  pub moved : (i : ℕ) → i < n → cell_at u (to + i) ≡ cell_at t (from + i)
  pub before : (i : ℕ) → i < to → cell_at u i ≡ cell_at t i
  pub after : (i : ℕ) → to + n ≤ i → cell_at u i ≡ cell_at t i

-- as their bytes are
pub copied : (t u : List ℕ) (from to n : ℕ) → length u ≡ length t → (a b m : ℕ) → a ≡ 1 + 3 * from → b ≡ 1 + 3 * to → m ≡ 3 * n → CopiedTo t u a b m × SameBelow t u b × SameFrom t u (b + m)
    → Copied t u from to n
copied t u from to n l a b m qa qb qm h =
    let moves : (j i : ℕ) → j < 3 * n → i ≡ 1 + 3 * to + j → (k : ℕ) → k ≡ 1 + 3 * from + j → get_or u i 0 ≡ get_or t k 0 = λ j i c qi k qk.
    h.0 i 0 (omega arith) (omega arith) ∙ ap (λ (z : ℕ). get_or t z 0) (omega arith) in
    record {
      len = l;
      moved = λ i c.
          cell_same (cell_at u (to + i)) (cell_at t (from + i))
          (moves (3 * i) (1 + 3 * (to + i)) (omega arith) (omega arith) (1 + 3 * (from + i)) (omega arith))
          (moves (1 + 3 * i) (2 + 3 * (to + i)) (omega arith) (omega arith) (2 + 3 * (from + i)) (omega arith))
          (moves (2 + 3 * i) (3 + 3 * (to + i)) (omega arith) (omega arith) (3 + 3 * (from + i)) (omega arith));
      before = λ i c. cell_same (cell_at u i) (cell_at t i) (h.1 (1 + 3 * i) 0 (omega arith)) (h.1 (2 + 3 * i) 0 (omega arith)) (h.1 (3 + 3 * i) 0 (omega arith));
      after = λ i c. cell_same (cell_at u i) (cell_at t i) (h.2 (1 + 3 * i) 0 (omega arith)) (h.2 (2 + 3 * i) 0 (omega arith)) (h.2 (3 + 3 * i) 0 (omega arith));
    }

-- the place i, which is that many past where they came to
moved-at : (t u : List ℕ) (from to n : ℕ) → Copied t u from to n → (i j : ℕ) → to ≤ i → i < to + n → j ≡ from + (i - to) → cell_at u i ≡ cell_at t j
moved-at t u from to n h i j a b q =
    let z : i ≡ to + (i - to) = omega arith in
    ap (cell_at u) z ∙ h.moved (i - to) (omega arith) ∙ ap (cell_at t) (sym q)

-- ---- a pair joins

module _ (t : List ℕ) (y : Bytes t) (len : length t ≡ tree_length) (few : size t < 128) (order : in_order 0 (read t) ≡ true)
    (e x r : ℕ) (m : IsUpperBound t x r) (u : List ℕ) (h : Copied t u r (suc r) (size t - r))
  where
    joined : Joined (pair e x) (read t) (inserted (pair e x) (read t)) r
    joined =
        inserted-at (pair e x) (read t) r (omega (arith, m.most, read_length t))
        (λ i a. omega (arith, m.most, m.below i a, read-subject t i (omega (arith, m.most))))
        (λ a. let b : r < size t = omega (arith, read_length t) in omega (arith, m.above r (omega arith) b, read-subject t r b))

    pub joined_laid : (n : ℕ) → n ≡ size t + 1 → (v : List ℕ) → v ≡ set_cell u r (cell_of (pair e x)) → set v 0 n ≡ laid (inserted (pair e x) (read t)) t
    joined_laid n nq v vq =
        let p = pair e x in
        let k = inserted p (read t) in
        let c = cell_of p in
        let w = set_cell u r c in
        let lk : length k ≡ suc (size t) = inserted-length p (read t) ∙ ap suc (read_length t) in
        let lw : length w ≡ tree_length = set-length u r c ∙ h.len ∙ len in
        let most : r ≤ size t = m.most in
        let g = joined in
        ap (λ (v : List ℕ). set v 0 n) vq
        ∙ has_one k t (set w 0 n) (laid k t)
        (record {
          len = length-set w 0 n ∙ lw;
          number = get_or-set_same w 0 n 0 (omega arith) ∙ omega arith;
          held = λ i a.
              number_cell w n i
              ∙ elim (dec_lt i r) [
                | yes q ↦ set_other u r c i (omega arith) ∙ h.before i (omega arith) ∙ at_read t y i (omega arith) (get_or k i none) (g.before i q)
                | no q ↦ elim (ℕ_discrete i r) [
                  | yes z ↦ ap (cell_at w) z ∙ set_same u r c (h.len ∙ len) (omega arith) ∙ ap cell_of (sym g.here ∙ ap (λ (j : ℕ). get_or k j none) (sym z))
                  | no z ↦
                      let j = i - 1 in
                      let s1 : i ≡ suc j = omega arith in
                      set_other u r c i z
                      ∙ moved-at t u r (suc r) (size t - r) h i j (omega arith) (omega arith) (omega arith)
                      ∙ at_read t y j (omega arith) (get_or k i none) (ap (λ (j : ℕ). get_or k j none) s1 ∙ g.after j (omega arith))
                ]
              ];
          left = λ i a b. absurd (omega arith);
          rest = λ i a b. number_cell w n i ∙ set_other u r c i (omega arith) ∙ h.after i (omega arith);
        })
        (laid-has k t len (omega arith))

-- ---- the pair i leaves

pub left_laid : (t : List ℕ) → Bytes t → length t ≡ tree_length → size t ≤ 128 → (i : ℕ) → i < size t → (n : ℕ) → n ≡ size t - 1 → (u : List ℕ) → Copied t u (suc i) i (n - i)
    → (v : List ℕ) → v ≡ set_cell u n freed → set v 0 n ≡ laid (removed_at i (read t)) t
left_laid t y len few i hi n nq u h v vq =
    let k = removed_at i (read t) in
    let w = set_cell u n freed in
    let lk : suc (length k) ≡ size t = removed-length i (read t) (omega (arith, read_length t)) ∙ read_length t in
    let lw : length w ≡ tree_length = set-length u n freed ∙ h.len ∙ len in
    ap (λ (v : List ℕ). set v 0 n) vq
    ∙ has_one k t (set w 0 n) (laid k t)
    (record {
      len = length-set w 0 n ∙ lw;
      number = get_or-set_same w 0 n 0 (omega arith) ∙ omega arith;
      held = λ j a.
          number_cell w n j
          ∙ set_other u n freed j (omega arith)
          ∙ elim (dec_lt j i) [
            | yes q ↦ h.before j q ∙ at_read t y j (omega arith) (get_or k j none) (removed-before i (read t) j q)
            | no q ↦
                moved-at t u (suc i) i (n - i) h j (suc j) (omega arith) (omega arith) (omega arith)
                ∙ at_read t y (suc j) (omega arith) (get_or k j none) (removed-after i (read t) j (omega arith))
          ];
      left = λ j a b.
          let z : j ≡ n = omega arith in
          number_cell w n j ∙ ap (cell_at w) z ∙ set_same u n freed (h.len ∙ len) (omega arith);
      rest = λ j a b. number_cell w n j ∙ set_other u n freed j (omega arith) ∙ h.after j (omega arith);
    })
    (laid-has k t len (omega arith))
