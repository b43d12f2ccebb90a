-- The bytes of pairs over old ones: what stands where, and that they read back.
use Prim.Native.Nat.{ℕ, zero, suc, ◌+◌, ◌-◌, ◌*◌, ◌/◌, ◌%◌, ◌<◌, ◌≤◌}
use mathlib.Core.Path.{◌≡◌, refl, sym, ap, ◌∙◌, subst}
use mathlib.Core.List.{List, [], ◌∷◌, ◌++◌}
use mathlib.Core.Bool.{true}
use native.Mathlib.Omega.{arith}
use native.Mathlib.Decide.{dec_lt}
use native.Mathlib.Nat.{not-suc-le-zero}
use lib.ListN.{length, get_or, drop, replicate, length-append, length-drop, length-replicate, get_or-replicate, get_or-append}
use lib.Seq.{ext_get_or, get_or-append-add, get_or-drop}
use Rattle.state.specs.Outcome.{Bytes}
use Rattle.entry_tree.specs.Pairs.{Pair, in_range}
use Rattle.entry_tree.specs.Places.{size, taken, pair_at, read, places, laid}
use Rattle.entry_tree.specs.Inner.{tree_length, Cell, cell_at, cell_of}
use Rattle.entry_tree.proofs.Lists.{none}
use Rattle.entry_tree.proofs.Reading.{read_length, read_at}
use Rattle.entry_tree.proofs.Changes.{range_at}
use Rattle.entry_tree.proofs.Cells.{cell_same, by_place, same-places}

-- a place that is left
abbrev pub freed : Cell
freed = record { entry = 255; low = 255; high = 255 }

-- u has the pairs l, laid over t
pub record Has (l : List Pair) (t u : List ℕ) : Type 0 where
  pub len : length u ≡ tree_length
  pub number : size u ≡ length l
  pub held : (i : ℕ) → i < length l → cell_at u i ≡ cell_of (get_or l i none)
  pub left : (i : ℕ) → length l ≤ i → i < taken t → cell_at u i ≡ freed
  pub rest : (i : ℕ) → length l ≤ i → taken t ≤ i → cell_at u i ≡ cell_at t i

-- ---- the pairs' places

length-places : (l : List Pair) → length (places l) ≡ 3 * length l
unfolding places
length-places [] = refl
length-places (p ∷ l) = omega (arith, length-places l)

record Place (b : List ℕ) (i : ℕ) (c : Cell) : Type 0 where
  b0 : get_or b (3 * i) 0 ≡ c.entry
  b1 : get_or b (1 + 3 * i) 0 ≡ c.low
  b2 : get_or b (2 + 3 * i) 0 ≡ c.high

places-at : (l : List Pair) (i : ℕ) → i < length l → Place (places l) i (cell_of (get_or l i none))
unfolding places
places-at [] i h = absurd (not-suc-le-zero h)
places-at (p ∷ l) zero h = record { b0 = refl; b1 = refl; b2 = refl }
places-at (p ∷ l) (suc i) h =
    let w = places-at l i (omega arith) in
    let q0 : 3 * suc i ≡ suc (suc (suc (3 * i))) = omega arith in
    let q1 : 1 + 3 * suc i ≡ suc (suc (suc (1 + 3 * i))) = omega arith in
    let q2 : 2 + 3 * suc i ≡ suc (suc (suc (2 + 3 * i))) = omega arith in
    record { b0 = rw q0 w.b0; b1 = rw q1 w.b1; b2 = rw q2 w.b2 }

-- ---- what is laid

module _ (l : List Pair) (t : List ℕ) where
  m : ℕ
  m = 3 * (taken t - length l)

  tail : List ℕ
  tail = replicate m 255 ++ drop (1 + 3 * length l + m) t

  laid-is : laid l t ≡ length l ∷ (places l ++ tail)
  unfolding laid tail m
  laid-is = refl

  byte : (j : ℕ) → get_or (laid l t) (suc j) 0 ≡ get_or (places l ++ tail) j 0
  byte j = ap (λ (b : List ℕ). get_or b (suc j) 0) laid-is

  in_places : (j p : ℕ) → p ≡ suc j → j < 3 * length l → get_or (laid l t) p 0 ≡ get_or (places l) j 0
  in_places j p q h = ap (λ (z : ℕ). get_or (laid l t) z 0) q ∙ byte j ∙ get_or-append (places l) tail 0 j (omega (arith, length-places l))

  past-places : (j p : ℕ) → p ≡ suc (3 * length l + j) → get_or (laid l t) p 0 ≡ get_or tail j 0
  past-places j p q =
      let z : p ≡ suc (length (places l) + j) = omega (arith, length-places l) in
      ap (λ (z : ℕ). get_or (laid l t) z 0) z ∙ byte (length (places l) + j) ∙ get_or-append-add (places l) tail j 0

  in_left : (p : ℕ) → 1 + 3 * length l ≤ p → p < 1 + 3 * taken t → get_or (laid l t) p 0 ≡ 255
  unfolding tail m
  in_left p a b =
      let j = p - (1 + 3 * length l) in
      past-places j p (omega arith)
      ∙ get_or-append (replicate m 255) (drop (1 + 3 * length l + m) t) 0 j (omega (arith, length-replicate {A = ℕ} m 255))
      ∙ get_or-replicate m j 255 0 (omega arith)

  in_rest : (p : ℕ) → 1 + 3 * length l ≤ p → 1 + 3 * taken t ≤ p → get_or (laid l t) p 0 ≡ get_or t p 0
  unfolding tail m
  in_rest p a b =
      let j = p - (1 + 3 * length l + m) in
      let r = replicate {A = ℕ} m 255 in
      let q : p ≡ suc (3 * length l + (length r + j)) = omega (arith, length-replicate {A = ℕ} m 255) in
      let z : 1 + 3 * length l + m + j ≡ p = omega arith in
      past-places (length r + j) p q
      ∙ get_or-append-add r (drop (1 + 3 * length l + m) t) j 0
      ∙ get_or-drop (1 + 3 * length l + m) t j 0
      ∙ ap (λ (z : ℕ). get_or t z 0) z

  laid-length : length t ≡ tree_length → length l ≤ 128 → length (laid l t) ≡ tree_length
  unfolding tail m
  laid-length a c =
      ap length laid-is ∙ simp (length-append, length-drop) (omega (arith, length-places l, length-replicate {A = ℕ} m 255))

  module _ (len : length t ≡ tree_length) (fit : length l ≤ 128) where
    pub laid-has : Has l t (laid l t)
    laid-has =
        record {
          len = laid-length len fit;
          number = ap (λ (b : List ℕ). get_or b 0 0) laid-is;
          held = λ i h.
              let w = places-at l i h in
              cell_same (cell_at (laid l t) i) (cell_of (get_or l i none))
              (in_places (3 * i) (1 + 3 * i) (omega arith) (omega arith) ∙ w.b0)
              (in_places (1 + 3 * i) (2 + 3 * i) (omega arith) (omega arith) ∙ w.b1)
              (in_places (2 + 3 * i) (3 + 3 * i) (omega arith) (omega arith) ∙ w.b2);
          left = λ i h g.
              cell_same (cell_at (laid l t) i) freed
              (in_left (1 + 3 * i) (omega arith) (omega arith))
              (in_left (2 + 3 * i) (omega arith) (omega arith))
              (in_left (3 + 3 * i) (omega arith) (omega arith));
          rest = λ i h g.
              cell_same (cell_at (laid l t) i) (cell_at t i)
              (in_rest (1 + 3 * i) (omega arith) (omega arith))
              (in_rest (2 + 3 * i) (omega arith) (omega arith))
              (in_rest (3 + 3 * i) (omega arith) (omega arith));
        }

-- this decides the bytes
pub has_one : (l : List Pair) (t u v : List ℕ) → Has l t u → Has l t v → u ≡ v
has_one l t u v h g =
    same-places u v h.len g.len (h.number ∙ sym g.number) (λ i b.
    elim (dec_lt i (length l)) [
      | yes q ↦ h.held i q ∙ sym (g.held i q)
      | no q ↦ elim (dec_lt i (taken t)) [
        | yes p ↦ h.left i (omega arith) p ∙ sym (g.left i (omega arith) p)
        | no p ↦ h.rest i (omega arith) (omega arith) ∙ sym (g.rest i (omega arith) (omega arith))
      ]
    ])

-- ---- they read back

pair_same : (p q : Pair) → p.entry ≡ q.entry → p.subject ≡ q.subject → p ≡ q
pair_same p q a b = λ i. record { entry = a i; subject = b i }

pub pair_cell : (t : List ℕ) (i : ℕ) (p : Pair) → cell_at t i ≡ cell_of p → pair_at t i ≡ p
pair_cell t i p q =
    let a : get_or t (2 + 3 * i) 0 ≡ p.subject % 256 = ap (λ (c : Cell). c.low) q in
    let b : get_or t (3 + 3 * i) 0 ≡ p.subject / 256 = ap (λ (c : Cell). c.high) q in
    pair_same (pair_at t i) p (ap (λ (c : Cell). c.entry) q) (omega arith)

pub cell_pair : (t : List ℕ) → Bytes t → (i : ℕ) → cell_at t i ≡ cell_of (pair_at t i)
cell_pair t y i =
    let a = y (2 + 3 * i) in
    cell_same (cell_at t i) (cell_of (pair_at t i)) refl (omega arith) (omega arith)

pub has-read : (l : List Pair) (t u : List ℕ) → Has l t u → read u ≡ l
has-read l t u h =
    ext_get_or none (read u) l (read_length u ∙ h.number) (λ i b.
    let g : i < length l = omega (arith, read_length u, h.number) in
    read_at u i (omega (arith, h.number)) ∙ pair_cell u i (get_or l i none) (h.held i g))

-- a tree's bytes have its own pairs
pub self-has : (t : List ℕ) → Bytes t → length t ≡ tree_length → Has (read t) t t
self-has t y l =
    record {
      len = l;
      number = sym (read_length t);
      held = λ i h. let g : i < size t = omega (arith, read_length t) in cell_pair t y i ∙ ap cell_of (sym (read_at t i g));
      left = λ i h g. absurd (omega (arith, read_length t));
      rest = λ i h g. refl;
    }

-- bytes at each place are bytes
record Small (c : Cell) : Type 0 where
  b0 : c.entry < 256
  b1 : c.low < 256
  b2 : c.high < 256

pub has-bytes : (most : ℕ) (l : List Pair) (t u : List ℕ) → Has l t u → Bytes t → most < 65536 → in_range most l ≡ true → length l ≤ 128 → Bytes u
has-bytes most l t u h y small r n =
    let f : (i : ℕ) → Small (cell_at u i) = λ i.
    elim (dec_lt i (length l)) [
      | yes q ↦ let w = range_at most l r i in subst Small (sym (h.held i q)) (record { b0 = omega arith; b1 = omega arith; b2 = omega arith })
      | no q ↦ elim (dec_lt i (taken t)) [
        | yes p ↦ subst Small (sym (h.left i (omega arith) p)) (record { b0 = omega arith; b1 = omega arith; b2 = omega arith })
        | no p ↦ subst Small (sym (h.rest i (omega arith) (omega arith))) (record { b0 = y (1 + 3 * i); b1 = y (2 + 3 * i); b2 = y (3 + 3 * i) })
      ]
    ] in
    by_place (λ j. get_or u j 0 < 256) (omega (arith, h.number)) (λ i. (f i).b0) (λ i. (f i).b1) (λ i. (f i).b2)

-- ---- the laws

module _ (t : List ℕ) (len : length t ≡ tree_length) where
  pub laid_read : size t ≤ 128 → Bytes t → laid (read t) t ≡ t
  laid_read few y = has_one (read t) t (laid (read t) t) t (laid-has (read t) t len (omega (arith, read_length t))) (self-has t y len)

  module _ (l : List Pair) (fit : length l ≤ 128) where
    pub length-laid : length (laid l t) ≡ tree_length
    length-laid = (laid-has l t len fit).len

    pub size-laid : size (laid l t) ≡ length l
    size-laid = (laid-has l t len fit).number

    pub read_laid : read (laid l t) ≡ l
    read_laid = has-read l t (laid l t) (laid-has l t len fit)

    pub bytes-laid : (most : ℕ) → Bytes t → most < 65536 → in_range most l ≡ true → Bytes (laid l t)
    bytes-laid most y small r = has-bytes most l t (laid l t) (laid-has l t len fit) y small r fit

    -- laid over what was laid: no place that the first takes is kept
    over : (k : List Pair) → length k ≤ 128 → ((i : ℕ) → length k ≤ i → i < length l → i < taken t) → laid k (laid l t) ≡ laid k t
    over k b c =
        let h = laid-has l t len fit in
        let g = laid-has k (laid l t) h.len b in
        has_one k t (laid k (laid l t)) (laid k t)
        (record {
          len = g.len;
          number = g.number;
          held = g.held;
          left = λ i p q.
              elim (dec_lt i (length l)) [
                | yes r ↦ g.left i p (omega (arith, h.number))
                | no r ↦ g.rest i p (omega (arith, h.number)) ∙ h.left i (omega arith) q
              ];
          rest = λ i p q.
              let z : length l ≤ i = elim (dec_lt i (length l)) [ yes r ↦ absurd (omega (arith, c i p r)) | no r ↦ omega arith ] in
              g.rest i p (omega (arith, h.number)) ∙ h.rest i z q;
        })
        (laid-has k t len b)

    pub laid-shorter : (k : List Pair) → length k ≤ 128 → length l ≤ taken t → laid k (laid l t) ≡ laid k t
    laid-shorter k b c = over k b (λ i p q. omega arith)

    pub laid_longer : (k : List Pair) → length k ≤ 128 → length l ≤ length k → laid k (laid l t) ≡ laid k t
    laid_longer k b c = over k b (λ i p q. omega arith)
