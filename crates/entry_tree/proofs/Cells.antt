-- Places: what decides the bytes of a tree, and what each store does to its places.
use Prim.Native.Nat.{ℕ, ◌+◌, ◌-◌, ◌*◌, ◌/◌, ◌%◌, ◌<◌}
use mathlib.Core.Path.{◌≡◌, sym, ap, ◌∙◌, subst}
use mathlib.Core.Logic.{◌≢◌}
use mathlib.Core.List.{List}
use native.Mathlib.Omega.{arith}
use native.Mathlib.Decide.{dec_lt}
use lib.ListN.{length, get_or, set, length-set}
use lib.Seq.{ext_get_or, get_or-set_same, get_or-set_other}
use Rattle.entry_tree.specs.Places.{size}
use Rattle.entry_tree.specs.Inner.{tree_length, Cell, cell_at, set_cell}

pub cell_same : (a b : Cell) → a.entry ≡ b.entry → a.low ≡ b.low → a.high ≡ b.high → a ≡ b
cell_same a b p q r = λ i. record { entry = p i; low = q i; high = r i }

-- a byte is the first, or one of a place's
pub by_place : (P : ℕ → Type 0) → P 0 → ((i : ℕ) → P (1 + 3 * i)) → ((i : ℕ) → P (2 + 3 * i)) → ((i : ℕ) → P (3 + 3 * i)) → (j : ℕ) → P j
by_place P z a b c j =
    let i = (j - 1) / 3 in
    elim (dec_lt j 1) [
      | yes q ↦ subst P (omega arith) z
      | no q ↦ elim (dec_lt ((j - 1) % 3) 1) [
        | yes p ↦ subst P (omega arith) (a i)
        | no p ↦ elim (dec_lt ((j - 1) % 3) 2) [
          | yes r ↦ subst P (omega arith) (b i)
          | no r ↦ subst P (omega arith) (c i)
        ]
      ]
    ]

-- bytes of the same length, number and places are the same
pub same-places : (t u : List ℕ) → length t ≡ tree_length → length u ≡ tree_length → size t ≡ size u → ((i : ℕ) → i < 128 → cell_at t i ≡ cell_at u i) → t ≡ u
same-places t u lt lu z f =
    ext_get_or 0 t u (lt ∙ sym lu) (λ j h.
    by_place (λ j. j < 385 → get_or t j 0 ≡ get_or u j 0)
    (λ g. z)
    (λ i g. ap (λ (c : Cell). c.entry) (f i (omega arith)))
    (λ i g. ap (λ (c : Cell). c.low) (f i (omega arith)))
    (λ i g. ap (λ (c : Cell). c.high) (f i (omega arith)))
    j
    (omega arith))

-- ---- stores

module _ (t : List ℕ) (i : ℕ) (c : Cell) where
  pub set-length : length (set_cell t i c) ≡ length t
  set-length = simp length-set

  -- other bytes stay
  set-byte : (j : ℕ) → j ≢ 1 + 3 * i → j ≢ 2 + 3 * i → j ≢ 3 + 3 * i → get_or (set_cell t i c) j 0 ≡ get_or t j 0
  set-byte j p q r =
      let u = set t (1 + 3 * i) c.entry in
      get_or-set_other (set u (2 + 3 * i) c.low) (3 + 3 * i) j c.high 0 r
      ∙ get_or-set_other u (2 + 3 * i) j c.low 0 q
      ∙ get_or-set_other t (1 + 3 * i) j c.entry 0 p

  pub set-number : size (set_cell t i c) ≡ size t
  set-number = set-byte 0 (omega arith) (omega arith) (omega arith)

  pub set_other : (k : ℕ) → k ≢ i → cell_at (set_cell t i c) k ≡ cell_at t k
  set_other k h =
      cell_same (cell_at (set_cell t i c) k) (cell_at t k)
      (set-byte (1 + 3 * k) (omega arith) (omega arith) (omega arith))
      (set-byte (2 + 3 * k) (omega arith) (omega arith) (omega arith))
      (set-byte (3 + 3 * k) (omega arith) (omega arith) (omega arith))

  pub set_same : length t ≡ tree_length → i < 128 → cell_at (set_cell t i c) i ≡ c
  set_same l h =
      let u = set t (1 + 3 * i) c.entry in
      let w = set u (2 + 3 * i) c.low in
      let lu : length u ≡ length t = length-set t (1 + 3 * i) c.entry in
      let lw : length w ≡ length u = length-set u (2 + 3 * i) c.low in
      cell_same (cell_at (set_cell t i c) i) c
      (get_or-set_other w (3 + 3 * i) (1 + 3 * i) c.high 0 (omega arith)
      ∙ get_or-set_other u (2 + 3 * i) (1 + 3 * i) c.low 0 (omega arith)
      ∙ get_or-set_same t (1 + 3 * i) c.entry 0 (omega arith))
      (get_or-set_other w (3 + 3 * i) (2 + 3 * i) c.high 0 (omega arith) ∙ get_or-set_same u (2 + 3 * i) c.low 0 (omega arith))
      (get_or-set_same w (3 + 3 * i) c.high 0 (omega arith))

-- the number of pairs
pub number_cell : (t : List ℕ) (n k : ℕ) → cell_at (set t 0 n) k ≡ cell_at t k
number_cell t n k =
    cell_same (cell_at (set t 0 n) k) (cell_at t k)
    (get_or-set_other t 0 (1 + 3 * k) n 0 (omega arith))
    (get_or-set_other t 0 (2 + 3 * k) n 0 (omega arith))
    (get_or-set_other t 0 (3 + 3 * k) n 0 (omega arith))
