-- Laws of the tail byte: one table over its flags and ids. Assumes nothing.
use mathlib.Core.Path.{◌≡◌, refl}
use mathlib.Core.Bool.{Bool, true, false, cond}
use mathlib.Core.List.{List, [], ◌∷◌}
use Prim.Native.Nat.{ℕ, ◌+◌, ◌*◌, ◌%◌, ◌<◌}
use lib.Dec.{eqb}
use lib.Bits.{bit_or}
use borrow.Author.Tests.{eqb-true}
use native.Mathlib.Omega.{arith}
use mir.Val.{bool_byte}
use Rattle.emcyphal_core.specs.Sets.{has}
use Rattle.emcyphal_core.proofs.Tables.{agree}
use Rattle.format.specs.Tail.{tail_byte}

abbrev sum : Bool → Bool → Bool → ℕ → ℕ
sum s e t i = cond s 128 0 + cond e 64 0 + cond t 32 0 + i

-- the byte as the code makes it
abbrev made : Bool → Bool → Bool → ℕ → ℕ
made s e t i = bit_or (bit_or (bit_or (bool_byte s * 128 % 256) (bool_byte e * 64 % 256)) (bool_byte t * 32 % 256)) (i * 1 % 256)

-- what the byte of an id below 32 shows
abbrev seen : Bool → Bool → Bool → ℕ → List Bool
seen s e t i = has (sum s e t i) 7 ∷ has (sum s e t i) 6 ∷ has (sum s e t i) 5 ∷ eqb (sum s e t i % 32) i ∷ eqb (made s e t i) (sum s e t i) ∷ []

table : (s e t : Bool) (i : ℕ) → i < 32 → seen s e t i ≡ s ∷ e ∷ t ∷ true ∷ true ∷ []
table true true true = agree 32 _ _ refl
table true true false = agree 32 _ _ refl
table true false true = agree 32 _ _ refl
table true false false = agree 32 _ _ refl
table false true true = agree 32 _ _ refl
table false true false = agree 32 _ _ refl
table false false true = agree 32 _ _ refl
table false false false = agree 32 _ _ refl

module _ (s e t : Bool) (id : ℕ) where
  pub at-sot : has (tail_byte s e t id) 7 ≡ s
  at-sot = cc (table s e t (id % 32) (omega arith))

  pub at-eot : has (tail_byte s e t id) 6 ≡ e
  at-eot = cc (table s e t (id % 32) (omega arith))

  pub at-toggle : has (tail_byte s e t id) 5 ≡ t
  at-toggle = cc (table s e t (id % 32) (omega arith))

  pub at-id : tail_byte s e t id % 32 ≡ id % 32
  at-id = eqb-true (tail_byte s e t id % 32) (id % 32) (cc (table s e t (id % 32) (omega arith)))

  pub is_made : id < 32 → made s e t id ≡ tail_byte s e t id
  is_made l = let q : id % 32 ≡ id = omega arith in rw q (eqb-true (made s e t id) (sum s e t id) (cc (table s e t id l)))

pub of_fields : (b : ℕ) → b < 256 → tail_byte (has b 7) (has b 6) (has b 5) b ≡ b
of_fields = agree 256 _ _ refl
