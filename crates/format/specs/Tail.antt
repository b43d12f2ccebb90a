-- A frame's last byte: bit 7 is start of transfer, bit 6 end of transfer, bit 5 the toggle, bits 4 to 0 the transfer id.
use Rattle.std.specs.Prelude.{◌≡◌, List, Bool, cond, ℕ, ◌+◌, ◌-◌, ◌%◌, ◌<◌, eqb, length, get_or, Option, Some, None}
use Rattle.emcyphal_core.specs.Ids.{transfers}
use Rattle.emcyphal_core.specs.Sets.{has}

abbrev pub tail_byte : Bool → Bool → Bool → ℕ → ℕ
tail_byte sot eot toggle id = cond sot 128 0 + cond eot 64 0 + cond toggle 32 0 + id % transfers

-- the fields of such a byte are those it was made of, and every byte is made of its fields
pub record Fields : Type 0 where
  pub sot : (s e t : Bool) (id : ℕ) → has (tail_byte s e t id) 7 ≡ s
  pub eot : (s e t : Bool) (id : ℕ) → has (tail_byte s e t id) 6 ≡ e
  pub toggle : (s e t : Bool) (id : ℕ) → has (tail_byte s e t id) 5 ≡ t
  pub id : (s e t : Bool) (id : ℕ) → tail_byte s e t id % transfers ≡ id % transfers
  pub byte : (b : ℕ) → b < 256 → tail_byte (has b 7) (has b 6) (has b 5) b ≡ b

-- bit 6 of a frame's last byte, none for an empty frame
abbrev pub eot_frame : List ℕ → Option Bool
eot_frame frame = cond (eqb (length frame) 0) None (Some (has (get_or frame (length frame - 1) 0) 6))
