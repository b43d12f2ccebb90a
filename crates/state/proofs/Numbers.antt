-- The bytes of a number of 32 bits.
use Prim.Native.Nat.{ℕ, ◌+◌, ◌-◌, ◌*◌, ◌/◌, ◌%◌, ◌<◌}
use mathlib.Core.Path.{◌≡◌}
use native.Mathlib.Omega.{arith}

pub div_256 : (v : ℕ) → v / 65536 ≡ v / 256 / 256
div_256 v = omega arith

pub div_65536 : (v : ℕ) → v / 16777216 ≡ v / 65536 / 256
div_65536 v = omega arith

-- the second byte, from the low half
pub second-byte : (v : ℕ) → v % 65536 / 256 ≡ v / 256 % 256
second-byte v =
    let a = div_256 v in
    let b : v % 65536 ≡ v - 65536 * (v / 65536) = omega arith in
    let c : v % 65536 / 256 ≡ v / 256 - 256 * (v / 65536) = omega arith in
    omega arith

-- a number is what its bytes come to
pub join : (v : ℕ) → v < 4294967296 → v % 256 + 256 * (v / 256 % 256) + 65536 * (v / 65536 % 256 + 256 * (v / 16777216 % 256)) ≡ v
join v h =
    let a = div_256 v in
    let c = div_65536 v in
    let d : v / 16777216 < 256 = omega arith in
    let e : v / 65536 ≡ v / 65536 % 256 + 256 * (v / 16777216 % 256) = omega arith in
    let g : v / 256 ≡ v / 256 % 256 + 256 * (v / 65536) = omega arith in
    omega arith

-- the fourth byte, from the high half
pub fourth_byte : (v : ℕ) → v < 4294967296 → v / 65536 / 256 ≡ v / 16777216 % 256
fourth_byte v h =
    let c = div_65536 v in
    let d : v / 16777216 < 256 = omega arith in
    omega arith
