-- Laws of reading a line: its digits and its numbers.
use Rattle.std.proofs.Common.{◌≡◌, ℕ, suc, ◌+◌, ◌^◌, ◌<◌, ◌≤◌, Bool, true, false, cond, List, [], ◌∷◌, length, take, refl, arith}
use Rattle.std.specs.Prelude.{IsUtf8}
use Rattle.std.specs.Int.{IsInRange}
use Rattle.std.specs.List.{prefix_len}
use Rattle.std.specs.Char.{is_ascii_digit, digit_value}
use Rattle.std.specs.Str.Parse.{AllDigits, digits_value, without_leading_plus}
use Rattle.std.proofs.lemmas.Str.{IsUtf8-from_ascii}
use Rattle.std.proofs.lemmas.Str.Parse.{digit_at}
use Rattle.std.proofs.lemmas.Fmt.{IsAscii-from_digits}
use Rattle.std.proofs.lemmas.Int.Digits.{digits_value-lt}
use Rattle.std.proofs.lemmas.Str.{digit_value_digit}
use native.Mathlib.Nat.{pow-le-pow_right}
use borrow.Author.Tests.{ne_eqb}

no-plus : (ds : List ℕ) → AllDigits 10 ds → 1 ≤ length ds → without_leading_plus ds ≡ ds
no-plus [] h l = absurd (omega arith)
no-plus (d ∷ ds) h l = rw (ne_eqb d 43 (λ e. absurd (omega (arith, digit_at (d ∷ ds) 0 h (omega arith))))) refl

-- 1 to 5 digits are a text that std parses
pub digits_read : (ds : List ℕ) → AllDigits 10 ds → 1 ≤ length ds → length ds ≤ 5 → IsUtf8 ds × (without_leading_plus ds ≡ ds) × (digits_value 10 ds < 2 ^ 32)
digits_read ds h l m =
    let p : 10 ^ length ds ≤ 10 ^ 5 = pow-le-pow_right {n = 10} (omega arith) m in
    (IsUtf8-from_ascii ds (IsAscii-from_digits ds h), no-plus ds h l, omega (arith, digits_value-lt 10 ds h, p))

range-is_ascii_digit : (b : ℕ) → is_ascii_digit b ≡ true → IsInRange 48 57 b
range-is_ascii_digit b h = grind arith

digit : (b : ℕ) → is_ascii_digit b ≡ true → digit_value b < 10
digit b h =
    let r = range-is_ascii_digit b h in
    let e = digit_value_digit b r in
    omega (arith, e, r.1)

pub first_digits : (l : List ℕ) → AllDigits 10 (take (prefix_len is_ascii_digit l) l)
first_digits [] = tt
first_digits (b ∷ l) = first (is_ascii_digit b) refl (first_digits l) where
  first : (t : Bool) → is_ascii_digit b ≡ t → AllDigits 10 (take (prefix_len is_ascii_digit l) l)
      → AllDigits 10 (take (cond t (1 + prefix_len is_ascii_digit l) 0) (b ∷ l))
  first true e h =
      let one : 1 + prefix_len is_ascii_digit l ≡ suc (prefix_len is_ascii_digit l) = omega arith in
      rw one (digit b e, h)
  first false e h = tt
