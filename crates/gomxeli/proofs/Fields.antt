-- The fields of a packed answer.
use Prim.Native.Nat.{ℕ, ◌<◌}
use mathlib.Core.Path.{◌≡◌, refl}
use mathlib.Core.Bool.{true, false}
use native.Mathlib.Omega.{arith}
use borrow.Author.Tests.{ne_eqb}
use Rattle.gomxeli.specs.Answers.{packed, number, what, first, second, accepted}

pub number_of : (n w f s : ℕ) → n < 256 → number (packed n w f s) ≡ n
unfolding packed
number_of n w f s hn = omega arith

pub what_of : (n w f s : ℕ) → n < 256 → w < 256 → what (packed n w f s) ≡ w
unfolding packed
what_of n w f s hn hw = omega arith

module _ (n w f s : ℕ) (hn : n < 256) (hw : w < 256) (hf : f < 65536) where
  pub first_of : first (packed n w f s) ≡ f
  unfolding packed
  first_of = omega arith

  pub second_of : second (packed n w f s) ≡ s
  unfolding packed
  second_of = omega arith

-- a refusal is its number alone
pub refusal_of : (n : ℕ) → packed n 0 0 0 ≡ n
unfolding packed
refusal_of n = omega arith

pub accepted_of : (w f s : ℕ) → accepted (packed 0 w f s) ≡ true
accepted_of w f s = rw (number_of 0 w f s (omega arith)) refl

pub refused_of : (n : ℕ) → 0 < n → n < 256 → accepted (packed n 0 0 0) ≡ false
refused_of n p h = rw (number_of n 0 0 0 h) (ne_eqb n 0 (omega arith))
