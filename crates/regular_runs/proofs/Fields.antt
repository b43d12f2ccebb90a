-- The fields of a poll's answer: what it hands out, by its what.
use Prim.Native.Nat.{ℕ, ◌<◌}
use mathlib.Core.Path.{◌≡◌, refl}
use native.Mathlib.Omega.{arith}
use lib.Dec.{eqb}
use Rattle.gomxeli.specs.Answers.{packed}
use Rattle.gomxeli.proofs.Fields.{number_of, what_of}
use Rattle.regular_runs.specs.Runs.{is_nothing, is_add, is_removal}

module _ (w f s : ℕ) (hw : w < 256) where
  pub nothing_of : is_nothing (packed 0 w f s) ≡ eqb w 0
  nothing_of = rw (number_of 0 w f s (omega arith), what_of 0 w f s (omega arith) hw) refl

  pub add_of : is_add (packed 0 w f s) ≡ eqb w 1
  add_of = rw (number_of 0 w f s (omega arith), what_of 0 w f s (omega arith) hw) refl

  pub removal_of : is_removal (packed 0 w f s) ≡ eqb w 2
  removal_of = rw (number_of 0 w f s (omega arith), what_of 0 w f s (omega arith) hw) refl
