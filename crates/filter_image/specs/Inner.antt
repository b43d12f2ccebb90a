-- What the inner function answers. No contract of a public call cites this.
use Rattle.std.specs.Prelude.{ℕ, List, cond, eqb, ltb, length, Result, Ok, Err}
use Rattle.state.specs.Lengths.{image_length}
use Rattle.state.specs.declared.Refusal.{Refusal}
use Rattle.state.specs.declared.Refusal.TheVariants.{Range, BadImage}

-- whether a call on the subject x is refused
abbrev pub checked : ℕ → List ℕ → Result (Unit {0}) Refusal
checked x b = cond (ltb 8191 x) (Err Range) (cond (eqb (length b) image_length) (Ok tt) (Err BadImage))
