-- The calls of the regular registry on bytes.
use Rattle.std.specs.Prelude.{ℕ, cond, List, length, replicate, ltb, eqb}
use Rattle.state.specs.Lengths.{regular_length}
use Rattle.state.specs.Outcome as state
use Rattle.state.specs.Outcome.{Outcome, refuse, done}
use Rattle.state.specs.declared.Refusal.TheVariants.{NotWhole, Range}
use Rattle.regular.specs.Registry.{Registry, fresh}
use Rattle.regular.specs.Bytes.{whole_b, read, laid}

abbrev pub on : {A : Type 0} → (Registry → Outcome A Registry) → List ℕ → Outcome A Registry
on f b = state.called whole_b read f b

abbrev pub bytes : {A : Type 0} → List ℕ → Outcome A Registry → List ℕ
bytes b r = state.bytes laid b r

-- b bytes are opened with n slots: refused for another length, and past 65,535
unfoldable pub opening : ℕ → ℕ → Outcome (Unit {0}) Registry
opening b n = cond (eqb b regular_length) (cond (ltb 65535 n) (refuse Range) (done tt (fresh n))) (refuse NotWhole)

-- opening keeps nothing of the old bytes: what says nothing is 0
abbrev pub opened_bytes : List ℕ → Outcome (Unit {0}) Registry → List ℕ
opened_bytes b r = state.bytes (λ m x. laid m (replicate (length x) 0)) b r
