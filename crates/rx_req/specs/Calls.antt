-- The calls of the request registry on bytes.
use Rattle.std.specs.Prelude.{ℕ, cond, List, length, replicate, eqb}
use Rattle.state.specs.Lengths.{requests_length}
use Rattle.state.specs.Outcome as state
use Rattle.state.specs.Outcome.{Outcome, refuse, done}
use Rattle.state.specs.declared.Refusal.TheVariants.{NotWhole}
use Rattle.entry_tree.specs.Places.{read, laid}
use Rattle.rx_req.specs.Registry.{Registry, fresh}
use Rattle.rx_req.specs.Bytes.{whole_b}

abbrev pub on : {A : Type 0} → (Registry → Outcome A Registry) → List ℕ → Outcome A Registry
on f b = state.called whole_b read f b

abbrev pub bytes : {A : Type 0} → List ℕ → Outcome A Registry → List ℕ
bytes b r = state.bytes laid b r

-- b bytes are opened: refused for another length
unfoldable pub opening : ℕ → Outcome (Unit {0}) Registry
opening b = cond (eqb b requests_length) (done tt fresh) (refuse NotWhole)

-- opening keeps nothing of the old bytes: what says nothing is 0
abbrev pub opened_bytes : List ℕ → Outcome (Unit {0}) Registry → List ℕ
opened_bytes b r = state.bytes (λ m x. laid m (replicate (length x) 0)) b r
