-- The calls of the response registry on bytes, which are a transmit queue's.
use Rattle.std.specs.Prelude.{ℕ, cond, List, length, replicate, eqb}
use Rattle.state.specs.Lengths.{responses_length}
use Rattle.state.specs.Outcome as state
use Rattle.state.specs.Outcome.{Outcome, refuse, done}
use Rattle.state.specs.declared.Refusal.TheVariants.{NotWhole}
use Rattle.tx_queue.specs.TxQueue.{TxQueue, fresh}
use Rattle.tx_queue.specs.Bytes.{whole_b, read, laid}

abbrev pub on : {A : Type 0} → (TxQueue → Outcome A TxQueue) → List ℕ → Outcome A TxQueue
on f b = state.called whole_b read f b

abbrev pub bytes : {A : Type 0} → List ℕ → Outcome A TxQueue → List ℕ
bytes b r = state.bytes laid b r

-- b bytes are opened: refused for another length
unfoldable pub opening : ℕ → Outcome (Unit {0}) TxQueue
opening b = cond (eqb b responses_length) (done tt fresh) (refuse NotWhole)

-- opening keeps nothing of the old bytes: what says nothing is 0
abbrev pub opened_bytes : List ℕ → Outcome (Unit {0}) TxQueue → List ℕ
opened_bytes b r = state.bytes (λ m x. laid m (replicate (length x) 0)) b r
