-- What the inner functions answer. No contract of a public call cites this.
use Rattle.std.specs.Prelude.{ℕ, ◌<◌, List, cond, Option, Some, None, Result, Ok, Err}
use Rattle.state.specs.declared.Refusal.{Refusal}
use Rattle.state.specs.declared.Refusal.TheVariants.{NotWhole}
use Rattle.state.specs.Outcome.{Outcome}
use Rattle.index_entries.specs.Keys.{Keys, Found, missing, at, found}
use Rattle.index_entries.specs.Bytes.{whole_b, read}
use Rattle.index_entries.specs.Inner.{index_of, held_of, moved}
use Rattle.index_entries.specs.declared.change.Move.{Move}
use Rattle.index_queue.specs.Calls.{queue_in}
use Rattle.index_entries.specs.declared.look.Held.{Held}
use Rattle.index_entries.specs.declared.look.Held.TheVariants.{Value, Spent, Free}

-- where the key k has its entry
abbrev pub find : List ℕ → ℕ → Result (Option ℕ) Refusal
find s k = cond (whole_b s) (Ok (index_of (found (read s) k))) (Err NotWhole)

abbrev pub value_of : Held → Option ℕ
value_of (Value k v) = Some v
value_of (Spent k) = None
value_of Free = None

abbrev pub with_value : Found → Option (ℕ × Option ℕ)
with_value missing = None
with_value (at i s) = Some (i, value_of (held_of s))

-- and its value, none where it was handed back
abbrev pub find_value : List ℕ → ℕ → Result (Option (ℕ × Option ℕ)) Refusal
find_value s k = cond (whole_b s) (Ok (with_value (found (read s) k))) (Err NotWhole)

-- an entry, if any, is one of n
abbrev pub Below : ℕ → Option ℕ → Type 0
Below n (Some i) = i < n
Below n None = Unit {0}

-- the entry of the key k goes to the front of the queue, to its back, or out of it
abbrev pub key_moved : Move → ℕ → Keys → Outcome (Unit {0}) Keys
key_moved to k m = queue_in (moved to) m (found m k)
