-- What is proved of the bytes and calls of message transmission.
use Rattle.std.specs.Prelude.{ℕ, ◌≡◌, true, replicate}
use Rattle.state.specs.Lengths.{messages_length}
use Rattle.state.specs.Outcome.{done, Means}
use Rattle.tx_valid.specs.Means as queue
use Rattle.tx_msg.specs.Registry as registry
use Rattle.tx_msg.specs.Registry.{Registry}
use Rattle.tx_msg.specs.Bytes.{whole_b, read, laid}
use Rattle.tx_msg.specs.Steps.{step}
use Rattle.tx_msg.specs.Calls.{opening}

-- *whole*, and what the queue's bytes hold by themselves
pub record Valid (m : Registry) : Type 0 where
  pub whole : registry.whole_b m ≡ true
  pub queue : queue.Valid m.queue

abbrev pub Sized : Registry → ℕ → Type 0
Sized m n = n ≡ messages_length

pub record MessagesMeans : Type 0 where
  -- opened bytes are whole
  pub opened : (b : ℕ) (a : Unit {0}) (m : Registry) → opening b ≡ done a m → whole_b (laid m (replicate b 0)) ≡ true
  pub meaning : Means whole_b read laid Valid Sized step
