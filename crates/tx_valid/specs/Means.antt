-- What is proved of a transmit queue's bytes and calls, which are the response registry's.
use Rattle.std.specs.Prelude.{ℕ, ◌<◌, ◌≤◌, ◌≡◌, true, [], get_or, replicate, Some}
use Rattle.state.specs.Lengths.{responses_length}
use Rattle.state.specs.Outcome.{done, Means}
use Rattle.multi_cycle_list.specs.Lists.{count}
use Rattle.tx_queue.specs.TxQueue as queue
use Rattle.tx_queue.specs.TxQueue.{Sets, Pick, TxQueue, sets_of}
use Rattle.tx_queue.specs.Bytes.{whole_b, read, laid}
use Rattle.tx_queue.specs.Steps.{step}
use Rattle.tx_queue.specs.Calls.{opening}

-- sets that are bytes
pub record SetsFit (s : Sets) : Type 0 where
  pub ready : s.ready < 256
  pub started : s.started < 256

-- *whole*, and what the bytes hold by themselves: queues of entries 0 to 127, and sets that are bytes
pub record Valid (m : TxQueue) : Type 0 where
  pub whole : queue.whole_b m ≡ true
  pub inside : (e k : ℕ) → 128 ≤ e → k < 16 → count e (get_or m.queues k []) ≡ 0
  pub sets : (e : ℕ) (s : Sets) → sets_of m e ≡ Some s → SetsFit s
  pub mask : m.mask < 256
  pub pick : (p : Pick) → m.pick ≡ Some p → p.mask < 256

abbrev pub Sized : TxQueue → ℕ → Type 0
Sized m n = n ≡ responses_length

pub record ResponsesMeans : Type 0 where
  -- opened bytes are whole
  pub opened : (b : ℕ) (a : Unit {0}) (m : TxQueue) → opening b ≡ done a m → whole_b (laid m (replicate b 0)) ≡ true
  pub meaning : Means whole_b read laid Valid Sized step
