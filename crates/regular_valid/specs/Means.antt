-- What is proved of the regular registry's bytes and calls.
use Rattle.std.specs.Prelude.{ℕ, ◌+◌, ◌≤◌, ◌≡◌, true, replicate}
use Rattle.state.specs.Lengths.{regular_length}
use Rattle.state.specs.Outcome.{done, Means}
use Rattle.multi_cycle_list.specs.Lists as lists
use Rattle.regular.specs.Registry as registry
use Rattle.regular.specs.Registry.{Registry}
use Rattle.regular.specs.Bytes.{whole_b, read, laid}
use Rattle.regular.specs.Steps.{step}
use Rattle.regular.specs.Calls.{opening}

-- *whole*, and what the bytes hold by themselves: queues of entries 0 to 127, and a counter of two bytes
pub record Valid (m : Registry) : Type 0 where
  pub whole : registry.whole_b m ≡ true
  pub inside : (e : ℕ) → 128 ≤ e → lists.count e m.activation + lists.count e m.clean_up ≡ 0
  pub room : m.slots ≤ 65535

abbrev pub Sized : Registry → ℕ → Type 0
Sized m n = n ≡ regular_length

pub record RegularMeans : Type 0 where
  -- opened bytes are whole
  pub opened : (b n : ℕ) (a : Unit {0}) (m : Registry) → opening b n ≡ done a m → whole_b (laid m (replicate b 0)) ≡ true
  pub meaning : Means whole_b read laid Valid Sized step
