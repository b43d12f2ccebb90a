-- What is proved of the loop-back registry's bytes and calls.
use Rattle.std.specs.Prelude.{ℕ, ◌≡◌, true, replicate}
use Rattle.state.specs.Lengths.{loop_back_length}
use Rattle.state.specs.Outcome.{done, Means}
use Rattle.loop_back.specs.Registry as registry
use Rattle.loop_back.specs.Registry.{Registry}
use Rattle.loop_back.specs.Bytes.{whole_b, read, laid}
use Rattle.loop_back.specs.Steps.{step}
use Rattle.loop_back.specs.Calls.{opening}

abbrev pub Valid : Registry → Type 0
Valid m = registry.whole_b m ≡ true

abbrev pub Sized : Registry → ℕ → Type 0
Sized m n = n ≡ loop_back_length

pub record LoopBackMeans : Type 0 where
  -- opened bytes are whole
  pub opened : (b : ℕ) (a : Unit {0}) (m : Registry) → opening b ≡ done a m → whole_b (laid m (replicate b 0)) ≡ true
  pub meaning : Means whole_b read laid Valid Sized step
