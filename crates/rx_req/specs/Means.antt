-- What is proved of the request registry's bytes and calls.
use Rattle.std.specs.Prelude.{ℕ, ◌≡◌, true, replicate}
use Rattle.state.specs.Lengths.{requests_length}
use Rattle.state.specs.Outcome.{done, Means}
use Rattle.entry_tree.specs.Places.{read, laid}
use Rattle.rx_req.specs.Registry as registry
use Rattle.rx_req.specs.Registry.{Registry}
use Rattle.rx_req.specs.Bytes.{whole_b}
use Rattle.rx_req.specs.Steps.{step}
use Rattle.rx_req.specs.Calls.{opening}

abbrev pub Valid : Registry → Type 0
Valid m = registry.whole_b m ≡ true

abbrev pub Sized : Registry → ℕ → Type 0
Sized m n = n ≡ requests_length

pub record RequestsMeans : Type 0 where
  -- opened bytes are whole
  pub opened : (b : ℕ) (a : Unit {0}) (m : Registry) → opening b ≡ done a m → whole_b (laid m (replicate b 0)) ≡ true
  pub meaning : Means whole_b read laid Valid Sized step
