-- What makes a byte a set of priorities: its members say which byte it is, and any choice of members has its byte.
-- The eight priorities have the numbers 0 to 7, one each.
use Rattle.std.specs.Prelude.{◌≡◌, Bool, ℕ, ◌<◌}
use Rattle.emcyphal_core.specs.Priorities.{number, priority_of}
use Rattle.emcyphal_core.specs.Sets.{has, set_of}
use Rattle.emcyphal_core.specs.declared.Priority.{Priority}

pub record BytesAreSets : Type 0 where
  pub member : (f : ℕ → Bool) (p : ℕ) → p < 8 → has (set_of f) p ≡ f p
  pub small : (f : ℕ → Bool) → set_of f < 256
  pub whole : (b : ℕ) → b < 256 → set_of (has b) ≡ b
  pub numbered : (p : Priority) → number p < 8
  pub named : (p : Priority) → priority_of (number p) ≡ p
  pub below : (n : ℕ) → n < 8 → number (priority_of n) ≡ n
