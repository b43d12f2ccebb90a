use Rattle.regular_runs.proofs.Sharp.{reached}
use Rattle.regular_runs.proofs.bound_reached.Goals as goal

-- The example of proofs/Sharp.antt.

pub returns : goal.returns
returns c = reached
