use Rattle.regular_runs.proofs.Runs.{demand-3}
use Rattle.regular_runs.proofs.demand_3.Goals as goal

-- The theorem of proofs/Runs.antt.

pub returns : goal.returns
returns c = demand-3
