use Rattle.refusals.proofs.Refusals.{demand-1}
use Rattle.refusals.proofs.demand_1.Goals as goal

-- The theorem of proofs/Refusals.antt.

pub returns : goal.returns
returns c = demand-1
