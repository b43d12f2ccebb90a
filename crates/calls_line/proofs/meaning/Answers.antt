use Rattle.calls_line.proofs.WholeWalk.{walks}
use Rattle.calls_line.proofs.meaning.Goals as goal

pub returns : goal.returns
returns c = walks
