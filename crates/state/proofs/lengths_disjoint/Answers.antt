use Rattle.state.proofs.Disjoint.{disjoint}
use Rattle.state.proofs.lengths_disjoint.Goals as goal

pub returns : goal.returns
returns c = disjoint
