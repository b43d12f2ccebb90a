use Rattle.regular_activation.proofs.Noting.{start_of}
use Rattle.regular_activation.proofs.start_if_on.Goals as goal

pub returns : goal.returns
returns c = start_of c.args.t.now c.args.at c.args.x c.args.first c.requires.1.0 _ c.subject_at.ensures _ c.then_some.ensures
