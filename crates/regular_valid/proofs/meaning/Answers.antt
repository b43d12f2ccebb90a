use Rattle.regular_valid.proofs.Mean.{means}
use Rattle.regular_valid.proofs.meaning.Goals as goal

pub returns : goal.returns
returns c = means
