use Rattle.tx_valid.proofs.Mean.{means}
use Rattle.tx_valid.proofs.meaning.Goals as goal

pub returns : goal.returns
returns c = means
