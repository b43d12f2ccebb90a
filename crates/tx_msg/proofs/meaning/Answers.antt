use Rattle.tx_msg.proofs.Mean.{means}
use Rattle.tx_msg.proofs.meaning.Goals as goal

pub returns : goal.returns
returns c = means
