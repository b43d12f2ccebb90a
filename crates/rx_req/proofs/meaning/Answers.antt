use Rattle.rx_req.proofs.Mean.{means}
use Rattle.rx_req.proofs.meaning.Goals as goal

pub returns : goal.returns
returns c = means
