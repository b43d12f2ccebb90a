use Rattle.index_queue.proofs.Mean.{mean}
use Rattle.index_queue.proofs.meaning.Goals as goal

pub returns : goal.returns
returns c = mean
