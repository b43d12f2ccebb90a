use Rattle.multi_class_queue.proofs.Mean.{mean}
use Rattle.multi_class_queue.proofs.meaning.Goals as goal

pub returns : goal.returns
returns c = mean
