use Rattle.calls.proofs.ReaderLaws.{reads}
use Rattle.calls.proofs.meaning.Goals as goal

pub returns : goal.returns
returns c = reads
