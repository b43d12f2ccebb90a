use Rattle.std.proofs.Common.{◌∙◌, ap, replicate}
use Rattle.tx_change.proofs.Acts.{opened-zeros}
use Rattle.tx_change.proofs.open_queue.Goals as goal

pub returns : goal.returns
returns c = rw c.inner_open.ensures (opened-zeros c.fill.new.s (c.fill.ensures ∙ ap (λ n. replicate n 0) c.requires))
