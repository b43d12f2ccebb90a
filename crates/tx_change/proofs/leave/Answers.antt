use Rattle.std.proofs.Common.{rules, ◌<◌}
use Rattle.tx_queue.specs.TxQueue.{place, sets_of}
use Rattle.tx_queue.specs.Bytes.{read}
use Rattle.tx_change.proofs.Acts.{left}
use Rattle.tx_change.proofs.leave.Goals as goal

pub returns : goal.returns
returns c =
    let s = c.args.s.now in
    let small : c.args.entry < 128 = rw c.number.ensures.same at c.number.ensures.small in
    rw (c.from-entry.ensures, c.number.ensures.same)
    (left s (search rules) c.requires.0 c.args.entry small c.requires.1 (place (sets_of (read s) c.args.entry)) _ (rw (c.from-entry.ensures, c.number.ensures.same) at c.inner_remove.ensures))
