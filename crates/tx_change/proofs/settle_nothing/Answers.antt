use Rattle.std.proofs.Common.{Some, refl, get_or}
use Rattle.tx_change.proofs.Acts.{masked_after}
use Rattle.tx_change.proofs.settle_nothing.Goals as goal

pub returns : goal.returns
returns c =
    let s = c.args.s.now in
    let b = c.becomes-wake.ensures in
    rw (c.number-entry.ensures.same, b.wake, b.bytes) (refl, masked_after s c.requires _ (Some c.args.turn.queue) _ (get_or s 675 0))
