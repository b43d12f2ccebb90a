use Rattle.std.proofs.Common.{refl}
use Rattle.tx_change.proofs.settle_frame.Goals as goal

pub returns-else-eot : goal.returns-else-eot
returns-else-eot c =
    let b = c.becomes-wake-else-eot.ensures in
    rw (
      c.if-eot.false,
      c.number-number.ensures.same,
      b.wake,
      b.bytes,
      c.into_bits-else-eot.ensures,
      c.insert.ensures,
      c.from_bits-started.ensures,
      c.priority-priority.ensures.number,
    )
    (refl, refl)
