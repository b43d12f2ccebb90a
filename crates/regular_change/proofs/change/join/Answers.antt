use Rattle.std.proofs.Common.{rules}
use Rattle.regular_change.proofs.Looks.{known}
use Rattle.regular_change.proofs.Acts.{long-active, room-active, joins_then}
use Rattle.regular_change.proofs.change.join.Goals as goal

pub insert-requires : goal.insert-requires
insert-requires c =
    let s = c.args.s.now in
    let small = rw c.number.ensures.same at c.number.ensures.small in
    (long-active s (search rules) c.requires.0, (room-active s (search rules) c.requires.0 c.args.entry small c.requires.1.0 c.requires.1.1, (known s c.requires.0).conditions.order-a))

pub returns : goal.returns
returns c =
    let small = rw c.number.ensures.same at c.number.ensures.small in
    joins_then c.args.s.now (search rules) c.requires.0 c.args.entry small c.requires.1.0 c.requires.1.1 c.args.subject _ (rw c.number.ensures.same at c.insert.ensures)
