use Rattle.std.proofs.Common.{arith}
use Rattle.loop_back.proofs.Acts.{long_tree, room, joined}
use Rattle.loop_back.proofs.join.Goals as goal

pub insert-requires : goal.insert-requires
insert-requires c =
    (long_tree _ c.requires.0, room _ c.requires.0 c.args.entry (omega (arith, c.number.ensures.same, c.number.ensures.small)) c.requires.1)

pub returns : goal.returns
returns c =
    rw (← c.number.ensures.same)
    (joined c.args.s.now c.requires.0 c.number.result c.number.ensures.small (rw c.number.ensures.same c.requires.1) c.args.subject _ c.insert.ensures)
