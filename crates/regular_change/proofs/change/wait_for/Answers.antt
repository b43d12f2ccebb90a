use Rattle.std.proofs.Common.{arith, rules}
use Rattle.regular_change.proofs.Looks.{known}
use Rattle.regular_change.proofs.Acts.{long-inactive, room-inactive, whole-waits, waits_then}
use Rattle.regular_change.proofs.change.wait_for.Goals as goal

pub insert-requires : goal.insert-requires
insert-requires c =
    let s = c.args.s.now in
    let small = rw c.number-entry.ensures.same at c.number-entry.ensures.small in
    (long-inactive s (search rules) c.requires.0, (room-inactive s (search rules) c.requires.0 c.args.entry small c.requires.1.0 c.requires.1.1, (known s c.requires.0).conditions.order-i))

pub inner_move_back-requires : goal.inner_move_back-requires
inner_move_back-requires c =
    let small = rw c.number-entry.ensures.same at c.number-entry.ensures.small in
    let w = whole-waits c.args.s.now (search rules) c.requires.0 c.args.entry small c.requires.1.0 c.requires.1.1 c.args.subject c.insert.new.t (rw c.number-entry.ensures.same at c.insert.ensures) in
    (w.whole, (omega (arith, w.classes), omega (arith, w.entries, c.from.ensures, c.number-entry.ensures.small)))

pub returns : goal.returns
returns c =
    let small = rw c.number-entry.ensures.same at c.number-entry.ensures.small in
    waits_then c.args.s.now (search rules) c.requires.0 c.args.entry small c.requires.1.0 c.requires.1.1 c.args.subject c.args.n _ _ _ (rw c.number-entry.ensures.same at c.insert.ensures)
    (rw (c.from.ensures, c.number-entry.ensures.same) at c.inner_move_back.ensures) c.set_slots.ensures
