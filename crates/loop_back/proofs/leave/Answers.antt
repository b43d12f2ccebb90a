use Rattle.loop_back.proofs.Acts.{tree_stays, left}
use Rattle.loop_back.proofs.leave.Goals as goal

pub remove-requires : goal.remove-requires
remove-requires c =
    let e = c.number-entry in
    tree_stays c.args.s.now c.requires.0 e.result c.args.i e.ensures.small (rw e.ensures.same c.requires.1) c.next_push-w.result c.walk_past.new.s c.walk_past.ensures

pub returns : goal.returns
returns c =
    let e = c.number-entry in
    rw (← e.ensures.same)
    (left c.args.s.now c.requires.0 e.result c.args.i e.ensures.small (rw e.ensures.same c.requires.1) c.next_push-w.result c.walk_past.new.s c.walk_past.ensures
    c.next_push-w.ensures _ c.remove.ensures)
