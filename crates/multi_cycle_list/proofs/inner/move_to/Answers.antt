use Rattle.multi_cycle_list.proofs.Changes.{movable}
use Rattle.multi_cycle_list.proofs.inner.move_to.Goals as goal

pub move_beside-requires : goal.move_beside-requires
move_beside-requires c = movable c.args.s.now c.args.entry c.requires.0 c.requires.1.1 _ c.node-i.ensures.0 c.args.class c.requires.1.0
