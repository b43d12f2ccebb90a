use Rattle.index_entries.proofs.Fresh.{next_requires}
use Rattle.index_entries.proofs.change.open_lists.Goals as goal

pub inner_move_back-requires : goal.inner_move_back-requires
inner_move_back-requires c = let l = c.loop-i in next_requires c.args.n l.i c.requires.0 c.loop-i-test.true l.q l.invariant
