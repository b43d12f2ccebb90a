use Rattle.loop_back.proofs.Facts.{no_pairs}
use Rattle.loop_back.proofs.whole.Goals as goal

pub returns-else-pairs_fit : goal.returns-else-pairs_fit
returns-else-pairs_fit c = no_pairs c.args.s.now c.if-s-ne389.false c.if-s-gt128.false _ _ c.pairs_fit.ensures c.if-pairs_fit.false
