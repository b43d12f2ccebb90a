use Rattle.index_whole.proofs.ListLaws.{listed}
use Rattle.index_whole.proofs.lists.Goals as goal

pub returns : goal.returns
returns c = listed c.args.s.now _ _ _ c.if-s-ne2.false c.from.ensures c.whole_marked.ensures
