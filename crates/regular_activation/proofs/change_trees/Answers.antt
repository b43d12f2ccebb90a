use Rattle.regular_activation.proofs.Taking.{changed}
use Rattle.regular_activation.proofs.change_trees.Goals as goal

pub returns : goal.returns
returns c =
    changed c.args.s.now c.requires.0.0 c.args.slots.now c.args.gone.now _ c.copy.ensures _ c.copy-2.ensures _ c.merge.auto.t c.merge.ensures
    _ c.remove_marked.auto.t c.remove_marked.ensures
