use Rattle.entry_tree.proofs.Fitting.{fit}
use Rattle.entry_tree.proofs.whole.pairs_fit.Goals as goal

pub returns : goal.returns
returns c = fit _ _ _ _ _ _ c.requires.1.0 c.pairs_ok.ensures
