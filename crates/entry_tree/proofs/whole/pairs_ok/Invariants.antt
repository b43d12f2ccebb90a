use Rattle.entry_tree.proofs.Turns.{Turn}
use Rattle.entry_tree.proofs.whole.pairs_ok.Given as goal

abbrev pub invariant-loop-pair : goal.invariant-loop-pair
invariant-loop-pair l = Turn l.check l.pair-items l.fn.seen l.seen l.from l.pair-index
