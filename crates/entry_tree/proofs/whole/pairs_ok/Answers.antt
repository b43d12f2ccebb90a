use Prim.Native.Nat.{ℕ, ◌+◌}
use mathlib.Core.Path.{sym, ◌∙◌, subst}
use lib.ListN.{set}
use Rattle.entry_tree.proofs.Turns.{Turn, turn_again}
use Rattle.entry_tree.proofs.whole.pairs_ok.Goals as goal

pub loop-pair-preserved : goal.loop-pair-preserved
loop-pair-preserved c =
    let l = c.loop-pair in
    let k = c.args.check in
    subst (λ (e : ℕ). Turn k c.pairs-pair-items.result.now c.args.seen.now (set l.seen (2 + e) k.met) (c.subject_of-from.result + 1) (l.pair-index + 1)) (sym c.from.ensures)
    (turn_again k _ _ l.seen l.from l.pair-index l.invariant _ c.loop-pair-test.true (sym c.pair_ok.ensures ∙ c.if-not-pair_ok.false) _ c.subject_of-from.ensures)
