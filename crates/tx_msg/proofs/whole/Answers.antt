use Rattle.std.proofs.Common.{sym, ◌∙◌}
use Rattle.tx_msg.proofs.Facts.{no_pairs, whole-last}
use Rattle.tx_msg.proofs.whole.Goals as goal

pub returns-then-pairs_fit : goal.returns-then-pairs_fit
returns-then-pairs_fit c =
    c.subjects_ok.ensures ∙ whole-last c.args.s.now c.if-s-ne1062.false c.if-s-gt128.false (sym c.whole.ensures ∙ c.if-not-whole.false) _ _ c.pairs_fit.ensures c.if-pairs_fit.true

pub returns-else-pairs_fit : goal.returns-else-pairs_fit
returns-else-pairs_fit c =
    c.if-pairs_fit.false
    ∙ sym (no_pairs c.args.s.now c.if-s-ne1062.false c.if-s-gt128.false (sym c.whole.ensures ∙ c.if-not-whole.false) _ _ c.pairs_fit.ensures c.if-pairs_fit.false)
