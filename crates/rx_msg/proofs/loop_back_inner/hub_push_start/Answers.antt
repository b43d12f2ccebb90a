use Rattle.std.proofs.Common.{rules, sym, ◌∙◌}
use Rattle.rx_msg.proofs.LoopBack.{started}
use Rattle.rx_msg.proofs.loop_back_inner.hub_push_start.Goals as goal

pub returns : goal.returns
returns c =
    let h = sym c.whole.ensures ∙ c.if-not-whole.false in
    started c.args.s.now h (search rules) _ _ c.is_some.ensures _ c.set_walk.ensures c.args.subject _ (sym c.up_to.ensures ∙ c.in_ok-subject.was) c.start_on-w.ensures
