use Rattle.std.proofs.Common.{rules, sym, ◌∙◌}
use Rattle.loop_back.proofs.Acts.{has-place}
use Rattle.rx_msg.proofs.LoopBack.{nowhere, pushed}
use Rattle.rx_msg.proofs.loop_back_inner.hub_push_next.Goals as goal

pub returns-in_default : goal.returns-in_default
returns-in_default c = nowhere c.args.s.now (sym c.whole.ensures ∙ c.if-not-whole.false) (search rules) (sym c.walk_of.ensures ∙ c.in_default.is)

pub unwrap-i-requires : goal.unwrap-i-requires
unwrap-i-requires c =
    let h = sym c.whole.ensures ∙ c.if-not-whole.false in
    has-place c.args.s.now h c.in-Some.entry c.position.result (sym c.walk_of.ensures ∙ c.in-Some.is) c.position.ensures

pub returns : goal.returns
returns c =
    let h = sym c.whole.ensures ∙ c.if-not-whole.false in
    pushed c.args.s.now h (search rules) _ _ c.is_some.ensures _ c.set_walk.ensures c.in-Some.entry (sym c.walk_of.ensures ∙ c.in-Some.is) c.next_push-w.ensures
