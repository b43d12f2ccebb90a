use Rattle.std.proofs.Common.{◌∙◌, sym, rules}
use Rattle.rx_msg.proofs.Walking.{started}
use Rattle.rx_msg.proofs.regular_inner.hub_push_start.Goals as goal

pub returns : goal.returns
returns c =
    started c.args.s.now (sym c.whole.ensures ∙ c.if-not-whole.false) (search rules) c.args.subject _ (sym c.up_to.ensures ∙ c.in_ok-subject.was) _ c.start_on-walk.ensures
    _ c.is_some.ensures _ c.set_walk.ensures
