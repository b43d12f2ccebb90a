use Rattle.std.proofs.Common.{◌∙◌, sym, ◌<◌}
use Rattle.tx_msg.proofs.Calls.{long_tree, room, whole-then, registered}
use Rattle.tx_msg.proofs.register.Goals as goal

pub insert-requires : goal.insert-requires
insert-requires c =
    let h = sym c.whole.ensures ∙ c.if-not-whole.false in
    let small : c.in_ok-entry.entry < 128 = rw c.number.ensures.same at c.number.ensures.small in
    (long_tree c.args.s.now h, room c.args.s.now h c.in_ok-entry.entry small (sym c.is_registered.ensures ∙ c.if-is_registered.false))

pub becomes-requires : goal.becomes-requires
becomes-requires c = whole-then c.args.s.now (sym c.whole.ensures ∙ c.if-not-whole.false) c.insert.new.t c.insert.auto.t

pub returns : goal.returns
returns c =
    let h = sym c.whole.ensures ∙ c.if-not-whole.false in
    let entry = sym c.try_from.ensures ∙ c.in_ok-entry.was in
    let subject = sym c.up_to.ensures ∙ c.in_ok-subject.was in
    registered c.args.s.now h c.insert.new.t c.insert.auto.t c.args.entry c.args.subject c.args.readiness c.in_ok-entry.entry c.in_ok-subject.subject entry subject
    (sym c.is_open.ensures ∙ c.if-is_open.false) (sym c.is_registered.ensures ∙ c.if-is_registered.false) (sym c.has_subject.ensures ∙ c.if-has_subject.false)
    (rw c.number.ensures.same at c.insert.ensures) _ _ c.becomes.auto.s c.becomes.ensures.wake c.becomes.ensures.bytes
