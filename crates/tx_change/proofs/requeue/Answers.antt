use Rattle.std.proofs.Common.{sym, ◌∙◌, rules, ◌<◌}
use borrow.Author.Tests.{not-true, not-false}
use Rattle.tx_change.proofs.Acts.{requeue_back, requeue_same}
use Rattle.tx_change.proofs.requeue.Goals as goal

pub returns-then-ne : goal.returns-then-ne
returns-then-ne c =
    let small : c.args.entry < 128 = rw c.number.ensures.same at c.number.ensures.small in
    rw c.in-Some.is
    (requeue_back c.args.s.now (search rules) c.requires c.args.entry small c.args.from c.in-Some.queue
    (not-true _ (sym c.ne.ensures ∙ c.if-ne.true)) _ (rw (c.from.ensures, c.number-then-ne.ensures.same, c.from-entry.ensures, c.number.ensures.same) at c.inner_move_back.ensures))

pub returns-else-ne : goal.returns-else-ne
returns-else-ne c =
    let small : c.args.entry < 128 = rw c.number.ensures.same at c.number.ensures.small in
    rw c.in-Some.is
    (requeue_same c.args.s.now (search rules) c.requires c.args.entry small c.args.from c.in-Some.queue (not-false _ (sym c.ne.ensures ∙ c.if-ne.false)))
