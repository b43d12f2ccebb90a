use Rattle.std.proofs.Common.{◌∙◌, sym, ap, Some, arith, rules}
use Rattle.entry_tree.proofs.Reading.{bytes_of}
use Rattle.rx_msg.proofs.Polling.{begins, goes_on, goes_on-later, shorter, not_longer, idle_then, ends-update, ends-nothing}
use Rattle.rx_msg.proofs.regular_inner.poll_pop.Goals as goal

pub loop-update-init : goal.loop-update-init
loop-update-init c = begins c.args.s.now (bytes_of c.args.s.now (search rules)) (sym c.whole.ensures ∙ c.if-not-whole.false)

pub returns-in-Some-Ok : goal.returns-in-Some-Ok
returns-in-Some-Ok c =
    let p = c.poll_pop_filter_update in
    ends-update c.args.s.now c.loop-update.s c.loop-update.invariant p.new.s p.ensures.1 p.result p.ensures.0 _ (c.in-Some-Ok.is ∙ ap (λ r. Some r) c.in-Some-Ok.field-0-is)

pub returns-in-None : goal.returns-in-None
returns-in-None c =
    let p = c.poll_pop_filter_update in
    ends-nothing c.args.s.now c.loop-update.s c.loop-update.invariant p.new.s p.ensures.1 p.result p.ensures.0 c.in-None.is

pub loop-update-smaller-then-again-lt2 : goal.loop-update-smaller-then-again-lt2
loop-update-smaller-then-again-lt2 c =
    let p = c.poll_pop_filter_update in
    shorter c.args.s.now c.loop-update.s c.loop-update.invariant p.new.s p.ensures.1 p.result p.ensures.0 (c.in-Some-Err.is ∙ ap (λ r. Some r) c.in-Some-Err.field-0-is)

pub loop-update-preserved-then-again-lt2 : goal.loop-update-preserved-then-again-lt2
loop-update-preserved-then-again-lt2 c =
    let p = c.poll_pop_filter_update in
    goes_on c.args.s.now c.loop-update.s c.loop-update.invariant p.new.s p.ensures.1 p.result p.ensures.0 (c.in-Some-Err.is ∙ ap (λ r. Some r) c.in-Some-Err.field-0-is)

pub activate_known-requires : goal.activate_known-requires
activate_known-requires c =
    let p = c.poll_pop_filter_update in
    let again = c.in-Some-Err.is ∙ ap (λ r. Some r) c.in-Some-Err.field-0-is in (
      (goes_on c.args.s.now c.loop-update.s c.loop-update.invariant p.new.s p.ensures.1 p.result p.ensures.0 again).whole,
      idle_then c.args.s.now c.loop-update.s c.loop-update.invariant p.new.s p.ensures.1 p.result p.ensures.0 again,
    )

pub loop-update-smaller : goal.loop-update-smaller
loop-update-smaller c =
    let p = c.poll_pop_filter_update in
    let again = c.in-Some-Err.is ∙ ap (λ r. Some r) c.in-Some-Err.field-0-is in
    let next = goes_on c.args.s.now c.loop-update.s c.loop-update.invariant p.new.s p.ensures.1 p.result p.ensures.0 again in
    let less = shorter c.args.s.now c.loop-update.s c.loop-update.invariant p.new.s p.ensures.1 p.result p.ensures.0 again in
    omega (arith, less, not_longer c.args.s.now p.new.s next c.activate_known.new.s c.activate_known.ensures)

pub loop-update-preserved : goal.loop-update-preserved
loop-update-preserved c =
    let p = c.poll_pop_filter_update in
    let again = c.in-Some-Err.is ∙ ap (λ r. Some r) c.in-Some-Err.field-0-is in
    let next = goes_on c.args.s.now c.loop-update.s c.loop-update.invariant p.new.s p.ensures.1 p.result p.ensures.0 again in
    goes_on-later c.args.s.now p.new.s next c.activate_known.new.s c.activate_known.ensures
