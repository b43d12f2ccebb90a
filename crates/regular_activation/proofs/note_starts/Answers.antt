use Rattle.std.proofs.Common.{arith}
use Rattle.regular_change.proofs.Looks.{known}
use Rattle.regular_activation.proofs.Noting.{noting_none, group_is, noting_more}
use Rattle.regular_activation.proofs.note_starts.Goals as goal

pub loop-i-init : goal.loop-i-init
loop-i-init c = noting_none c.args.s.now c.args.start.now c.requires.1

pub start_if_on-requires : goal.start_if_on-requires
start_if_on-requires c =
    let s = c.args.s.now in
    let k = known s c.requires.0 in
    let l = c.loop-i in
    let group = group_is s l.start l.first l.last l.i l.invariant _ c.subject_at-x.ensures _ c.group_start-first.ensures in
    let found = rw c.in-Some.is at c.skip_below.ensures in
    (k.active, (found.1, omega (arith, group.0, c.loop-i-test.true, c.len-i-end.ensures.0, k.inactive.few)))

pub loop-i-preserved : goal.loop-i-preserved
loop-i-preserved c =
    let l = c.loop-i in
    noting_more c.args.s.now l.start l.first l.last l.i c.requires.0 l.invariant (omega (arith, c.loop-i-test.true, c.len-i-end.ensures.0)) _ c.subject_at-x.ensures _ c.group_start-first.ensures
    c.from.result c.start_if_on.result (rw c.from.ensures c.entry_at-e.ensures) (omega (arith, c.from.ensures)) c.start_if_on.ensures
