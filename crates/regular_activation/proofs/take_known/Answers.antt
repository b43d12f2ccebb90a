use Rattle.std.proofs.Common.{arith, rules}
use Rattle.regular_change.proofs.Looks.{known}
use Rattle.regular_activation.proofs.Taking.{taking_none, queue-whole, front-then, front-small, tree_then, taking_more, shorter}
use Rattle.regular_activation.proofs.take_known.Goals as goal

pub loop-front-init : goal.loop-front-init
loop-front-init c =
    let r = c.requires in
    taking_none c.args.s.now (search rules) r.0.0 r.0.1 _ _ r.1.1.0 r.1.1.1 _ c.inner_front-front.ensures

pub slot_for-requires : goal.slot_for-requires
slot_for-requires c =
    let l = c.loop-front in
    let s = c.args.s.now in
    let at = c.requires.1.0 c.in-Some.e c.in-Some-start.g (rw c.from.ensures at c.in-Some-start.is) in
    (tree_then s (search rules) c.requires.0.0 l.s l.slots l.gone l.front l.invariant, omega (arith, at.inside, (known s c.requires.0.0).inactive.few, c.from-in-Some.ensures))

pub inner_second-front-requires : goal.inner_second-front-requires
inner_second-front-requires c =
    let l = c.loop-front in
    let w = queue-whole c.args.s.now (search rules) c.requires.0.0 l.s l.slots l.gone l.front l.invariant in
    (w.whole, (omega (arith, w.classes), rw c.from-in-Some-2.ensures (front-then c.args.s.now (search rules) c.requires.0.0 l.s l.slots l.gone l.front l.invariant c.in-Some.e c.in-Some.is)))

pub inner_remove-requires : goal.inner_remove-requires
inner_remove-requires c =
    let l = c.loop-front in
    let w = queue-whole c.args.s.now (search rules) c.requires.0.0 l.s l.slots l.gone l.front l.invariant in
    let small = front-small c.args.s.now (search rules) c.requires.0.0 l.s l.slots l.gone l.front l.invariant c.in-Some.e c.in-Some.is in
    (w.whole, omega (arith, w.entries, c.from-in-Some-3.ensures, small))

pub bounds-next-from : goal.bounds-next-from
bounds-next-from c =
    let at = c.requires.1.0 c.in-Some.e c.in-Some-start.g (rw c.from.ensures at c.in-Some-start.is) in
    omega (arith, at.inside, (known c.args.s.now c.requires.0.0).inactive.few, c.from-in-Some-5.ensures)

pub loop-front-smaller : goal.loop-front-smaller
loop-front-smaller c =
    let l = c.loop-front in
    let start = rw c.from.ensures at c.in-Some-start.is in
    let slot = rw (c.in-Some-slot_for.is, c.from-in-Some.ensures) at c.slot_for.ensures in
    shorter c.args.s.now (search rules) c.requires.0.0 l.s l.slots l.gone l.front l.invariant c.in-Some.e c.in-Some.is c.args.start.now c.requires.1.0 c.in-Some-start.g start
    c.in-Some-slot_for.j slot _ (rw c.from-in-Some-3.ensures at c.inner_remove.ensures) _ c.inner_second-front.ensures

pub loop-front-preserved : goal.loop-front-preserved
loop-front-preserved c =
    let l = c.loop-front in
    let start = rw c.from.ensures at c.in-Some-start.is in
    let slot = rw (c.in-Some-slot_for.is, c.from-in-Some.ensures) at c.slot_for.ensures in
    rw c.from-in-Some-4.ensures
    (taking_more c.args.s.now (search rules) c.requires.0.0 l.s l.slots l.gone l.front l.invariant c.in-Some.e c.in-Some.is c.args.start.now c.requires.1.0 c.in-Some-start.g start
    c.in-Some-slot_for.j slot _ (rw c.from-in-Some-3.ensures at c.inner_remove.ensures) _ c.inner_second-front.ensures)
