use Rattle.std.proofs.Common.{◌∙◌, ◌+◌, ◌<◌, ◌≤◌, sym, arith}
use Rattle.entry_tree.specs.Pairs.{is_entry}
use Rattle.entry_tree.proofs.Lists.{placed}
use Rattle.entry_tree.proofs.Finding.{place_in}
use Rattle.regular.specs.Bytes.{active_part, read}
use Rattle.regular_change.proofs.Looks.{active_in_range}
use Rattle.regular_change.specs.Inner.{more}
use Rattle.rx_msg.proofs.Calls.{bit, gap-found, leaving-full, leaving}
use Rattle.rx_msg.proofs.regular_inner.unregister_active.Goals as goal

pub unwrap-i-requires : goal.unwrap-i-requires
unwrap-i-requires c = placed (is_entry c.args.entry) (read c.args.s.now).active c.position.result c.position.ensures c.requires.1.1

pub gap_at-gap-requires : goal.gap_at-gap-requires
gap_at-gap-requires c = (c.requires.0, place_in (active_part c.args.s.now) (is_entry c.args.entry) c.unwrap-i.result (sym c.position.ensures ∙ c.unwrap-i.ensures))

pub returns-in_default : goal.returns-in_default
returns-in_default c =
    let s = c.args.s.now in
    let at = sym c.position.ensures ∙ c.unwrap-i.ensures in
    let over = rw c.in_default.is at c.checked_add.ensures in
    let full : 65535 < (read s).slots + more c.gap_at-gap.result = omega (arith, over, c.slots.ensures, c.from.ensures, bit (c.gives_slot-wake.result), c.gives_slot-wake.ensures) in
    leaving-full s c.args.entry c.unwrap-i.result c.requires.1.1 at _ c.gap_at-gap.ensures (omega (arith, active_in_range s c.requires.0 c.args.entry c.requires.1.1)) c.requires.1.0 full

pub leave_active-requires : goal.leave_active-requires
leave_active-requires c =
    let s = c.args.s.now in
    let at = sym c.position.ensures ∙ c.unwrap-i.ensures in
    let room = rw c.in-Some.is at c.checked_add.ensures in (
      c.requires.0,
      (
        at,
        (
          gap-found s c.args.entry c.unwrap-i.result c.requires.1.1 at _ c.gap_at-gap.ensures,
          omega (arith, room.1, c.slots.ensures, c.from.ensures, bit (c.gives_slot-wake.result), c.gives_slot-wake.ensures),
        ),
      ),
    )

pub returns : goal.returns
returns c =
    let s = c.args.s.now in
    let at = sym c.position.ensures ∙ c.unwrap-i.ensures in
    let room = rw c.in-Some.is at c.checked_add.ensures in
    let fits : (read s).slots + more c.gap_at-gap.result ≤ 65535 = omega (arith, room.0, c.slots.ensures, c.from.ensures, bit (c.gives_slot-wake.result), c.gives_slot-wake.ensures) in
    leaving s c.args.entry c.unwrap-i.result c.requires.1.1 at _ c.gap_at-gap.ensures (omega (arith, active_in_range s c.requires.0 c.args.entry c.requires.1.1)) c.requires.1.0
    _ c.gives_slot-wake.ensures fits _ c.leave_active.ensures
