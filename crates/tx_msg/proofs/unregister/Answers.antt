use Rattle.std.proofs.Common.{◌∙◌, sym, ◌<◌}
use Rattle.entry_tree.specs.Pairs.{is_entry}
use Rattle.entry_tree.proofs.Finding.{place_in}
use Rattle.tx_msg.specs.Bytes.{tree_part}
use Rattle.tx_msg.proofs.Calls.{is_tree, has-place, whole-then, no-pick, unregistered}
use Rattle.tx_msg.proofs.unregister.Goals as goal

pub unwrap-i-requires : goal.unwrap-i-requires
unwrap-i-requires c =
    let small : c.in_ok-entry.entry < 128 = rw c.number.ensures.same at c.number.ensures.small in
    has-place c.args.s.now (sym c.whole.ensures ∙ c.if-not-whole.false) c.in_ok-entry.entry small
    (sym c.is_registered.ensures ∙ c.if-not-is_registered.false) c.position.result (rw c.number.ensures.same at c.position.ensures)

pub remove-requires : goal.remove-requires
remove-requires c =
    let s = c.args.s.now in
    (is_tree s (sym c.whole.ensures ∙ c.if-not-whole.false), place_in (tree_part s) (is_entry c.number.result) c.unwrap-i.result (sym c.position.ensures ∙ c.unwrap-i.ensures))

pub leave-requires : goal.leave-requires
leave-requires c =
    let s = c.args.s.now in
    let h = sym c.whole.ensures ∙ c.if-not-whole.false in
    (whole-then s h c.remove.new.t c.remove.auto.t, no-pick s h c.remove.new.t c.remove.auto.t (sym c.is_open.ensures ∙ c.if-is_open.false))

pub returns : goal.returns
returns c =
    let h = sym c.whole.ensures ∙ c.if-not-whole.false in
    let entry = sym c.try_from.ensures ∙ c.in_ok-entry.was in
    unregistered c.args.s.now h c.remove.new.t c.remove.auto.t c.args.entry c.in_ok-entry.entry c.unwrap-i.result entry
    (sym c.is_open.ensures ∙ c.if-is_open.false) (sym c.is_registered.ensures ∙ c.if-not-is_registered.false)
    (sym (rw c.number.ensures.same at c.position.ensures) ∙ c.unwrap-i.ensures) c.remove.ensures _ c.leave.auto.s c.leave.ensures
