use Rattle.std.proofs.Common.{rules}
use Rattle.entry_tree.specs.Pairs.{is_entry}
use Rattle.entry_tree.proofs.Lists.{has-placed}
use Rattle.entry_tree.proofs.Finding.{place_in}
use Rattle.regular.specs.Bytes.{active_part, read}
use Rattle.regular_change.proofs.Acts.{tree-active, tree-then, left-then}
use Rattle.regular_change.proofs.change.leave_active.Goals as goal

pub next_on-w-requires : goal.next_on-w-requires
next_on-w-requires c = let s = c.args.s.now in (tree-active s (search rules) c.requires.0, place_in (active_part s) (is_entry c.args.entry) c.args.i c.requires.1.0)

pub close_gap-requires : goal.close_gap-requires
close_gap-requires c = (c.requires.0, (has-placed (is_entry c.args.entry) (read c.args.s.now).active c.args.i c.requires.1.0, c.requires.1.1.0))

pub remove-requires : goal.remove-requires
remove-requires c =
    let s = c.args.s.now in
    let e = c.args.entry in
    let at = c.requires.1.0 in
    tree-then s (search rules) c.requires.0 e (has-placed (is_entry e) (read s).active c.args.i at) c.args.i at c.args.gap c.requires.1.1.0 c.args.n c.requires.1.1.1
    _ c.next_on-w.ensures _ _ _ c.close_gap.ensures c.walk_past.ensures c.set_slots.ensures

pub returns : goal.returns
returns c =
    let s = c.args.s.now in
    let e = c.args.entry in
    let at = c.requires.1.0 in
    left-then s (search rules) c.requires.0 e (has-placed (is_entry e) (read s).active c.args.i at) c.args.i at c.args.gap c.requires.1.1.0 c.args.n c.requires.1.1.1
    _ c.next_on-w.ensures _ _ _ c.close_gap.ensures c.walk_past.ensures c.set_slots.ensures _ c.remove.ensures
