use Rattle.std.proofs.Common.{◌∙◌, sym, arith, rules}
use Rattle.entry_tree.specs.Pairs.{is_entry}
use Rattle.entry_tree.proofs.Lists.{placed}
use Rattle.regular.specs.Bytes.{read}
use Rattle.regular_change.proofs.Acts.{tree-inactive, place-inactive, inactive-entry, whole-leaves, leaves_then}
use Rattle.regular_change.proofs.change.leave_inactive.Goals as goal

pub unwrap-i-requires : goal.unwrap-i-requires
unwrap-i-requires c = placed (is_entry c.args.entry) (read c.args.s.now).inactive c.position.result c.position.ensures c.requires.1

pub remove-requires : goal.remove-requires
remove-requires c =
    let s = c.args.s.now in
    let at = sym c.position.ensures ∙ c.unwrap-i.ensures in
    (tree-inactive s (search rules) c.requires.0, place-inactive s (search rules) c.requires.0 c.args.entry c.unwrap-i.result at c.requires.1)

pub inner_remove-requires : goal.inner_remove-requires
inner_remove-requires c =
    let s = c.args.s.now in
    let at = sym c.position.ensures ∙ c.unwrap-i.ensures in
    let w = whole-leaves s (search rules) c.requires.0 c.args.entry c.unwrap-i.result at c.requires.1 c.remove.new.t c.remove.ensures in
    (w.whole, omega (arith, w.entries, c.from.ensures, inactive-entry s (search rules) c.requires.0 c.args.entry c.unwrap-i.result at c.requires.1))

pub returns : goal.returns
returns c =
    let at = sym c.position.ensures ∙ c.unwrap-i.ensures in
    leaves_then c.args.s.now (search rules) c.requires.0 c.args.entry c.unwrap-i.result at c.requires.1 _ _ c.remove.ensures (rw c.from.ensures at c.inner_remove.ensures)
