use Rattle.std.proofs.Common.{◌∙◌, sym, arith, rules}
use Rattle.entry_tree.specs.Pairs.{is_entry}
use Rattle.entry_tree.proofs.Lists.{placed}
use Rattle.regular.specs.Bytes.{read}
use Rattle.regular_change.proofs.Looks.{known, subject_in_range}
use Rattle.regular_change.proofs.Acts.{tree-active, front-active, first_some, front-place, front_above, front-says, front-entry, popped-then}
use Rattle.regular_change.proofs.change.pop_clean_up_queue.Goals as goal

pub unwrap-i-requires : goal.unwrap-i-requires
unwrap-i-requires c =
    let s = c.args.s.now in
    let front = first_some (read s).clean_up c.args.entry c.requires.1 in
    placed (is_entry c.args.entry) (read s).active c.position.result c.position.ensures (front-active s (search rules) c.requires.0 c.args.entry _ front)

pub from_at-first-requires : goal.from_at-first-requires
from_at-first-requires c =
    let s = c.args.s.now in
    let front = first_some (read s).clean_up c.args.entry c.requires.1 in
    let place = front-place s (search rules) c.requires.0 c.args.entry _ front c.unwrap-i.result (sym c.position.ensures ∙ c.unwrap-i.ensures) in
    (tree-active s (search rules) c.requires.0, (place, subject_in_range s c.requires.0 _ (omega (arith, place))))

pub subject_at-last-requires : goal.subject_at-last-requires
subject_at-last-requires c =
    let s = c.args.s.now in
    let tree = (known s c.requires.0).active in
    let front = first_some (read s).clean_up c.args.entry c.requires.1 in
    let place = front-place s (search rules) c.requires.0 c.args.entry _ front c.unwrap-i.result (sym c.position.ensures ∙ c.unwrap-i.ensures) in
    (tree.len, omega (arith, place, tree.few))

pub overflow_sub-last : goal.overflow_sub-last
overflow_sub-last c =
    let s = c.args.s.now in
    let front = first_some (read s).clean_up c.args.entry c.requires.1 in
    omega (arith, c.subject_at-last.ensures, front_above s (search rules) c.requires.0 c.args.entry _ front c.unwrap-i.result (sym c.position.ensures ∙ c.unwrap-i.ensures))

pub inner_remove-requires : goal.inner_remove-requires
inner_remove-requires c =
    let s = c.args.s.now in
    let k = known s c.requires.0 in
    let front = first_some (read s).clean_up c.args.entry c.requires.1 in
    (k.queue-whole, omega (arith, k.entries, c.from.ensures, front-entry s (search rules) c.requires.0 c.args.entry _ front))

pub returns : goal.returns
returns c =
    let s = c.args.s.now in
    let front = first_some (read s).clean_up c.args.entry c.requires.1 in
    let at = sym c.position.ensures ∙ c.unwrap-i.ensures in (
      front-says s (search rules) c.requires.0 c.args.entry _ front c.unwrap-i.result at _ _ c.from_at-first.ensures c.subject_at-last.ensures,
      popped-then s (search rules) c.requires.0 c.args.entry _ front _ (rw c.from.ensures at c.inner_remove.ensures),
    )
