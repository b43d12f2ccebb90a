use Rattle.std.proofs.Common.{◌∙◌, sym, arith, rules}
use Rattle.regular_change.proofs.Acts.{whole-queue, entries-all, active-entry, same-then, withdrawn-then, last-then, queue-after, next_small, marked-then}
use Rattle.regular_change.proofs.change.close_gap.Goals as goal

pub inner_remove-requires : goal.inner_remove-requires
inner_remove-requires c =
    let s = c.args.s.now in
    let w = c.requires.0 in
    (whole-queue s (search rules) w, omega (arith, entries-all s (search rules) w, c.from.ensures, active-entry s (search rules) w c.args.entry c.requires.1.0))

pub inner_remove-requires-in-Marked : goal.inner_remove-requires-in-Marked
inner_remove-requires-in-Marked c =
    let s = c.args.s.now in
    let w = c.requires.0 in
    (whole-queue s (search rules) w, omega (arith, entries-all s (search rules) w, c.from-in-Marked.ensures, active-entry s (search rules) w c.args.entry c.requires.1.0))

pub inner_move_back-requires : goal.inner_move_back-requires
inner_move_back-requires c =
    let s = c.args.s.now in
    let q = queue-after s (search rules) c.requires.0 c.args.entry c.requires.1.0 c.args.gap c.requires.1.1 _ (rw c.from-in-Marked.ensures at c.inner_remove-in-Marked.ensures) in
    let small = next_small s (search rules) c.requires.0 c.args.entry c.requires.1.0 _ (sym c.in-Marked.is ∙ c.requires.1.1) in
    (q.whole, (omega (arith, q.classes), omega (arith, q.entries, c.from-in-Marked-2.ensures, small)))

pub inner_remove-requires-in-Last : goal.inner_remove-requires-in-Last
inner_remove-requires-in-Last c =
    let s = c.args.s.now in
    let w = c.requires.0 in
    (whole-queue s (search rules) w, omega (arith, entries-all s (search rules) w, c.from-in-Last.ensures, active-entry s (search rules) w c.args.entry c.requires.1.0))

pub returns-in-Same : goal.returns-in-Same
returns-in-Same c = same-then c.args.s.now (search rules) c.requires.0 c.args.entry c.requires.1.0 c.args.gap c.requires.1.1 c.in-Same.is

pub returns-in-Withdrawn : goal.returns-in-Withdrawn
returns-in-Withdrawn c =
    withdrawn-then c.args.s.now (search rules) c.requires.0 c.args.entry c.requires.1.0 c.args.gap c.requires.1.1 _ (rw c.from.ensures at c.inner_remove.ensures) c.in-Withdrawn.is

pub returns-in-Marked : goal.returns-in-Marked
returns-in-Marked c =
    marked-then c.args.s.now (search rules) c.requires.0 c.args.entry c.requires.1.0 c.args.gap c.requires.1.1 _ (rw c.from-in-Marked.ensures at c.inner_remove-in-Marked.ensures)
    _ c.in-Marked.is _ (rw c.from-in-Marked-2.ensures at c.inner_move_back.ensures)

pub returns-in-Last : goal.returns-in-Last
returns-in-Last c =
    last-then c.args.s.now (search rules) c.requires.0 c.args.entry c.requires.1.0 c.args.gap c.requires.1.1 _ (rw c.from-in-Last.ensures at c.inner_remove-in-Last.ensures)
    c.in-Last.is _ c.set_last_gap.ensures
