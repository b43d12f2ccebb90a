use Rattle.std.proofs.Common.{◌∙◌, ◌+◌, refl, sym, ap, arith}
use Rattle.entry_tree.specs.Pairs.{has_entry}
use Rattle.regular.specs.Bytes.{active_part, read}
use Rattle.regular_change.proofs.Looks.{entry-active, next-marked, gap-before}
use Rattle.regular_change.proofs.look.next_gap.Goals as goal
use Rattle.regular_change.proofs.look.next_gap.Goals.{then-is_marked-2, else-is_marked-2}

pub is_marked-requires : goal.is_marked-requires
is_marked-requires c =
    let s = c.args.s.now in
    (c.requires.0, ap (λ e. has_entry e (read s).active) c.entry_at-q.ensures ∙ entry-active s c.requires.0 (c.args.i + 1) (omega (arith, c.requires.1)))

pub is_marked-requires-2 : goal.is_marked-requires-2
is_marked-requires-2 c =
    let s = c.args.s.now in
    (c.requires.0, ap (λ e. has_entry e (read s).active) c.entry_at-e.ensures ∙ entry-active s c.requires.0 c.args.i (omega (arith, c.requires.1)))

pub returns-then-is_marked : goal.returns-then-is_marked
returns-then-is_marked c =
    let s = c.args.s.now in
    next-marked (active_part s) (read s).clean_up c.args.i (c.args.i + 1) (omega arith) (omega (arith, c.requires.1)) _ _ c.entry_at-e.ensures c.entry_at-q.ensures
    (sym c.is_marked.ensures ∙ c.if-is_marked.true)

pub returns-then-subject_at : goal.returns-then-subject_at
returns-then-subject_at c =
    let s = c.args.s.now in
    let gap = gap-before (active_part s) (read s).clean_up c.args.i (c.args.i + 1) (omega arith) (omega (arith, c.requires.1)) _ _ c.entry_at-e.ensures c.entry_at-q.ensures
    (sym c.is_marked.ensures ∙ c.if-is_marked.false) in
    elim c.if-is_marked-2.branch [ then-is_marked-2 w ↦ grind (arith, gap _ _ refl refl) | else-is_marked-2 w ↦ grind (arith, gap _ _ w.subject_at.ensures w.subject_at-else-is_marked-2.ensures) ]

pub returns-else-subject_at : goal.returns-else-subject_at
returns-else-subject_at c =
    let s = c.args.s.now in
    let gap = gap-before (active_part s) (read s).clean_up c.args.i (c.args.i + 1) (omega arith) (omega (arith, c.requires.1)) _ _ c.entry_at-e.ensures c.entry_at-q.ensures
    (sym c.is_marked.ensures ∙ c.if-is_marked.false) in
    elim c.if-is_marked-2.branch [ then-is_marked-2 w ↦ cc | else-is_marked-2 w ↦ grind (arith, gap _ _ w.subject_at.ensures w.subject_at-else-is_marked-2.ensures) ]
