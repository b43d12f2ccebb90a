use Rattle.std.proofs.Common.{◌-◌, arith}
use Rattle.entry_tree.specs.Places.{entry_at}
use Rattle.regular.specs.Bytes.{active_part, read}
use Rattle.regular_change.proofs.Looks.{known, entry-at-place, subject_in_range, gap_same, gap-last, gap-next}
use Rattle.regular_change.proofs.look.gap_at.Goals as goal

pub from_at-requires : goal.from_at-requires
from_at-requires c =
    let s = c.args.s.now in
    ((known s c.requires.0).active, (c.requires.1, subject_in_range s c.requires.0 (c.args.i - 1) (omega (arith, c.requires.1))))

pub returns-then-subject_at-from_at : goal.returns-then-subject_at-from_at
returns-then-subject_at-from_at c =
    let s = c.args.s.now in
    let A = active_part s in
    let i = c.args.i in
    gap_same A (entry_at A i) i (entry-at-place s c.requires.0 i c.requires.1) (read s).clean_up _ _ c.subject_at.ensures c.from_at.ensures c.if-subject_at-from_at.true

pub returns-then-len-i : goal.returns-then-len-i
returns-then-len-i c =
    let s = c.args.s.now in
    let A = active_part s in
    let i = c.args.i in
    gap-last A (entry_at A i) i (entry-at-place s c.requires.0 i c.requires.1) (read s).clean_up _ _ c.subject_at.ensures c.from_at.ensures c.if-subject_at-from_at.false
    (omega (arith, c.len.ensures.0, c.if-len-i.true))

pub returns : goal.returns
returns c =
    let s = c.args.s.now in
    let A = active_part s in
    let i = c.args.i in
    gap-next A (entry_at A i) i (entry-at-place s c.requires.0 i c.requires.1) (read s).clean_up _ _ c.subject_at.ensures c.from_at.ensures c.if-subject_at-from_at.false
    _ c.next_gap.ensures
