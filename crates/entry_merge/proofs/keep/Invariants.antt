use Rattle.entry_merge.proofs.Writing.{Keeping}
use Rattle.entry_merge.proofs.keep.Given as goal

abbrev pub invariant-loop-i : goal.invariant-loop-i
invariant-loop-i l = Keeping l.gone l.initial.t l.t l.w l.i
