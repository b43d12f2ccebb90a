use Rattle.regular_activation.proofs.Noting.{Noting}
use Rattle.regular_activation.proofs.note_starts.Given as goal

abbrev pub invariant-loop-i : goal.invariant-loop-i
invariant-loop-i l = Noting l.s l.start l.first l.last l.i
