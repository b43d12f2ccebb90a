use Rattle.calls.specs.Reader.{reader}
use Rattle.calls.proofs.ReaderLaws.{Reading}
use Rattle.calls.proofs.run.Given as goal

abbrev pub invariant-loop : goal.invariant-loop
invariant-loop g l =
    Reading l.initial.s l.counter (g.R.Read.remaining l.initial.input) (g.R.Read.remaining l.input)
    (g.W.Write.contents l.initial.to) (g.W.Write.contents l.to) (reader l.s l.part.items)
