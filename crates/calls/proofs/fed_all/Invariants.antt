use Rattle.calls.specs.Reader.{reader}
use Rattle.calls.proofs.ReaderLaws.{Feeding}
use Rattle.calls.proofs.fed_all.Given as goal

abbrev pub invariant-loop-byte : goal.invariant-loop-byte
invariant-loop-byte g l =
    Feeding (reader l.initial.s l.initial.part.items) l.chunk l.byte-index (reader l.s l.part.items) (g.W.Write.contents l.initial.to) (g.W.Write.contents l.to)
