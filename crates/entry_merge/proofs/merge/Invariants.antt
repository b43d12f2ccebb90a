use Prim.Native.Nat.{◌+◌}
use mathlib.Core.Path.{◌≡◌}
use Rattle.entry_merge.proofs.Writing.{Merging}
use Rattle.entry_merge.proofs.merge.Given as goal

-- each turn takes a pair of one tree
abbrev pub invariant-loop : goal.invariant-loop
invariant-loop l = Merging l.a l.b l.slots l.initial.t l.t l.w l.i l.j × (l.i + l.j ≡ l.counter)
