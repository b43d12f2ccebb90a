use Rattle.std.proofs.Common.{◌≡◌, true, ◌++◌, ◌+◌, ◌-◌, ◌*◌, ◌≤◌}
use Rattle.arrayvec.specs.ArrayString.{array_string_len}
use Rattle.calls_line.specs.Lines.{spaced, named, walked}
use Rattle.calls_line.proofs.printing.put_names.Given as goal

-- what is named from here on completes the walk, and its entries have at most 3 digits
abbrev pub invariant-loop : goal.invariant-loop
invariant-loop l =
    (l.out.bytes ++ spaced (named (128 - l.counter) true l.s) ≡ l.initial.out.bytes ++ spaced (named 128 true l.initial.s))
    × (walked (128 - l.counter) true l.s ≡ walked 128 true l.initial.s)
    × (array_string_len l.out ≤ 5 + 4 * l.counter)
