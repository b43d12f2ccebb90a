use Prim.Native.Nat.{◌-◌, ◌*◌}
use mathlib.Core.Path.{◌≡◌}
use Rattle.filter_image.specs.Image.{image_of, without_range, holds}
use Rattle.filter_image.proofs.clear_bytes.Given as goal

abbrev pub invariant-loop-i : goal.invariant-loop-i
invariant-loop-i l = l.s ≡ image_of (without_range (8 * l.first) (8 * l.i - 1) (holds l.initial.s))
