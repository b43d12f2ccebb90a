-- What the packed answers to registering and removing tell: accepted or not, and so whether the two lists move.
use Prim.Native.Nat.{ℕ}
use mathlib.Core.Path.{◌≡◌, refl}
use mathlib.Core.Bool.{Bool, false, cond}
use native.Mathlib.Omega.{arith}
use Rattle.std.specs.Prelude.{Result, Ok, Err}
use Rattle.state.specs.Seq.{to_nat}
use Rattle.state.specs.declared.Refusal as state
use Rattle.state.specs.declared.Refusal.TheVariants.{NotWhole, EntryRange, Range, BadImage, Registered, NoSubjectSlot, Occupied, NotRegistered, SlotsFull, PickOpen, NoPick, BadFrame, Size, NotTaken, NoKey, ValueGone, NoCall}
use Rattle.entry_tree.specs.Pairs.{pair}
use Rattle.regular.specs.Steps.{Register, Unregister}
use Rattle.regular_valid.specs.Inner.{moved}
use Rattle.regular_valid.specs.Moves as lists
use Rattle.regular_valid.specs.Moves.{joined, taken}
use Rattle.gomxeli.specs.Answers.{answered, flag, refused, accepted}
use Rattle.gomxeli.proofs.Fields.{number_of, accepted_of, refused_of}

-- no refusal's number is 0
pub not_accepted : (r : state.Refusal) → accepted (refused r) ≡ false
not_accepted NotWhole = refused_of 1 (omega arith) (omega arith)
not_accepted EntryRange = refused_of 2 (omega arith) (omega arith)
not_accepted Range = refused_of 3 (omega arith) (omega arith)
not_accepted BadImage = refused_of 4 (omega arith) (omega arith)
not_accepted Registered = refused_of 5 (omega arith) (omega arith)
not_accepted NoSubjectSlot = refused_of 6 (omega arith) (omega arith)
not_accepted Occupied = refused_of 7 (omega arith) (omega arith)
not_accepted NotRegistered = refused_of 8 (omega arith) (omega arith)
not_accepted SlotsFull = refused_of 9 (omega arith) (omega arith)
not_accepted PickOpen = refused_of 10 (omega arith) (omega arith)
not_accepted NoPick = refused_of 11 (omega arith) (omega arith)
not_accepted BadFrame = refused_of 12 (omega arith) (omega arith)
not_accepted Size = refused_of 13 (omega arith) (omega arith)
not_accepted (NotTaken key value) = rw (number_of 14 0 key value (omega arith)) refl
not_accepted NoKey = refused_of 15 (omega arith) (omega arith)
not_accepted ValueGone = refused_of 16 (omega arith) (omega arith)
not_accepted NoCall = refused_of 17 (omega arith) (omega arith)

pub joins : (e x : ℕ) (r : lists.Registered) (a : Result Bool state.Refusal) → moved (Register e x) a r ≡ cond (accepted (answered flag a)) (joined (pair e x) r) r
joins e x r (Ok wake) = rw (accepted_of (to_nat wake) 0 0) refl
joins e x r (Err n) = rw (not_accepted n) refl

pub leaves : (e : ℕ) (r : lists.Registered) (a : Result Bool state.Refusal) → moved (Unregister e) a r ≡ cond (accepted (answered flag a)) (taken e r) r
leaves e r (Ok wake) = rw (accepted_of (to_nat wake) 0 0) refl
leaves e r (Err n) = rw (not_accepted n) refl
