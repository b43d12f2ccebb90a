-- The numbers of refusals, and what is refused for its range alone.
use Rattle.std.specs.Prelude.{ℕ, if◌then◌else◌, nat_lt, Result, Ok, Err}
use Rattle.state.specs.declared.Refusal.{Refusal}
use Rattle.state.specs.declared.Refusal.TheVariants.{NotWhole, EntryRange, Range, BadImage, Registered, NoSubjectSlot, Occupied, NotRegistered, SlotsFull, PickOpen, NoPick, BadFrame, Size, NotTaken, NoKey, ValueGone, NoCall}

abbrev pub number : Refusal → ℕ
number NotWhole = 1
number EntryRange = 2
number Range = 3
number BadImage = 4
number Registered = 5
number NoSubjectSlot = 6
number Occupied = 7
number NotRegistered = 8
number SlotsFull = 9
number PickOpen = 10
number NoPick = 11
number BadFrame = 12
number Size = 13
number (NotTaken key value) = 14
number NoKey = 15
number ValueGone = 16
number NoCall = 17

abbrev pub entry_of : ℕ → Result ℕ Refusal
entry_of e = if nat_lt 127 e then Err EntryRange else Ok e

abbrev pub up_to : ℕ → ℕ → Result ℕ Refusal
up_to most n = if nat_lt most n then Err Range else Ok n
