-- The 64-bit answers of the exported functions: bits 0 to 7 the number, 8 to 15 what, 16 to 31 the first field, 32 to 63 the second.
-- The number is 0 where the call is accepted, and else document 01's number of the refusal.
use Rattle.std.specs.Prelude.{ℕ, ◌+◌, ◌*◌, ◌/◌, ◌%◌, Bool, cond, eqb, leb, Option, Some, None, Result, Ok, Err}
use Rattle.state.specs.Seq.{to_nat}
use Rattle.state.specs.Refusals as refusals
use Rattle.state.specs.declared.Refusal.{Refusal}
use Rattle.state.specs.declared.Refusal.TheVariants.{NotTaken}
use Rattle.emcyphal_core.specs.Priorities as priorities
use Rattle.emcyphal_core.specs.declared.Priority.{Priority}
use Rattle.entry_tree.specs.declared.walk.Pushed.{Pushed}
use Rattle.regular.specs.declared.FilterUpdate.{FilterUpdate}
use Rattle.regular.specs.declared.FilterUpdate.TheVariants.{AddSubject, RemoveSubjectRange}
use Rattle.tx_queue.specs.declared.Picked.{Picked}
use Rattle.tx_queue.specs.declared.Settled.{Settled}

unfoldable pub packed : ℕ → ℕ → ℕ → ℕ → ℕ
packed number what first second = number + 256 * what + 65536 * first + 4294967296 * second

-- the fields of a packed answer
abbrev pub number : ℕ → ℕ
number a = a % 256

abbrev pub what : ℕ → ℕ
what a = a / 256 % 256

abbrev pub first : ℕ → ℕ
first a = a / 65536 % 65536

abbrev pub second : ℕ → ℕ
second a = a / 4294967296

abbrev pub accepted : ℕ → Bool
accepted a = eqb (number a) 0

-- a refusal: its number, and the key and the value of an insert that was not taken
abbrev pub refused : Refusal → ℕ
refused (NotTaken key value) = packed 14 0 key value
refused r = packed (refusals.number r) 0 0 0

-- a call's answer, or why it is refused
abbrev pub answered : {A : Type 0} → (A → ℕ) → Result A Refusal → ℕ
answered fields (Ok a) = fields a
answered fields (Err r) = refused r

-- no more than that the call is accepted
abbrev pub done : Unit {0} → ℕ
done u = packed 0 0 0 0

abbrev pub flag : Bool → ℕ
flag b = packed 0 (to_nat b) 0 0

-- what may be missing: what 1 and the value, first or second, or what 0
abbrev pub option_first : Option ℕ → ℕ
option_first (Some x) = packed 0 1 x 0
option_first None = packed 0 0 0 0

abbrev pub option_second : Option ℕ → ℕ
option_second (Some x) = packed 0 1 0 x
option_second None = packed 0 0 0 0

-- a step of a walk: what 1, the entry first and 1 second where more follow, or what 0
abbrev pub pushed : Option Pushed → ℕ
pushed (Some p) = packed 0 1 p.entry (to_nat p.more)
pushed None = packed 0 0 0 0

-- a poll: what 1 and the subject added first, what 2 and the ends of the removed range, or what 0
abbrev pub updates : Option FilterUpdate → ℕ
updates (Some (AddSubject x)) = packed 0 1 x 0
updates (Some (RemoveSubjectRange a b)) = packed 0 2 a b
updates None = packed 0 0 0 0

-- a pick: what 1, the entry first and its priority second, or what 0
abbrev pub picked : Option Picked → ℕ
picked (Some p) = packed 0 1 p.entry (priorities.number p.priority)
picked None = packed 0 0 0 0

-- a settlement: what is 1 where it wakes, and the entry first
abbrev pub settled : Settled → ℕ
settled s = packed 0 (to_nat s.wake) s.entry 0

abbrev pub priority_answer : Option Priority → ℕ
priority_answer (Some p) = packed 0 1 (priorities.number p) 0
priority_answer None = packed 0 0 0 0

abbrev pub eot_answer : Option Bool → ℕ
eot_answer (Some b) = packed 0 1 (to_nat b) 0
eot_answer None = packed 0 0 0 0

-- an iterator's step: the priority first, then the set that is left
abbrev pub next_answer : Option Priority × ℕ → ℕ
next_answer (Some p, rest) = packed 0 1 (priorities.number p) rest
next_answer (None, rest) = packed 0 0 0 0

-- the answer of a call that takes a priority: 3 where it is above 7
abbrev pub with_priority : ℕ → ℕ → ℕ
with_priority p answer = cond (leb p 7) answer (packed 3 0 0 0)
