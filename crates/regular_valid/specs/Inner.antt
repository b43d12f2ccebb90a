-- How a call of the regular registry and its answer move *waiting*, *active* and the filter, for the laws call by call. No contract and no
-- theorem cites this: `Demand3` says the same of the exported calls and their answers' numbers.
use Rattle.std.specs.Prelude.{ℕ, Bool, false, not, ◌&&◌, ◌||◌, eqb, leb, Option, None, Some, Result, Ok, Err}
use Rattle.state.specs.declared.Refusal.{Refusal}
use Rattle.entry_tree.specs.Pairs.{pair}
use Rattle.regular.specs.Steps.{Call, Register, Unregister, HubPushStart, PollPop, HubPushNext, Answer}
use Rattle.regular.specs.declared.FilterUpdate.{FilterUpdate}
use Rattle.regular.specs.declared.FilterUpdate.TheVariants.{AddSubject, RemoveSubjectRange}
use Rattle.regular_valid.specs.Moves.{Registered, joined, taken, activated}

-- the update that a call's answer hands out
abbrev pub handed : (k : Call) → Result (Answer k) Refusal → Option FilterUpdate
handed (Register e x) a = None
handed (Unregister e) a = None
handed PollPop (Ok update) = update
handed PollPop (Err refusal) = None
handed (HubPushStart x) a = None
handed HubPushNext a = None

-- ---- the two lists

-- a poll's answer moves waiting pairs, unless it is a removal
abbrev pub polled : Option FilterUpdate → Registered → Registered
polled (Some (RemoveSubjectRange a b)) r = r
polled (Some (AddSubject x)) r = activated r.waiting r.active
polled None r = activated r.waiting r.active

-- the two lists after a call, by its answer alone; nothing else moves a pair
abbrev pub moved : (k : Call) → Result (Answer k) Refusal → Registered → Registered
moved (Register e x) (Ok wake) r = joined (pair e x) r
moved (Register e x) (Err refusal) r = r
moved (Unregister e) (Ok wake) r = taken e r
moved (Unregister e) (Err refusal) r = r
moved PollPop (Ok update) r = polled update r
moved PollPop (Err refusal) r = r
moved (HubPushStart x) a r = r
moved HubPushNext a r = r

-- ---- the filter: the subjects that pass

-- an update adds x; it removes a range that covers x
abbrev pub adds : FilterUpdate → ℕ → Bool
adds (AddSubject y) x = eqb x y
adds (RemoveSubjectRange a b) x = false

abbrev pub removes : FilterUpdate → ℕ → Bool
removes (AddSubject y) x = false
removes (RemoveSubjectRange a b) x = leb a x && leb x b

-- the filter after an update is put into it
abbrev pub into : FilterUpdate → (ℕ → Bool) → ℕ → Bool
into u F x = adds u x || (not (removes u x) && F x)

-- and after one that may be missing
abbrev pub put : Option FilterUpdate → (ℕ → Bool) → ℕ → Bool
put (Some u) F = into u F
put None F = F

abbrev pub covers : Option FilterUpdate → ℕ → Bool
covers (Some u) x = removes u x
covers None x = false
