-- The calls of the loop-back registry on its plain meaning, as document 01 has them.
use Rattle.std.specs.Prelude.{ℕ, Bool, cond, ltb, Option, None, Some, is_some}
use Rattle.state.specs.Outcome.{Outcome, refuse, done}
use Rattle.state.specs.declared.Refusal.TheVariants.{EntryRange, Range, Registered, NotRegistered}
use Rattle.entry_tree.specs.Pairs.{pair, Place, has_entry, without, inserted, place_of}
use Rattle.entry_tree.specs.Walks.{first, first_on, moved_past}
use Rattle.entry_tree.specs.declared.walk.Pushed.{Pushed}
use Rattle.loop_back.specs.Registry.{Registry}

-- e joins, last of its subject
abbrev pub joins : ℕ → ℕ → Registry → Registry
joins e x m = record { entries = inserted (pair e x) m.entries; walk = m.walk }

unfoldable pub register : ℕ → ℕ → Registry → Outcome (Unit {0}) Registry
register e x m =
    cond (ltb 127 e) (refuse EntryRange) (
    cond (ltb 8191 x) (refuse Range) (
    cond (has_entry e m.entries) (refuse Registered) (
    done tt (joins e x m))))

-- where a walk goes on from an entry's place, and where the entry's removal moves it: to the next entry, whatever its subject,
-- because no loop-back entry is a head
abbrev pub goes_on : Place → Option ℕ
goes_on p = first p.rest

abbrev pub leaves : ℕ → Registry → Registry
leaves e m = record { entries = without e m.entries; walk = moved_past e (goes_on (place_of e m.entries)) m.walk }

unfoldable pub unregister : ℕ → Registry → Outcome (Unit {0}) Registry
unregister e m =
    cond (ltb 127 e) (refuse EntryRange) (
    cond (has_entry e m.entries) (done tt (leaves e m)) (
    refuse NotRegistered))

-- ---- walking

abbrev pub with_walk : Option ℕ → Registry → Registry
with_walk w m = record { entries = m.entries; walk = w }

-- whether an entry is pointed at
unfoldable pub hub_push_start : ℕ → Registry → Outcome Bool Registry
hub_push_start x m = cond (ltb 8191 x) (refuse Range) (done (is_some (first_on x m.entries)) (with_walk (first_on x m.entries) m))

abbrev pub push_next : Option ℕ → Registry → Outcome (Option Pushed) Registry
push_next None m = done None m
push_next (Some e) m =
    done (Some (record { entry = e; more = is_some (goes_on (place_of e m.entries)) })) (with_walk (goes_on (place_of e m.entries)) m)

unfoldable pub hub_push_next : Registry → Outcome (Option Pushed) Registry
hub_push_next m = push_next m.walk m

-- ---- every call but opening

pub data Call : Type 0 where
  Register : ℕ → ℕ → Call
  Unregister HubPushStart : ℕ → Call
  HubPushNext : Call

-- what a call answers
abbrev pub Answer : Call → Type 0
Answer (Register e x) = Unit {0}
Answer (Unregister e) = Unit {0}
Answer (HubPushStart x) = Bool
Answer HubPushNext = Option Pushed

abbrev pub step : (k : Call) → Registry → Outcome (Answer k) Registry
step (Register e x) = register e x
step (Unregister e) = unregister e
step (HubPushStart x) = hub_push_start x
step HubPushNext = hub_push_next
