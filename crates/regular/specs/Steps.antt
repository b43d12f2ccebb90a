-- The calls of the regular registry on its plain meaning, as document 01 has them.
use Rattle.std.specs.Prelude.{ℕ, zero, suc, ◌+◌, ◌-◌, List, [], ◌∷◌, ◌++◌, Bool, true, false, cond, not, ◌&&◌, ◌||◌, eqb, leb, ltb, length, Option, None, Some, is_some, Result, Ok, Err}
use Rattle.state.specs.Seq.{to_nat}
use Rattle.state.specs.Outcome.{Outcome, refuse, done}
use Rattle.state.specs.declared.Refusal.TheVariants.{EntryRange, Range, Registered, NoSubjectSlot, NotRegistered, SlotsFull}
use Rattle.multi_cycle_list.specs.Lists as lists
use Rattle.entry_tree.specs.Pairs.{Pair, pair, Place, has_entry, has_subject, without, inserted, place_of, past}
use Rattle.entry_tree.specs.Walks.{first_on, next_on, moved_past}
use Rattle.entry_tree.specs.declared.walk.Pushed.{Pushed}
use Rattle.regular.specs.Registry.{Registry, queued}
use Rattle.regular.specs.declared.FilterUpdate.{FilterUpdate}
use Rattle.regular.specs.declared.FilterUpdate.TheVariants.{AddSubject, RemoveSubjectRange}
use Rattle.regular.specs.declared.CallAgain.{CallAgain}

-- ---- registering

-- e joins the inactive entries after its equals and the back of the activation queue; n slots are left
abbrev pub waits : ℕ → ℕ → ℕ → Registry → Registry
waits e x n m = record { inactive = inserted (pair e x) m.inactive; active = m.active; activation = m.activation ++ (e ∷ []); clean_up = m.clean_up; last_gap = m.last_gap; slots = n; walk = m.walk }

-- e joins the active entries, last of its subject
abbrev pub joins : ℕ → ℕ → Registry → Registry
joins e x m = record { inactive = m.inactive; active = inserted (pair e x) m.active; activation = m.activation; clean_up = m.clean_up; last_gap = m.last_gap; slots = m.slots; walk = m.walk }

-- whether that wakes
unfoldable pub register : ℕ → ℕ → Registry → Outcome Bool Registry
register e x m =
    cond (ltb 127 e) (refuse EntryRange) (
    cond (ltb 8191 x) (refuse Range) (
    cond (has_entry e m.inactive || has_entry e m.active) (refuse Registered) (
    cond (has_subject x m.inactive) (done false (waits e x m.slots m)) (
    cond (has_subject x m.active) (done false (joins e x m)) (
    cond (eqb m.slots 0) (refuse NoSubjectSlot) (
    done true (waits e x (m.slots - 1) m)))))))

-- ---- removing

-- what the removal of an active entry makes of the clean-up queue, the last-gap flag and the slot counter
pub record Gaps : Type 0 where
  pub clean_up : List ℕ
  pub last_gap : Bool
  pub more : ℕ

-- the head e of the subject x leaves, and q comes next: does q get a mark
abbrev pub new_mark : ℕ → ℕ → Pair → List ℕ → Bool
new_mark e x q marks = (queued e marks || ltb x q.subject) && not (queued q.entry marks)

abbrev pub head_gaps : ℕ → ℕ → List Pair → List ℕ → Bool → Gaps
head_gaps e x [] marks f = record { clean_up = lists.without e marks; last_gap = true; more = 1 }
head_gaps e x (q ∷ l) marks f = record { clean_up = lists.without e marks ++ cond (new_mark e x q marks) (q.entry ∷ []) []; last_gap = f; more = to_nat (new_mark e x q marks) }

-- a head is the first of its subject
abbrev pub is_head : Place → Bool
is_head p = leb p.from p.subject

abbrev pub gaps : ℕ → Place → List ℕ → Bool → Gaps
gaps e p marks f = cond (is_head p) (head_gaps e p.subject p.rest marks f) (record { clean_up = marks; last_gap = f; more = 0 })

-- where a walk goes on from an entry's place, and where the entry's removal moves it: to the next, if that is no head
abbrev pub goes_on : Place → Option ℕ
goes_on p = next_on p.subject p.rest

abbrev pub leaves : ℕ → Place → Gaps → Registry → Registry
leaves e p g m = record { inactive = m.inactive; active = without e m.active; activation = m.activation; clean_up = g.clean_up; last_gap = g.last_gap; slots = m.slots + g.more; walk = moved_past e (goes_on p) m.walk }

abbrev pub unregister_active : ℕ → Place → Gaps → Registry → Outcome Bool Registry
unregister_active e p g m = cond (ltb 65535 (m.slots + g.more)) (refuse SlotsFull) (done (ltb 0 g.more) (leaves e p g m))

abbrev pub leaves_inactive : ℕ → Registry → Registry
leaves_inactive e m = record { inactive = without e m.inactive; active = m.active; activation = lists.without e m.activation; clean_up = m.clean_up; last_gap = m.last_gap; slots = m.slots; walk = m.walk }

-- whether that wakes
unfoldable pub unregister : ℕ → Registry → Outcome Bool Registry
unregister e m =
    cond (ltb 127 e) (refuse EntryRange) (
    cond (has_entry e m.inactive) (done false (leaves_inactive e m)) (
    cond (has_entry e m.active) (unregister_active e (place_of e m.active) (gaps e (place_of e m.active) m.clean_up m.last_gap) m) (
    refuse NotRegistered)))

-- ---- polling

abbrev pub with_clean_up : List ℕ → Bool → Registry → Registry
with_clean_up marks f m = record { inactive = m.inactive; active = m.active; activation = m.activation; clean_up = marks; last_gap = f; slots = m.slots; walk = m.walk }

-- e, inactive on the subject x, becomes active, last of its subject
abbrev pub becomes_active : ℕ → ℕ → List ℕ → Registry → Registry
becomes_active e x activation m = record { inactive = without e m.inactive; active = inserted (pair e x) m.active; activation = activation; clean_up = m.clean_up; last_gap = m.last_gap; slots = m.slots; walk = m.walk }

-- what an inner step answers: an update, 'call again', or nothing
abbrev pub Says : Type 0
Says = Option (Result FilterUpdate CallAgain)

abbrev pub call_again : Says
call_again = Some (Err (record {}))

pub record Step : Type 0 where
  pub says : Says
  pub then : Registry

abbrev pub activates : ℕ → ℕ → List ℕ → Registry → Step
activates e x activation m = record { says = cond (has_subject x m.active) call_again (Some (Ok (AddSubject x))); then = becomes_active e x activation m }

-- by the clean-up queue, the last-gap flag and the activation queue
abbrev pub step_by : List ℕ → Bool → List ℕ → Registry → Step
step_by (e ∷ marks) f q m = record { says = Some (Ok (RemoveSubjectRange (place_of e m.active).from ((place_of e m.active).subject - 1))); then = with_clean_up marks f m }
step_by [] true q m = record { says = Some (Ok (RemoveSubjectRange (past 0 m.active) 8191)); then = with_clean_up [] false m }
step_by [] false [] m = record { says = None; then = m }
step_by [] false (e ∷ q) m = activates e (place_of e m.inactive).subject q m

abbrev pub inner_step : Registry → Step
inner_step m = step_by m.clean_up m.last_gap m.activation m

-- the step's answer, or the rest of the poll where it says 'call again'
abbrev pub on_step : Says → Registry → Outcome (Option FilterUpdate) Registry → Outcome (Option FilterUpdate) Registry
on_step (Some (Ok update)) m rest = done (Some update) m
on_step (Some (Err again)) m rest = rest
on_step None m rest = done None m

-- inner steps, at most n, until one hands out an update or finds nothing
unfoldable pub steps : ℕ → Registry → Outcome (Option FilterUpdate) Registry
steps zero m = done None m
steps (suc n) m = on_step (inner_step m).says (inner_step m).then (steps n (inner_step m).then)

-- a step that says 'call again' takes an entry off the activation queue: one step more than it has entries is enough
unfoldable pub poll_pop : Registry → Outcome (Option FilterUpdate) Registry
poll_pop m = steps (suc (length m.activation)) m

-- ---- walking

abbrev pub with_walk : Option ℕ → Registry → Registry
with_walk w m = record { inactive = m.inactive; active = m.active; activation = m.activation; clean_up = m.clean_up; last_gap = m.last_gap; slots = m.slots; walk = w }

-- whether an entry is pointed at
unfoldable pub hub_push_start : ℕ → Registry → Outcome Bool Registry
hub_push_start x m = cond (ltb 8191 x) (refuse Range) (done (is_some (first_on x m.active)) (with_walk (first_on x m.active) m))

-- the entry named, and whether more follow
abbrev pub push_at : ℕ → Place → Registry → Outcome (Option Pushed) Registry
push_at e p m = done (Some (record { entry = e; more = is_some (goes_on p) })) (with_walk (goes_on p) m)

abbrev pub push_next : Option ℕ → Registry → Outcome (Option Pushed) Registry
push_next None m = done None m
push_next (Some e) m = push_at e (place_of e m.active) m

unfoldable pub hub_push_next : Registry → Outcome (Option Pushed) Registry
hub_push_next m = push_next m.walk m

-- ---- every call but opening

pub data Call : Type 0 where
  Register : ℕ → ℕ → Call
  Unregister HubPushStart : ℕ → Call
  PollPop HubPushNext : Call

-- what a call answers
abbrev pub Answer : Call → Type 0
Answer (Register e x) = Bool
Answer (Unregister e) = Bool
Answer PollPop = Option FilterUpdate
Answer (HubPushStart x) = Bool
Answer HubPushNext = Option Pushed

abbrev pub step : (k : Call) → Registry → Outcome (Answer k) Registry
step (Register e x) = register e x
step (Unregister e) = unregister e
step PollPop = poll_pop
step (HubPushStart x) = hub_push_start x
step HubPushNext = hub_push_next
