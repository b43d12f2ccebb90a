-- How the calls of the regular, loop-back and request registries end.
use Prim.Native.Nat.{ℕ, zero, suc, ◌+◌}
use mathlib.Core.Path.{◌≡◌, refl}
use mathlib.Core.Bool.{true, cond, not, ◌||◌}
use mathlib.Core.List.{List, ◌∷◌}
use Rattle.std.specs.Prelude.{Option, None, Some, Ok, Err}
use lib.Dec.{ltb, eqb}
use lib.ListN.{length}
use Rattle.state.specs.Lengths.{regular_length, loop_back_length, requests_length}
use Rattle.state.specs.Outcome.{Outcome}
use Rattle.entry_tree.specs.Pairs.{Place, has_entry, has_subject, place_of}
use Rattle.entry_tree.specs.Places as tree
use Rattle.entry_tree.specs.Walks.{first_on}
use Rattle.regular.specs.Registry as registry
use Rattle.regular.specs.Bytes as reg_bytes
use Rattle.regular.specs.Steps as reg
use Rattle.regular.specs.Calls as reg_calls
use Rattle.regular.specs.declared.FilterUpdate.{FilterUpdate}
use Rattle.regular.specs.declared.FilterUpdate.TheVariants.{AddSubject, RemoveSubjectRange}
use Rattle.loop_back.specs.Registry as loop_back
use Rattle.loop_back.specs.Bytes as lb_bytes
use Rattle.loop_back.specs.Steps as lb
use Rattle.loop_back.specs.Calls as lb_calls
use Rattle.rx_req.specs.Registry as requests
use Rattle.rx_req.specs.Bytes as req_bytes
use Rattle.rx_req.specs.Steps as req
use Rattle.rx_req.specs.Calls as req_calls
use Rattle.gomxeli.specs.Answers.{number, done, flag, option_first, pushed, updates}
use Rattle.gomxeli.specs.Calls.{RegOpen, RegUnregister, RegHubPushStart, RegRegister, RegPollPop, RegHubPushNext, LbOpen, LbHubPushNext, LbUnregister, LbHubPushStart, LbRegister, ReqOpen, ReqUnregister, ReqRegister, ReqPollPush}
use Rattle.refusals.specs.Refusals.{refusals}
use Rattle.refusals.proofs.Ends.{Ends, answers, either, alone, on-bytes, zero_number}

pushed-zero : (e : Option ℕ) → number (option_first e) ≡ 0
pushed-zero None = zero_number _ _ _
pushed-zero (Some e) = zero_number _ _ _

-- ---- regular

abbrev pub Regular : {A : Type 0} → List ℕ → (A → ℕ) → (registry.Registry → Outcome A registry.Registry) → Type 0
Regular l fields g = (m : registry.Registry) → Ends l fields (g m)

pub on-regular : {A : Type 0} {l : List ℕ} {fields : A → ℕ} {g : registry.Registry → Outcome A registry.Registry} (b : List ℕ) → Regular (1 ∷ l) fields g
    → Ends (1 ∷ l) fields (reg_calls.on g b)
on-regular {g} b h = on-bytes reg_bytes.whole_b reg_bytes.read g b refl h

pub reg_register : (e x : ℕ) → Regular (refusals (RegRegister e x)) flag (reg.register e x)
unfolding reg.register
reg_register e x m =
    either (ltb 127 e) (alone 2 refl refl) (
    either (ltb 8191 x) (alone 3 refl refl) (
    either (has_entry e m.inactive || has_entry e m.active) (alone 5 refl refl) (
    either (has_subject x m.inactive) (answers (zero_number _ _ _)) (
    either (has_subject x m.active) (answers (zero_number _ _ _)) (
    either (eqb m.slots 0) (alone 6 refl refl) (
    answers (zero_number _ _ _)))))))

reg_active : (e : ℕ) (p : Place) (g : reg.Gaps) (m : registry.Registry) → Ends (refusals (RegUnregister e)) flag (reg.unregister_active e p g m)
reg_active e p g m = either (ltb 65535 (m.slots + g.more)) (alone 9 refl refl) (answers (zero_number _ _ _))

pub reg_unregister : (e : ℕ) → Regular (refusals (RegUnregister e)) flag (reg.unregister e)
unfolding reg.unregister
reg_unregister e m =
    either (ltb 127 e) (alone 2 refl refl) (
    either (has_entry e m.inactive) (answers (zero_number _ _ _)) (
    either (has_entry e m.active) (reg_active e (place_of e m.active) (reg.gaps e (place_of e m.active) m.clean_up m.last_gap) m) (
    alone 8 refl refl)))

update_zero : (u : FilterUpdate) → number (updates (Some u)) ≡ 0
update_zero (AddSubject x) = zero_number _ _ _
update_zero (RemoveSubjectRange a b) = zero_number _ _ _

on_step_lem : {l : List ℕ} (s : reg.Says) (m : registry.Registry) (rest : Outcome (Option FilterUpdate) registry.Registry) → Ends l updates rest
    → Ends l updates (reg.on_step s m rest)
on_step_lem (Some (Ok update)) m rest h = answers (update_zero update)
on_step_lem (Some (Err again)) m rest h = h
on_step_lem None m rest h = answers (zero_number _ _ _)

steps : {l : List ℕ} (n : ℕ) → Regular l updates (reg.steps n)
unfolding reg.steps
steps zero m = answers (zero_number _ _ _)
steps (suc n) m = on_step_lem (reg.inner_step m).says (reg.inner_step m).then (reg.steps n (reg.inner_step m).then) (steps n (reg.inner_step m).then)

pub reg_poll : Regular (refusals RegPollPop) updates reg.poll_pop
unfolding reg.poll_pop
reg_poll m = steps (suc (length m.activation)) m

pub reg_start : (x : ℕ) → Regular (refusals (RegHubPushStart x)) flag (reg.hub_push_start x)
unfolding reg.hub_push_start
reg_start x m = either (ltb 8191 x) (alone 3 refl refl) (answers (zero_number _ _ _))

reg_push : {l : List ℕ} (w : Option ℕ) → Regular l pushed (reg.push_next w)
reg_push None m = answers (zero_number _ _ _)
reg_push (Some e) m = answers (zero_number _ _ _)

pub reg_next : Regular (refusals RegHubPushNext) pushed reg.hub_push_next
unfolding reg.hub_push_next
reg_next m = reg_push m.walk m

pub reg_open : (n slots : ℕ) → Ends (refusals (RegOpen slots)) done (reg_calls.opening n slots)
unfolding reg_calls.opening
reg_open n slots =
    either (eqb n regular_length) (either (ltb 65535 slots) (alone 3 refl refl) (answers (zero_number _ _ _))) (alone 1 refl refl)

-- ---- looped back

abbrev pub LoopBack : {A : Type 0} → List ℕ → (A → ℕ) → (loop_back.Registry → Outcome A loop_back.Registry) → Type 0
LoopBack l fields g = (m : loop_back.Registry) → Ends l fields (g m)

pub on_loop_back : {A : Type 0} {l : List ℕ} {fields : A → ℕ} {g : loop_back.Registry → Outcome A loop_back.Registry} (b : List ℕ) → LoopBack (1 ∷ l) fields g
    → Ends (1 ∷ l) fields (lb_calls.on g b)
on_loop_back {g} b h = on-bytes lb_bytes.whole_b lb_bytes.read g b refl h

pub lb-register : (e x : ℕ) → LoopBack (refusals (LbRegister e x)) done (lb.register e x)
unfolding lb.register
lb-register e x m =
    either (ltb 127 e) (alone 2 refl refl) (
    either (ltb 8191 x) (alone 3 refl refl) (
    either (has_entry e m.entries) (alone 5 refl refl) (
    answers (zero_number _ _ _))))

pub lb-unregister : (e : ℕ) → LoopBack (refusals (LbUnregister e)) done (lb.unregister e)
unfolding lb.unregister
lb-unregister e m =
    either (ltb 127 e) (alone 2 refl refl) (
    either (has_entry e m.entries) (answers (zero_number _ _ _)) (
    alone 8 refl refl))

pub lb-start : (x : ℕ) → LoopBack (refusals (LbHubPushStart x)) flag (lb.hub_push_start x)
unfolding lb.hub_push_start
lb-start x m = either (ltb 8191 x) (alone 3 refl refl) (answers (zero_number _ _ _))

lb_push : {l : List ℕ} (w : Option ℕ) → LoopBack l pushed (lb.push_next w)
lb_push None m = answers (zero_number _ _ _)
lb_push (Some e) m = answers (zero_number _ _ _)

pub lb-next : LoopBack (refusals LbHubPushNext) pushed lb.hub_push_next
unfolding lb.hub_push_next
lb-next m = lb_push m.walk m

pub lb_open : (n : ℕ) → Ends (refusals LbOpen) done (lb_calls.opening n)
unfolding lb_calls.opening
lb_open n = either (eqb n loop_back_length) (answers (zero_number _ _ _)) (alone 1 refl refl)

-- ---- requests

abbrev pub Requests : {A : Type 0} → List ℕ → (A → ℕ) → (requests.Registry → Outcome A requests.Registry) → Type 0
Requests l fields g = (m : requests.Registry) → Ends l fields (g m)

pub on-requests : {A : Type 0} {l : List ℕ} {fields : A → ℕ} {g : requests.Registry → Outcome A requests.Registry} (b : List ℕ) → Requests (1 ∷ l) fields g
    → Ends (1 ∷ l) fields (req_calls.on g b)
on-requests {g} b h = on-bytes req_bytes.whole_b tree.read g b refl h

pub req_register : (e x : ℕ) → Requests (refusals (ReqRegister e x)) done (req.register e x)
unfolding req.register
req_register e x m =
    either (ltb 127 e) (alone 2 refl refl) (
    either (ltb 511 x) (alone 3 refl refl) (
    either (has_entry e m) (alone 5 refl refl) (
    either (has_subject x m) (alone 7 refl refl) (
    answers (zero_number _ _ _)))))

pub req_unregister : (e : ℕ) → Requests (refusals (ReqUnregister e)) done (req.unregister e)
unfolding req.unregister
req_unregister e m =
    either (ltb 127 e) (alone 2 refl refl) (
    either (has_entry e m) (answers (zero_number _ _ _)) (
    alone 8 refl refl))

pub req_push : (x f : ℕ) → Requests (refusals (ReqPollPush x f)) option_first (req.poll_push x (not (eqb f 0)))
unfolding req.poll_push
req_push x f m = either (ltb 511 x) (alone 3 refl refl) (answers (pushed-zero (cond (not (eqb f 0)) None (first_on x m))))

pub req_open : (n : ℕ) → Ends (refusals ReqOpen) done (req_calls.opening n)
unfolding req_calls.opening
req_open n = either (eqb n requests_length) (answers (zero_number _ _ _)) (alone 1 refl refl)
