-- The calls of the request registry on its plain meaning, as document 01 has them.
use Rattle.std.specs.Prelude.{ℕ, Bool, cond, ltb, Option, None}
use Rattle.state.specs.Outcome.{Outcome, refuse, done}
use Rattle.state.specs.declared.Refusal.TheVariants.{EntryRange, Range, Registered, Occupied, NotRegistered}
use Rattle.entry_tree.specs.Pairs.{pair, has_entry, has_subject, without, inserted}
use Rattle.entry_tree.specs.Walks.{first_on}
use Rattle.rx_req.specs.Registry.{Registry}

unfoldable pub register : ℕ → ℕ → Registry → Outcome (Unit {0}) Registry
register e x m =
    cond (ltb 127 e) (refuse EntryRange) (
    cond (ltb 511 x) (refuse Range) (
    cond (has_entry e m) (refuse Registered) (
    cond (has_subject x m) (refuse Occupied) (
    done tt (inserted (pair e x) m)))))

unfoldable pub unregister : ℕ → Registry → Outcome (Unit {0}) Registry
unregister e m =
    cond (ltb 127 e) (refuse EntryRange) (
    cond (has_entry e m) (done tt (without e m)) (
    refuse NotRegistered))

-- a frame goes to the one entry of its service, and a loop-back frame to none
unfoldable pub poll_push : ℕ → Bool → Registry → Outcome (Option ℕ) Registry
poll_push x loop_back m = cond (ltb 511 x) (refuse Range) (done (cond loop_back None (first_on x m)) m)

-- ---- every call but opening

pub data Call : Type 0 where
  Register : ℕ → ℕ → Call
  Unregister : ℕ → Call
  PollPush : ℕ → Bool → Call

-- what a call answers
abbrev pub Answer : Call → Type 0
Answer (Register e x) = Unit {0}
Answer (Unregister e) = Unit {0}
Answer (PollPush x loop_back) = Option ℕ

abbrev pub step : (k : Call) → Registry → Outcome (Answer k) Registry
step (Register e x) = register e x
step (Unregister e) = unregister e
step (PollPush x loop_back) = poll_push x loop_back
