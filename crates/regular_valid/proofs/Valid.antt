-- Every call, and every inner step of a poll, keeps a whole registry whole.
use Prim.Native.Nat.{ℕ, ◌≤◌}
use mathlib.Core.Bool.{Bool}
use native.Mathlib.Omega.{arith}
use Rattle.state.specs.Outcome.{left}
use Rattle.regular.specs.Registry.{Registry}
use Rattle.regular.specs.Steps.{Call, Register, Unregister, HubPushStart, PollPop, HubPushNext, step, inner_step}
use Rattle.regular_valid.specs.Means.{Valid}
use Rattle.regular_valid.specs.Moves as moves
use Rattle.regular_valid.specs.Moves.{Registered}
use Rattle.regular_valid.proofs.Facts.{Facts, facts_of, whole_of, inside_of}
use Rattle.regular_valid.proofs.Sound.{exactly, exact-sound}
use Rattle.regular_valid.proofs.Inv.{Inv, waiting, inv_of}
use Rattle.regular_valid.proofs.Calls.{Kept, register-kept, unregister-kept, start-kept, walk_kept}
use Rattle.regular_valid.proofs.Poll.{poll-kept, inner_sound, inner_slots}

pub step_kept : (k : Call) (m : Registry) (F : ℕ → Bool) (g : Registered) → Inv m F g → Kept k m F g (step k m)
step_kept (Register e x) m F g i = register-kept m F g i e x
step_kept (Unregister e) m F g i = unregister-kept m F g i e
step_kept (HubPushStart x) m F g i = start-kept m F g i x
step_kept PollPop m F g i = poll-kept m F g i
step_kept HubPushNext m F g i = walk_kept m F g i

-- ---- the facts

pub record Whole (m : Registry) : Type 0 where
  pub facts : Facts m
  pub room : m.slots ≤ 65535

pub step-whole : (k : Call) (m : Registry) → Whole m → Whole (left m (step k m))
step-whole k m w =
    let i = (step_kept k m (exactly m) (moves.lists (waiting m) m.active) (inv_of m w.facts w.room)).inv in
    record { facts = i.sound.facts; room = i.room }

pub inner_whole : (m : Registry) → Whole m → Whole (inner_step m).then
inner_whole m w = record { facts = (inner_sound m (exactly m) (exact-sound m w.facts)).facts; room = omega (arith, inner_slots m, w.room) }

-- ---- the test

pub valid-whole : (m : Registry) → Valid m → Whole m
valid-whole m f = record { facts = facts_of m f.whole (record { activation = λ e k. omega (arith, f.inside e k); clean_up = λ e k. omega (arith, f.inside e k) }); room = f.room }

pub whole_valid : (m : Registry) → Whole m → Valid m
whole_valid m w =
    let k = inside_of m w.facts in
    record { whole = whole_of m w.facts; inside = λ e h. omega (arith, k.activation e h, k.clean_up e h); room = w.room }

pub step_valid : (k : Call) (m : Registry) → Valid m → Valid (left m (step k m))
step_valid k m f = whole_valid (left m (step k m)) (step-whole k m (valid-whole m f))
