-- Demand 3: every call of a list keeps the invariant, and what the invariant tells of the polls that follow.
use Prim.Native.Nat.{ℕ, zero, suc, ◌+◌, ◌≤◌, ◌<◌}
use mathlib.Core.Path.{◌≡◌, refl, sym, ap, ◌∙◌}
use mathlib.Core.Bool.{Bool, true, false, cond, ◌||◌}
use mathlib.Core.List.{List, [], ◌∷◌}
use native.Mathlib.Omega.{arith}
use lib.ListN.{length}
use Rattle.state.specs.Seq.{to_nat}
use Rattle.std.specs.Prelude.{Result}
use Rattle.state.specs.Outcome as state
use Rattle.state.specs.Outcome.{Outcome}
use Rattle.state.specs.declared.Refusal.{Refusal}
use Rattle.state.proofs.Tests.{by_cond, not-both}
use Rattle.entry_tree.specs.Pairs.{pair, has_subject}
use Rattle.regular.specs.Registry.{Registry}
use Rattle.regular.specs.Bytes.{read}
use Rattle.regular.specs.Steps.{Call, Answer, step, Register, Unregister, HubPushStart, HubPushNext}
use Rattle.regular.specs.Calls.{on, bytes, opened_bytes, opening}
use Rattle.regular_valid.specs.Inner as moves
use Rattle.regular_valid.specs.Moves.{Registered, joined, taken}
use Rattle.regular_valid.proofs.Poll.{due}
use Rattle.regular_valid.proofs.Demand as demand
use Rattle.filter_image.specs.Image as image
use Rattle.gomxeli.specs.Answers.{answered, flag, accepted}
use Rattle.gomxeli.specs.Calls as calls
use Rattle.gomxeli.specs.Calls.{does, RegPollPop}
use Rattle.regular_runs.specs.Runs.{Part, Now, answer, after, part, covers, is_opened, is_nothing, is_add, is_removal, run, begin, NotOpened, Clear, updates, says_nothing, entries, Holds, Demand3}
use Rattle.regular_runs.proofs.Others as others
use Rattle.regular_runs.proofs.Replies.{joins, leaves}
use Rattle.regular_runs.proofs.Kept.{Good, state-long, good-begin, on-meaning, regular-kept, left-kept, refused-opening}
use Rattle.regular_runs.proofs.Polls.{poll-good, poll-taken, poll-clear, poll-exact, poll-less}

-- ---- one call

-- it keeps the invariant, and hands out no removal that covers an active subject
record Kept (c : calls.Call) (w : Now) : Type 0 where
  good : Good (after c w)
  clear : (x : ℕ) → covers (part c) (answer c w) x ≡ true → has_subject x w.registered.active ≡ false

-- registering and removing, which hand out no update: r are the lists where it is accepted
asked-good : (w : Now) → Good w → (k : Call) (fields : Answer k → ℕ) (r : Registered)
    → ((a : Result (Answer k) Refusal) → moves.moved k a w.registered ≡ cond (accepted (answered fields a)) r w.registered)
    → ((a : Result (Answer k) Refusal) (x : ℕ) → moves.put (moves.handed k a) (image.holds w.image) x ≡ image.holds w.image x)
    → Good (record {
      state = bytes w.state (on (step k) w.state);
      image = w.image;
      registered = cond (accepted (answered fields (state.answer (on (step k) w.state)))) r w.registered;
    })
asked-good w g k fields r q u =
    let a = state.answer (step k (read w.state)) in
    regular-kept k w g w.image (cond (accepted (answered fields (state.answer (on (step k) w.state)))) r w.registered) g.long (u a)
    (q a ∙ ap (λ (o : Outcome (Answer k) Registry). cond (accepted (answered fields (state.answer o))) r w.registered) (sym (on-meaning k w g)))

kept_by : (w : Now) → Good w → (c : calls.Call) → others.On w.state c → is_opened (part c) (answer c w) ≡ false → Kept c w
kept_by w g _ (others.leaves c p q) h = record {
  good = rw p (left-kept w g (does c w.state).bytes q);
  clear = λ x t. not-both (sym t ∙ ap (λ (k : Part). covers k (answer c w) x) p);
}
kept_by w g _ (others.opening n) h = record {
  good = left-kept w g (opened_bytes w.state (opening (length w.state) n)) (refused-opening w.state n h);
  clear = λ x t. not-both (sym t);
}
kept_by w g _ (others.register e x) h = record {
  good = asked-good w g (Register e x) flag (joined (pair e x) w.registered) (joins e x w.registered) (λ a y. refl);
  clear = λ y t. not-both (sym t);
}
kept_by w g _ (others.unregister e) h = record {
  good = asked-good w g (Unregister e) flag (taken e w.registered) (leaves e w.registered) (λ a y. refl);
  clear = λ x t. not-both (sym t);
}
kept_by w g _ others.poll h = record { good = poll-good w g; clear = poll-clear w g }
kept_by w g _ (others.start x) h = record {
  good = regular-kept (HubPushStart x) w g w.image w.registered g.long (λ y. refl) refl;
  clear = λ y t. not-both (sym t);
}
kept_by w g _ others.next h = record {
  good = regular-kept HubPushNext w g w.image w.registered g.long (λ y. refl) refl;
  clear = λ x t. not-both (sym t);
}

pub call-good : (w : Now) → Good w → (c : calls.Call) → is_opened (part c) (answer c w) ≡ false → Good (after c w)
call-good w g c h = (kept_by w g c (others.on c w.state (state-long w g)) h).good

-- ---- a list of calls

record AllKept (cs : List calls.Call) (w : Now) : Type 0 where
  good : Good (run cs w)
  clear : Clear cs w

all-kept : (cs : List calls.Call) (w : Now) → Good w → NotOpened cs w → AllKept cs w
unfolding run NotOpened Clear
all-kept [] w g h = record { good = g; clear = tt }
all-kept (c ∷ cs) w g h =
    let k : Kept c w = kept_by w g c (others.on c w.state (state-long w g)) h.0 in
    let r : AllKept cs (after c w) = all-kept cs (after c w) k.good h.1 in
    record { good = r.good; clear = (k.clear, r.clear) }

-- ---- the polls that follow

update-one : (t : Bool) → to_nat t ≤ 1
update-one true = omega arith
update-one false = omega arith

-- no more updates than are due
most : (k : ℕ) (w : Now) → Good w → updates k w ≤ due (read w.state)
unfolding updates
most zero w g = omega arith
most (suc k) w g =
    by_cond (λ (n : ℕ). n ≤ due (read w.state)) (is_nothing (answer RegPollPop w)) (λ t. omega arith)
    (λ t. omega (arith, poll-less w g t, most k (after RegPollPop w) (poll-good w g), update-one (is_add (answer RegPollPop w) || is_removal (answer RegPollPop w))))

or_else : (t s : Bool) → (t ≡ false → s ≡ true) → (t || s) ≡ true
or_else true s f = refl
or_else false s f = f refl

-- and 'nothing' once they are handed out
soon : (k : ℕ) (w : Now) → Good w → due (read w.state) < k → says_nothing k w ≡ true
unfolding says_nothing
soon zero w g h = absurd (omega (arith, h))
soon (suc k) w g h =
    or_else (is_nothing (answer RegPollPop w)) (says_nothing k (after RegPollPop w))
    (λ t. soon k (after RegPollPop w) (poll-good w g) (omega (arith, poll-less w g t)))

-- ---- the theorem

good-holds : (w : Now) → Good w → Holds w
good-holds w g =
    let b : due (read w.state) ≤ entries w + 1 = demand.bound (read w.state) (image.holds w.image) w.registered g.inv in
    record {
      taken = poll-taken w g;
      exact = poll-exact w g;
      few = λ k. omega (arith, most k w g);
      ends = soon _ w g (omega arith);
    }

pub demand-3 : Demand3
demand-3 = record {
  clear = λ n b i cs h l k o. (all-kept cs (begin n b i) (good-begin n b i (omega arith) l k) o).clear;
  holds = λ n b i cs h l k o. good-holds (run cs (begin n b i)) (all-kept cs (begin n b i) (good-begin n b i (omega arith) l k) o).good;
}
