-- The example's calls, computed on the plain meaning.
use Prim.Native.Nat.{ℕ, zero, suc, ◌+◌}
use mathlib.Core.Path.{◌≡◌, refl, ap, ◌∙◌}
use mathlib.Core.Bool.{Bool, false, cond, ◌||◌}
use mathlib.Core.List.{List, [], ◌∷◌, map}
use native.Mathlib.Omega.{arith}
use lib.ListN.{length}
use Rattle.state.specs.Seq.{to_nat}
use Rattle.state.specs.Outcome as state
use Rattle.state.specs.Outcome.{left}
use Rattle.multi_cycle_list.specs.Lists as queues
use Rattle.regular.specs.Registry.{Registry, fresh}
use Rattle.regular.specs.Bytes.{read}
use Rattle.regular.specs.Steps.{Call, Answer, step, Register, Unregister, HubPushStart, PollPop, HubPushNext, register, unregister, steps, poll_pop}
use Rattle.regular.specs.Calls.{on, bytes}
use Rattle.regular_valid.specs.Moves.{Registered, lists}
use Rattle.gomxeli.specs.Answers.{packed, answered, flag, updates as poll_fields, pushed}
use Rattle.gomxeli.specs.Calls as exports
use Rattle.gomxeli.specs.Calls.{does, writes, Outcome, RegUnregister, RegHubPushStart, RegRegister, RegPollPop, RegHubPushNext}
use Rattle.regular_runs.specs.Runs.{Now, answer, after, moved, part, is_opened, is_nothing, is_add, is_removal, run, begin, updates, says_nothing}
use Rattle.regular_runs.specs.Example.{calls, Full, Reached}
use Rattle.regular_runs.proofs.Kept.{Good, begin-means, good-begin, on-meaning, meaning-kept}
use Rattle.regular_runs.proofs.Polls.{poll-good}
use Rattle.regular_runs.proofs.Runs.{call-good}

-- ---- lists of the registry's own calls, on the meaning

record Plain : Type 0 where
  meaning : Registry
  registered : Registered

abbrev exported : Call → exports.Call
exported (Register e x) = RegRegister e x
exported (Unregister e) = RegUnregister e
exported (HubPushStart x) = RegHubPushStart x
exported PollPop = RegPollPop
exported HubPushNext = RegHubPushNext

-- how an answer packs
abbrev fields : (k : Call) → Answer k → ℕ
fields (Register e x) = flag
fields (Unregister e) = flag
fields (HubPushStart x) = flag
fields PollPop = poll_fields
fields HubPushNext = pushed

abbrev number : Call → Registry → ℕ
number k m = answered (fields k) (state.answer (step k m))

abbrev plain_after : Call → Plain → Plain
plain_after k p = record { meaning = left p.meaning (step k p.meaning); registered = moved (part (exported k)) (number k p.meaning) p.registered }

abbrev plain_run : List Call → Plain → Plain
plain_run [] p = p
plain_run (k ∷ ks) p = plain_run ks (plain_after k p)

record At (w : Now) (p : Plain) : Type 0 where
  good : Good w
  means : read w.state ≡ p.meaning
  same : w.registered ≡ p.registered

does-step : (k : Call) (b : List ℕ) → does (exported k) b ≡ writes (fields k) bytes b (on (step k) b)
does-step (Register e x) b = refl
does-step (Unregister e) b = refl
does-step (HubPushStart x) b = refl
does-step PollPop b = refl
does-step HubPushNext b = refl

not_opened : (k : Call) (a : ℕ) → is_opened (part (exported k)) a ≡ false
not_opened (Register e x) a = refl
not_opened (Unregister e) a = refl
not_opened (HubPushStart x) a = refl
not_opened PollPop a = refl
not_opened HubPushNext a = refl

answer-is : (k : Call) (w : Now) → Good w → answer (exported k) w ≡ number k (read w.state)
answer-is k w g = ap (λ (o : Outcome). o.answer) (does-step k w.state) ∙ ap (λ (r : state.Outcome (Answer k) Registry). answered (fields k) (state.answer r)) (on-meaning k w g)

meaning-is : (k : Call) (w : Now) → Good w → read (after (exported k) w).state ≡ left (read w.state) (step k (read w.state))
meaning-is k w g = ap (λ (o : Outcome). read o.bytes) (does-step k w.state) ∙ meaning-kept k w g

at_after : (k : Call) (w : Now) (p : Plain) → At w p → At (after (exported k) w) (plain_after k p)
at_after k w p a = record {
  good = call-good w a.good (exported k) (not_opened k (answer (exported k) w));
  means = meaning-is k w a.good ∙ ap (λ (m : Registry). left m (step k m)) a.means;
  same = ap (λ (n : ℕ). moved (part (exported k)) n w.registered) (answer-is k w a.good ∙ ap (number k) a.means) ∙ ap (moved (part (exported k)) (number k p.meaning)) a.same;
}

at-run : (ks : List Call) (w : Now) (p : Plain) → At w p → At (run (map exported ks) w) (plain_run ks p)
unfolding run
at-run [] w p a = a
at-run (k ∷ ks) w p a = at-run ks (after (exported k) w) (plain_after k p) (at_after k w p a)

-- ---- polls

abbrev plain_updates : ℕ → Registry → ℕ
plain_updates zero m = 0
plain_updates (suc k) m = cond (is_nothing (number PollPop m)) 0 (to_nat (is_add (number PollPop m) || is_removal (number PollPop m)) + plain_updates k (left m (poll_pop m)))

abbrev plain_nothing : ℕ → Registry → Bool
plain_nothing zero m = false
plain_nothing (suc k) m = is_nothing (number PollPop m) || plain_nothing k (left m (poll_pop m))

same-updates : (k : ℕ) (w : Now) → Good w → updates k w ≡ plain_updates k (read w.state)
unfolding updates
same-updates zero w g = refl
same-updates (suc k) w g =
    ap (λ (n : ℕ). cond (is_nothing n) 0 (to_nat (is_add n || is_removal n) + updates k (after RegPollPop w))) (answer-is PollPop w g)
    ∙ ap (λ (u : ℕ). cond (is_nothing (number PollPop (read w.state))) 0 (cond (is_add (number PollPop (read w.state)) || is_removal (number PollPop (read w.state))) 1 0 + u))
    (same-updates k (after RegPollPop w) (poll-good w g) ∙ ap (plain_updates k) (meaning-is PollPop w g))

same-nothing : (k : ℕ) (w : Now) → Good w → says_nothing k w ≡ plain_nothing k (read w.state)
unfolding says_nothing
same-nothing zero w g = refl
same-nothing (suc k) w g =
    ap (λ (n : ℕ). is_nothing n || says_nothing k (after RegPollPop w)) (answer-is PollPop w g)
    ∙ ap (λ (t : Bool). is_nothing (number PollPop (read w.state)) || t) (same-nothing k (after RegPollPop w) (poll-good w g) ∙ ap (plain_nothing k) (meaning-is PollPop w g))

-- ---- the example

abbrev Begin : Plain
Begin = record { meaning = fresh 4; registered = lists [] [] }

abbrev Own : List Call
Own = Register 0 50 ∷ Register 1 100 ∷ Register 2 300 ∷ PollPop ∷ PollPop ∷ PollPop ∷ Unregister 0 ∷ Unregister 2 ∷ []

abbrev End : Plain
End = plain_run Own Begin

full : (w : Now) → At w End → Full w
unfolding register unregister poll_pop steps packed queues.count queues.without
full w a = record {
  left = ap (λ (r : Registered). length r.waiting + length r.active) a.same;
  handed = same-updates 2 w a.good ∙ ap (plain_updates 2) a.means;
  later = same-nothing 2 w a.good ∙ ap (plain_nothing 2) a.means;
}

pub reached : Reached
reached = record {
  full = λ b i l k. full (run calls (begin 4 b i)) (at-run Own (begin 4 b i) Begin (record { good = good-begin 4 b i (omega arith) l k; means = begin-means 4 b i (omega arith) l; same = refl }));
}
