-- Each call keeps a valid registry valid: the queue by its own call, and an entry has a subject just as long as it is registered.
use Prim.Native.Nat.{ℕ, zero-le, ◌/◌, ◌<◌}
use mathlib.Core.Path.{◌≡◌, refl, sym, ap, ◌∙◌}
use mathlib.Core.Logic.{◌≢◌}
use mathlib.Core.List.{List}
use Rattle.std.specs.Prelude.{Option, None, Some, is_some, length}
use Rattle.std.specs.Option.{unwrap_or}
use mathlib.Core.Bool.{Bool, true, false, not}
use native.Mathlib.Omega.{arith}
use native.Mathlib.Decide.{ℕ_discrete}
use lib.Dec.{ltb}
use lib.Seq.{get_or-set_same, get_or-set_other}
use borrow.Author.Tests.{ltb-false}
use Rattle.state.specs.Seq.{to_nat}
use Rattle.state.specs.Outcome.{Outcome, refuse, done, left}
use Rattle.state.proofs.Tests.{and_r, not-both, by_cond}
use Rattle.entry_tree.specs.Pairs.{Pair, pair, count, is_entry, on_subject, has_entry, has_subject, inserted, without}
use Rattle.entry_tree.proofs.Count.{same, diff, compare_eq, any_false, true-any, false-any}
use Rattle.entry_tree.proofs.Changes.{inserted-count, inserted-range, without-range, without-count-same, without-count-other}
use Rattle.entry_tree.proofs.Once.{inserted-once, inserted_rising, without-once, without-rising}
use Rattle.emcyphal_core.specs.Sets as sets
use Rattle.tx_queue.specs.TxQueue.{Sets, Pick, TxQueue, place, sets_of, first_queue, mtu_b, pick_b}
use Rattle.tx_queue.specs.Steps as queue
use Rattle.tx_queue.specs.Steps.{is_registered, is_open, is_eot, becomes, started_of, picked, picks, settles, wrong_frame, settle_on, settle_pick, wrong_priority, Register, Update, PickFrame, Settle, Unregister}
use Rattle.tx_queue.specs.declared.Frame.{Frame}
use Rattle.tx_queue.proofs.Reading.{Conditions, conditions}
use Rattle.tx_valid.specs.Means as valid
use Rattle.tx_valid.proofs.Keeping as queues
use Rattle.tx_change.proofs.Looks.{placed_registered}
use Rattle.tx_msg.specs.Registry.{Registry}
use Rattle.tx_msg.specs.Steps as messages
use Rattle.tx_msg.specs.Steps.{with, Call, step, register}
use Rattle.tx_msg.specs.Means.{Valid}
use Rattle.tx_msg.proofs.Facts.{Named, Facts, facts_of, of_facts}

-- ---- who is registered

-- the same entries are registered
abbrev Same : TxQueue → TxQueue → Type 0
Same q p = (e : ℕ) → e < 128 → is_registered (sets_of p e) ≡ is_registered (sets_of q e)

module _ (q : TxQueue) (f : valid.Valid q) where
  c : Conditions q
  c = conditions q f.whole

  module _ (e : ℕ) (from : Option ℕ) (o : Option Sets) where
    own : e < 128 → sets_of (becomes e from o q) e ≡ o
    own l = get_or-set_same q.entries e o None (omega (arith, c.entries))

    other : (x : ℕ) → x ≢ e → sets_of (becomes e from o q) x ≡ sets_of q x
    other x n = get_or-set_other q.entries e x o None n

  -- an entry that is registered gets sets
  becomes-same : (e : ℕ) (from : Option ℕ) (s : Sets) → is_registered (sets_of q e) ≡ true → Same q (becomes e from (Some s) q)
  becomes-same e from s t x l = elim (ℕ_discrete x e) [
    | yes z ↦ rw z (ap is_registered (own e from (Some s) (omega arith)) ∙ sym t)
    | no z ↦ ap is_registered (other e from (Some s) x z)
  ]

  abbrev Keeps : {A : Type 0} → Outcome A TxQueue → Type 0
  Keeps o = Same q (left q o)

  as_is : Same q q
  as_is e l = refl

  settles-same : (o : Option Frame) (r e k t mask : ℕ) → is_registered (sets_of q e) ≡ true → Keeps (settles o r e k t mask q)
  settles-same None r e k t mask h = becomes-same e (Some k) (record { ready = r; started = t }) h
  settles-same (Some g) r e k t mask h = by_cond Keeps (is_eot g)
      (λ _. becomes-same e None (record { ready = r; started = sets.without t (k / 2) }) h)
      (λ _. becomes-same e (Some k) (record { ready = r; started = queue.inserted t (k / 2) }) h)

  -- the entry that a pick names is registered
  settle-on-same : (o : Option Frame) (r : ℕ) (p : Pick) (k : Option ℕ) → is_some k ≡ true → first_queue p.mask q ≡ k → Keeps (settle_on o r p (unwrap_or k (length q.queues)) q)
  settle-on-same o r p None t h = not-both (sym t)
  settle-on-same o r p (Some k) t h =
      let e = picked k q in
      let w = queues.pick-filled q f p.mask k h in
      by_cond Keeps (wrong_frame o k p) (λ _. as_is)
      (λ _. settles-same o r e k (started_of (sets_of q e)) p.mask (placed_registered (sets_of q e) k (queues.picked-place q f k w.0 w.1)))

  settle-same : (o : Option Frame) (r : ℕ) (p : Option Pick) → pick_b q p ≡ true → Keeps (settle_pick o r p q)
  settle-same o r None w = as_is
  settle-same o r (Some p) w = settle-on-same o r p (first_queue p.mask q) (and_r (mtu_b p.mtu) (is_some (first_queue p.mask q)) w) refl

  update_same : (e r : ℕ) → Keeps (queue.update e r q)
  unfolding queue.update
  update_same e r =
      by_cond Keeps (ltb 127 e) (λ _. as_is) (λ _.
      by_cond Keeps (is_open q.pick) (λ _. as_is) (λ _.
      by_cond Keeps (is_registered (sets_of q e)) (λ h. becomes-same e (place (sets_of q e)) (record { ready = r; started = started_of (sets_of q e) }) h) (λ _. as_is)))

  picks-same : (mask mtu : ℕ) (k : Option ℕ) → Keeps (picks mask mtu k q)
  picks-same mask mtu None = as_is
  picks-same mask mtu (Some k) = as_is

  pick_same : (mask mtu : ℕ) → Keeps (queue.pick mask mtu q)
  unfolding queue.pick
  pick_same mask mtu =
      by_cond Keeps (not (mtu_b mtu)) (λ _. as_is) (λ _.
      by_cond Keeps (is_open q.pick) (λ _. as_is) (λ _. picks-same mask mtu (first_queue mask q)))

  settled_same : (o : Option Frame) (r : ℕ) → Keeps (queue.settle o r q)
  unfolding queue.settle
  settled_same o r = by_cond Keeps (wrong_priority o) (λ _. as_is) (λ _. settle-same o r q.pick c.pick)

  -- ---- subjects as an entry joins and leaves

  joins-named : (l : List Pair) → Named l q → (e x : ℕ) (from : Option ℕ) (s : Sets) → Named (inserted (pair e x) l) (becomes e from (Some s) q)
  joins-named l n e x from s y i =
      let k = inserted-count (pair e x) (is_entry y) l in
      elim (compare_eq y e) [
        | same z t ↦ rw z (ap is_registered (own e from (Some s) (omega arith))) ∙ sym (true-any (is_entry y) (inserted (pair e x) l) (omega (arith, k, ap to_nat t)))
        | diff z t ↦
            let u : count (is_entry y) l ≡ count (is_entry y) (inserted (pair e x) l) = omega (arith, k, ap to_nat t) in
            ap is_registered (other e from (Some s) y z) ∙ n y i ∙ ap (ltb 0) u
      ]

  leaves-named : (l : List Pair) → Named l q → (e : ℕ) (from : Option ℕ) → Named (without e l) (becomes e from None q)
  leaves-named l n e from y i = elim (ℕ_discrete y e) [
    | yes z ↦ rw z (ap is_registered (own e from None (omega arith)) ∙ sym (false-any (is_entry e) (without e l) (without-count-same e l)))
    | no z ↦ ap is_registered (other e from None y z) ∙ n y i ∙ ap (ltb 0) (sym (without-count-other e y z l))
  ]

-- ---- the calls

module _ (m : Registry) (f : Valid m) where
  F : Facts m
  F = facts_of m f.whole

  -- the subjects stay, and who is registered
  kept : {A : Type 0} (o : Outcome A TxQueue) → valid.Valid (left m.queue o) → Same m.queue (left m.queue o) → Valid (left m (with m.subjects o))
  kept (refuse r) g s = f
  kept (done a p) g s = record {
    whole = of_facts (record { subjects = m.subjects; queue = p }) (record { queue = g.whole; range = F.range; once = F.once; rises = F.rises; named = λ e l. s e l ∙ F.named e l });
    queue = g;
  }

  abbrev Leaves : ℕ → Outcome Bool TxQueue → Type 0
  Leaves e o = valid.Valid (left m.queue o) → Valid (left m (with (without e m.subjects) o))

  unregister-valid : (e : ℕ) → Valid (left m (messages.unregister e m))
  unfolding queue.unregister
  unregister-valid e =
      by_cond (Leaves e) (ltb 127 e) (λ _ _. f) (λ _.
      by_cond (Leaves e) (is_open m.queue.pick) (λ _ _. f) (λ _.
      by_cond (Leaves e) (is_registered (sets_of m.queue e)) (λ _ g. record {
        whole = of_facts (record { subjects = without e m.subjects; queue = becomes e (place (sets_of m.queue e)) None m.queue }) (record {
          queue = g.whole;
          range = without-range e 8191 m.subjects F.range;
          once = without-once e m.subjects F.once;
          rises = without-rising e 0 m.subjects F.rises;
          named = leaves-named m.queue f.queue m.subjects F.named e (place (sets_of m.queue e));
        });
        queue = g;
      }) (λ _ _. f)))
      (queues.step_valid (Unregister e) m.queue f.queue)

  abbrev Left : {A : Type 0} → Outcome A Registry → Type 0
  Left o = Valid (left m o)

  register-valid : (e x r : ℕ) → r < 256 → Valid (left m (register e x r m))
  unfolding register queue.register
  register-valid e x r h =
      by_cond Left (ltb 127 e) (λ _. f) (λ te.
      by_cond Left (ltb 8191 x) (λ _. f) (λ tx.
      by_cond Left (is_open m.queue.pick) (λ _. f) (λ to.
      by_cond Left (is_registered (sets_of m.queue e)) (λ _. f) (λ tr.
      by_cond Left (has_subject x m.subjects) (λ _. f) (λ ts.
      let q : TxQueue = becomes e None (queue.sets r 0) m.queue in
      let g : valid.Valid q = rw (te, to, tr) at (queues.step_valid (Register e r h) m.queue f.queue) in
      let out : has_entry e m.subjects ≡ false = sym (F.named e (omega (arith, ltb-false 127 e te))) ∙ tr in
      record {
        whole = of_facts (record { subjects = inserted (pair e x) m.subjects; queue = q }) (record {
          queue = g.whole;
          range = inserted-range (pair e x) 8191 m.subjects (ltb-false 127 e te) (ltb-false 8191 x tx) F.range;
          once = inserted-once e x m.subjects out F.once;
          rises = inserted_rising (pair e x) 0 m.subjects zero-le (any_false (on_subject x) m.subjects ts) F.rises;
          named = joins-named m.queue f.queue m.subjects F.named e x None (record { ready = r; started = 0 });
        });
        queue = g;
      })))))

  keeps : (k : Call) → Valid (left m (step k m))
  keeps (messages.Unregister e) = unregister-valid e
  keeps (messages.Register e x r h) = register-valid e x r h
  keeps (messages.Update e r h) = kept (queue.update e r m.queue) (queues.step_valid (Update e r h) m.queue f.queue) (update_same m.queue f.queue e r)
  keeps (messages.PickFrame mask mtu h) = kept (queue.pick mask mtu m.queue) (queues.step_valid (PickFrame mask mtu h) m.queue f.queue) (pick_same m.queue f.queue mask mtu)
  keeps (messages.Settle o r h) = kept (queue.settle o r m.queue) (queues.step_valid (Settle o r h) m.queue f.queue) (settled_same m.queue f.queue o r)

pub step_valid : (k : Call) (m : Registry) → Valid m → Valid (left m (step k m))
step_valid k m f = keeps m f k
