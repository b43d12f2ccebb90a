-- Each call keeps a valid transmit queue valid.
use Prim.Native.Nat.{ℕ, suc, ◌+◌, ◌/◌, ◌<◌, ◌≤◌}
use mathlib.Core.Path.{◌≡◌, refl, sym, ap, ◌∙◌, subst}
use mathlib.Core.Logic.{◌≢◌}
use mathlib.Core.List.{List, [], ◌∷◌}
use Rattle.std.specs.Prelude.{Option, None, Some, is_some}
use Rattle.std.specs.Option.{unwrap_or}
use mathlib.Core.Bool.{Bool, true, false, cond, not, ◌&&◌, ◌||◌}
use native.Mathlib.Omega.{arith}
use native.Mathlib.Decide.{ℕ_discrete, dec_lt}
use lib.Dec.{eqb, ltb}
use lib.ListN.{length, get_or, length-set}
use lib.Seq.{get_or-set_same, get_or-set_other}
use borrow.Author.Tests.{ltb-false}
use Rattle.state.specs.Seq.{to_nat}
use Rattle.state.specs.Outcome.{Outcome, refuse, done, left}
use Rattle.state.specs.declared.Refusal.TheVariants.{EntryRange, Range, Registered, NotRegistered, PickOpen, BadFrame}
use Rattle.state.proofs.Tests.{and_r, not-both, by_cond}
use Rattle.multi_cycle_list.specs.Lists as lists
use Rattle.multi_cycle_list.specs.Lists.{count}
use Rattle.multi_cycle_list.proofs.Lists.{count_same}
use Rattle.emcyphal_core.specs.Sets.{has, without, is_empty}
use Rattle.emcyphal_core.proofs.Laws.{small}
use Rattle.tx_queue.specs.TxQueue.{Sets, Pick, TxQueue, place, sets_of, is_at, filled, first_from, first_queue, mtu_b, pick_b}
use Rattle.tx_queue.specs.Steps.{is_registered, is_open, requeued, becomes, with_mask, with_pick, sets, started_of, registers, updated, front, picked, picks, is_eot, inserted, settled, settles, wrong_frame, settle_on, settle_pick, wrong_priority, Call, Unregister, Register, Update, PickFrame, Settle, step, register, unregister, update, pick, settle}
use Rattle.tx_queue.specs.declared.Frame.{Frame}
use Rattle.tx_queue.proofs.Parts.{queue_of}
use Rattle.tx_queue.proofs.Reading.{place-below, Conditions, conditions, of_conditions}
use Rattle.tx_valid.specs.Means.{SetsFit, Valid}
use Rattle.tx_valid.proofs.Placed.{at-is, requeued-long, requeued-same, requeued-other, counts-once, counts-none}

-- ---- sets

-- sets that are bytes, if there are any
abbrev pub Fits : Option Sets → Type 0
Fits o = (s : Sets) → o ≡ Some s → SetsFit s

pub no-sets : {A : Type 0} (s : Sets) → ◌≡◌ {A = Option Sets} None (Some s) → A
no-sets s q = cc

pub same-sets : (a s : Sets) → ◌≡◌ {A = Option Sets} (Some a) (Some s) → a ≡ s
same-sets a s q = cc

pub fit_none : Fits None
fit_none s q = no-sets s q

pub fit-sets : (r t : ℕ) → r < 256 → t < 256 → Fits (sets r t)
fit-sets r t hr ht s q = subst (λ (z : Sets). SetsFit z) (same-sets (record { ready = r; started = t }) s q) (record { ready = hr; started = ht })

fit-started : (o : Option Sets) → Fits o → started_of o < 256
fit-started None f = omega arith
fit-started (Some s) f = (f s refl).started

not-false : (b : Bool) → not b ≡ false → b ≡ true
not-false true h = refl
not-false false h = not-both h

-- ---- the queue of a pick

-- the first of a masked priority, counted from j, has an entry
first-filled : (mask j : ℕ) (qs : List (List ℕ)) (k : ℕ) → first_from mask j qs ≡ Some k → (i : ℕ) × (k ≡ j + i) × (i < length qs) × (filled (get_or qs i []) ≡ true)
unfolding first_from
first-filled mask j [] k h = cc
first-filled mask j (q ∷ qs) k h = go (has mask (j / 2) && filled q) refl h (λ t. first-filled mask (suc j) qs k t)
  where
    go : (b : Bool) → (has mask (j / 2) && filled q) ≡ b → cond b (Some j) (first_from mask (suc j) qs) ≡ Some k
        → (first_from mask (suc j) qs ≡ Some k → (i : ℕ) × (k ≡ suc j + i) × (i < length qs) × (filled (get_or qs i []) ≡ true))
        → (i : ℕ) × (k ≡ j + i) × (i < suc (length qs)) × (filled (get_or (q ∷ qs) i []) ≡ true)
    go true t h r = let z : j ≡ k = cc in (0, omega arith, omega arith, and_r (has mask (j / 2)) (filled q) t)
    go false t h r = let w = r h in (suc w.0, omega (arith, w.1), omega (arith, w.2), w.3)

front-counted : (q : List ℕ) → filled q ≡ true → 1 ≤ count (front q) q
front-counted [] h = not-both (sym h)
front-counted (e ∷ q) h = omega (arith, count_same e e q refl)

front-inside : (q : List ℕ) → ((e : ℕ) → 128 ≤ e → count e q ≡ 0) → front q < 128
front-inside [] h = omega arith
front-inside (e ∷ q) h = elim (dec_lt e 128) [ yes l ↦ l | no l ↦ absurd (omega (arith, h e (omega arith), count_same e e q refl)) ]

-- ---- a valid queue

same-pick : (m : TxQueue) (x : ℕ) (o : Option Pick) → pick_b (with_mask x m) o ≡ pick_b m o
same-pick m x None = refl
same-pick m x (Some p) = refl

pub mask-valid : (m : TxQueue) → Valid m → (x : ℕ) → x < 256 → Valid (with_mask x m)
mask-valid m f x h =
    let c = conditions m f.whole in
    record {
      whole = of_conditions (with_mask x m) (record { entries = c.entries; queues = c.queues; placed = c.placed; pick = same-pick m x m.pick ∙ c.pick });
      inside = f.inside;
      sets = f.sets;
      mask = h;
      pick = f.pick;
    }

module _ (m : TxQueue) (f : Valid m) where
  c : Conditions m
  c = conditions m f.whole

  pub queue-valid : lists.Valid (queue_of m)
  queue-valid = record {
    sizes = rw c.queues;
    inside = λ e l. counts-none e m.queues (λ k h. f.inside e k l (omega (arith, c.queues)));
    once = λ e. elim (dec_lt e 128) [
      | yes l ↦ counts-once e (place (sets_of m e)) m.queues (λ k h. c.placed e k l (omega (arith, c.queues)))
      | no l ↦ omega (arith, counts-none e m.queues (λ k h. f.inside e k (omega arith) (omega (arith, c.queues))))
    ];
  }

  -- the entry e stands in the queue `from`, or it is placed anew
  module _ (e : ℕ) (from : Option ℕ) (o : Option Sets) (l : e < 128) (s : (p : ℕ) → from ≡ Some p → place (sets_of m e) ≡ Some p) (g : Fits o) where
    sets_same : sets_of (becomes e from o m) e ≡ o
    sets_same = get_or-set_same m.entries e o None (omega (arith, c.entries))

    sets-other : (x : ℕ) → x ≢ e → sets_of (becomes e from o m) x ≡ sets_of m x
    sets-other x n = get_or-set_other m.entries e x o None n

    placed : (x k : ℕ) → x < 128 → k < 16 → count x (get_or (requeued from (place o) e m.queues) k []) ≡ to_nat (is_at k (place (sets_of (becomes e from o m) x)))
    placed x k h i =
        elim (ℕ_discrete x e) [
          | yes q ↦
              rw (q, sets_same)
              (requeued-same e from (place o) m.queues c.queues k (place-below o) (λ p t w. c.placed e k l i ∙ ap (λ (z : Option ℕ). to_nat (is_at k z)) (s p t ∙ sym w)))
          | no q ↦ rw (sets-other x q) (requeued-other e from (place o) m.queues c.queues x k (place-below o) q ∙ c.placed x k h i)
        ]

    pub becomes-valid : Valid (becomes e from o m)
    becomes-valid = record {
      whole = of_conditions (becomes e from o m) (record {
        entries = length-set m.entries e o ∙ c.entries;
        queues = requeued-long e from (place o) m.queues c.queues;
        placed = placed;
        pick = refl;
      });
      inside = λ x k h i. requeued-other e from (place o) m.queues c.queues x k (place-below o) (omega arith) ∙ f.inside x k h i;
      sets = λ x t q. elim (ℕ_discrete x e) [
        | yes z ↦ g t (sym sets_same ∙ ap (λ (y : ℕ). sets_of (becomes e from o m) y) (sym z) ∙ q)
        | no z ↦ f.sets x t (sym (sets-other x z) ∙ q)
      ];
      mask = f.mask;
      pick = λ p q. cc;
    }

  pick-valid : (p : Pick) → mtu_b p.mtu ≡ true → (k : ℕ) → first_queue p.mask m ≡ Some k → p.mask < 256 → Valid (with_pick p m)
  pick-valid p t k q h = record {
    whole = of_conditions (with_pick p m) (record { entries = c.entries; queues = c.queues; placed = c.placed; pick = rw (t, q) });
    inside = f.inside;
    sets = f.sets;
    mask = f.mask;
    pick = λ x q. subst (λ (z : Pick). z.mask < 256) (let w : p ≡ x = cc in w) h;
  }

  -- ---- an open pick

  -- its queue is filled, and the front entry stands there
  pub pick-filled : (mask k : ℕ) → first_queue mask m ≡ Some k → (k < 16) × (filled (get_or m.queues k []) ≡ true)
  pick-filled mask k h = let r = first-filled mask 0 m.queues k h in let z : r.0 ≡ k = omega (arith, r.1) in (omega (arith, r.2, c.queues), rw z at r.3)

  pub picked-inside : (k : ℕ) → k < 16 → picked k m < 128
  picked-inside k l = front-inside (get_or m.queues k []) (λ e h. f.inside e k h l)

  pub picked-place : (k : ℕ) → k < 16 → filled (get_or m.queues k []) ≡ true → place (sets_of m (picked k m)) ≡ Some k
  picked-place k l h =
      let e = picked k m in
      at-is k (place (sets_of m e)) (counted (is_at k (place (sets_of m e))) (omega (arith, front-counted (get_or m.queues k []) h, c.placed e k (picked-inside k l) l)))
    where
      counted : (b : Bool) → 1 ≤ to_nat b → b ≡ true
      counted true l = refl
      counted false l = absurd (omega arith)

  -- ---- the calls

  abbrev Left : {A : Type 0} → Outcome A TxQueue → Type 0
  Left o = Valid (left m o)

  fit-own : (e : ℕ) → started_of (sets_of m e) < 256
  fit-own e = fit-started (sets_of m e) (f.sets e)

  -- an entry below 128, while no pick is open
  guarded : (e : ℕ) (o : Outcome Bool TxQueue) → (e ≤ 127 → Left o) → Left (cond (ltb 127 e) (refuse EntryRange) (cond (is_open m.pick) (refuse PickOpen) o))
  guarded e o g =
      by_cond Left (ltb 127 e) {a = refuse EntryRange} {b = cond (is_open m.pick) (refuse PickOpen) o} (λ _. f) (λ t.
      by_cond Left (is_open m.pick) {a = refuse PickOpen} {b = o} (λ _. f) (λ _. g (ltb-false 127 e t)))

  settles-valid : (r : ℕ) → r < 256 → (o : Option Frame) (k : ℕ) → picked k m < 128 → place (sets_of m (picked k m)) ≡ Some k → (mask : ℕ) → mask < 256
      → Left (settles o r (picked k m) k (started_of (sets_of m (picked k m))) mask m)
  settles-valid r h None k i s mask x =
      let e = picked k m in
      let t = started_of (sets_of m e) in
      mask-valid (becomes e (Some k) (sets r t) m) (becomes-valid e (Some k) (sets r t) i (λ p q. s ∙ q) (fit-sets r t h (fit-own e))) mask x
  settles-valid r h (Some frame) k i s mask x =
      let e = picked k m in
      let t = started_of (sets_of m e) in
      let w = without t (k / 2) in
      let v = inserted t (k / 2) in
      by_cond Left (is_eot frame) {a = settled e None r w m} {b = settled e (Some k) r v m}
      (λ _. becomes-valid e None (sets r w) i (λ p q. cc) (fit-sets r w h (small (λ p. has t p && not (eqb p (k / 2))))))
      (λ _. becomes-valid e (Some k) (sets r v) i (λ p q. s ∙ q) (fit-sets r v h (small (λ p. has t p || eqb p (k / 2)))))

  settle-on-valid : (r : ℕ) → r < 256 → (o : Option Frame) (p : Pick) → p.mask < 256 → (q : Option ℕ) → is_some q ≡ true → first_queue p.mask m ≡ q
      → Left (settle_on o r p (unwrap_or q (length m.queues)) m)
  settle-on-valid r h o p x None t q = not-both (sym t)
  settle-on-valid r h o p x (Some k) t q =
      let w = pick-filled p.mask k q in
      by_cond Left (wrong_frame o k p) {a = refuse BadFrame} {b = settles o r (picked k m) k (started_of (sets_of m (picked k m))) p.mask m}
      (λ _. f)
      (λ _. settles-valid r h o k (picked-inside k w.0) (picked-place k w.0 w.1) p.mask x)

  settle-valid : (r : ℕ) → r < 256 → (o : Option Frame) (p : Option Pick) → m.pick ≡ p → Left (settle_pick o r p m)
  settle-valid r h o None q = f
  settle-valid r h o (Some p) q =
      let w = subst (λ (z : Option Pick). pick_b m z ≡ true) q c.pick in
      settle-on-valid r h o p (f.pick p q) (first_queue p.mask m) (and_r (mtu_b p.mtu) (is_some (first_queue p.mask m)) w) refl

  picks-valid : (mask mtu : ℕ) → mask < 256 → mtu_b mtu ≡ true → (q : Option ℕ) → first_queue mask m ≡ q → Left (picks mask mtu q m)
  picks-valid mask mtu h t (Some k) q = pick-valid (record { mask = mask; mtu = mtu }) t k q h
  picks-valid mask mtu h t None q = mask-valid m f (cond (is_empty mask) m.mask mask) (by_cond (λ (x : ℕ). x < 256) (is_empty mask) (λ _. f.mask) (λ _. h))

  keeps : (k : Call) → Left (step k m)
  unfolding register unregister update pick settle
  keeps (Unregister e) =
      let o = done false (becomes e (place (sets_of m e)) None m) in
      guarded e (cond (is_registered (sets_of m e)) o (refuse NotRegistered)) (λ l.
      by_cond Left (is_registered (sets_of m e)) {a = o} {b = refuse NotRegistered} (λ _. becomes-valid e (place (sets_of m e)) None (omega arith) (λ p q. q) fit_none) (λ _. f))
  keeps (Register e r h) =
      guarded e (cond (is_registered (sets_of m e)) (refuse Registered) (registers e r m)) (λ l.
      by_cond Left (is_registered (sets_of m e)) {a = refuse Registered} {b = registers e r m} (λ _. f) (λ _.
      becomes-valid e None (sets r 0) (omega arith) (λ p q. cc) (fit-sets r 0 h (omega arith))))
  keeps (Update e r h) =
      let t = started_of (sets_of m e) in
      let o = updated e (place (sets_of m e)) r t m in
      guarded e (cond (is_registered (sets_of m e)) o (refuse NotRegistered)) (λ l.
      by_cond Left (is_registered (sets_of m e)) {a = o} {b = refuse NotRegistered}
      (λ _. becomes-valid e (place (sets_of m e)) (sets r t) (omega arith) (λ p q. q) (fit-sets r t h (fit-own e)))
      (λ _. f))
  keeps (PickFrame mask mtu h) =
      let o = picks mask mtu (first_queue mask m) m in
      by_cond Left (not (mtu_b mtu)) {a = refuse Range} {b = cond (is_open m.pick) (refuse PickOpen) o} (λ _. f) (λ t.
      by_cond Left (is_open m.pick) {a = refuse PickOpen} {b = o} (λ _. f) (λ _. picks-valid mask mtu h (not-false (mtu_b mtu) t) (first_queue mask m) refl))
  keeps (Settle o r h) =
      by_cond Left (wrong_priority o) {a = refuse Range} {b = settle_pick o r m.pick m} (λ _. f) (λ _. settle-valid r h o m.pick refl)

pub step_valid : (k : Call) (m : TxQueue) → Valid m → Valid (left m (step k m))
step_valid k m f = keeps m f k
