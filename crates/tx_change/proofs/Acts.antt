-- What each change leaves: one law for each, from the parts that it stores.
use Prim.Native.Nat.{ℕ, ◌+◌, ◌<◌}
use mathlib.Core.Path.{◌≡◌, refl, sym, ap, ◌∙◌}
use mathlib.Core.List.{List, [], ◌∷◌, ◌++◌}
use Rattle.std.specs.Prelude.{Option, Some, None}
use mathlib.Core.Bool.{true, false, cond}
use native.Mathlib.Omega.{arith}
use lib.Dec.{eqb}
use lib.ListN.{length, get_or, set, drop, replicate, length-replicate, get_or-replicate, take-append-drop}
use borrow.Rule.Slice.PartMut.{put_mid}
use Rattle.state.specs.Outcome.{Bytes}
use Rattle.state.specs.Seq.{each}
use Rattle.state.proofs.Seq.{each_same, get_d_each}
use Rattle.multi_cycle_list.specs.Lists.{Lists, without_entry, moved_back, empty}
use Rattle.multi_cycle_list.specs.Nodes as nodes
use Rattle.multi_cycle_list.specs.Laid as lists
use Rattle.multi_cycle_list.proofs.Laid as lists_laid
use Rattle.tx_queue.specs.TxQueue.{Sets, Pick, TxQueue, fresh, place, sets_of, is_at}
use Rattle.tx_queue.specs.Bytes.{queue_part, ready_at, started_at, flag_at, read, whole_b, ready_over, started_over, flag_over, pick_mask_over, mtu_of, laid}
use Rattle.tx_queue.specs.Steps.{requeued, becomes, with_mask, with_pick, sets}
use Rattle.tx_queue.proofs.Parts.{Joined, split, tail_of, queue_of, ready_laid, started_laid, flags_laid, tail_laid, laid-joined, flag_at_lem, put-queue, set-ready, set-started, set-flag, set-tail, laid_from}
use Rattle.tx_queue.proofs.Reading.{known, queues-long}
use Rattle.tx_valid.proofs.Placed.{requeued-long}
use Rattle.tx_valid.proofs.Mean.{none-at}
use Rattle.tx_valid.proofs.Reading.{split-whole, queue-read, queue-self, ready-self, started-self, flag-self, tail-self, laid_read, part-set, part-kept}
use Rattle.tx_change.specs.Inner.{with_queues, with_sets}

-- ---- opening

opened : (b : List ℕ) → length b ≡ 677 → ((i : ℕ) → i < 677 → get_or b i 0 ≡ 0) → put_mid 0 290 b (lists.laid (empty 16 128)) ≡ laid fresh b
opened b l z =
    laid_from fresh b (put-queue b (queue_part b) (each 128 (ready_at b)) (each 128 (started_at b)) (each 128 (flag_at b)) (tail_of b) (split b l) (lists.laid (empty 16 128)) (lists_laid.out-length 16 128 (lists.arcs 16 0 (replicate 16 []))))
    refl
    (each_same 128 (ready_at b) (λ e. ready_over (sets_of fresh e) (ready_at b e)) (λ e h. ap (λ (o : Option Sets). ready_over o (ready_at b e)) (sym (none-at 128 e))))
    (each_same 128 (started_at b) (λ e. started_over (sets_of fresh e) (started_at b e)) (λ e h. ap (λ (o : Option Sets). started_over o (started_at b e)) (sym (none-at 128 e))))
    (each_same 128 (flag_at b) (λ e. flag_over (sets_of fresh e) (flag_at b e)) (λ e h. z (546 + e) (omega arith) ∙ ap (λ (o : Option Sets). flag_over o (flag_at b e)) (sym (none-at 128 e))))
    (λ k. z 674 (omega arith) k ∷ (get_or b 675 0 ∷ (z 676 (omega arith) k ∷ [])))

-- the bytes s are all 0
pub opened-zeros : (s : List ℕ) → s ≡ replicate 677 0 → put_mid 0 290 s (lists.laid (empty 16 128)) ≡ laid fresh (replicate 677 0)
opened-zeros s q =
    opened s (ap length q ∙ length-replicate {A = ℕ} 677 0) (λ i l. ap (λ (z : List ℕ). get_or z i 0) q ∙ get_or-replicate {A = ℕ} 677 i 0 0 l)
    ∙ ap (λ (z : List ℕ). laid fresh z) q

-- ---- whole bytes

module _ (s : List ℕ) (y : Bytes s) (h : whole_b s ≡ true) (e : ℕ) (he : e < 128) where
  abbrev m : TxQueue
  m = read s

  -- the queues

  module _ (from : Option ℕ) where
    pub requeue_out : (p : List ℕ) → p ≡ lists.laid (without_entry e (nodes.read (queue_part s))) → put_mid 0 290 s p ≡ with_queues s (requeued from None e m.queues)
    requeue_out p q = ap (λ (z : List ℕ). z ++ drop 290 s) (q ∙ ap (λ (z : Lists). lists.laid (without_entry e z)) (queue-read s y h))

    module _ (to : ℕ) where
      pub requeue_back : is_at to from ≡ false → (p : List ℕ) → p ≡ lists.laid (moved_back to e (nodes.read (queue_part s))) → put_mid 0 290 s p ≡ with_queues s (requeued from (Some to) e m.queues)
      requeue_back n p q = rw n (ap (λ (z : List ℕ). z ++ drop 290 s) (q ∙ ap (λ (z : Lists). lists.laid (moved_back to e z)) (queue-read s y h)))

      pub requeue_same : is_at to from ≡ true → s ≡ with_queues s (requeued from (Some to) e m.queues)
      requeue_same q = rw q (sym (take-append-drop 290 s) ∙ ap (λ (z : List ℕ). z ++ drop 290 s) (queue-self s y h))

  module _ (from to : Option ℕ) where
    abbrev Q : List ℕ
    Q = lists.laid (record { entries = 128; rows = requeued from to e m.queues })

    J : Joined (with_queues s (requeued from to e m.queues)) Q (each 128 (ready_at s)) (each 128 (started_at s)) (each 128 (flag_at s)) (tail_of s)
    J =
        let n = requeued-long e from to m.queues (queues-long s (known s h).sizes) in
        put-queue s (queue_part s) (each 128 (ready_at s)) (each 128 (started_at s)) (each 128 (flag_at s)) (tail_of s) (split-whole s y h) Q
        (lists_laid.out-length (length (requeued from to e m.queues)) 128 (lists.arcs (length (requeued from to e m.queues)) 0 (requeued from to e m.queues)) ∙ omega (arith, n))

  -- the entry gets the sets

  pub became : (from : Option ℕ) (ready started : ℕ) → set (with_sets (with_queues s (requeued from (place (sets ready started)) e m.queues)) e ready started) 676 0 ≡ laid (becomes e from (sets ready started) m) s
  became from ready started =
      let o = sets ready started in
      let q = Q from (place o) in
      let r = each 128 (ready_at s) in
      let t = each 128 (started_at s) in
      let f = each 128 (flag_at s) in
      let w = tail_of s in
      let s1 = with_queues s (requeued from (place o) e m.queues) in
      let j1 = J from (place o) in
      let v = cond (eqb (flag_at s1 e) 0) 1 (flag_at s1 e) in
      let j2 = set-ready s1 q r t f w j1 e ready he in
      let s2 = set s1 (290 + e) ready in
      let j3 = set-started s2 q (set r e ready) t f w j2 e started he in
      let s3 = set s2 (418 + e) started in
      let j4 = set-flag s3 q (set r e ready) (set t e started) f w j3 e v he in
      laid_from (becomes e from o m) s (set-tail (set s3 (546 + e) v) q (set r e ready) (set t e started) (set f e v) w j4 2 0)
      refl
      (part-set s (becomes e from o m) e o he refl (ready_at s) ready_over (ready-self s y h) (ready_over o (ready_at s e)) refl)
      (part-set s (becomes e from o m) e o he refl (started_at s) started_over (started-self s y h) (started_over o (started_at s e)) refl)
      (ap (λ (x : ℕ). set f e (cond (eqb x 0) 1 x)) (flag_at_lem s1 q r t f w j1 e he ∙ get_d_each 128 (flag_at s) e 0 he) ∙ part-set s (becomes e from o m) e o he refl (flag_at s) flag_over (flag-self s y h) (flag_over o (flag_at s e)) refl)
      refl

  -- the entry leaves

  pub left : m.pick ≡ None → (from : Option ℕ) (p : List ℕ) → p ≡ lists.laid (without_entry e (nodes.read (queue_part s))) → set (put_mid 0 290 s p) (546 + e) 0 ≡ laid (becomes e from None m) s
  left c from p q =
      ap (λ (z : List ℕ). set z (546 + e) 0) (requeue_out from p q)
      ∙ laid_from (becomes e from None m) s (set-flag (with_queues s (requeued from None e m.queues)) (Q from None) (each 128 (ready_at s)) (each 128 (started_at s)) (each 128 (flag_at s)) (tail_of s) (J from None) e 0 he)
      refl
      (part-kept s (becomes e from None m) e None he refl (ready_at s) ready_over (ready-self s y h) refl)
      (part-kept s (becomes e from None m) e None he refl (started_at s) started_over (started-self s y h) refl)
      (part-set s (becomes e from None m) e None he refl (flag_at s) flag_over (flag-self s y h) 0 refl)
      (tail-self s y h ∙ ap (λ (z : Option Pick). m.mask ∷ (pick_mask_over z (get_or s 675 0) ∷ (mtu_of z ∷ []))) c)

-- ---- the mask and the pick

-- a mask that is stored over what is laid
mask-over : (m : TxQueue) (b : List ℕ) → length m.queues ≡ 16 → (mask : ℕ) → set (laid m b) 674 mask ≡ laid (with_mask mask m) b
mask-over m b n mask =
    laid_from (with_mask mask m) b (set-tail (laid m b) (lists.laid (queue_of m)) (ready_laid m b) (started_laid m b) (flags_laid m b) (tail_laid m b) (laid-joined m b n) 0 mask)
    refl refl refl refl refl

module _ (s : List ℕ) (y : Bytes s) (h : whole_b s ≡ true) where
  pub masked : (mask : ℕ) → set s 674 mask ≡ laid (with_mask mask (read s)) s
  masked mask = ap (λ (z : List ℕ). set z 674 mask) (sym (laid_read s y h)) ∙ mask-over (read s) s (queues-long s (known s h).sizes) mask

  pub pick-opened : (mask mtu : ℕ) → set (set s 675 mask) 676 mtu ≡ laid (with_pick (record { mask = mask; mtu = mtu }) (read s)) s
  pick-opened mask mtu =
      let r = each 128 (ready_at s) in
      let t = each 128 (started_at s) in
      let f = each 128 (flag_at s) in
      let j = set-tail s (queue_part s) r t f (tail_of s) (split-whole s y h) 1 mask in
      laid_from (with_pick (record { mask = mask; mtu = mtu }) (read s)) s (set-tail (set s 675 mask) (queue_part s) r t f (set (tail_of s) 1 mask) j 2 mtu)
      (queue-self s y h)
      (each_same 128 (ready_at s) (λ e. ready_over (sets_of (read s) e) (ready_at s e)) (ready-self s y h))
      (each_same 128 (started_at s) (λ e. started_over (sets_of (read s) e) (started_at s e)) (started-self s y h))
      (each_same 128 (flag_at s) (λ e. flag_over (sets_of (read s) e) (flag_at s e)) (flag-self s y h))
      refl

-- a mask that is stored after an entry's place is
pub masked_after : (s : List ℕ) → whole_b s ≡ true → (e : ℕ) (from : Option ℕ) (o : Option Sets) (mask : ℕ)
    → set (laid (becomes e from o (read s)) s) 674 mask ≡ laid (with_mask mask (becomes e from o (read s))) s
masked_after s h e from o mask = mask-over (becomes e from o (read s)) s (requeued-long e from (place o) (read s).queues (queues-long s (known s h).sizes)) mask

-- what the stores of a pick leave
pub ruleset stores = (laid_read, masked, pick-opened)
