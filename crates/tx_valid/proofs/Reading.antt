-- Whole bytes mean something valid, and are the bytes of what they mean.
use Prim.Native.Nat.{ℕ, zero, suc, ◌+◌, ◌<◌}
use mathlib.Core.Path.{◌≡◌, refl, sym, ap, ◌∙◌, subst}
use mathlib.Core.Logic.{◌≢◌}
use mathlib.Core.List.{List, [], ◌∷◌}
use Rattle.std.specs.Prelude.{Option, None, Some}
use mathlib.Core.Bool.{true, cond}
use native.Mathlib.Omega.{arith}
use native.Mathlib.Decide.{dec_lt, ℕ_discrete}
use lib.Dec.{eqb}
use lib.ListN.{get_or, set, get_or-eq_default}
use lib.Seq.{get_or-set_same, get_or-set_other, set-get_or}
use borrow.Author.Tests.{eq-eqb, ne_eqb}
use Rattle.state.specs.Outcome.{Bytes}
use Rattle.state.specs.Seq.{each}
use Rattle.state.proofs.Seq.{each_same, set-each, get_d_each}
use Rattle.multi_cycle_list.specs.Lists.{Lists}
use Rattle.multi_cycle_list.specs.Nodes as nodes
use Rattle.multi_cycle_list.specs.Laid as lists
use Rattle.multi_cycle_list.proofs.Laid as lists_laid
use Rattle.multi_cycle_list.proofs.Arcs.{row_count}
use Rattle.tx_queue.specs.TxQueue.{Sets, Pick, TxQueue, sets_of}
use Rattle.tx_queue.specs.Bytes.{queue_part, ready_at, started_at, flag_at, pick_of, read, whole_b, ready_over, started_over, flag_over, pick_mask_over, mtu_of, laid}
use Rattle.tx_queue.proofs.Parts.{Joined, split, tail_of, queue_of, tail_laid, laid_from}
use Rattle.tx_queue.proofs.Reading.{sets_are, entries-long, known}
use Rattle.tx_valid.specs.Means.{Valid}
use Rattle.tx_valid.proofs.Keeping.{Fits, no-sets, fit_none, fit-sets}

-- ---- an entry's bytes, and the pick's

-- by the flag v, the sets r and t
abbrev pub sets_on : ℕ → ℕ → ℕ → Option Sets
sets_on v r t = cond (eqb v 0) None (Some (record { ready = r; started = t }))

fit_on : (v r t : ℕ) → r < 256 → t < 256 → Fits (sets_on v r t)
fit_on zero r t hr ht = fit_none
fit_on (suc v) r t hr ht = rw (ne_eqb (suc v) 0 (omega arith)) (fit-sets r t hr ht)

ready-own : (v r t : ℕ) → r ≡ ready_over (sets_on v r t) r
ready-own zero r t = refl
ready-own (suc v) r t = rw (ne_eqb (suc v) 0 (omega arith))

started-own : (v r t : ℕ) → t ≡ started_over (sets_on v r t) t
started-own zero r t = refl
started-own (suc v) r t = rw (ne_eqb (suc v) 0 (omega arith))

flag-own : (v r t : ℕ) → v ≡ flag_over (sets_on v r t) v
flag-own zero r t = refl
flag-own (suc v) r t = let n = ne_eqb (suc v) 0 (omega arith) in rw (n, n)

pick-own : (x mtu : ℕ) → x ≡ pick_mask_over (pick_of x mtu) x
pick-own x zero = refl
pick-own x (suc mtu) = rw (ne_eqb (suc mtu) 0 (omega arith))

mtu-own : (x mtu : ℕ) → mtu ≡ mtu_of (pick_of x mtu)
mtu-own x zero = refl
mtu-own x (suc mtu) = rw (ne_eqb (suc mtu) 0 (omega arith))

pick-fits : (x mtu : ℕ) → x < 256 → (p : Pick) → pick_of x mtu ≡ Some p → p.mask < 256
pick-fits x zero h p q = cc
pick-fits x (suc mtu) h p q =
    let w : Some (record { mask = x; mtu = suc mtu }) ≡ Some p = rw (ne_eqb (suc mtu) 0 (omega arith)) at q in
    subst (λ (z : Pick). z.mask < 256) (let v : record { mask = x; mtu = suc mtu } ≡ p = cc in v) h

-- ---- whole bytes

module _ (b : List ℕ) (y : Bytes b) (h : whole_b b ≡ true) where
  pub read-valid : Valid (read b)
  read-valid =
      let w = known b h in
      let q = lists_laid.read-valid (queue_part b) w.queue in
      record {
        whole = w.means;
        inside = λ e k l i. omega (arith, row_count e (read b).queues k, q.inside e (omega (arith, w.entries)));
        sets = λ e s t. elim (dec_lt e 128) [
          | yes l ↦ fit_on (flag_at b e) (ready_at b e) (started_at b e) (y (290 + e)) (y (418 + e)) s (sym (sets_are b e l) ∙ t)
          | no l ↦ no-sets s (sym (get_or-eq_default (read b).entries None {n = e} (omega (arith, entries-long b))) ∙ t)
        ];
        mask = y 674;
        pick = pick-fits (get_or b 675 0) (get_or b 676 0) (y 675);
      }

  pub split-whole : Joined b (queue_part b) (each 128 (ready_at b)) (each 128 (started_at b)) (each 128 (flag_at b)) (tail_of b)
  split-whole = split b (known b h).long

  pub queue-read : nodes.read (queue_part b) ≡ queue_of (read b)
  queue-read = ap (λ (n : ℕ). lists_laid.lists n (nodes.lists_of (queue_part b))) (known b h).entries

  -- each part is that of the meaning, laid over itself
  pub queue-self : queue_part b ≡ lists.laid (queue_of (read b))
  queue-self = sym (ap (λ (q : Lists). lists.laid q) (sym queue-read) ∙ lists_laid.laid_read (queue_part b) (known b h).queue)

  pub ready-self : (e : ℕ) → e < 128 → ready_at b e ≡ ready_over (sets_of (read b) e) (ready_at b e)
  ready-self e l = ready-own (flag_at b e) (ready_at b e) (started_at b e) ∙ ap (λ (o : Option Sets). ready_over o (ready_at b e)) (sym (sets_are b e l))

  pub started-self : (e : ℕ) → e < 128 → started_at b e ≡ started_over (sets_of (read b) e) (started_at b e)
  started-self e l = started-own (flag_at b e) (ready_at b e) (started_at b e) ∙ ap (λ (o : Option Sets). started_over o (started_at b e)) (sym (sets_are b e l))

  pub flag-self : (e : ℕ) → e < 128 → flag_at b e ≡ flag_over (sets_of (read b) e) (flag_at b e)
  flag-self e l = flag-own (flag_at b e) (ready_at b e) (started_at b e) ∙ ap (λ (o : Option Sets). flag_over o (flag_at b e)) (sym (sets_are b e l))

  pub tail-self : tail_of b ≡ tail_laid (read b) b
  tail-self = λ k. get_or b 674 0 ∷ (pick-own (get_or b 675 0) (get_or b 676 0) k ∷ (mtu-own (get_or b 675 0) (get_or b 676 0) k ∷ []))

  pub laid_read : laid (read b) b ≡ b
  laid_read = sym (laid_from (read b) b split-whole queue-self
      (each_same 128 (ready_at b) (λ e. ready_over (sets_of (read b) e) (ready_at b e)) ready-self)
      (each_same 128 (started_at b) (λ e. started_over (sets_of (read b) e) (started_at b e)) started-self)
      (each_same 128 (flag_at b) (λ e. flag_over (sets_of (read b) e) (flag_at b e)) flag-self)
      tail-self)

-- ---- another meaning, which has the sets o for the entry e, over the bytes

module _ (b : List ℕ) (m : TxQueue) (e : ℕ) (o : Option Sets) (l : e < 128) (n : m.entries ≡ set (read b).entries e o) where
  pub sets-new : sets_of m e ≡ o
  sets-new = ap (λ (z : List (Option Sets)). get_or z e None) n ∙ get_or-set_same (read b).entries e o None (omega (arith, entries-long b))

  pub sets_old : (k : ℕ) → k ≢ e → sets_of m k ≡ sets_of (read b) k
  sets_old k d = ap (λ (z : List (Option Sets)). get_or z k None) n ∙ get_or-set_other (read b).entries e k o None d

  -- a part with the byte x k for each entry k, which `over` lays: the readiness sets, the started sets, the flags
  module _ (x : ℕ → ℕ) (over : Option Sets → ℕ → ℕ) (self : (k : ℕ) → k < 128 → x k ≡ over (sets_of (read b) k) (x k)) where
    pub part-set : (v : ℕ) → v ≡ over o (x e) → set (each 128 x) e v ≡ each 128 (λ k. over (sets_of m k) (x k))
    part-set v q =
        let g : ℕ → ℕ = λ k. cond (eqb k e) v (x k) in
        set-each 128 x g e v (rw (eq-eqb e e refl)) (λ k d. rw (ne_eqb k e d)) l
        ∙ each_same 128 g (λ k. over (sets_of m k) (x k)) (λ k h.
        elim (ℕ_discrete k e) [
          | yes d ↦ rw (d, eq-eqb e e refl, sets-new) q
          | no d ↦ rw (ne_eqb k e d, sets_old k d) (self k h)
        ])

    pub part-kept : x e ≡ over o (x e) → each 128 x ≡ each 128 (λ k. over (sets_of m k) (x k))
    part-kept q = sym (set-get_or (each 128 x) e 0) ∙ part-set (get_or (each 128 x) e 0) (get_d_each 128 x e 0 l ∙ q)
