-- The transmit queue's bytes as the join of their parts: the list queue, the readiness sets, the started sets, the flags, and a tail of
-- three bytes, the mask, the pick's mask and its mtu. What a store into a part leaves of the others.
use Prim.Native.Nat.{ℕ, suc, ◌+◌, ◌<◌, ◌≤◌}
use mathlib.Core.Path.{◌≡◌, refl, sym, ap, ◌∙◌}
use mathlib.Core.List.{List, [], ◌∷◌, ◌++◌}
use native.Mathlib.Omega.{arith}
use lib.ListN.{length, get_or, set, take, drop, length-append, length-drop, length-set, take-append-drop, get_or-append, drop_of_length-le}
use lib.Seq.{take_at, drop_at, drop-drop, drop-cons, get_or-take, get_or-drop, set-append_left, take-set-le, drop-set-add, length-take-le, ext_get_or}
use borrow.Rule.Slice.PartMut.{put_mid}
use Rattle.state.specs.Seq.{each}
use Rattle.state.proofs.Seq.{get_d_each, length-each}
use Rattle.multi_cycle_list.specs.Lists.{Lists}
use Rattle.multi_cycle_list.specs.Laid as lists
use Rattle.multi_cycle_list.proofs.Laid as lists_laid
use Rattle.tx_queue.specs.TxQueue.{TxQueue, sets_of}
use Rattle.tx_queue.specs.Bytes.{queue_part, ready_at, started_at, flag_at, ready_over, started_over, flag_over, pick_mask_over, mtu_of, laid}

unfoldable pub join : List ℕ → List ℕ → List ℕ → List ℕ → List ℕ → List ℕ
join Q R T F W = Q ++ (R ++ (T ++ (F ++ W)))

pub record Joined (s Q R T F W : List ℕ) : Type 0 where
  pub is : s ≡ join Q R T F W
  pub long-q : length Q ≡ 290
  pub long-r : length R ≡ 128
  pub long-t : length T ≡ 128
  pub long-f : length F ≡ 128
  pub long-w : length W ≡ 3

-- ---- lists, over variables, so that no numeral is taken apart

set_after : (A B : List ℕ) (n j v : ℕ) → length A ≡ n → set (A ++ B) (n + j) v ≡ A ++ set B j v
set_after A B n j v h =
    sym (take-append-drop n (set (A ++ B) (n + j) v)) ∙ rw (take-set-le n (A ++ B) (n + j) v (omega arith), drop-set-add n (A ++ B) j v, take_at A B n h, drop_at A B n h)

get_after : (A B : List ℕ) (n j : ℕ) → length A ≡ n → get_or (A ++ B) (n + j) 0 ≡ get_or B j 0
get_after A B n j h = sym (get_or-drop n (A ++ B) j 0) ∙ ap (λ (z : List ℕ). get_or z j 0) (drop_at A B n h)

pub part-each : (k n : ℕ) (s : List ℕ) → k + n ≤ length s → take n (drop k s) ≡ each n (λ e. get_or s (k + e) 0)
part-each k n s h =
    let l : length (take n (drop k s)) ≡ n = length-take-le n (drop k s) (omega (arith, length-drop k s)) in
    ext_get_or 0 (take n (drop k s)) (each n (λ e. get_or s (k + e) 0)) (l ∙ sym (length-each n (λ e. get_or s (k + e) 0)))
    (λ i w. get_or-take n (drop k s) i 0 (omega arith) ∙ get_or-drop k s i 0 ∙ sym (get_d_each n (λ e. get_or s (k + e) 0) i 0 (omega arith)))

-- the last three
tail_three : (n : ℕ) (s : List ℕ) → length s ≡ n + 3 → drop n s ≡ get_or s n 0 ∷ (get_or s (suc n) 0 ∷ (get_or s (suc (suc n)) 0 ∷ []))
tail_three n s h =
    drop-cons s n 0 (omega arith)
    ∙ ap (λ (z : List ℕ). get_or s n 0 ∷ z) (drop-cons s (suc n) 0 (omega arith)
    ∙ ap (λ (z : List ℕ). get_or s (suc n) 0 ∷ z) (drop-cons s (suc (suc n)) 0 (omega arith)
    ∙ ap (λ (z : List ℕ). get_or s (suc (suc n)) 0 ∷ z) (drop_of_length-le s {i = suc (suc (suc n))} (omega arith))))

module _ (Q R T F W : List ℕ) (q r t f : ℕ) (hq : length Q ≡ q) (hr : length R ≡ r) (ht : length T ≡ t) (hf : length F ≡ f) where
  set-r : (e v : ℕ) → e < r → set (Q ++ (R ++ (T ++ (F ++ W)))) (q + e) v ≡ Q ++ (set R e v ++ (T ++ (F ++ W)))
  set-r e v l = set_after Q (R ++ (T ++ (F ++ W))) q e v hq ∙ ap (λ (z : List ℕ). Q ++ z) (set-append_left R (T ++ (F ++ W)) e v (omega arith))

  set-t : (k e v : ℕ) → k ≡ q + (r + e) → e < t → set (Q ++ (R ++ (T ++ (F ++ W)))) k v ≡ Q ++ (R ++ (set T e v ++ (F ++ W)))
  set-t k e v n l =
      ap (λ (j : ℕ). set (Q ++ (R ++ (T ++ (F ++ W)))) j v) n ∙ set_after Q (R ++ (T ++ (F ++ W))) q (r + e) v hq
      ∙ ap (λ (z : List ℕ). Q ++ z) (set_after R (T ++ (F ++ W)) r e v hr ∙ ap (λ (z : List ℕ). R ++ z) (set-append_left T (F ++ W) e v (omega arith)))

  set-f : (k e v : ℕ) → k ≡ q + (r + (t + e)) → e < f → set (Q ++ (R ++ (T ++ (F ++ W)))) k v ≡ Q ++ (R ++ (T ++ (set F e v ++ W)))
  set-f k e v n l =
      ap (λ (j : ℕ). set (Q ++ (R ++ (T ++ (F ++ W)))) j v) n ∙ set_after Q (R ++ (T ++ (F ++ W))) q (r + (t + e)) v hq
      ∙ ap (λ (z : List ℕ). Q ++ z) (set_after R (T ++ (F ++ W)) r (t + e) v hr
      ∙ ap (λ (z : List ℕ). R ++ z) (set_after T (F ++ W) t e v ht ∙ ap (λ (z : List ℕ). T ++ z) (set-append_left F W e v (omega arith))))

  set-w : (k j v : ℕ) → k ≡ q + (r + (t + (f + j))) → set (Q ++ (R ++ (T ++ (F ++ W)))) k v ≡ Q ++ (R ++ (T ++ (F ++ set W j v)))
  set-w k j v n =
      ap (λ (i : ℕ). set (Q ++ (R ++ (T ++ (F ++ W)))) i v) n ∙ set_after Q (R ++ (T ++ (F ++ W))) q (r + (t + (f + j))) v hq
      ∙ ap (λ (z : List ℕ). Q ++ z) (set_after R (T ++ (F ++ W)) r (t + (f + j)) v hr
      ∙ ap (λ (z : List ℕ). R ++ z) (set_after T (F ++ W) t (f + j) v ht ∙ ap (λ (z : List ℕ). T ++ z) (set_after F W f j v hf)))

  get-r : (e : ℕ) → e < r → get_or (Q ++ (R ++ (T ++ (F ++ W)))) (q + e) 0 ≡ get_or R e 0
  get-r e l = get_after Q (R ++ (T ++ (F ++ W))) q e hq ∙ get_or-append R (T ++ (F ++ W)) 0 e (omega arith)

  get-t : (k e : ℕ) → k ≡ q + (r + e) → e < t → get_or (Q ++ (R ++ (T ++ (F ++ W)))) k 0 ≡ get_or T e 0
  get-t k e n l =
      ap (λ (j : ℕ). get_or (Q ++ (R ++ (T ++ (F ++ W)))) j 0) n ∙ get_after Q (R ++ (T ++ (F ++ W))) q (r + e) hq
      ∙ get_after R (T ++ (F ++ W)) r e hr ∙ get_or-append T (F ++ W) 0 e (omega arith)

  get-f : (k e : ℕ) → k ≡ q + (r + (t + e)) → e < f → get_or (Q ++ (R ++ (T ++ (F ++ W)))) k 0 ≡ get_or F e 0
  get-f k e n l =
      ap (λ (j : ℕ). get_or (Q ++ (R ++ (T ++ (F ++ W)))) j 0) n ∙ get_after Q (R ++ (T ++ (F ++ W))) q (r + (t + e)) hq
      ∙ get_after R (T ++ (F ++ W)) r (t + e) hr ∙ get_after T (F ++ W) t e ht ∙ get_or-append F W 0 e (omega arith)

  get-w : (k j : ℕ) → k ≡ q + (r + (t + (f + j))) → get_or (Q ++ (R ++ (T ++ (F ++ W)))) k 0 ≡ get_or W j 0
  get-w k j n =
      ap (λ (i : ℕ). get_or (Q ++ (R ++ (T ++ (F ++ W)))) i 0) n ∙ get_after Q (R ++ (T ++ (F ++ W))) q (r + (t + (f + j))) hq
      ∙ get_after R (T ++ (F ++ W)) r (t + (f + j)) hr ∙ get_after T (F ++ W) t (f + j) ht ∙ get_after F W f j hf

-- ---- the parts of a join

module _ (s Q R T F W : List ℕ) (h : Joined s Q R T F W) where
  pub queue-is : queue_part s ≡ Q
  unfolding join
  queue-is = ap (take 290) h.is ∙ take_at Q (R ++ (T ++ (F ++ W))) 290 h.long-q

  pub ready_at_lem : (e : ℕ) → e < 128 → ready_at s e ≡ get_or R e 0
  unfolding join
  ready_at_lem e l = ap (λ (z : List ℕ). get_or z (290 + e) 0) h.is ∙ get-r Q R T F W 290 128 128 128 h.long-q h.long-r h.long-t h.long-f e l

  pub started-at : (e : ℕ) → e < 128 → started_at s e ≡ get_or T e 0
  unfolding join
  started-at e l = ap (λ (z : List ℕ). get_or z (418 + e) 0) h.is ∙ get-t Q R T F W 290 128 128 128 h.long-q h.long-r h.long-t h.long-f (418 + e) e (omega arith) l

  pub flag_at_lem : (e : ℕ) → e < 128 → flag_at s e ≡ get_or F e 0
  unfolding join
  flag_at_lem e l = ap (λ (z : List ℕ). get_or z (546 + e) 0) h.is ∙ get-f Q R T F W 290 128 128 128 h.long-q h.long-r h.long-t h.long-f (546 + e) e (omega arith) l

  pub tail_at : (j : ℕ) → get_or s (674 + j) 0 ≡ get_or W j 0
  unfolding join
  tail_at j = ap (λ (z : List ℕ). get_or z (674 + j) 0) h.is ∙ get-w Q R T F W 290 128 128 128 h.long-q h.long-r h.long-t h.long-f (674 + j) j (omega arith)

  pub long : length s ≡ 677
  unfolding join
  long =
      ap length h.is ∙ length-append Q (R ++ (T ++ (F ++ W)))
      ∙ omega (arith, length-append R (T ++ (F ++ W)), length-append T (F ++ W), length-append F W, h.long-q, h.long-r, h.long-t, h.long-f, h.long-w)

  -- ---- stores

  pub put-queue : (p : List ℕ) → length p ≡ 290 → Joined (put_mid 0 290 s p) p R T F W
  unfolding join
  put-queue p l = record {
    is = ap (λ (z : List ℕ). p ++ z) (ap (drop 290) h.is ∙ drop_at Q (R ++ (T ++ (F ++ W))) 290 h.long-q);
    long-q = l;
    long-r = h.long-r;
    long-t = h.long-t;
    long-f = h.long-f;
    long-w = h.long-w;
  }

  pub set-ready : (e v : ℕ) → e < 128 → Joined (set s (290 + e) v) Q (set R e v) T F W
  unfolding join
  set-ready e v l = record {
    is = ap (λ (z : List ℕ). set z (290 + e) v) h.is ∙ set-r Q R T F W 290 128 128 128 h.long-q h.long-r h.long-t h.long-f e v l;
    long-q = h.long-q;
    long-r = length-set R e v ∙ h.long-r;
    long-t = h.long-t;
    long-f = h.long-f;
    long-w = h.long-w;
  }

  pub set-started : (e v : ℕ) → e < 128 → Joined (set s (418 + e) v) Q R (set T e v) F W
  unfolding join
  set-started e v l = record {
    is = ap (λ (z : List ℕ). set z (418 + e) v) h.is ∙ set-t Q R T F W 290 128 128 128 h.long-q h.long-r h.long-t h.long-f (418 + e) e v (omega arith) l;
    long-q = h.long-q;
    long-r = h.long-r;
    long-t = length-set T e v ∙ h.long-t;
    long-f = h.long-f;
    long-w = h.long-w;
  }

  pub set-flag : (e v : ℕ) → e < 128 → Joined (set s (546 + e) v) Q R T (set F e v) W
  unfolding join
  set-flag e v l = record {
    is = ap (λ (z : List ℕ). set z (546 + e) v) h.is ∙ set-f Q R T F W 290 128 128 128 h.long-q h.long-r h.long-t h.long-f (546 + e) e v (omega arith) l;
    long-q = h.long-q;
    long-r = h.long-r;
    long-t = h.long-t;
    long-f = length-set F e v ∙ h.long-f;
    long-w = h.long-w;
  }

  -- the mask at 674, the pick's mask at 675, its mtu at 676
  pub set-tail : (j v : ℕ) → Joined (set s (674 + j) v) Q R T F (set W j v)
  unfolding join
  set-tail j v = record {
    is = ap (λ (z : List ℕ). set z (674 + j) v) h.is ∙ set-w Q R T F W 290 128 128 128 h.long-q h.long-r h.long-t h.long-f (674 + j) j v (omega arith);
    long-q = h.long-q;
    long-r = h.long-r;
    long-t = h.long-t;
    long-f = h.long-f;
    long-w = length-set W j v ∙ h.long-w;
  }

-- ---- any bytes of the length

abbrev pub tail_of : List ℕ → List ℕ
tail_of b = get_or b 674 0 ∷ (get_or b 675 0 ∷ (get_or b 676 0 ∷ []))

four-parts : (q r t f : ℕ) (s : List ℕ) → s ≡ take q s ++ (take r (drop q s) ++ (take t (drop (q + r) s) ++ (take f (drop (q + r + t) s) ++ drop (q + r + t + f) s)))
four-parts q r t f s =
    let d : (k n : ℕ) → drop k s ≡ take n (drop k s) ++ drop (k + n) s = λ k n. sym (take-append-drop n (drop k s)) ∙ ap (λ (z : List ℕ). take n (drop k s) ++ z) (drop-drop n k s) in
    sym (take-append-drop q s)
    ∙ ap (λ (z : List ℕ). take q s ++ z) (d q r
    ∙ ap (λ (z : List ℕ). take r (drop q s) ++ z) (d (q + r) t
    ∙ ap (λ (z : List ℕ). take t (drop (q + r) s) ++ z) (d (q + r + t) f)))

pub split : (s : List ℕ) → length s ≡ 677 → Joined s (queue_part s) (each 128 (ready_at s)) (each 128 (started_at s)) (each 128 (flag_at s)) (tail_of s)
unfolding join
split s l = record {
  is = four-parts 290 128 128 128 s ∙ rw (part-each 290 128 s (omega arith), part-each 418 128 s (omega arith), part-each 546 128 s (omega arith), tail_three 674 s (omega arith));
  long-q = length-take-le 290 s (omega arith);
  long-r = length-each 128 (ready_at s);
  long-t = length-each 128 (started_at s);
  long-f = length-each 128 (flag_at s);
  long-w = refl;
}

-- ---- what is laid

abbrev pub queue_of : TxQueue → Lists
queue_of m = record { entries = 128; rows = m.queues }

abbrev pub ready_laid : TxQueue → List ℕ → List ℕ
ready_laid m b = each 128 (λ e. ready_over (sets_of m e) (ready_at b e))

abbrev pub started_laid : TxQueue → List ℕ → List ℕ
started_laid m b = each 128 (λ e. started_over (sets_of m e) (started_at b e))

abbrev pub flags_laid : TxQueue → List ℕ → List ℕ
flags_laid m b = each 128 (λ e. flag_over (sets_of m e) (flag_at b e))

abbrev pub tail_laid : TxQueue → List ℕ → List ℕ
tail_laid m b = m.mask ∷ (pick_mask_over m.pick (get_or b 675 0) ∷ (mtu_of m.pick ∷ []))

pub laid-joined : (m : TxQueue) (b : List ℕ) → length m.queues ≡ 16 → Joined (laid m b) (lists.laid (queue_of m)) (ready_laid m b) (started_laid m b) (flags_laid m b) (tail_laid m b)
unfolding laid join
laid-joined m b n = record {
  is = refl;
  long-q = lists_laid.out-length (length m.queues) 128 (lists.arcs (length m.queues) 0 m.queues) ∙ omega arith;
  long-r = length-each 128 (λ e. ready_over (sets_of m e) (ready_at b e));
  long-t = length-each 128 (λ e. started_over (sets_of m e) (started_at b e));
  long-f = length-each 128 (λ e. flag_over (sets_of m e) (flag_at b e));
  long-w = refl;
}

-- bytes whose parts are laid
pub laid_from : {s Q R T F W : List ℕ} (m : TxQueue) (b : List ℕ) → Joined s Q R T F W
    → Q ≡ lists.laid (queue_of m) → R ≡ ready_laid m b → T ≡ started_laid m b → F ≡ flags_laid m b → W ≡ tail_laid m b → s ≡ laid m b
unfolding laid join
laid_from m b j q r t f w = j.is ∙ λ k. q k ++ (r k ++ (t k ++ (f k ++ w k)))
