-- What each call leaves.
use Prim.Native.Nat.{ℕ, ◌+◌, ◌<◌, ◌≤◌}
use mathlib.Core.Path.{◌≡◌, refl, sym, ap, ◌∙◌}
use mathlib.Core.List.{List, []}
use Rattle.std.specs.Prelude.{Option, None, Some, is_some, position, Result, Ok, Err, if◌then◌else◌}
use mathlib.Core.Bool.{Bool, true, false}
use native.Mathlib.Omega.{arith}
use borrow.Author.Tests.{ltb-false, le-ltb}
use lib.Dec.{ltb}
use lib.ListN.{length, take, drop, length-drop, replicate, length-replicate, get_or-replicate}
use lib.Seq.{get_or-take, get_or-drop, length-take-le}
use borrow.Rule.Slice.PartMut.{put_mid, put_same}
use Rattle.state.specs.Outcome.{Outcome, refuse, done, answer, Bytes}
use Rattle.state.specs.Refusals.{entry_of, up_to}
use Rattle.state.specs.declared.Refusal.{Refusal}
use Rattle.state.specs.declared.Refusal.TheVariants.{EntryRange, Range}
use Rattle.state.proofs.Outcomes.{Ends, is_whole, laid_out}
use Rattle.state.proofs.Tests.{not-both}
use Rattle.state.proofs.Filled.{filled-all, zero-bytes}
use Rattle.entry_tree.specs.Pairs.{Pair, pair, is_entry, has_subject, inserted, without, in_order}
use Rattle.entry_tree.specs.Places as tree
use Rattle.entry_tree.specs.Inner.{IsTree, removed_at}
use Rattle.entry_tree.proofs.Lists.{placed}
use Rattle.entry_tree.proofs.Finding.{removed-is}
use Rattle.entry_tree.proofs.Once as once
use Rattle.entry_tree.proofs.Once.{rising-order, empty_tree}
use Rattle.entry_tree.proofs.Reading.{read_length}
use Rattle.tx_queue.specs.TxQueue as plain
use Rattle.tx_queue.specs.TxQueue.{Pick, TxQueue, place, sets_of}
use Rattle.tx_queue.specs.Bytes as queue
use Rattle.tx_queue.specs.Calls as queue_calls
use Rattle.tx_queue.specs.Steps as queue_steps
use Rattle.tx_queue.specs.Steps.{is_open, is_registered, wakes, becomes, sets}
use Rattle.tx_queue.proofs.Parts as queues
use Rattle.tx_msg.specs.Registry.{Registry, fresh}
use Rattle.tx_msg.specs.Bytes.{tree_part, queue_part, whole_b, read, laid}
use Rattle.tx_msg.specs.Steps.{with, register, unregister}
use Rattle.tx_msg.specs.Calls.{on}
use Rattle.tx_msg.proofs.Parts.{Joined, queue-is, put_tree, put-queue, split, laid_from}
use Rattle.tx_msg.proofs.Facts.{Facts, facts_of, Whole, whole_of}
use Rattle.tx_msg.proofs.Mean.{tree_self}

-- ---- opening

-- a part of bytes that are 0
zero-part : (k n a : ℕ) → k + n ≤ a → take n (drop k (replicate {A = ℕ} a 0)) ≡ replicate n 0
zero-part k n a l =
    let b : List ℕ = replicate a 0 in
    let z = length-replicate {A = ℕ} a 0 in
    let long = length-take-le n (drop k b) (omega (arith, length-drop k b, z)) in
    filled-all (take n (drop k b)) n 0 long (λ i h. get_or-take n (drop k b) i 0 (omega (arith, long)) ∙ get_or-drop k b i 0 ∙ get_or-replicate {A = ℕ} a (k + i) 0 0 (omega (arith, long)))

no_pairs : (n : ℕ) → n ≡ 385 → replicate n 0 ≡ tree.laid [] (replicate n 0)
no_pairs n l = empty_tree (replicate n 0) (length-replicate {A = ℕ} n 0 ∙ l) (zero-bytes n) (get_or-replicate {A = ℕ} n 0 0 0 (omega arith))

-- the tree's part is filled, then the queue's is opened
pub opened : (s p u : List ℕ) → length s ≡ 1062 → p ≡ replicate (length (tree_part s)) 0 → u ≡ queue.laid plain.fresh (replicate 677 0)
    → put_mid 385 677 (put_mid 0 385 s p) u ≡ laid fresh (replicate (length s) 0)
opened s p u l a b =
    let j = split s l in
    let t : p ≡ replicate 385 0 = a ∙ ap (λ (n : ℕ). replicate n 0) j.long-t in
    let j1 = put_tree s (tree_part s) (queue_part s) j p (ap length t ∙ length-replicate {A = ℕ} 385 0) in
    let n = queues.long (queue.laid plain.fresh (replicate 677 0)) _ _ _ _ _ (queues.laid-joined plain.fresh (replicate 677 0) refl) in
    laid_from fresh (replicate (length s) 0) (put-queue (put_mid 0 385 s p) p (queue_part s) j1 u (ap length b ∙ n))
    (t ∙ no_pairs 385 refl ∙ ap (tree.laid []) (sym (zero-part 0 385 (length s) (omega arith))))
    (b ∙ ap (queue.laid plain.fresh) (sym (zero-part 385 677 (length s) (omega arith))))

-- ---- numbers in their range

entry-is : (e i : ℕ) → entry_of e ≡ Ok i → (i ≡ e) × (e ≤ 127)
entry-is e i = in-range (ltb 127 e) refl
  where
    in-range : (t : Bool) → ltb 127 e ≡ t → (if t then Err EntryRange else Ok e) ≡ Ok i → (i ≡ e) × (e ≤ 127)
    in-range true p q = cc
    in-range false p q = (cc, ltb-false 127 e p)

up-to-is : (most n k : ℕ) → up_to most n ≡ Ok k → (k ≡ n) × (n ≤ most)
up-to-is most n k = in-range (ltb most n) refl
  where
    in-range : (t : Bool) → ltb most n ≡ t → (if t then Err Range else Ok n) ≡ Ok k → (k ≡ n) × (n ≤ most)
    in-range true p q = cc
    in-range false p q = (cc, ltb-false most n p)

-- ---- the calls on whole bytes

module _ (s : List ℕ) (h : whole_b s ≡ true) where
  abbrev m : Registry
  m = read s

  abbrev T : List ℕ
  T = tree_part s

  abbrev Q : List ℕ
  Q = queue_part s

  W : Whole s
  W = whole_of s h

  F : Facts m
  F = facts_of m W.means

  J : Joined s T Q
  J = split s W.long

  pub long_tree : length T ≡ 385
  long_tree = J.long-t

  pub is_tree : IsTree T
  is_tree = record { len = long_tree; few = W.size }

  pub long-queue : length Q ≡ 677
  long-queue = J.long-q

  pub queue-whole : queue.whole_b Q ≡ true
  queue-whole = W.queue

  -- a call of the queue, over its part p
  pub over-queue : {A : Type 0} → Bytes s → (f : TxQueue → Outcome A TxQueue) (r : Result A Refusal) (p : List ℕ) → length p ≡ length Q
      → (r ≡ answer (f m.queue)) × (p ≡ queue_calls.bytes Q (f m.queue)) → Ends laid s (on (λ m. with m.subjects (f m.queue)) s) r (put_mid 385 677 s p)
  over-queue {A = A} y f r p k e = rw (is_whole whole_b read laid (λ m. with m.subjects (f m.queue)) s h) (ends (f m.queue) e)
    where
      ends : (o : Outcome A TxQueue) → (r ≡ answer o) × (p ≡ queue_calls.bytes Q o) → Ends laid s (with m.subjects o) r (put_mid 385 677 s p)
      ends (refuse a) e = (e.0, ap (put_mid 385 677 s) e.1 ∙ put_same 385 677 s)
      ends (done a q) e = (e.0, laid_from (record { subjects = m.subjects; queue = q }) s (put-queue s T Q J p (k ∙ long-queue)) (tree_self s y h) e.1)

  -- the tree's part becomes p; then the queue's becomes u
  abbrev after : List ℕ → List ℕ
  after p = put_mid 0 385 s p

  module _ (p : List ℕ) (k : length p ≡ length T) where
    J1 : Joined (after p) p Q
    J1 = put_tree s T Q J p (k ∙ long_tree)

    queue-then : queue_part (after p) ≡ Q
    queue-then = queue-is (after p) p Q J1

    pub whole-then : queue.whole_b (queue_part (after p)) ≡ true
    whole-then = ap queue.whole_b queue-then ∙ W.queue

    both : (l : List Pair) (f : TxQueue → TxQueue) (u : List ℕ) → p ≡ tree.laid l T → length u ≡ length (queue_part (after p)) → u ≡ queue.laid (f (queue.read (queue_part (after p)))) (queue_part (after p))
        → put_mid 385 677 (after p) u ≡ laid (record { subjects = l; queue = f m.queue }) s
    both l f u a n b =
        laid_from (record { subjects = l; queue = f m.queue }) s (put-queue (after p) p Q J1 u (n ∙ ap length queue-then ∙ long-queue)) a
        (b ∙ ap (λ (z : List ℕ). queue.laid (f (queue.read z)) z) queue-then)

    pub no-pick : is_open m.queue.pick ≡ false → (queue.read (queue_part (after p))).pick ≡ None
    no-pick h = ap (λ (z : List ℕ). (queue.read z).pick) queue-then ∙ closed m.queue.pick h
      where
        closed : (o : Option Pick) → is_open o ≡ false → o ≡ None
        closed None q = refl
        closed (Some x) q = not-both q

    -- the entry i joins on the subject y
    pub registered : (e x r i y : ℕ) → entry_of e ≡ Ok i → up_to 8191 x ≡ Ok y → is_open m.queue.pick ≡ false → is_registered (sets_of m.queue i) ≡ false → has_subject y m.subjects ≡ false
        → p ≡ tree.laid (inserted (pair i y) m.subjects) T
        → (w : Bool) (u : List ℕ) → length u ≡ length (queue_part (after p))
        → w ≡ wakes None (place (sets r 0)) (queue.read (queue_part (after p))).mask → u ≡ queue.laid (becomes i None (sets r 0) (queue.read (queue_part (after p)))) (queue_part (after p))
        → Ends laid s (on (register e x r) s) (Ok w) (put_mid 385 677 (after p) u)
    unfolding register
    registered e x r i y he hx ho hr hs a w u n v b =
        let ie = entry-is e i he in
        let yx = up-to-is 8191 x y hx in
        let z : w ≡ wakes None (place (sets r 0)) m.queue.mask = v ∙ ap (λ (z : List ℕ). wakes None (place (sets r 0)) (queue.read z).mask) queue-then in
        laid_out whole_b read laid (register e x r) s h w (record { subjects = inserted (pair i y) m.subjects; queue = becomes i None (sets r 0) m.queue }) (put_mid 385 677 (after p) u)
        (rw (← ie.0, ← yx.0, le-ltb 127 i (omega arith), le-ltb 8191 y (omega arith), ho, hr, hs, z))
        (both (inserted (pair i y) m.subjects) (becomes i None (sets r 0)) u a n b)

    -- the entry i leaves, whose pair stands at the place k
    pub unregistered : (e i k : ℕ) → entry_of e ≡ Ok i → is_open m.queue.pick ≡ false → is_registered (sets_of m.queue i) ≡ true → position (is_entry i) m.subjects ≡ Some k
        → p ≡ tree.laid (removed_at k m.subjects) T
        → (u : List ℕ) → length u ≡ length (queue_part (after p))
        → u ≡ queue.laid (becomes i (place (sets_of (queue.read (queue_part (after p))) i)) None (queue.read (queue_part (after p)))) (queue_part (after p))
        → Ends laid s (on (unregister e) s) (Ok false) (put_mid 385 677 (after p) u)
    unfolding queue_steps.unregister
    unregistered e i k he ho hr hk a u n b =
        let ie = entry-is e i he in
        laid_out whole_b read laid (unregister e) s h false (record { subjects = without i m.subjects; queue = becomes i (place (sets_of m.queue i)) None m.queue }) (put_mid 385 677 (after p) u)
        (rw (← ie.0, le-ltb 127 i (omega arith), ho, hr))
        (both (without i m.subjects) (λ z. becomes i (place (sets_of z i)) None z) u
        (a ∙ ap (λ (l : List Pair). tree.laid l T) (removed-is T i k hk (F.once i))) n b)

  module _ (e : ℕ) (l : e < 128) where
    -- there is room for a pair of an entry that is not registered
    pub room : is_registered (sets_of m.queue e) ≡ false → (tree.size T < 128) × (in_order 0 m.subjects ≡ true)
    room n = (
      omega (arith, read_length T, once.room 8191 m.subjects F.range F.once e (omega arith) (sym (F.named e (omega arith)) ∙ n)),
      rising-order 0 m.subjects F.rises,
    )

    -- an entry that is has a place
    pub has-place : is_registered (sets_of m.queue e) ≡ true → (o : Option ℕ) → o ≡ position (is_entry e) m.subjects → is_some o ≡ true
    has-place n o q = placed (is_entry e) m.subjects o q (sym (F.named e (omega arith)) ∙ n)

-- what the parts of whole bytes are
pub ruleset parts = (whole_of, long_tree, is_tree, long-queue, queue-whole)
