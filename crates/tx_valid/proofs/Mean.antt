-- Whatever is valid is laid out as whole bytes, which mean it; so the theorem of specs/Means.antt.
use Prim.Native.Nat.{ℕ, zero, suc, ◌+◌, ◌<◌}
use mathlib.Core.Path.{◌≡◌, refl, sym, ap, ◌∙◌, subst}
use mathlib.Core.List.{List, [], ◌∷◌, ◌++◌}
use Rattle.std.specs.Prelude.{Option, None, Some, is_some}
use mathlib.Core.Bool.{true}
use native.Mathlib.Omega.{arith}
use native.Mathlib.Decide.{dec_lt}
use lib.Dec.{eqb}
use lib.ListN.{length, get_or, replicate, length-replicate}
use borrow.Author.Tests.{eqb-true, ne_eqb}
use Rattle.state.specs.Lengths.{responses_length}
use Rattle.state.specs.Outcome.{done, Bytes}
use Rattle.state.specs.declared.Refusal.TheVariants.{NotWhole}
use Rattle.state.specs.Seq.{each}
use Rattle.state.proofs.Bytes.{bytes-append}
use Rattle.state.proofs.Outcomes.{opened-is, means_of}
use Rattle.state.proofs.Filled.{zero-bytes}
use Rattle.state.proofs.Seq.{each_same, each_get_d, get_d_each}
use Rattle.state.proofs.Tests.{and_l, not-both}
use Rattle.multi_cycle_list.specs.Lists as plain
use Rattle.multi_cycle_list.specs.Lists.{Lists, count}
use Rattle.multi_cycle_list.specs.Nodes as nodes
use Rattle.multi_cycle_list.specs.Laid as lists
use Rattle.multi_cycle_list.proofs.Laid as lists_laid
use Rattle.tx_queue.specs.TxQueue as queue
use Rattle.tx_queue.specs.TxQueue.{Sets, Pick, TxQueue, fresh, sets_of, first_queue, mtu_b, pick_b}
use Rattle.tx_queue.specs.Bytes.{queue_part, ready_at, started_at, flag_at, sets_at, pick_of, read, whole_b, ready_over, started_over, flag_over, pick_mask_over, mtu_of, laid}
use Rattle.tx_queue.specs.Steps.{step}
use Rattle.tx_queue.specs.Calls.{opening}
use Rattle.tx_queue.proofs.Parts.{join, Joined, queue-is, ready_at_lem, started-at, flag_at_lem, tail_at, long, queue_of, ready_laid, started_laid, flags_laid, tail_laid, laid-joined}
use Rattle.tx_queue.proofs.Reading.{Conditions, known, conditions, of_conditions, of_sizes, whole_of}
use Rattle.tx_valid.specs.Means.{Valid, Sized, ResponsesMeans}
use Rattle.tx_valid.proofs.Keeping.{Fits, no-sets, queue-valid, step_valid}
use Rattle.tx_valid.proofs.Reading.{sets_on, read-valid, laid_read}

-- ---- an entry's bytes, and the pick's, as they are laid

sets-back : (o : Option Sets) (v r t : ℕ) → sets_on (flag_over o v) (ready_over o r) (started_over o t) ≡ o
sets-back None v r t = refl
sets-back (Some s) zero r t = refl
sets-back (Some s) (suc v) r t = let n = ne_eqb (suc v) 0 (omega arith) in rw (n, n)

-- the mtu of a pick is not 0
pick-back : (m : TxQueue) (o : Option Pick) (x : ℕ) → pick_b m o ≡ true → pick_of (pick_mask_over o x) (mtu_of o) ≡ o
pick-back m None x h = refl
pick-back m (Some p) x h = rw (ne_eqb p.mtu 0 (not-zero p.mtu (and_l (mtu_b p.mtu) (is_some (first_queue p.mask m)) h)))
  where
    not-zero : (n : ℕ) → mtu_b n ≡ true → n ≡ 0 → ⊥
    not-zero n t z = not-both (sym t ∙ ap mtu_b z)

bytes-each : (n : ℕ) (f : ℕ → ℕ) → ((k : ℕ) → k < n → f k < 256) → Bytes (each n f)
unfolding each
bytes-each zero f h i = omega arith
bytes-each (suc n) f h zero = h 0 (omega arith)
bytes-each (suc n) f h (suc i) = bytes-each n (λ k. f (suc k)) (λ k l. h (suc k) (omega arith)) i

bytes_three : (x y z : ℕ) → x < 256 → y < 256 → z < 256 → Bytes (x ∷ (y ∷ (z ∷ [])))
bytes_three x y z hx hy hz zero = hx
bytes_three x y z hx hy hz (suc zero) = hy
bytes_three x y z hx hy hz (suc (suc zero)) = hz
bytes_three x y z hx hy hz (suc (suc (suc i))) = omega arith

ready-byte : (o : Option Sets) (v : ℕ) → Fits o → v < 256 → ready_over o v < 256
ready-byte None v f h = h
ready-byte (Some s) v f h = (f s refl).ready

started-byte : (o : Option Sets) (v : ℕ) → Fits o → v < 256 → started_over o v < 256
started-byte None v f h = h
started-byte (Some s) v f h = (f s refl).started

flag-byte : (o : Option Sets) (v : ℕ) → v < 256 → flag_over o v < 256
flag-byte None v h = omega arith
flag-byte (Some s) zero h = omega arith
flag-byte (Some s) (suc v) h = rw (ne_eqb (suc v) 0 (omega arith)) h

pick-byte : (o : Option Pick) (x : ℕ) → ((p : Pick) → o ≡ Some p → p.mask < 256) → x < 256 → pick_mask_over o x < 256
pick-byte None x f h = h
pick-byte (Some p) x f h = f p refl

pub mtu-most : (n : ℕ) → mtu_b n ≡ true → n < 256
mtu-most n h =
    elim (dec_lt n 256) [
      | yes l ↦ l
      | no l ↦ not-both (sym h ∙ rw (ne_eqb n 8 (omega arith), ne_eqb n 64 (omega arith)))
    ]

mtu-byte : (m : TxQueue) (o : Option Pick) → pick_b m o ≡ true → mtu_of o < 256
mtu-byte m None h = omega arith
mtu-byte m (Some p) h = mtu-most p.mtu (and_l (mtu_b p.mtu) (is_some (first_queue p.mask m)) h)

-- ---- what is laid reads back

module _ (m : TxQueue) (b : List ℕ) (y : Bytes b) (f : Valid m) (l : length b ≡ responses_length) where
  c : Conditions m
  c = conditions m f.whole

  t : List ℕ
  t = laid m b

  Q : List ℕ
  Q = lists.laid (queue_of m)

  R : List ℕ
  R = ready_laid m b

  T : List ℕ
  T = started_laid m b

  F : List ℕ
  F = flags_laid m b

  W : List ℕ
  W = tail_laid m b

  j : Joined t Q R T F W
  unfolding t Q R T F W
  j = laid-joined m b c.queues

  q : plain.Valid (queue_of m)
  q = queue-valid m f

  sets-laid : (e : ℕ) → e < 128 → sets_at t e ≡ sets_of m e
  unfolding t Q R T F W
  sets-laid e h =
      let r : ready_at t e ≡ ready_over (sets_of m e) (ready_at b e) = ready_at_lem t Q R T F W j e h ∙ get_d_each 128 (λ e. ready_over (sets_of m e) (ready_at b e)) e 0 h in
      let s : started_at t e ≡ started_over (sets_of m e) (started_at b e) = started-at t Q R T F W j e h ∙ get_d_each 128 (λ e. started_over (sets_of m e) (started_at b e)) e 0 h in
      let v : flag_at t e ≡ flag_over (sets_of m e) (flag_at b e) = flag_at_lem t Q R T F W j e h ∙ get_d_each 128 (λ e. flag_over (sets_of m e) (flag_at b e)) e 0 h in
      (λ i. sets_on (v i) (r i) (s i)) ∙ sets-back (sets_of m e) (flag_at b e) (ready_at b e) (started_at b e)

  pub read_laid : read (laid m b) ≡ m
  unfolding t Q R T F W
  read_laid =
      let e : each 128 (sets_at t) ≡ m.entries = each_same 128 (sets_at t) (sets_of m) sets-laid ∙ ap (λ (n : ℕ). each n (sets_of m)) (sym c.entries) ∙ each_get_d None m.entries in
      let r : nodes.lists_of (queue_part t) ≡ m.queues = ap nodes.lists_of (queue-is t Q R T F W j) ∙ ap (λ (x : Lists). x.rows) (lists_laid.read_laid (queue_of m) q) in
      let k : get_or t 674 0 ≡ m.mask = tail_at t Q R T F W j 0 in
      let p : pick_of (get_or t 675 0) (get_or t 676 0) ≡ m.pick = (λ i. pick_of (tail_at t Q R T F W j 1 i) (tail_at t Q R T F W j 2 i)) ∙ pick-back m m.pick (get_or b 675 0) c.pick in
      λ i. record { entries = e i; queues = r i; mask = k i; pick = p i }

  pub laid_whole : whole_b (laid m b) ≡ true
  unfolding t Q R T F W
  laid_whole =
      let z = lists_laid.out-sizes (length m.queues) 128 (lists.arcs (length m.queues) 0 m.queues) in
      let sizes = of_sizes t (record { classes = ap nodes.classes (queue-is t Q R T F W j) ∙ z.0 ∙ c.queues; entries = ap nodes.entries (queue-is t Q R T F W j) ∙ z.1 }) in
      let lists-whole : nodes.whole_b (queue_part t) ≡ true = ap nodes.whole_b (queue-is t Q R T F W j) ∙ lists_laid.laid_whole (queue_of m) q in
      whole_of t (long t Q R T F W j) sizes lists-whole ∙ ap (λ (x : TxQueue). queue.whole_b x) read_laid ∙ f.whole

  pub laid_bytes : Bytes (laid m b)
  unfolding join t Q R T F W
  laid_bytes =
      subst Bytes (sym j.is)
      (bytes-append Q (R ++ (T ++ (F ++ W))) (lists_laid.whole-bytes Q (lists_laid.laid_whole (queue_of m) q))
      (bytes-append R (T ++ (F ++ W)) (bytes-each 128 (λ e. ready_over (sets_of m e) (ready_at b e)) (λ e _. ready-byte (sets_of m e) (ready_at b e) (f.sets e) (y (290 + e))))
      (bytes-append T (F ++ W) (bytes-each 128 (λ e. started_over (sets_of m e) (started_at b e)) (λ e _. started-byte (sets_of m e) (started_at b e) (f.sets e) (y (418 + e))))
      (bytes-append F W (bytes-each 128 (λ e. flag_over (sets_of m e) (flag_at b e)) (λ e _. flag-byte (sets_of m e) (flag_at b e) (y (546 + e))))
      (bytes_three m.mask (pick_mask_over m.pick (get_or b 675 0)) (mtu_of m.pick) f.mask (pick-byte m.pick (get_or b 675 0) f.pick (y 675)) (mtu-byte m m.pick c.pick))))))

-- ---- opening

pub none-at : (n e : ℕ) → get_or {A = Option Sets} (replicate n None) e None ≡ None
none-at zero e = refl
none-at (suc n) zero = refl
none-at (suc n) (suc e) = none-at n e

empty-at : (n k : ℕ) (e : ℕ) → count e (get_or (replicate n []) k []) ≡ 0
unfolding count
empty-at zero k e = refl
empty-at (suc n) zero e = refl
empty-at (suc n) (suc k) e = empty-at n k e

pub fresh-valid : Valid fresh
fresh-valid = record {
  whole = of_conditions fresh (record {
    entries = refl;
    queues = refl;
    placed = λ e k l h. empty-at 16 k e ∙ rw (none-at 128 e);
    pick = refl;
  });
  inside = λ e k l h. empty-at 16 k e;
  sets = λ e s q. no-sets s (sym (none-at 128 e) ∙ q);
  mask = omega arith;
  pick = λ p q. cc;
}

opened : (b : ℕ) (a : Unit {0}) (m : TxQueue) → opening b ≡ done a m → whole_b (laid m (replicate b 0)) ≡ true
unfolding opening
opened b a m h =
    let i = opened-is (eqb b responses_length) tt NotWhole fresh a m h in
    subst (λ (x : TxQueue). whole_b (laid x (replicate b 0)) ≡ true) i.1
    (laid_whole fresh (replicate b 0) (zero-bytes b) fresh-valid (length-replicate {A = ℕ} b 0 ∙ eqb-true b responses_length i.0))

-- ---- the theorem

pub means : ResponsesMeans
means =
    record {
      opened = opened;
      meaning = means_of whole_b read laid Valid Sized laid_bytes laid_whole read_laid step read-valid (λ b h. (known b h).long) laid_read step_valid (λ k m n f z. z);
    }
