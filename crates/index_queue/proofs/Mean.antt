-- Each call keeps a key queue valid; so the theorem of specs/Calls.antt.
use Prim.Native.Nat.{ℕ, ◌^◌, ◌<◌, ◌≤◌}
use mathlib.Core.Path.{◌≡◌, refl, sym, ap, ◌∙◌, subst}
use mathlib.Core.Logic.{inl}
use mathlib.Core.List.{List, [], ◌∷◌}
use mathlib.Core.Bool.{Bool, true, false}
use native.Mathlib.Omega.{arith}
use native.Mathlib.Decide.{dec_lt}
use lib.ListN.{length, replicate, length-set, length-replicate, get_or-replicate, get_or-eq_default}
use lib.Seq.{set-get_or}
use lib.Dec.{ltb, eqb}
use borrow.Author.Tests.{ltb-false, eqb-true}
use Rattle.state.specs.Lengths.{keys_allowed, keys_length}
use Rattle.std.specs.Prelude.{Option}
use Rattle.state.specs.Outcome.{Outcome, refuse, done, left, Bytes}
use Rattle.state.specs.declared.Refusal.TheVariants.{NotWhole, Size, NotTaken}
use Rattle.state.proofs.Tests.{not-both, by_cond}
use Rattle.state.proofs.Outcomes.{opened-is, means_of}
use Rattle.multi_cycle_list.specs.Lists.{Lists, count, row, without_entry, moved_front, moved_back}
use Rattle.multi_cycle_list.proofs.Lists.{in_count}
use Rattle.index_entries.specs.Keys.{Slot, free, holds, spent, Keys, has_key, is_free, slot, Found, missing, at, found, Within, ValidKeys, with_slot, with_lists, fresh}
use Rattle.index_entries.specs.Bytes.{k_max, read, whole_b}
use Rattle.index_entries.specs.Laid.{laid}
use Rattle.index_entries.proofs.Find.{Looks, looks, key-not-free}
use Rattle.index_entries.proofs.Keeping.{change_valid}
use Rattle.index_entries.proofs.Acts.{Moves, moves_gone, moves_front, moves_back, moves_free, moves_none, keeps}
use Rattle.index_entries.proofs.Facts.{facts_of, slots_length, read-valid, laid_read}
use Rattle.index_entries.proofs.Round.{laid_whole, read_laid, laid_bytes}
use Rattle.index_entries.proofs.Fresh.{fresh-valid}
use Rattle.index_queue.specs.Calls.{contains, get, stored_in, get_mut, insert_new, insert_in, insert, remove_in, remove, front, back, queue_in, enqueue_front, enqueue_back, dequeue, opening, Call, Contains, Get, Remove, EnqueueFront, EnqueueBack, Dequeue, GetMut, Insert, Front, Back, step, Sized, KeysMean}
use Rattle.index_queue.proofs.Ends.{in_size}

module _ (m : Keys) (f : ValidKeys m) where
  -- the entry that has the key k gets another slot with the same key
  same_key : (k i j w : ℕ) → Looks k m.slots (at i (holds j w)) → (x : Slot) → (Within m.k_max (holds j w) → Within m.k_max x) → is_free x ≡ false → ((c : ℕ) → has_key c x ≡ eqb j c) → ValidKeys (with_slot i x m)
  same_key k i j w l x g b e =
      let q = l.1.0 in
      change_valid m i x m.lists f
      (keeps m f i l.0 x m.lists (g (subst (λ (s : Slot). Within m.k_max s) q (f.within i)))
      (λ c a p o. f.distinct a i c o (ap (has_key c) q ∙ sym (e c) ∙ p))
      (subst (λ (t : Bool). Moves m i m.lists t) (sym b) (moves_none m f i l.0 (ap is_free q))))

  requeued : (k i : ℕ) (x : Slot) → Looks k m.slots (at i x) → (l : Lists) → Moves m i l false → ValidKeys (with_lists l m)
  requeued k i x t l v =
      let q = t.1.0 in
      let b : is_free (slot m i) ≡ false = ap is_free q ∙ key-not-free k x t.1.1 in
      subst (λ (ss : List Slot). ValidKeys (keys_of ss l)) (set-get_or m.slots i free)
      (change_valid m i (slot m i) l f
      (keeps m f i t.0 (slot m i) l (f.within i) (λ c a p o. f.distinct a i c o p) (subst (λ (z : Bool). Moves m i l z) (sym b) v)))
    where
      keys_of : List Slot → Lists → Keys
      keys_of ss l = record { k_max = m.k_max; slots = ss; lists = l }

  stored_valid : (k v : ℕ) → v < 2 ^ 32 → (g : Found) → Looks k m.slots g → ValidKeys (left m (stored_in v m g))
  stored_valid k v h missing l = f
  stored_valid k v h (at i free) l = f
  stored_valid k v h (at i (holds j w)) l = same_key k i j w l (holds j v) (λ z. (z.0, h)) refl (λ c. refl)
  stored_valid k v h (at i (spent j)) l = f

  new-valid : (k v : ℕ) → v < 2 ^ 32 → k ≤ m.k_max → ((j : ℕ) → has_key k (slot m j) ≡ false) → (r : List ℕ) → row m.lists 1 ≡ r → ValidKeys (left m (insert_new k v m r))
  new-valid k v h b o [] q = f
  new-valid k v h b o (i ∷ is) q =
      let c : 0 < count i (row m.lists 1) = rw q (in_count i (i ∷ is) (inl refl)) in
      let n : i < length m.slots = omega (arith, in_size m.lists f.valid 1 i c, f.entries) in
      change_valid m i (holds k v) (without_entry i m.lists) f
      (keeps m f i n (holds k v) (without_entry i m.lists) (b, h)
      (λ a j p w. not-both (sym w ∙ ap (λ (z : ℕ). has_key z (slot m j)) (sym (eqb-true k a p)) ∙ o j))
      (moves_gone m f i n))

  insert-valid : (k v : ℕ) → v < 2 ^ 32 → k ≤ m.k_max → (g : Found) → Looks k m.slots g → ValidKeys (left m (insert_in k v m g))
  insert-valid k v h b missing l = new-valid k v h b l (row m.lists 1) refl
  insert-valid k v h b (at i free) l = f
  insert-valid k v h b (at i (holds j w)) l = same_key k i j w l (spent j) (λ z. z.0) refl (λ c. refl)
  insert-valid k v h b (at i (spent j)) l = f

  remove-valid : (k : ℕ) (g : Found) → Looks k m.slots g → ValidKeys (left m (remove_in m g))
  remove-valid k missing l = f
  remove-valid k (at i free) l = f
  remove-valid k (at i (holds j w)) l =
      change_valid m i free (moved_back 1 i m.lists) f
      (keeps m f i l.0 free (moved_back 1 i m.lists) tt (λ c a p o. not-both (sym p)) (moves_free m f i l.0))
  remove-valid k (at i (spent j)) l = f

  queue-valid : (move : ℕ → Lists → Lists) → ((i : ℕ) → i < length m.slots → Moves m i (move i m.lists) false) → (k : ℕ) (g : Found) → Looks k m.slots g → ValidKeys (left m (queue_in move m g))
  queue-valid move v k missing l = f
  queue-valid move v k (at i x) l = requeued k i x l (move i m.lists) (v i l.0)

step_valid : (c : Call) (m : Keys) → ValidKeys m → ValidKeys (left m (step c m))
unfolding contains get get_mut insert remove front back enqueue_front enqueue_back dequeue
step_valid (Contains k) m f = f
step_valid (Get k) m f = f
step_valid (Remove k) m f = remove-valid m f k (found m k) (looks k m.slots)
step_valid (EnqueueFront k) m f = queue-valid m f (moved_front 0) (λ i h. moves_front m f i h) k (found m k) (looks k m.slots)
step_valid (EnqueueBack k) m f = queue-valid m f (moved_back 0) (λ i h. moves_back m f i h) k (found m k) (looks k m.slots)
step_valid (Dequeue k) m f = queue-valid m f without_entry (λ i h. moves_gone m f i h) k (found m k) (looks k m.slots)
step_valid (GetMut k v h) m f = stored_valid m f k v h (found m k) (looks k m.slots)
step_valid (Insert k v h) m f =
    by_cond (λ (r : Outcome (Option ℕ) Keys). ValidKeys (left m r)) (ltb m.k_max k) {a = refuse (NotTaken k v)} {b = insert_in k v m (found m k)} (λ q. f) (λ q. insert-valid m f k v h (ltb-false m.k_max k q) (found m k) (looks k m.slots))
step_valid Front m f = f
step_valid Back m f = f

-- ---- sizes

-- a result keeps the sizes
abbrev Same : {A : Type 0} → Keys → Outcome A Keys → Type 0
Same m r = ((left m r).k_max ≡ m.k_max) × (length (left m r).slots ≡ length m.slots)

module _ (m : Keys) where
  stored_same : (v : ℕ) (g : Found) → Same m (stored_in v m g)
  stored_same v missing = (refl, refl)
  stored_same v (at i free) = (refl, refl)
  stored_same v (at i (holds j w)) = (refl, length-set m.slots i (holds j v))
  stored_same v (at i (spent j)) = (refl, refl)

  new-same : (k v : ℕ) (r : List ℕ) → Same m (insert_new k v m r)
  new-same k v [] = (refl, refl)
  new-same k v (i ∷ is) = (refl, length-set m.slots i (holds k v))

  insert-same : (k v : ℕ) (g : Found) → Same m (insert_in k v m g)
  insert-same k v missing = new-same k v (row m.lists 1)
  insert-same k v (at i free) = (refl, refl)
  insert-same k v (at i (holds j w)) = (refl, length-set m.slots i (spent j))
  insert-same k v (at i (spent j)) = (refl, refl)

  remove-same : (g : Found) → Same m (remove_in m g)
  remove-same missing = (refl, refl)
  remove-same (at i free) = (refl, refl)
  remove-same (at i (holds j w)) = (refl, length-set m.slots i free)
  remove-same (at i (spent j)) = (refl, refl)

  queue-same : (move : ℕ → Lists → Lists) (g : Found) → Same m (queue_in move m g)
  queue-same move missing = (refl, refl)
  queue-same move (at i x) = (refl, refl)

step_same : (c : Call) (m : Keys) → Same m (step c m)
unfolding contains get get_mut insert remove front back enqueue_front enqueue_back dequeue
step_same (Contains k) m = (refl, refl)
step_same (Get k) m = (refl, refl)
step_same (Remove k) m = remove-same m (found m k)
step_same (EnqueueFront k) m = queue-same m (moved_front 0) (found m k)
step_same (EnqueueBack k) m = queue-same m (moved_back 0) (found m k)
step_same (Dequeue k) m = queue-same m without_entry (found m k)
step_same (GetMut k v h) m = stored_same m v (found m k)
step_same (Insert k v h) m = by_cond (λ (r : Outcome (Option ℕ) Keys). Same m r) (ltb m.k_max k) (λ q. (refl, refl)) (λ q. insert-same m k v (found m k))
step_same Front m = (refl, refl)
step_same Back m = (refl, refl)

step_sized : (c : Call) (m : Keys) (n : ℕ) → ValidKeys m → Sized m n → Sized (left m (step c m)) n
step_sized c m n f z =
    let q = step_same c m in
    z ∙ sym (ap (λ (k : ℕ). keys_length k (length (left m (step c m)).slots)) q.0 ∙ ap (keys_length m.k_max) q.1)

-- ---- the theorem

read-sized : (b : List ℕ) → whole_b b ≡ true → Sized (read b) (length b)
read-sized b h = (facts_of b h).len ∙ ap (keys_length (k_max b)) (sym (slots_length b))

fill_bytes : (n : ℕ) → Bytes (replicate n 255)
fill_bytes n i =
    elim (dec_lt i n) [
      | yes q ↦ omega (arith, get_or-replicate {A = ℕ} n i 255 0 q)
      | no q ↦ omega (arith, get_or-eq_default {A = ℕ} (replicate n 255) 0 {n = i} (omega (arith, length-replicate {A = ℕ} n 255)))
    ]

opened : (n k e : ℕ) (a : Unit {0}) (m : Keys) → opening n k e ≡ done a m → whole_b (laid m (replicate n 255)) ≡ true
unfolding opening
opened n k e a m =
    by_cond (λ (o : Outcome (Unit {0}) Keys). o ≡ done a m → whole_b (laid m (replicate n 255)) ≡ true) (keys_allowed k e)
    (λ h q.
    let i = opened-is (eqb n (keys_length k e)) tt NotWhole (fresh k e) a m q in
    let l : length {A = Slot} (replicate e free) ≡ e = length-replicate {A = Slot} e free in
    subst (λ (x : Keys). whole_b (laid x (replicate n 255)) ≡ true) i.1
    (laid_whole (fresh k e) (replicate n 255) (fill_bytes n) (fresh-valid k e h) (length-replicate {A = ℕ} n 255 ∙ eqb-true n (keys_length k e) i.0 ∙ ap (keys_length k) (sym l))))
    (λ h q. not-both (sym (opened-is false a Size m a m q).0))

pub mean : KeysMean
mean =
    record {
      opened = opened;
      meaning = means_of whole_b read laid ValidKeys Sized laid_bytes laid_whole read_laid step (λ b y h. read-valid b (facts_of b h) y) read-sized (λ b y h. laid_read b (facts_of b h) y) step_valid step_sized;
    }
