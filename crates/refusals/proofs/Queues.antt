-- How the calls of list queues and key queues end.
use Prim.Native.Nat.{ℕ}
use mathlib.Core.Path.{◌≡◌, refl}
use mathlib.Core.Bool.{Bool, true, false, ◌&&◌, ◌||◌}
use mathlib.Core.List.{List, [], ◌∷◌}
use native.Mathlib.Omega.{arith}
use lib.Dec.{ltb, eqb}
use borrow.Author.Tests.{eq-eqb}
use Rattle.state.specs.Lengths.{lists_allowed, lists_length, keys_allowed, keys_length}
use Rattle.state.specs.Outcome.{Outcome, refuse}
use Rattle.state.specs.declared.Refusal.TheVariants.{NotTaken}
use Rattle.multi_cycle_list.specs.Lists as lists
use Rattle.multi_cycle_list.specs.Nodes as nodes
use Rattle.std.specs.Prelude.{Option, Some, None}
use Rattle.multi_class_queue.specs.Calls as mcq
use Rattle.index_entries.specs.Keys.{free, holds, spent, Keys, Found, missing, at, found}
use Rattle.index_entries.specs.Bytes as entries
use Rattle.index_queue.specs.Calls as iq
use Rattle.gomxeli.specs.Answers.{packed, number, done, flag, option_first, option_second}
use Rattle.gomxeli.specs.Calls.{McqFront, McqBack, McqIsEmpty, McqIsFront, McqIsBack, McqRemove, McqOpen, McqMoveFront, McqMoveBack, IqFront, IqBack, IqContains, IqGet, IqRemove, IqEnqueueFront, IqEnqueueBack, IqDequeue, IqOpen, IqGetMut, IqInsert}
use Rattle.gomxeli.proofs.Fields.{number_of}
use Rattle.refusals.specs.Refusals.{among, Refusal, refusals}
use Rattle.refusals.proofs.Ends.{Ends, refuses, answers, either, alone, on-bytes, zero_number, is_refusal}

-- ---- the numbers of answers

first-zero : (x : Option ℕ) → number (option_first x) ≡ 0
first-zero (Some x) = zero_number _ _ _
first-zero None = zero_number _ _ _

second-zero : (x : Option ℕ) → number (option_second x) ≡ 0
second-zero (Some x) = zero_number _ _ _
second-zero None = zero_number _ _ _

-- ---- list queues

abbrev pub Lists : {A : Type 0} → List ℕ → (A → ℕ) → (lists.Lists → Outcome A lists.Lists) → Type 0
Lists l fields g = (m : lists.Lists) → Ends l fields (g m)

pub on-lists : {A : Type 0} {l : List ℕ} {fields : A → ℕ} {g : lists.Lists → Outcome A lists.Lists} (b : List ℕ) → Lists (1 ∷ l) fields g → Ends (1 ∷ l) fields (mcq.on g b)
on-lists {g} b h = on-bytes nodes.whole_b nodes.read g b refl h

in_size_lem : {A : Type 0} {l : List ℕ} {fields : A → ℕ} (t : Bool) {r : Outcome A lists.Lists} → is_refusal l 13 ≡ true → Ends l fields r → Ends l fields (mcq.in_size t r)
in_size_lem t h p = either t p (alone 13 refl h)

pub front : (c : ℕ) → Lists (refusals (McqFront c)) option_first (mcq.front c)
unfolding mcq.front
front c m = in_size_lem (mcq.has_class m c) refl (answers (first-zero (lists.first (lists.row m c))))

pub back : (c : ℕ) → Lists (refusals (McqBack c)) option_first (mcq.back c)
unfolding mcq.back
back c m = in_size_lem (mcq.has_class m c) refl (answers (first-zero (lists.last (lists.row m c))))

pub is-empty : (c : ℕ) → Lists (refusals (McqIsEmpty c)) flag (mcq.is_empty c)
unfolding mcq.is_empty
is-empty c m = in_size_lem (mcq.has_class m c) refl (answers (zero_number _ _ _))

pub is_front_lem : (e : ℕ) → Lists (refusals (McqIsFront e)) option_first (mcq.is_front e)
unfolding mcq.is_front
is_front_lem e m = in_size_lem (mcq.has_entry m e) refl (answers (first-zero (mcq.which (λ r. mcq.says e (lists.first r)) 0 m.rows)))

pub is-back : (e : ℕ) → Lists (refusals (McqIsBack e)) option_first (mcq.is_back e)
unfolding mcq.is_back
is-back e m = in_size_lem (mcq.has_entry m e) refl (answers (first-zero (mcq.which (λ r. mcq.says e (lists.last r)) 0 m.rows)))

pub remove : (e : ℕ) → Lists (refusals (McqRemove e)) done (mcq.remove e)
unfolding mcq.remove
remove e m = in_size_lem (mcq.has_entry m e) refl (answers (zero_number _ _ _))

pub move-front : (c e : ℕ) → Lists (refusals (McqMoveFront c e)) done (mcq.move_front c e)
unfolding mcq.move_front
move-front c e m = in_size_lem (mcq.has_class m c && mcq.has_entry m e) refl (answers (zero_number _ _ _))

pub move-back : (c e : ℕ) → Lists (refusals (McqMoveBack c e)) done (mcq.move_back c e)
unfolding mcq.move_back
move-back c e m = in_size_lem (mcq.has_class m c && mcq.has_entry m e) refl (answers (zero_number _ _ _))

pub open-lists : (n c e : ℕ) → Ends (refusals (McqOpen c e)) done (mcq.opening n c e)
unfolding mcq.opening
open-lists n c e =
    either (lists_allowed c e)
    (either (eqb n (lists_length c e)) (answers (zero_number _ _ _)) (alone 1 refl refl))
    (alone 13 refl refl)

-- ---- key queues

abbrev pub Keyed : {A : Type 0} → List ℕ → (A → ℕ) → (Keys → Outcome A Keys) → Type 0
Keyed l fields g = (m : Keys) → Ends l fields (g m)

pub on_keys : {A : Type 0} {l : List ℕ} {fields : A → ℕ} {g : Keys → Outcome A Keys} (b : List ℕ) → Keyed (1 ∷ l) fields g → Ends (1 ∷ l) fields (iq.on g b)
on_keys {g} b h = on-bytes entries.whole_b entries.read g b refl h

pub contains : (k : ℕ) → Keyed (refusals (IqContains k)) flag (iq.contains k)
unfolding iq.contains
contains k m = answers (zero_number _ _ _)

pub get : (k : ℕ) → Keyed (refusals (IqGet k)) option_second (iq.get k)
unfolding iq.get
get k m = answers (second-zero (iq.value_in (found m k)))

stored-in : {l : List ℕ} (v : ℕ) (m : Keys) (o : Found) → Ends l flag (iq.stored_in v m o)
stored-in v m missing = answers (zero_number _ _ _)
stored-in v m (at i free) = answers (zero_number _ _ _)
stored-in v m (at i (holds k w)) = answers (zero_number _ _ _)
stored-in v m (at i (spent k)) = answers (zero_number _ _ _)

pub get-mut : (k v : ℕ) → Keyed (refusals (IqGetMut k v)) flag (iq.get_mut k v)
unfolding iq.get_mut
get-mut k v m = stored-in v m (found m k)

later : (t s : Bool) → s ≡ true → (t || s) ≡ true
later true s h = refl
later false s h = h

not_taken : (k v : ℕ) → Ends {M = Keys} (refusals (IqInsert k v)) option_second (refuse (NotTaken k v))
not_taken k v = refuses fourteen
  where
    fourteen : Refusal (refusals (IqInsert k v)) (packed 14 0 k v)
    fourteen = record {
      listed = later (eqb (packed 14 0 k v) 1) (among (packed 14 0 k v) (packed 14 0 k v ∷ 16 ∷ [])) (rw (eq-eqb (packed 14 0 k v) (packed 14 0 k v) refl) refl);
      least = omega (arith, number_of 14 0 k v (omega arith));
      most = omega (arith, number_of 14 0 k v (omega arith));
    }

insert-new : (k v : ℕ) (m : Keys) (free : List ℕ) → Ends (refusals (IqInsert k v)) option_second (iq.insert_new k v m free)
insert-new k v m [] = not_taken k v
insert-new k v m (i ∷ is) = answers (zero_number _ _ _)

insert-in : (k v : ℕ) (m : Keys) (o : Found) → Ends (refusals (IqInsert k v)) option_second (iq.insert_in k v m o)
insert-in k v m missing = insert-new k v m (lists.row m.lists 1)
insert-in k v m (at i free) = alone 16 refl (later (eqb 16 (packed 14 0 k v)) true refl)
insert-in k v m (at i (holds j w)) = answers (zero_number _ _ _)
insert-in k v m (at i (spent j)) = alone 16 refl (later (eqb 16 (packed 14 0 k v)) true refl)

pub insert : (k v : ℕ) → Keyed (refusals (IqInsert k v)) option_second (iq.insert k v)
unfolding iq.insert
insert k v m = either (ltb m.k_max k) (not_taken k v) (insert-in k v m (found m k))

remove-in : (k : ℕ) (m : Keys) (o : Found) → Ends (refusals (IqRemove k)) option_second (iq.remove_in m o)
remove-in k m missing = answers (zero_number _ _ _)
remove-in k m (at i free) = alone 16 refl refl
remove-in k m (at i (holds j v)) = answers (zero_number _ _ _)
remove-in k m (at i (spent j)) = alone 16 refl refl

pub remove_key : (k : ℕ) → Keyed (refusals (IqRemove k)) option_second (iq.remove k)
unfolding iq.remove
remove_key k m = remove-in k m (found m k)

pub front-key : Keyed (refusals IqFront) option_first iq.front
unfolding iq.front
front-key m = answers (first-zero (iq.key_at m (lists.first (lists.row m.lists 0))))

pub back-key : Keyed (refusals IqBack) option_first iq.back
unfolding iq.back
back-key m = answers (first-zero (iq.key_at m (lists.last (lists.row m.lists 0))))

queue-in : {l : List ℕ} → is_refusal l 15 ≡ true → (move : ℕ → lists.Lists → lists.Lists) (m : Keys) (o : Found) → Ends l done (iq.queue_in move m o)
queue-in h move m missing = alone 15 refl h
queue-in h move m (at i s) = answers (zero_number _ _ _)

pub enqueue-front : (k : ℕ) → Keyed (refusals (IqEnqueueFront k)) done (iq.enqueue_front k)
unfolding iq.enqueue_front
enqueue-front k m = queue-in refl (lists.moved_front 0) m (found m k)

pub enqueue-back : (k : ℕ) → Keyed (refusals (IqEnqueueBack k)) done (iq.enqueue_back k)
unfolding iq.enqueue_back
enqueue-back k m = queue-in refl (lists.moved_back 0) m (found m k)

pub dequeue : (k : ℕ) → Keyed (refusals (IqDequeue k)) done (iq.dequeue k)
unfolding iq.dequeue
dequeue k m = queue-in refl lists.without_entry m (found m k)

pub open_keys : (n k e : ℕ) → Ends (refusals (IqOpen k e)) done (iq.opening n k e)
unfolding iq.opening
open_keys n k e = either (keys_allowed k e) (either (eqb n (keys_length k e)) (answers (zero_number _ _ _)) (alone 1 refl refl)) (alone 13 refl refl)
