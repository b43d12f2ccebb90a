-- The calls of a key queue: on the plain meaning, and on bytes; and what is proved of them.
use Rattle.std.specs.Prelude.{ℕ, ◌<◌, ◌^◌, ◌≡◌, Bool, true, false, cond, List, [], ◌∷◌, length, replicate, ltb, eqb, Option, Some, None}
use Rattle.state.specs.Lengths.{keys_allowed, keys_length}
use Rattle.state.specs.Outcome as state
use Rattle.state.specs.Outcome.{Outcome, refuse, done, Means}
use Rattle.state.specs.declared.Refusal.TheVariants.{NotWhole, Size, NotTaken, NoKey, ValueGone}
use Rattle.multi_cycle_list.specs.Lists as lists
use Rattle.multi_cycle_list.specs.Lists.{row, first, last, without_entry, moved_front, moved_back}
use Rattle.index_entries.specs.Keys.{Slot, free, holds, spent, Keys, slot, Found, missing, at, found, ValidKeys, with_slot, with_lists, changed, fresh}
use Rattle.index_entries.specs.Bytes.{whole_b, read}
use Rattle.index_entries.specs.Laid.{laid}

-- ---- on the plain meaning

abbrev pub is_at : Found → Bool
is_at missing = false
is_at (at i s) = true

unfoldable pub contains : ℕ → Keys → Outcome Bool Keys
contains k m = done (is_at (found m k)) m

-- the value found. Where it was handed back document 01 leaves the answer open: here there is none
abbrev pub value_in : Found → Option ℕ
value_in missing = None
value_in (at i free) = None
value_in (at i (holds k v)) = Some v
value_in (at i (spent k)) = None

unfoldable pub get : ℕ → Keys → Outcome (Option ℕ) Keys
get k m = done (value_in (found m k)) m

-- `get_mut` as a store: the value v where the key has one, and whether it was stored. Open in document 01, as for `get`, where it was handed back
abbrev pub stored_in : ℕ → Keys → Found → Outcome Bool Keys
stored_in v m missing = done false m
stored_in v m (at i free) = done false m
stored_in v m (at i (holds k w)) = done true (with_slot i (holds k v) m)
stored_in v m (at i (spent k)) = done false m

unfoldable pub get_mut : ℕ → ℕ → Keys → Outcome Bool Keys
get_mut k v m = stored_in v m (found m k)

-- a new key takes the first free entry, if any
abbrev pub insert_new : ℕ → ℕ → Keys → List ℕ → Outcome (Option ℕ) Keys
insert_new k v m [] = refuse (NotTaken k v)
insert_new k v m (i ∷ is) = done None (changed i (holds k v) (without_entry i m.lists) m)

-- a key with a value hands it back, and the new one is not kept; refused where it was handed back before
abbrev pub insert_in : ℕ → ℕ → Keys → Found → Outcome (Option ℕ) Keys
insert_in k v m missing = insert_new k v m (row m.lists 1)
insert_in k v m (at i free) = refuse ValueGone
insert_in k v m (at i (holds j w)) = done (Some w) (with_slot i (spent j) m)
insert_in k v m (at i (spent j)) = refuse ValueGone

unfoldable pub insert : ℕ → ℕ → Keys → Outcome (Option ℕ) Keys
insert k v m = cond (ltb m.k_max k) (refuse (NotTaken k v)) (insert_in k v m (found m k))

-- the entry leaves the queue and joins the back of the free ones
abbrev pub remove_in : Keys → Found → Outcome (Option ℕ) Keys
remove_in m missing = done None m
remove_in m (at i free) = refuse ValueGone
remove_in m (at i (holds k v)) = done (Some v) (changed i free (moved_back 1 i m.lists) m)
remove_in m (at i (spent k)) = refuse ValueGone

unfoldable pub remove : ℕ → Keys → Outcome (Option ℕ) Keys
remove k m = remove_in m (found m k)

abbrev pub key_in : Slot → Option ℕ
key_in free = None
key_in (holds k v) = Some k
key_in (spent k) = Some k

-- the key of the entry that a list names
abbrev pub key_at : Keys → Option ℕ → Option ℕ
key_at m (Some i) = key_in (slot m i)
key_at m None = None

unfoldable pub front : Keys → Outcome (Option ℕ) Keys
front m = done (key_at m (first (row m.lists 0))) m

unfoldable pub back : Keys → Outcome (Option ℕ) Keys
back m = done (key_at m (last (row m.lists 0))) m

-- refused where the key has no entry
abbrev pub queue_in : (ℕ → lists.Lists → lists.Lists) → Keys → Found → Outcome (Unit {0}) Keys
queue_in move m missing = refuse NoKey
queue_in move m (at i s) = done tt (with_lists (move i m.lists) m)

unfoldable pub enqueue_front : ℕ → Keys → Outcome (Unit {0}) Keys
enqueue_front k m = queue_in (moved_front 0) m (found m k)

unfoldable pub enqueue_back : ℕ → Keys → Outcome (Unit {0}) Keys
enqueue_back k m = queue_in (moved_back 0) m (found m k)

unfoldable pub dequeue : ℕ → Keys → Outcome (Unit {0}) Keys
dequeue k m = queue_in without_entry m (found m k)

-- n bytes are opened for keys 0 to k and e entries: refused for sizes that are not allowed, and for another length
unfoldable pub opening : ℕ → ℕ → ℕ → Outcome (Unit {0}) Keys
opening n k e = cond (keys_allowed k e) (cond (eqb n (keys_length k e)) (done tt (fresh k e)) (refuse NotWhole)) (refuse Size)

-- ---- on bytes

abbrev pub on : {A : Type 0} → (Keys → Outcome A Keys) → List ℕ → Outcome A Keys
on f b = state.called whole_b read f b

abbrev pub bytes : {A : Type 0} → List ℕ → Outcome A Keys → List ℕ
bytes b r = state.bytes laid b r

-- opening keeps nothing of the old bytes: what says nothing is 255
abbrev pub opened_bytes : List ℕ → Outcome (Unit {0}) Keys → List ℕ
opened_bytes b r = state.bytes (λ m x. laid m (replicate (length x) 255)) b r

-- every call but opening, with its numbers; a value has 32 bits
pub data Call : Type 0 where
  Contains Get Remove EnqueueFront EnqueueBack Dequeue : ℕ → Call
  GetMut Insert : (key value : ℕ) → value < 2 ^ 32 → Call
  Front Back : Call

-- what a call answers
abbrev pub Answer : Call → Type 0
Answer (Contains k) = Bool
Answer (Get k) = Option ℕ
Answer (Remove k) = Option ℕ
Answer (EnqueueFront k) = Unit {0}
Answer (EnqueueBack k) = Unit {0}
Answer (Dequeue k) = Unit {0}
Answer (GetMut k v h) = Bool
Answer (Insert k v h) = Option ℕ
Answer Front = Option ℕ
Answer Back = Option ℕ

abbrev pub step : (k : Call) → Keys → Outcome (Answer k) Keys
step (Contains k) = contains k
step (Get k) = get k
step (Remove k) = remove k
step (EnqueueFront k) = enqueue_front k
step (EnqueueBack k) = enqueue_back k
step (Dequeue k) = dequeue k
step (GetMut k v h) = get_mut k v
step (Insert k v h) = insert k v
step Front = front
step Back = back

abbrev pub Sized : Keys → ℕ → Type 0
Sized m n = n ≡ keys_length m.k_max (length m.slots)

pub record KeysMean : Type 0 where
  -- opened bytes are whole
  pub opened : (n k e : ℕ) (a : Unit {0}) (m : Keys) → opening n k e ≡ done a m → whole_b (laid m (replicate n 255)) ≡ true
  pub meaning : Means whole_b read laid ValidKeys Sized step
