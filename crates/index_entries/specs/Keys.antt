-- A key queue in plain words: what each entry holds, and two lists of entries, the queue (row 0) and the free ones (row 1).
use Rattle.std.specs.Prelude.{ℕ, suc, ◌<◌, ◌≤◌, ◌^◌, ◌≡◌, List, [], ◌∷◌, Bool, true, false, cond, length, get_or, set, replicate, eqb}
use Rattle.state.specs.Lengths.{keys_allowed}
use Rattle.state.specs.Seq.{each}
use Rattle.multi_cycle_list.specs.Lists.{Lists, Valid, count, row}

-- an entry has no key; or a key and its value; or a key whose value was handed back
pub data Slot : Type 0 where
  free : Slot
  holds : ℕ → ℕ → Slot
  spent : ℕ → Slot

pub record Keys : Type 0 where
  pub k_max : ℕ
  pub slots : List Slot
  pub lists : Lists

abbrev pub has_key : ℕ → Slot → Bool
has_key k free = false
has_key k (holds j v) = eqb j k
has_key k (spent j) = eqb j k

abbrev pub is_free : Slot → Bool
is_free free = true
is_free (holds k v) = false
is_free (spent k) = false

abbrev pub slot : Keys → ℕ → Slot
slot m i = get_or m.slots i free

-- the entry that has a key, and what it holds
pub data Found : Type 0 where
  missing : Found
  at : ℕ → Slot → Found

-- the first of the slots, counted from i, that has the key k
unfoldable pub find : ℕ → ℕ → List Slot → Found
find k i [] = missing
find k i (s ∷ ss) = cond (has_key k s) (at i s) (find k (suc i) ss)

abbrev pub found : Keys → ℕ → Found
found m k = find k 0 m.slots

-- a key is at most `k_max`, and a value has 32 bits
abbrev pub Within : ℕ → Slot → Type 0
Within k_max free = Unit {0}
Within k_max (holds k v) = (k ≤ k_max) × (v < 2 ^ 32)
Within k_max (spent k) = k ≤ k_max

-- whole, on the plain meaning: no two entries have the same key, and the free entries are those without a key
pub record ValidKeys (m : Keys) : Type 0 where
  pub sizes : keys_allowed m.k_max (length m.slots) ≡ true
  pub within : (i : ℕ) → Within m.k_max (slot m i)
  pub distinct : (i j k : ℕ) → has_key k (slot m i) ≡ true → has_key k (slot m j) ≡ true → i ≡ j
  pub classes : length m.lists.rows ≡ 2
  pub entries : m.lists.entries ≡ length m.slots
  pub valid : Valid m.lists
  pub free_listed : (i : ℕ) → i < length m.slots → is_free (slot m i) ≡ true → 0 < count i (row m.lists 1)
  pub listed_free : (i : ℕ) → 0 < count i (row m.lists 1) → is_free (slot m i) ≡ true

-- ---- changes

abbrev pub with_slot : ℕ → Slot → Keys → Keys
with_slot i s m = record { k_max = m.k_max; slots = set m.slots i s; lists = m.lists }

abbrev pub with_lists : Lists → Keys → Keys
with_lists l m = record { k_max = m.k_max; slots = m.slots; lists = l }

-- both: the entry i's slot, and the lists
abbrev pub changed : ℕ → Slot → Lists → Keys → Keys
changed i s l m = record { k_max = m.k_max; slots = set m.slots i s; lists = l }

-- n entries, the first f of them free
abbrev pub free_first : ℕ → ℕ → Lists
free_first n f = record { entries = n; rows = [] ∷ (each f (λ i. i) ∷ []) }

-- opened: no entry has a key, and all are free, in order
abbrev pub fresh : ℕ → ℕ → Keys
fresh k n = record { k_max = k; slots = replicate n free; lists = free_first n n }
