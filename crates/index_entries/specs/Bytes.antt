-- A key queue's bytes, N entries and keys 0 to K_MAX:
--   0         K_MAX, two bytes, low byte first
--   2         a list queue of 2 classes and N entries
--   8 + 2 N   for each entry its key word, low byte first: below 8192 the key, which has its value;
--             8192 and the key: its value was handed back; from 16384 on: no key
--   8 + 4 N   for each entry its value, four bytes, low byte first
--   8 + 8 N   for each key its entry; a byte from N on: none
-- and 0 to 3 bytes that say nothing. The value of an entry that has none says nothing either.
use Rattle.std.specs.Prelude.{ℕ, ◌+◌, ◌-◌, ◌*◌, List, Bool, true, cond, ◌&&◌, not, length, get_or, take, drop, leb, ltb, eqb}
use Rattle.state.specs.Lengths.{keys_allowed, keys_length}
use Rattle.state.specs.Seq.{all_b, each}
use Rattle.multi_cycle_list.specs.Lists.{count}
use Rattle.multi_cycle_list.specs.Nodes as nodes
use Rattle.index_entries.specs.Keys.{Slot, free, holds, spent, Keys, has_key}

abbrev pub word_at : List ℕ → ℕ → ℕ
word_at b j = get_or b j 0 + 256 * get_or b (j + 1) 0

abbrev pub k_max : List ℕ → ℕ
k_max b = word_at b 0

-- byte 1 of the list queue
abbrev pub entries : List ℕ → ℕ
entries b = get_or b 3 0

abbrev pub list_part : List ℕ → List ℕ
list_part b = take (6 + 2 * entries b) (drop 2 b)

-- with n entries: the entry i's key word and value, and the key k's entry
abbrev pub key_word : ℕ → List ℕ → ℕ → ℕ
key_word n b i = word_at b (8 + 2 * n + 2 * i)

abbrev pub value : ℕ → List ℕ → ℕ → ℕ
value n b i = word_at b (8 + 4 * n + 4 * i) + 65536 * word_at b (10 + 4 * n + 4 * i)

abbrev pub index : ℕ → List ℕ → ℕ → ℕ
index n b k = get_or b (8 + 8 * n + k) 0

abbrev pub slot_of : ℕ → ℕ → Slot
slot_of w v = cond (ltb w 8192) (holds w v) (cond (ltb w 16384) (spent (w - 8192)) free)

abbrev pub slot_at : List ℕ → ℕ → Slot
slot_at b i = slot_of (key_word (entries b) b i) (value (entries b) b i)

abbrev pub read : List ℕ → Keys
read b = record { k_max = k_max b; slots = each (entries b) (slot_at b); lists = nodes.read (list_part b) }

-- ---- whole

unfoldable pub sizes_b : List ℕ → Bool
sizes_b b = keys_allowed (k_max b) (entries b) && eqb (length b) (keys_length (k_max b) (entries b))

-- the list queue is whole and has two classes
unfoldable pub lists_b : List ℕ → Bool
lists_b b = eqb (nodes.classes (list_part b)) 2 && nodes.whole_b (list_part b)

abbrev pub is_listed : List ℕ → ℕ → Bool
is_listed b i = ltb 0 (count i (nodes.list_of (list_part b) 1))

-- the index names the entry i at the key k
abbrev pub indexed : List ℕ → ℕ → ℕ → Bool
indexed b i k = leb k (k_max b) && eqb (index (entries b) b k) i

-- the entry i has no key and is free, or its key's index names it and it is not free
abbrev pub slot_b : List ℕ → ℕ → Slot → Bool
slot_b b i free = is_listed b i
slot_b b i (holds k v) = indexed b i k && not (is_listed b i)
slot_b b i (spent k) = indexed b i k && not (is_listed b i)

-- the index names no entry at the key k, or one that has the key
abbrev pub key_b : List ℕ → ℕ → Bool
key_b b k = cond (ltb (index (entries b) b k) (entries b)) (has_key k (slot_at b (index (entries b) b k))) true

-- document 01's *whole*: index and keys agree, and the free entries are those without a key
unfoldable pub whole_b : List ℕ → Bool
whole_b b = sizes_b b && (lists_b b && (all_b (entries b) (λ i. slot_b b i (slot_at b i)) && all_b (k_max b + 1) (key_b b)))
