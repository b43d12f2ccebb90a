-- The bytes of a key queue over the old ones: what says nothing stays.
use Rattle.std.specs.Prelude.{ℕ, zero, suc, ◌+◌, ◌*◌, ◌/◌, ◌%◌, List, [], ◌∷◌, ◌++◌, cond, length, drop, leb}
use Rattle.state.specs.Seq.{each}
use Rattle.multi_cycle_list.specs.Laid as lists
use Rattle.index_entries.specs.Keys.{Slot, free, holds, spent, Keys, slot, Found, missing, at, found}
use Rattle.index_entries.specs.Bytes.{key_word, value, index}

-- a key word over the old one: a word that says 'no key' stays where there is none
abbrev pub word_over : Slot → ℕ → ℕ
word_over free w = cond (leb 16384 w) w 65535
word_over (holds k v) w = k
word_over (spent k) w = 8192 + k

abbrev pub value_over : Slot → ℕ → ℕ
value_over free v = v
value_over (holds k x) v = x
value_over (spent k) v = v

-- an index byte over the old one, with n entries
abbrev pub index_over : ℕ → Found → ℕ → ℕ
index_over n missing x = cond (leb n x) x 255
index_over n (at i s) x = i

-- for each number below n, the word f gives, low byte first; and the number of four bytes
unfoldable pub words : ℕ → (ℕ → ℕ) → List ℕ
words n f = lists.twos n (λ i. f i % 256) (λ i. f i / 256 % 256)

unfoldable pub longs : ℕ → (ℕ → ℕ) → List ℕ
longs zero f = []
longs (suc n) f = f 0 % 256 ∷ f 0 / 256 % 256 ∷ f 0 / 65536 % 256 ∷ f 0 / 16777216 % 256 ∷ longs n (λ i. f (suc i))

unfoldable pub laid : Keys → List ℕ → List ℕ
laid m b =
    words 1 (λ i. m.k_max)
    ++ (lists.laid m.lists
    ++ (words (length m.slots) (λ i. word_over (slot m i) (key_word (length m.slots) b i))
    ++ (longs (length m.slots) (λ i. value_over (slot m i) (value (length m.slots) b i))
    ++ (each (m.k_max + 1) (λ k. index_over (length m.slots) (found m k) (index (length m.slots) b k))
    ++ drop (9 + 8 * length m.slots + m.k_max) b))))
