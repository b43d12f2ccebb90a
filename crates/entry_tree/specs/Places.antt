-- An entry tree's 385 bytes: byte 0 the number of pairs, at most 128; then 128 places of an entry and its subject, low byte first.
-- The places past the number of pairs say nothing.
use Rattle.std.specs.Prelude.{ℕ, min, ◌+◌, ◌-◌, ◌*◌, ◌/◌, ◌%◌, List, [], ◌∷◌, ◌++◌, length, get_or, drop, replicate}
use Rattle.state.specs.Seq.{each}
use Rattle.entry_tree.specs.Pairs.{Pair, pair}

abbrev pub size : List ℕ → ℕ
size t = get_or t 0 0

abbrev pub entry_at : List ℕ → ℕ → ℕ
entry_at t i = get_or t (1 + 3 * i) 0

abbrev pub subject_at : List ℕ → ℕ → ℕ
subject_at t i = get_or t (2 + 3 * i) 0 + 256 * get_or t (3 + 3 * i) 0

abbrev pub pair_at : List ℕ → ℕ → Pair
pair_at t i = pair (entry_at t i) (subject_at t i)

unfoldable pub read : List ℕ → List Pair
read t = each (size t) (pair_at t)

-- ---- the bytes of pairs, over the old ones

unfoldable pub places : List Pair → List ℕ
places [] = []
places (p ∷ l) = p.entry ∷ (p.subject % 256 ∷ (p.subject / 256 ∷ places l))

-- how many places have a pair
abbrev pub taken : List ℕ → ℕ
taken t = min (size t) 128

-- a place that is left is filled with 255; the places that had no pair stay
unfoldable pub laid : List Pair → List ℕ → List ℕ
laid l t = length l ∷ (places l ++ (replicate (3 * (taken t - length l)) 255 ++ drop (1 + 3 * length l + 3 * (taken t - length l)) t))
