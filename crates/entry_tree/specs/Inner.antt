-- Inner: what a tree's bytes are, a place's three bytes, what the code's stores do to them, where a pair belongs, and a walk's byte.
use Rattle.std.specs.Prelude.{ℕ, zero, suc, ◌+◌, ◌*◌, ◌/◌, ◌%◌, ◌<◌, ◌≤◌, ◌≡◌, List, [], ◌∷◌, cond, eqb, length, get_or, set, Option}
use Rattle.entry_tree.specs.Pairs.{Pair, pair}
use Rattle.entry_tree.specs.Places.{size, subject_at}
use Rattle.entry_tree.specs.Walks.{walk_over}

abbrev pub tree_length : ℕ
tree_length = 385

-- a tree's bytes
pub record IsTree (t : List ℕ) : Type 0 where
  pub len : length t ≡ tree_length
  pub few : size t ≤ 128

-- the pair of a place's three bytes
abbrev pub pair_of : List ℕ → Pair
pair_of c = pair (get_or c 0 0) (get_or c 1 0 + 256 * get_or c 2 0)

-- the list without its pair i
abbrev pub removed_at : ℕ → List Pair → List Pair
removed_at i [] = []
removed_at zero (p ∷ l) = l
removed_at (suc i) (p ∷ l) = p ∷ removed_at i l

pub record Cell : Type 0 where
  pub entry : ℕ
  pub low : ℕ
  pub high : ℕ

abbrev pub cell_at : List ℕ → ℕ → Cell
cell_at t i = record { entry = get_or t (1 + 3 * i) 0; low = get_or t (2 + 3 * i) 0; high = get_or t (3 + 3 * i) 0 }

abbrev pub cell_of : Pair → Cell
cell_of p = record { entry = p.entry; low = p.subject % 256; high = p.subject / 256 }

abbrev pub set_cell : List ℕ → ℕ → Cell → List ℕ
set_cell t i c = set (set (set t (1 + 3 * i) c.entry) (2 + 3 * i) c.low) (3 + 3 * i) c.high

-- the pairs before the place i are up to the subject x, those from i on are past it
pub record IsUpperBound (t : List ℕ) (x i : ℕ) : Type 0 where
  pub most : i ≤ size t
  pub below : (k : ℕ) → k < i → subject_at t k ≤ x
  pub above : (k : ℕ) → i ≤ k → k < size t → x < subject_at t k

-- ---- the byte i of s holds a walk

abbrev pub with_walk : ℕ → List ℕ → Option ℕ → List ℕ
with_walk i s w = set s i (walk_over w (get_or s i 0))

abbrev pub with_walk_past : ℕ → List ℕ → ℕ → Option ℕ → List ℕ
with_walk_past i s e w = cond (eqb (get_or s i 0) e) (with_walk i s w) s
