-- Inner: trees that change in one pass, and how far their bytes are written.
use Rattle.std.specs.Prelude.{ℕ, ◌+◌, ◌<◌, ◌≤◌, ◌≡◌, List, [], ◌∷◌, Bool, true, cond, eqb, ltb, length, get_or}
use Rattle.entry_tree.specs.Pairs.{Pair, pair, inserted, in_order}
use Rattle.entry_tree.specs.Places.{size, read}
use Rattle.entry_tree.specs.Inner.{IsTree, tree_length, cell_at, cell_of}

-- the pairs that pass a test
abbrev pub kept : (Pair → Bool) → List Pair → List Pair
kept t [] = []
kept t (p ∷ l) = cond (t p) (p ∷ kept t l) (kept t l)

-- a pair's entry bears no mark
abbrev pub stays : List ℕ → Pair → Bool
stays gone p = eqb (get_or gone p.entry 0) 0

-- an entry for each place, or a byte from 128 on if none: the entries, each with the subject of its place
abbrev pub filled : List ℕ → List Pair → List Pair
filled [] l = []
filled (v ∷ vs) [] = []
filled (v ∷ vs) (p ∷ l) = cond (ltb v 128) (pair v p.subject ∷ filled vs l) (filled vs l)

-- each pair of the second list joins the first, after its equals
abbrev pub merged : List Pair → List Pair → List Pair
merged l [] = l
merged l (p ∷ k) = merged (inserted p l) k

-- the first w pairs of l are written in u, over t
pub record Written (l : List Pair) (t u : List ℕ) (w : ℕ) : Type 0 where
  pub len : length u ≡ length t
  pub number : size u ≡ size t
  pub far : w ≤ length l
  pub done : (i : ℕ) → i < w → cell_at u i ≡ cell_of (get_or l i (pair 0 0))
  pub left : (i : ℕ) → w ≤ i → cell_at u i ≡ cell_at t i

-- the pairs without a mark are written in u, over t: w of them
pub record Kept (gone t u : List ℕ) (w : ℕ) : Type 0 where
  pub number : w ≡ length (kept (stays gone) (read t))
  pub few : w ≤ size t
  pub written : Written (kept (stays gone) (read t)) t u w

-- t is the tree a; the entries of `slots` that join it, by the places of the tree b, fit in
pub record Mergeable (t a b slots : List ℕ) : Type 0 where
  pub len : length t ≡ tree_length
  pub same : t ≡ a
  pub other : IsTree b
  pub room : size a + length (filled slots (read b)) ≤ 128
  pub order_a : in_order 0 (read a) ≡ true
  pub order_b : in_order 0 (read b) ≡ true
