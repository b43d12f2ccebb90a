-- A list queue in plain words: for each class the list of its entries, from the front; and what a change makes of these lists.
use Rattle.std.specs.Prelude.{ℕ, suc, ◌+◌, ◌≤◌, ◌≡◌, List, [], ◌∷◌, ◌++◌, map, true, cond, length, get_or, set, replicate, eqb, Option, Some, None}
use Rattle.state.specs.Lengths.{lists_allowed}

-- how many entries there are, and the list of each class
pub record Lists : Type 0 where
  pub entries : ℕ
  pub rows : List (List ℕ)

-- how often e stands in a list, and in all lists
unfoldable pub count : ℕ → List ℕ → ℕ
count e [] = 0
count e (x ∷ xs) = cond (eqb x e) (suc (count e xs)) (count e xs)

unfoldable pub counts : ℕ → List (List ℕ) → ℕ
counts e [] = 0
counts e (r ∷ rs) = count e r + counts e rs

-- whole, on lists: the sizes are allowed, and each entry stands in at most one place
pub record Valid (m : Lists) : Type 0 where
  pub sizes : lists_allowed (length m.rows) m.entries ≡ true
  pub inside : (e : ℕ) → m.entries ≤ e → counts e m.rows ≡ 0
  pub once : (e : ℕ) → counts e m.rows ≤ 1

-- ---- changes of lists

-- the list without e
unfoldable pub without : ℕ → List ℕ → List ℕ
without e [] = []
without e (x ∷ xs) = cond (eqb x e) (without e xs) (x ∷ without e xs)

abbrev pub removed : ℕ → List (List ℕ) → List (List ℕ)
removed e ls = map (without e) ls

abbrev pub pushed_front : ℕ → ℕ → List (List ℕ) → List (List ℕ)
pushed_front c e ls = set ls c (e ∷ get_or ls c [])

abbrev pub pushed_back : ℕ → ℕ → List (List ℕ) → List (List ℕ)
pushed_back c e ls = set ls c (get_or ls c [] ++ (e ∷ []))

abbrev pub with_rows : Lists → List (List ℕ) → Lists
with_rows m rs = record { entries = m.entries; rows = rs }

-- the entry e in no list; at the front, or the back, of the class c, and nowhere else
abbrev pub without_entry : ℕ → Lists → Lists
without_entry e m = with_rows m (removed e m.rows)

abbrev pub moved_front : ℕ → ℕ → Lists → Lists
moved_front c e m = with_rows m (pushed_front c e (removed e m.rows))

abbrev pub moved_back : ℕ → ℕ → Lists → Lists
moved_back c e m = with_rows m (pushed_back c e (removed e m.rows))

-- c classes, all empty
abbrev pub empty : ℕ → ℕ → Lists
empty c e = record { entries = e; rows = replicate c [] }

abbrev pub row : Lists → ℕ → List ℕ
row m c = get_or m.rows c []

-- the first and the last of a list, if any
abbrev pub first : List ℕ → Option ℕ
first [] = None
first (x ∷ xs) = Some x

abbrev pub last : List ℕ → Option ℕ
last [] = None
last (x ∷ []) = Some x
last (x ∷ (y ∷ ys)) = last (y ∷ ys)
