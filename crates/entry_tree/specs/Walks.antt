-- A walk over the pairs of a tree: the entry that it points at, or none.
use Rattle.std.specs.Prelude.{ℕ, List, [], ◌∷◌, Bool, true, cond, eqb, ltb, Option, None, Some}
use Rattle.entry_tree.specs.Pairs.{Pair, has_entry}

-- it points at an entry of the list, or at none
abbrev pub walk_b : List Pair → Option ℕ → Bool
walk_b l None = true
walk_b l (Some e) = has_entry e l

-- the first entry on the subject x
abbrev pub first_on : ℕ → List Pair → Option ℕ
first_on x [] = None
first_on x (p ∷ l) = cond (eqb x p.subject) (Some p.entry) (first_on x l)

-- the first entry of the list
abbrev pub first : List Pair → Option ℕ
first [] = None
first (p ∷ l) = Some p.entry

-- the first entry of the list, if it is not past the subject x
abbrev pub next_on : ℕ → List Pair → Option ℕ
next_on x [] = None
next_on x (p ∷ l) = cond (ltb x p.subject) None (Some p.entry)

-- the entry e leaves: a walk that points at it goes on to `next`
abbrev pub moved_past : ℕ → Option ℕ → Option ℕ → Option ℕ
moved_past e next None = None
moved_past e next (Some w) = cond (eqb w e) next (Some w)

-- ---- a walk's byte: the entry, or any byte from 128 on if none

abbrev pub walk_of : ℕ → Option ℕ
walk_of w = cond (ltb w 128) (Some w) None

-- a byte that says the same stays
abbrev pub walk_over : Option ℕ → ℕ → ℕ
walk_over None v = cond (ltb v 128) 255 v
walk_over (Some e) v = e
