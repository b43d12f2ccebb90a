-- An entry tree in plain words: a list of entries, each with its subject, in subject order.
use Rattle.std.specs.Prelude.{ℕ, suc, ◌+◌, List, [], ◌∷◌, Bool, true, cond, ◌&&◌, eqb, leb, ltb}
use Rattle.state.specs.Seq.{to_nat}

pub record Pair : Type 0 where
  pub entry : ℕ
  pub subject : ℕ

abbrev pub pair : ℕ → ℕ → Pair
pair e x = record { entry = e; subject = x }

-- how many pairs of a list pass a test, and whether any does
abbrev pub count : (Pair → Bool) → List Pair → ℕ
count t [] = 0
count t (p ∷ l) = to_nat (t p) + count t l

abbrev pub any : (Pair → Bool) → List Pair → Bool
any t l = ltb 0 (count t l)

abbrev pub is_entry : ℕ → Pair → Bool
is_entry e p = eqb e p.entry

abbrev pub on_subject : ℕ → Pair → Bool
on_subject x p = eqb x p.subject

abbrev pub has_entry : ℕ → List Pair → Bool
has_entry e l = any (is_entry e) l

abbrev pub has_subject : ℕ → List Pair → Bool
has_subject x l = any (on_subject x) l

-- the list without the entry e
abbrev pub without : ℕ → List Pair → List Pair
without e [] = []
without e (p ∷ l) = cond (is_entry e p) (without e l) (p ∷ without e l)

-- p joins a list in subject order, after its equals
abbrev pub inserted : Pair → List Pair → List Pair
inserted p [] = p ∷ []
inserted p (q ∷ l) = cond (leb q.subject p.subject) (q ∷ inserted p l) (p ∷ q ∷ l)

-- where an entry stands: the first subject past the pair before it (0 if it is the first), its own subject, and the pairs after it
pub record Place : Type 0 where
  pub from : ℕ
  pub subject : ℕ
  pub rest : List Pair

-- the place of the entry e; `from` counts for the first pair of the list
abbrev pub find : ℕ → ℕ → List Pair → Place
find e from [] = record { from = from; subject = from; rest = [] }
find e from (p ∷ l) = cond (is_entry e p) (record { from = from; subject = p.subject; rest = l }) (find e (suc p.subject) l)

abbrev pub place_of : ℕ → List Pair → Place
place_of e l = find e 0 l

-- the first subject past the last pair; `from` if there is none
abbrev pub past : ℕ → List Pair → ℕ
past from [] = from
past from (p ∷ l) = past (suc p.subject) l

-- subjects from x on, in order
abbrev pub in_order : ℕ → List Pair → Bool
in_order x [] = true
in_order x (p ∷ l) = leb x p.subject && in_order p.subject l

-- subjects from x on, each above the one before: in order, and no two the same
abbrev pub rising : ℕ → List Pair → Bool
rising x [] = true
rising x (p ∷ l) = leb x p.subject && rising (suc p.subject) l

-- entries 0 to 127 and subjects 0 to `most`
abbrev pub in_range : ℕ → List Pair → Bool
in_range most [] = true
in_range most (p ∷ l) = leb p.entry 127 && (leb p.subject most && in_range most l)

-- no entry stands twice
abbrev pub once_b : List Pair → ℕ → Bool
once_b l e = leb (count (is_entry e) l) 1
