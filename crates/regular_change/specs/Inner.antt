-- What the inner functions answer and store, as the code goes. No contract of a public call cites this.
use Rattle.std.specs.Prelude.{ℕ, suc, ◌-◌, ◌/◌, ◌%◌, ◌≡◌, List, [], ◌∷◌, Bool, false, cond, eqb, get_or, set}
use Rattle.entry_tree.specs.Pairs.{Pair, Place}
use Rattle.entry_tree.specs.Places.{subject_at}
use Rattle.regular.specs.Registry.{Registry}
use Rattle.regular.specs.Bytes.{flag_over}
use Rattle.regular.specs.Steps.{is_head, new_mark}
use Rattle.regular_change.specs.declared.look.Gap.{Gap}
use Rattle.regular_change.specs.declared.look.Gap.TheVariants.{Same, Withdrawn, Marked, Last}

-- nothing is left to clean up: no head has a mark, and the last-gap flag is clear
pub record CleanedUp (m : Registry) : Type 0 where
  pub marks : m.clean_up ≡ []
  pub flag : m.last_gap ≡ false

-- the first subject past the pair before the place i of a tree
abbrev pub from_at : List ℕ → ℕ → ℕ
from_at t i = cond (eqb i 0) 0 (suc (subject_at t (i - 1)))

-- the gap that the entry e at the place p leaves
abbrev pub gap_before : ℕ → ℕ → List Pair → List ℕ → Gap
gap_before e x [] marks = Last
gap_before e x (q ∷ l) marks = cond (new_mark e x q marks) (Marked q.entry) Withdrawn

abbrev pub gap_of : ℕ → Place → List ℕ → Gap
gap_of e p marks = cond (is_head p) (gap_before e p.subject p.rest marks) Same

-- how many slots a gap gives back
abbrev pub more : Gap → ℕ
more Same = 0
more Withdrawn = 0
more (Marked q) = 1
more Last = 1

abbrev pub with_slots : List ℕ → ℕ → List ℕ
with_slots s n = set (set s 1032 (n % 256)) 1033 (n / 256)

abbrev pub with_flag : List ℕ → Bool → List ℕ
with_flag s f = set s 1034 (flag_over f (get_or s 1034 0))
