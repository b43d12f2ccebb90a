-- The calls of a list queue: on plain lists, and on bytes; and what is proved of them.
use Rattle.std.specs.Prelude.{ℕ, suc, ◌≡◌, Bool, true, false, cond, ◌&&◌, List, [], ◌∷◌, length, ltb, eqb, Option, Some, None, is_none}
use Rattle.state.specs.Lengths.{lists_allowed, lists_length}
use Rattle.state.specs.Outcome as state
use Rattle.state.specs.Outcome.{Outcome, refuse, done, Means}
use Rattle.state.specs.declared.Refusal.TheVariants.{NotWhole, Size}
use Rattle.multi_cycle_list.specs.Lists.{Lists, Valid, row, first, last, empty, without_entry, moved_front, moved_back}
use Rattle.multi_cycle_list.specs.Nodes.{whole_b, read}
use Rattle.multi_cycle_list.specs.Laid.{laid}

-- ---- on lists

-- refused where the class or the entry is past the size
abbrev pub in_size : {A : Type 0} → Bool → Outcome A Lists → Outcome A Lists
in_size b r = cond b r (refuse Size)

abbrev pub has_class : Lists → ℕ → Bool
has_class m c = ltb c (length m.rows)

abbrev pub has_entry : Lists → ℕ → Bool
has_entry m e = ltb e m.entries

-- it is the entry e
abbrev pub says : ℕ → Option ℕ → Bool
says e (Some x) = eqb x e
says e None = false

-- the first list of which t is true, counted from k
unfoldable pub which : (List ℕ → Bool) → ℕ → List (List ℕ) → Option ℕ
which t k [] = None
which t k (r ∷ rs) = cond (t r) (Some k) (which t (suc k) rs)

unfoldable pub front : ℕ → Lists → Outcome (Option ℕ) Lists
front c m = in_size (has_class m c) (done (first (row m c)) m)

unfoldable pub back : ℕ → Lists → Outcome (Option ℕ) Lists
back c m = in_size (has_class m c) (done (last (row m c)) m)

unfoldable pub is_empty : ℕ → Lists → Outcome Bool Lists
is_empty c m = in_size (has_class m c) (done (is_none (first (row m c))) m)

-- the class whose front, or back, is e
unfoldable pub is_front : ℕ → Lists → Outcome (Option ℕ) Lists
is_front e m = in_size (has_entry m e) (done (which (λ r. says e (first r)) 0 m.rows) m)

unfoldable pub is_back : ℕ → Lists → Outcome (Option ℕ) Lists
is_back e m = in_size (has_entry m e) (done (which (λ r. says e (last r)) 0 m.rows) m)

unfoldable pub remove : ℕ → Lists → Outcome (Unit {0}) Lists
remove e m = in_size (has_entry m e) (done tt (without_entry e m))

unfoldable pub move_front : ℕ → ℕ → Lists → Outcome (Unit {0}) Lists
move_front c e m = in_size (has_class m c && has_entry m e) (done tt (moved_front c e m))

unfoldable pub move_back : ℕ → ℕ → Lists → Outcome (Unit {0}) Lists
move_back c e m = in_size (has_class m c && has_entry m e) (done tt (moved_back c e m))

-- n bytes are opened for c classes and e entries: refused for sizes that are not allowed, and for another length
unfoldable pub opening : ℕ → ℕ → ℕ → Outcome (Unit {0}) Lists
opening n c e =
    cond (lists_allowed c e)
    (cond (eqb n (lists_length c e)) (done tt (empty c e)) (refuse NotWhole))
    (refuse Size)

-- ---- on bytes

-- every byte of a list queue says something: nothing is kept of the old bytes
abbrev pub over : Lists → List ℕ → List ℕ
over m b = laid m

abbrev pub on : {A : Type 0} → (Lists → Outcome A Lists) → List ℕ → Outcome A Lists
on f b = state.called whole_b read f b

abbrev pub bytes : {A : Type 0} → List ℕ → Outcome A Lists → List ℕ
bytes b r = state.bytes over b r

-- every call but opening, with its numbers
pub data Call : Type 0 where
  Front Back IsEmpty IsFront IsBack Remove : ℕ → Call
  MoveFront MoveBack : ℕ → ℕ → Call

-- what a call answers
abbrev pub Answer : Call → Type 0
Answer (Front c) = Option ℕ
Answer (Back c) = Option ℕ
Answer (IsEmpty c) = Bool
Answer (IsFront e) = Option ℕ
Answer (IsBack e) = Option ℕ
Answer (Remove e) = Unit {0}
Answer (MoveFront c e) = Unit {0}
Answer (MoveBack c e) = Unit {0}

abbrev pub step : (k : Call) → Lists → Outcome (Answer k) Lists
step (Front c) = front c
step (Back c) = back c
step (IsEmpty c) = is_empty c
step (IsFront e) = is_front e
step (IsBack e) = is_back e
step (Remove e) = remove e
step (MoveFront c e) = move_front c e
step (MoveBack c e) = move_back c e

abbrev pub Sized : Lists → ℕ → Type 0
Sized m n = n ≡ lists_length (length m.rows) m.entries

pub record ListsMean : Type 0 where
  -- opened bytes are whole
  pub opened : (n c e : ℕ) (a : Unit {0}) (m : Lists) → opening n c e ≡ done a m → whole_b (laid m) ≡ true
  pub meaning : Means whole_b read over Valid Sized step
