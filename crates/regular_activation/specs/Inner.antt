-- Many inner steps at once: what they make of a registry and of its bytes, and what is noted on the way. No contract of a public call cites
-- this.
use Rattle.std.specs.Prelude.{ℕ, zero, suc, ◌+◌, ◌-◌, ◌<◌, ◌≤◌, ◌≡◌, List, true, length, get_or, Option, Some, None, MatchOption}
use Rattle.multi_cycle_list.specs.Laid as lists
use Rattle.entry_tree.specs.Pairs.{has_subject, place_of}
use Rattle.entry_tree.specs.Places.{size, subject_at}
use Rattle.entry_merge.specs.Inner.{kept, stays, filled, merged}
use Rattle.regular.specs.Registry.{Registry}
use Rattle.regular.specs.Bytes.{active_part, inactive_part, queue_part, queue_of, read, laid}
use Rattle.regular.specs.Steps.{call_again, inner_step}

-- the registry after k inner steps
abbrev pub again : ℕ → Registry → Registry
again zero m = m
again (suc k) m = (inner_step (again k m)).then

-- n is what inner steps that say 'call again' make of m
pub record Again (m n : Registry) : Type 0 where
  pub steps : ℕ
  pub last : n ≡ again steps m
  pub says : (i : ℕ) → i < steps → (inner_step (again i m)).says ≡ call_again

-- t is what such steps leave of the bytes b
pub record Activated (b t : List ℕ) : Type 0 where
  pub meaning : Registry
  pub steps : Again (read b) meaning
  pub bytes : t ≡ laid meaning b

-- the entry e is on the subject of the place g of the inactive tree, and that is active
pub record StartsAt (s : List ℕ) (e g : ℕ) : Type 0 where
  pub inside : g < size (inactive_part s)
  pub subject : (place_of e (read s).inactive).subject ≡ subject_at (inactive_part s) g
  pub active : has_subject (subject_at (inactive_part s) g) (read s).active ≡ true

-- so for each entry that `start` has such a place for
abbrev pub Starts : List ℕ → List (Option ℕ) → Type 0
Starts s start = (e g : ℕ) → get_or start e None ≡ Some g → StartsAt s e g

-- o is the first place from `from` on of the tree t that is not below the subject x
abbrev pub IsNotBelow : List ℕ → ℕ → ℕ → Option ℕ → Type 0
IsNotBelow t from x o = MatchOption o ((k : ℕ) → from ≤ k → k < size t → subject_at t k < x)
    (λ place. (from ≤ place) × (place < size t) × (x ≤ subject_at t place) × ((k : ℕ) → from ≤ k → k < place → subject_at t k < x))

-- the place j of the tree t is on the subject x, and is the next there that no entry fills
pub record Free (t slots : List ℕ) (j x : ℕ) : Type 0 where
  pub inside : j < size t
  pub empty : 128 ≤ get_or slots j 0
  pub on : subject_at t j ≡ x
  pub next : 0 < j → subject_at t (j - 1) ≡ x → get_or slots (j - 1) 0 < 128

-- the parts of the bytes t, whose last bytes are those of s
pub record Consists (s t A I Q : List ℕ) : Type 0 where
  pub long : length t ≡ 1036
  pub active : active_part t ≡ A
  pub inactive : inactive_part t ≡ I
  pub queue : queue_part t ≡ Q
  pub tail : (i : ℕ) → i < 4 → get_or t (1032 + i) 0 ≡ get_or s (1032 + i) 0

-- such steps, whose entries have left the activation queue and are noted: `slots` has them by their new order, `gone` has a mark for each
pub record Taken (s t slots gone : List ℕ) : Type 0 where
  pub meaning : Registry
  pub steps : Again (read s) meaning
  pub active : meaning.active ≡ merged (read s).active (filled slots (read s).inactive)
  pub inactive : meaning.inactive ≡ kept (stays gone) (read s).inactive
  pub same_slots : meaning.slots ≡ (read s).slots
  pub same_flag : meaning.last_gap ≡ (read s).last_gap
  pub same_walk : meaning.walk ≡ (read s).walk
  pub parts : Consists s t (active_part s) (inactive_part s) (lists.laid (queue_of meaning))
