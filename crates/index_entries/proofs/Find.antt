-- Looking for a key among the slots.
use Prim.Native.Nat.{ℕ, zero, suc, ◌<◌}
use mathlib.Core.Path.{◌≡◌, refl, sym, ap, ◌∙◌}
use mathlib.Core.List.{List, [], ◌∷◌}
use mathlib.Core.Bool.{Bool, true, false, cond}
use native.Mathlib.Omega.{arith}
use lib.ListN.{length, get_or}
use Rattle.state.proofs.Tests.{not-both}
use Rattle.index_entries.specs.Keys.{Slot, free, holds, spent, has_key, is_free, Found, missing, at, find}

-- what the search tells of the slots: none has the key, or the slot found has it
abbrev pub Looks : ℕ → List Slot → Found → Type 0
Looks k ss missing = (j : ℕ) → has_key k (get_or ss j free) ≡ false
Looks k ss (at j s) = (j < length ss) × ((get_or ss j free ≡ s) × (has_key k s ≡ true))

-- a result of the search, counted from one less
abbrev back : Found → Found
back missing = missing
back (at j s) = at (suc j) s

find-from : (k i : ℕ) (ss : List Slot) → find k (suc i) ss ≡ back (find k i ss)
unfolding find
find-from k i [] = refl
find-from k i (s ∷ ss) = cases (has_key k s) (find-from k (suc i) ss)
  where
    cases : (b : Bool) → find k (suc (suc i)) ss ≡ back (find k (suc i) ss) → cond b (at (suc i) s) (find k (suc (suc i)) ss) ≡ back (cond b (at i s) (find k (suc i) ss))
    cases true h = refl
    cases false h = h

looks-more : (k : ℕ) (s : Slot) (ss : List Slot) (f : Found) → has_key k s ≡ false → Looks k ss f → Looks k (s ∷ ss) (back f)
looks-more k s ss missing h l = more
  where
    more : (j : ℕ) → has_key k (get_or (s ∷ ss) j free) ≡ false
    more zero = h
    more (suc j) = l j
looks-more k s ss (at j x) h l = (omega (arith, l.0), l.1)

pub looks : (k : ℕ) (ss : List Slot) → Looks k ss (find k 0 ss)
unfolding find
looks k [] = λ j. refl
looks k (s ∷ ss) = cases (has_key k s) refl (looks k ss)
  where
    cases : (b : Bool) → has_key k s ≡ b → Looks k ss (find k 0 ss) → Looks k (s ∷ ss) (cond b (at 0 s) (find k 1 ss))
    cases true h l = (omega arith, (refl, h))
    cases false h l = rw (find-from k 0 ss) (looks-more k s ss (find k 0 ss) h l)

pub key-not-free : (k : ℕ) (s : Slot) → has_key k s ≡ true → is_free s ≡ false
key-not-free k free h = sym h
key-not-free k (holds j v) h = refl
key-not-free k (spent j) h = refl

module _ (k : ℕ) (ss : List Slot) where
  pub found_none : ((j : ℕ) → has_key k (get_or ss j free) ≡ false) → find k 0 ss ≡ missing
  found_none h = cases (find k 0 ss) (looks k ss)
    where
      cases : (f : Found) → Looks k ss f → f ≡ missing
      cases missing l = refl
      cases (at j s) l = not-both (sym l.1.1 ∙ ap (has_key k) (sym l.1.0) ∙ h j)

  pub found_at : (i : ℕ) → has_key k (get_or ss i free) ≡ true → ((j : ℕ) → has_key k (get_or ss j free) ≡ true → j ≡ i) → find k 0 ss ≡ at i (get_or ss i free)
  found_at i h u = cases (find k 0 ss) (looks k ss)
    where
      cases : (f : Found) → Looks k ss f → f ≡ at i (get_or ss i free)
      cases missing l = not-both (sym h ∙ l i)
      cases (at j s) l =
          let q = u j (ap (has_key k) l.1.0 ∙ l.1.1) in
          ap (λ (x : Slot). at j x) (sym l.1.0) ∙ ap (λ (x : ℕ). at x (get_or ss x free)) q
