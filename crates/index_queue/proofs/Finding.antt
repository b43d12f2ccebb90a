-- What the search for a key tells: of the entry found, and of its slot.
use Prim.Native.Nat.{ℕ, ◌<◌, ◌≤◌}
use mathlib.Core.Path.{◌≡◌, refl, sym, ap, ◌∙◌, subst}
use mathlib.Core.List.{List}
use mathlib.Core.Bool.{true, false}
use native.Mathlib.Omega.{arith}
use borrow.Author.Tests.{eqb-true}
use Rattle.std.specs.Prelude.{Option, Some, None}
use Rattle.state.proofs.Tests.{not-both}
use Rattle.index_entries.specs.Keys.{Slot, free, holds, spent, Keys, has_key, is_free, slot, Found, missing, at, found}
use Rattle.index_entries.specs.Bytes.{k_max, entries, key_word, value, read, whole_b}
use Rattle.index_entries.specs.Inner.{index_of}
use Rattle.index_entries.proofs.Find.{Looks, looks, key-not-free}
use Rattle.index_entries.proofs.Facts.{facts_of, owner, slot_in, slots_length, by_word}
use Rattle.index_queue.specs.Inner.{with_value}

never : {A : Type 0} → ◌≡◌ {A = ℕ} 0 1 → A
never h = absurd (omega arith)

-- ---- the entry found

located_in : (m : Keys) (k i : ℕ) (g : Found) → Looks k m.slots g → index_of g ≡ Some i → g ≡ at i (slot m i)
located_in m k i missing l q = never (cc)
located_in m k i (at j s) l q = let w : j ≡ i = cc in ap (λ (x : Slot). at j x) (sym l.1.0) ∙ ap (λ (x : ℕ). at x (slot m x)) w

absent_in : (g : Found) → index_of g ≡ None → g ≡ missing
absent_in missing q = refl
absent_in (at i s) q = never (cc)

module _ (s : List ℕ) (k i : ℕ) (x : Slot) (e : found (read s) k ≡ at i x) where
  there : Looks k (read s).slots (at i x)
  there = subst (λ (g : Found). Looks k (read s).slots g) e (looks k (read s).slots)

  pub inside : i < entries s
  unfolding there
  inside = omega (arith, there.0, slots_length s)

  pub not_free : is_free (slot (read s) i) ≡ false
  unfolding there
  not_free = ap is_free there.1.0 ∙ key-not-free k x there.1.1

  pub within : whole_b s ≡ true → k ≤ k_max s
  unfolding there
  within h = (owner s (facts_of s h) i k (ap (has_key k) there.1.0 ∙ there.1.1)).1.within

module _ (s : List ℕ) (k : ℕ) where
  pub absent : index_of (found (read s) k) ≡ None → found (read s) k ≡ missing
  absent q = absent_in (found (read s) k) q

  module _ (i : ℕ) (q : index_of (found (read s) k) ≡ Some i) where
    pub located : found (read s) k ≡ at i (slot (read s) i)
    located = located_in (read s) k i (found (read s) k) (looks k (read s).slots) q

    pub found_inside : i < entries s
    found_inside = inside s k i (slot (read s) i) located

    pub found_keyed : is_free (slot (read s) i) ≡ false
    found_keyed = not_free s k i (slot (read s) i) located

-- ---- and its value

gone_in : (g : Found) → with_value g ≡ None → g ≡ missing
gone_in missing q = refl
gone_in (at i s) q = never (cc)

entry_in : Option (ℕ × Option ℕ) → ℕ
entry_in None = 0
entry_in (Some p) = p.0

value_in : Option (ℕ × Option ℕ) → Option ℕ
value_in None = None
value_in (Some p) = p.1

holds_in : (k i v : ℕ) (ss : List Slot) (g : Found) → Looks k ss g → with_value g ≡ Some (i, Some v) → g ≡ at i (holds k v)
unfolding entry_in value_in
holds_in k i v ss missing l q = never (cc)
holds_in k i v ss (at j free) l q = not-both (sym l.1.1)
holds_in k i v ss (at j (holds y w)) l q =
    let a : j ≡ i = ap entry_in q in
    let b : Some w ≡ Some v = ap value_in q in
    let c = eqb-true y k l.1.1 in
    cc
holds_in k i v ss (at j (spent y)) l q = let b : None ≡ Some v = ap value_in q in never (cc)

spent_in : (k i : ℕ) (ss : List Slot) (g : Found) → Looks k ss g → with_value g ≡ Some (i, None) → g ≡ at i (spent k)
unfolding entry_in value_in
spent_in k i ss missing l q = never (cc)
spent_in k i ss (at j free) l q = not-both (sym l.1.1)
spent_in k i ss (at j (holds y w)) l q = let b : Some w ≡ None = ap value_in q in never (cc)
spent_in k i ss (at j (spent y)) l q = let a : j ≡ i = ap entry_in q in let c = eqb-true y k l.1.1 in cc

module _ (s : List ℕ) (k : ℕ) where
  pub gone : with_value (found (read s) k) ≡ None → found (read s) k ≡ missing
  gone q = gone_in (found (read s) k) q

  pub is_spent : (i : ℕ) → with_value (found (read s) k) ≡ Some (i, None) → found (read s) k ≡ at i (spent k)
  is_spent i q = spent_in k i (read s).slots (found (read s) k) (looks k (read s).slots) q

  module _ (i v : ℕ) (q : with_value (found (read s) k) ≡ Some (i, Some v)) where
    pub is_held : found (read s) k ≡ at i (holds k v)
    is_held = holds_in k i v (read s).slots (found (read s) k) (looks k (read s).slots) q

    pub held_inside : i < entries s
    held_inside = inside s k i (holds k v) is_held

    -- an entry that holds a value has its key in its word
    both : (key_word (entries s) s i ≡ k) × (k < 8192)
    both =
        by_word (λ x. x ≡ holds k v → (key_word (entries s) s i ≡ k) × (k < 8192)) (key_word (entries s) s i) (value (entries s) s i)
        (λ a q. let w : key_word (entries s) s i ≡ k = cc in (w, omega arith))
        (λ a b q. never (cc))
        (λ a q. never (cc))
        (sym (slot_in s i held_inside) ∙ (there s k i (holds k v) is_held).1.0)

    pub held_word : key_word (entries s) s i ≡ k
    held_word = both.0

    pub held_small : k < 8192
    held_small = both.1

  -- a key with an entry is up to the last
  pub value_within : (i : ℕ) (o : Option ℕ) → with_value (found (read s) k) ≡ Some (i, o) → whole_b s ≡ true → k ≤ k_max s
  value_within i None q = within s k i (spent k) (is_spent i q)
  value_within i (Some v) q = within s k i (holds k v) (is_held i v q)

pub ruleset entry_laws = (absent, located, found_inside, found_keyed)

pub ruleset value_laws = (gone, is_spent, is_held, held_inside, held_word, held_small, value_within)
