-- One law for all changes of a key queue: an entry's slot and the lists are replaced, and the meaning stays valid.
use Prim.Native.Nat.{ℕ, ◌<◌}
use mathlib.Core.Path.{◌≡◌, refl, sym, ap, ◌∙◌, subst}
use mathlib.Core.Logic.{◌≢◌}
use mathlib.Core.Bool.{true}
use native.Mathlib.Omega.{arith}
use native.Mathlib.Decide.{ℕ_discrete}
use lib.ListN.{length, get_or, set, length-set}
use lib.Seq.{get_or-set_same, get_or-set_other}
use Rattle.multi_cycle_list.specs.Lists.{Lists, Valid, count, row}
use Rattle.state.specs.Lengths.{keys_allowed}
use Rattle.index_entries.specs.Keys.{Slot, free, Keys, has_key, is_free, slot, Within, ValidKeys, changed as change}

-- what a change needs to keep the meaning valid
pub record Keeps (m : Keys) (i : ℕ) (x : Slot) (l : Lists) : Type 0 where
  pub inside : i < length m.slots
  pub within : Within m.k_max x
  -- no other entry has the new slot's key
  pub own : (k j : ℕ) → has_key k x ≡ true → has_key k (slot m j) ≡ true → j ≡ i
  pub classes : length l.rows ≡ 2
  pub entries : l.entries ≡ m.lists.entries
  pub valid : Valid l
  pub others : (j : ℕ) → j ≢ i → count j (row l 1) ≡ count j (row m.lists 1)
  pub free_in : is_free x ≡ true → 0 < count i (row l 1)
  pub in_free : 0 < count i (row l 1) → is_free x ≡ true

module _ (m : Keys) (i : ℕ) (x : Slot) (l : Lists) (hi : i < length m.slots) where
  pub slot_same : (j : ℕ) → j ≡ i → slot (change i x l m) j ≡ x
  slot_same j q = ap (λ (z : ℕ). get_or (set m.slots i x) z free) q ∙ get_or-set_same m.slots i x free hi

  pub slot-other : (j : ℕ) → j ≢ i → slot (change i x l m) j ≡ slot m j
  slot-other j q = get_or-set_other m.slots i j x free q

  -- what holds of the new slot, and of the other old ones, holds of each
  pub by-slot : (P : ℕ → Slot → Type 0) → P i x → ((j : ℕ) → j ≢ i → P j (slot m j)) → (j : ℕ) → P j (slot (change i x l m) j)
  by-slot P p o j =
      elim (ℕ_discrete j i) [
        | yes q ↦ rw (slot_same j q) (subst (λ (z : ℕ). P z x) (sym q) p)
        | no q ↦ rw (slot-other j q) (o j q)
      ]

  change_distinct : ((a b c : ℕ) → has_key c (slot m a) ≡ true → has_key c (slot m b) ≡ true → a ≡ b) → ((c j : ℕ) → has_key c x ≡ true → has_key c (slot m j) ≡ true → j ≡ i)
      → (a b c : ℕ) → has_key c (slot (change i x l m) a) ≡ true → has_key c (slot (change i x l m) b) ≡ true → a ≡ b
  change_distinct d o a b c =
      by-slot (λ a s. has_key c s ≡ true → has_key c (slot (change i x l m) b) ≡ true → a ≡ b)
      (λ p. by-slot (λ b s. has_key c s ≡ true → i ≡ b) (λ q. refl) (λ b n q. sym (o c b p q)) b)
      (λ a n p. by-slot (λ b s. has_key c s ≡ true → a ≡ b) (λ q. o c a q p) (λ b n q. d a b c p q) b)
      a

pub change_valid : (m : Keys) (i : ℕ) (x : Slot) (l : Lists) → ValidKeys m → Keeps m i x l → ValidKeys (change i x l m)
change_valid m i x l f k =
    let hi = k.inside in
    let n : length (set m.slots i x) ≡ length m.slots = length-set m.slots i x in
    record {
      sizes = ap (keys_allowed m.k_max) n ∙ f.sizes;
      within = by-slot m i x l hi (λ j s. Within m.k_max s) k.within (λ j q. f.within j);
      distinct = change_distinct m i x l hi f.distinct k.own;
      classes = k.classes;
      entries = k.entries ∙ f.entries ∙ sym n;
      valid = k.valid;
      free_listed = λ j h. by-slot m i x l hi (λ j s. j < length m.slots → is_free s ≡ true → 0 < count j (row l 1)) (λ h. k.free_in) (λ j q h p. omega (arith, k.others j q, f.free_listed j h p)) j (omega (arith, n));
      listed_free = by-slot m i x l hi (λ j s. 0 < count j (row l 1) → is_free s ≡ true) k.in_free (λ j q h. f.listed_free j (omega (arith, k.others j q)));
    }
