-- The ends of the two lists.
use Prim.Native.Nat.{ℕ, ◌+◌, ◌-◌, ◌*◌, ◌<◌, ◌≤◌}
use mathlib.Core.Path.{◌≡◌, refl, sym, ap, subst}
use mathlib.Core.Logic.{inl, inr}
use mathlib.Core.List.{List, [], ◌∷◌}
use mathlib.Core.Bool.{true}
use native.Mathlib.Omega.{arith}
use native.Mathlib.Decide.{dec_lt}
use lib.ListN.{length, take, drop}
use Rattle.std.specs.Prelude.{Option, Some}
use Rattle.state.specs.Outcome.{Bytes}
use Rattle.multi_cycle_list.specs.Lists.{Lists, Valid, count, row, first, last}
use Rattle.multi_cycle_list.specs.Nodes as nodes
use Rattle.multi_cycle_list.proofs.Lists.{In, in_count}
use Rattle.multi_cycle_list.proofs.Arcs.{row_count}
use Rattle.index_entries.specs.Keys.{is_free, slot, ValidKeys}
use Rattle.index_entries.specs.Bytes.{entries, read, whole_b}
use Rattle.index_entries.specs.Laid.{laid}
use Rattle.index_entries.proofs.Facts.{facts_of, slots_length, read-valid, laid_read}
use Rattle.index_entries.proofs.Acts.{lent_part}
use Rattle.index_queue.specs.Inner.{Below}

never : {A : Type 0} → ◌≡◌ {A = ℕ} 0 1 → A
never h = absurd (omega arith)

pub starts : (l : List ℕ) (i : ℕ) → first l ≡ Some i → (r : List ℕ) × (l ≡ i ∷ r)
starts [] i q = never (cc)
starts (x ∷ xs) i q = (xs, cc)

first_below : (n : ℕ) (l : List ℕ) → ((i : ℕ) → In i l → i < n) → Below n (first l)
first_below n [] g = tt
first_below n (x ∷ xs) g = g x (inl refl)

last-below : (n : ℕ) (l : List ℕ) → ((i : ℕ) → In i l → i < n) → Below n (last l)
last-below n [] g = tt
last-below n (x ∷ []) g = g x (inl refl)
last-below n (x ∷ (y ∷ ys)) g = last-below n (y ∷ ys) (λ i q. g i (inr q))

-- an entry that stands in a list is one
pub in_size : (m : Lists) → Valid m → (c i : ℕ) → 0 < count i (row m c) → i < m.entries
in_size m f c i h = elim (dec_lt i m.entries) [ yes q ↦ q | no q ↦ absurd (omega (arith, f.inside i (omega arith), row_count i m.rows c)) ]

module _ (s : List ℕ) (y : Bytes s) (h : whole_b s ≡ true) where
  r : ValidKeys (read s)
  r = read-valid s (facts_of s h) y

  listed : (c i : ℕ) → In i (row (read s).lists c) → i < entries s
  unfolding r
  listed c i q = omega (arith, in_size (read s).lists r.valid c i (in_count i (row (read s).lists c) q), r.entries, slots_length s)

  pub first_entry : (c : ℕ) {a : Option ℕ} → a ≡ first (row (read s).lists c) → Below (entries s) a
  first_entry c q = subst (λ (a : Option ℕ). Below (entries s) a) (sym q) (first_below (entries s) (row (read s).lists c) (listed c))

  pub last_entry : (c : ℕ) {a : Option ℕ} → a ≡ last (row (read s).lists c) → Below (entries s) a
  last_entry c q = subst (λ (a : Option ℕ). Below (entries s) a) (sym q) (last-below (entries s) (row (read s).lists c) (listed c))

  pub first_free : (i : ℕ) → first (row (read s).lists 1) ≡ Some i → is_free (slot (read s) i) ≡ true
  unfolding r
  first_free i q =
      let w = starts (row (read s).lists 1) i q in
      r.listed_free i (subst (λ (x : List ℕ). 0 < count i x) (sym w.1) (in_count i (i ∷ w.0) (inl refl)))

  pub free_inside : (i : ℕ) → first (row (read s).lists 1) ≡ Some i → i < entries s
  free_inside i q = first_entry 1 (sym q)

  -- what says nothing more leaves the bytes
  pub same_bytes : laid (read s) s ≡ s
  same_bytes = laid_read s (facts_of s h) y

pub long : (s : List ℕ) → whole_b s ≡ true → 11 ≤ length s
long s h = let f = facts_of s h in omega (arith, f.len)

-- a list that the code lends
pub lent_row : (s : List ℕ) → whole_b s ≡ true → (e : ℕ) → e ≡ 8 + 2 * entries s → (c : ℕ) → row (nodes.read (take (e - 2) (drop 2 s))) c ≡ row (read s).lists c
lent_row s h e q c = ap (λ (x : List ℕ). row (nodes.read x) c) (lent_part s h e q)

pub ruleset free_laws = (long, free_inside, first_free)
