-- What the parts of the test of wholeness tell.
use Prim.Native.Nat.{ℕ, ◌+◌, ◌*◌, ◌<◌, ◌≤◌}
use mathlib.Core.Path.{◌≡◌}
use mathlib.Core.Bool.{true, false, ◌&&◌}
use mathlib.Core.List.{List}
use native.Mathlib.Omega.{arith}
use lib.ListN.{length}
use lib.Dec.{eqb, ltb, leb}
use borrow.Author.Tests.{ltb-true, leb-true, le-leb, eqb-true}
use Rattle.state.specs.Lengths.{lists_allowed, lists_length}
use Rattle.state.proofs.Tests.{and_l, and_r, and4}
use Rattle.state.specs.Seq.{all_b}
use Rattle.multi_cycle_list.specs.Inner.{Sizes}
use Rattle.multi_cycle_list.specs.Nodes.{sizes_b, linked_at, classes, entries, next, prev, closes, placed, whole_b}

-- sizes that are allowed, as bounds
pub allowed_of : (c e : ℕ) → lists_allowed c e ≡ true → (1 ≤ c) × (c ≤ 32) × (e ≤ 224)
allowed_of c e h =
    let r : (leb c 32 && leb e 224) ≡ true = and_r (leb 1 c) (leb c 32 && leb e 224) h in
    (leb-true 1 c (and_l (leb 1 c) (leb c 32 && leb e 224) h), leb-true c 32 (and_l (leb c 32) (leb e 224) r), leb-true e 224 (and_r (leb c 32) (leb e 224) r))

pub of_allowed : (c e : ℕ) → 1 ≤ c → c ≤ 32 → e ≤ 224 → lists_allowed c e ≡ true
of_allowed c e h1 h2 h3 = rw (le-leb 1 c h1, le-leb c 32 h2, le-leb e 224 h3)

pub sizes_of : (s : List ℕ) → sizes_b s ≡ true → Sizes s
unfolding sizes_b
sizes_of s h =
    let c = classes s in
    let e = entries s in
    let l : lists_allowed c e ≡ true = and_l (lists_allowed c e) (eqb (length s) (lists_length c e)) h in
    let a = allowed_of c e l in
    record { some = a.0; most = a.1; fewer = a.2; sized = eqb-true _ _ (and_r (lists_allowed c e) (eqb (length s) (lists_length c e)) h) }

pub sizes-last : (s : List ℕ) → 1 ≤ classes s → classes s ≤ 32 → entries s ≤ 224 → sizes_b s ≡ eqb (length s) (2 + 2 * (classes s + entries s))
unfolding sizes_b
sizes-last s h1 h2 h3 = rw (le-leb 1 (classes s) h1, le-leb (classes s) 32 h2, le-leb (entries s) 224 h3)

pub record LinkedAt (s : List ℕ) (n i : ℕ) : Type 0 where
  pub next_in : next s i < n
  pub prev_in : prev s i < n
  pub back : prev s (next s i) ≡ i
  pub forth : next s (prev s i) ≡ i

pub linked_of : (s : List ℕ) (n i : ℕ) → linked_at s n i ≡ true → LinkedAt s n i
unfolding linked_at
linked_of s n i h =
    let q = and4 (ltb (next s i) n) (ltb (prev s i) n) (eqb (prev s (next s i)) i) (eqb (next s (prev s i)) i) h in
    record { next_in = ltb-true _ _ q.0; prev_in = ltb-true _ _ q.1; back = eqb-true _ _ q.2; forth = eqb-true _ _ q.3 }

pub whole_no_sizes : (s : List ℕ) → sizes_b s ≡ false → whole_b s ≡ false
unfolding whole_b
whole_no_sizes s h = rw h

pub record Parts (s : List ℕ) : Type 0 where
  pub sizes : sizes_b s ≡ true
  pub links : all_b (classes s + entries s) (linked_at s (classes s + entries s)) ≡ true
  pub cycles : all_b (classes s) (closes s) ≡ true
  pub places : all_b (entries s) (placed s) ≡ true

pub parts_of : (s : List ℕ) → whole_b s ≡ true → Parts s
unfolding whole_b
parts_of s h =
    let q = and4 (sizes_b s) (all_b (classes s + entries s) (linked_at s (classes s + entries s))) (all_b (classes s) (closes s)) (all_b (entries s) (placed s)) h in
    record { sizes = q.0; links = q.1; cycles = q.2; places = q.3 }

pub whole-sizes : (s : List ℕ) → whole_b s ≡ true → Sizes s
whole-sizes s h = sizes_of s (parts_of s h).sizes

pub whole_length : (s : List ℕ) → whole_b s ≡ true → length s ≡ 2 + 2 * (classes s + entries s)
whole_length s h = (whole-sizes s h).sized

pub few_nodes : (s : List ℕ) → whole_b s ≡ true → classes s + entries s ≤ 256
few_nodes s h = let z = whole-sizes s h in omega arith
