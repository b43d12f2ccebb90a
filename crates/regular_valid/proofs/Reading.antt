-- Whole bytes mean a registry with these facts; and its queues are valid lists.
use Prim.Native.Nat.{ℕ, ◌+◌, ◌≤◌}
use mathlib.Core.Path.{◌≡◌, refl, sym, ◌∙◌}
use mathlib.Core.Bool.{true}
use mathlib.Core.List.{List}
use native.Mathlib.Omega.{arith}
use lib.Dec.{eqb}
use lib.ListN.{length}
use borrow.Author.Tests.{eqb-true}
use Rattle.state.specs.Lengths.{regular_length}
use Rattle.state.specs.Outcome.{Bytes}
use Rattle.state.proofs.Tests.{and4}
use Rattle.multi_cycle_list.specs.Lists as lists
use Rattle.multi_cycle_list.specs.Lists.{count, counts}
use Rattle.multi_cycle_list.specs.Nodes as nodes
use Rattle.multi_cycle_list.proofs.Laid.{read-valid}
use Rattle.regular.specs.Registry as registry
use Rattle.regular.specs.Registry.{Registry}
use Rattle.regular.specs.Bytes.{queue_part, read, sizes_b, whole_b, queue_of}
use Rattle.regular.proofs.Grounds.{sizes_of, two-counts}
use Rattle.regular_valid.proofs.Facts.{Facts, Inside, facts_of, inside_of}
use Rattle.regular_valid.proofs.Valid.{Whole}

-- the parts of the test
pub record Parts (b : List ℕ) : Type 0 where
  pub bytes : length b ≡ regular_length
  pub sizes : sizes_b b ≡ true
  pub queue : nodes.whole_b (queue_part b) ≡ true
  pub means : registry.whole_b (read b) ≡ true

pub parts : (b : List ℕ) → whole_b b ≡ true → Parts b
unfolding whole_b
parts b h =
    let s = and4 (eqb (length b) regular_length) (sizes_b b) (nodes.whole_b (queue_part b)) (registry.whole_b (read b)) h in
    record { bytes = eqb-true (length b) regular_length s.0; sizes = s.1; queue = s.2; means = s.3 }

pub read-inside : (b : List ℕ) → whole_b b ≡ true → Inside (read b)
read-inside b h =
    let p = parts b h in
    let z = sizes_of b p.sizes in
    let none : (e : ℕ) → 128 ≤ e → count e (nodes.list_of (queue_part b) 0) + count e (nodes.list_of (queue_part b) 1) ≡ 0
    = λ e k. sym (two-counts (queue_part b) e z.classes) ∙ (read-valid (queue_part b) p.queue).inside e (omega (arith, z.entries)) in
    record { activation = λ e k. omega (arith, none e k); clean_up = λ e k. omega (arith, none e k) }

pub read-facts : (b : List ℕ) → whole_b b ≡ true → Facts (read b)
read-facts b h = facts_of (read b) (parts b h).means (read-inside b h)

pub read_whole : (b : List ℕ) → Bytes b → whole_b b ≡ true → Whole (read b)
read_whole b y h = record { facts = read-facts b h; room = omega (arith, y 1032, y 1033) }

pub queue-valid : (m : Registry) → Facts m → lists.Valid (queue_of m)
unfolding counts
queue-valid m f = record {
  sizes = refl;
  inside = λ e k. omega (arith, (inside_of m f).clean_up e k, (inside_of m f).activation e k);
  once = λ e. omega (arith, f.once e, f.waits e, f.marked e);
}
