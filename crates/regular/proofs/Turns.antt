-- One law for each return of the functions that test wholeness.
use Prim.Native.Nat.{ℕ, suc, ◌+◌, ◌-◌, ◌<◌}
use mathlib.Core.Path.{◌≡◌, sym, ap, ◌∙◌}
use mathlib.Core.Logic.{◌≢◌}
use mathlib.Core.List.{List}
use mathlib.Core.Bool.{◌&&◌}
use native.Mathlib.Omega.{arith}
use lib.Dec.{eqb, leb}
use lib.ListN.{get_or, take, drop}
use lib.Seq.{get_or-take, get_or-drop}
use Rattle.multi_cycle_list.specs.Nodes as nodes
use Rattle.entry_tree.specs.Pairs.{Pair, past}
use Rattle.entry_tree.specs.Places.{size, subject_at, read}
use Rattle.entry_tree.proofs.Lists.{none as no-pair, past-none, past-last}
use Rattle.entry_tree.proofs.Reading.{read_length, read_at}
use Rattle.regular.specs.Bytes.{active_part, inactive_part, queue_part, sizes_b}

-- ---- sizes

module _ (s : List ℕ) where
  at : (a n j : ℕ) → j < n → get_or (take n (drop a s)) j 0 ≡ get_or s (a + j) 0
  at a n j l = get_or-take n (drop a s) j 0 l ∙ get_or-drop a s j 0

  pub active-size : size (active_part s) ≡ get_or s 0 0
  active-size = at 0 385 0 (omega arith)

  pub inactive-size : size (inactive_part s) ≡ get_or s 385 0
  inactive-size = at 385 385 0 (omega arith)

  pub classes-at : nodes.classes (queue_part s) ≡ get_or s 770 0
  classes-at = at 770 262 0 (omega arith)

  pub entries_at : nodes.entries (queue_part s) ≡ get_or s 771 0
  entries_at = at 770 262 1 (omega arith)

  pub sizes_are : sizes_b s ≡ (leb (get_or s 0 0) 128 && (leb (get_or s 385 0) 128 && (eqb (get_or s 770 0) 2 && eqb (get_or s 771 0) 128)))
  unfolding sizes_b
  sizes_are = rw (active-size, inactive-size, classes-at, entries_at)

-- ---- the ends

pub past_empty : (t : List ℕ) → size t ≡ 0 → past 0 (read t) ≡ 0
past_empty t q = past-none 0 (read t) (read_length t ∙ q)

pub past_of : (t : List ℕ) (n : ℕ) → n ≡ size t → n ≢ 0 → past 0 (read t) ≡ subject_at t (n - 1) + 1
past_of t n q z =
    past-last 0 (read t) (omega (arith, read_length t)) ∙ ap suc (ap (λ (k : ℕ). (get_or (read t) (k - 1) no-pair).subject) (read_length t ∙ sym q) ∙ ap (λ (p : Pair). p.subject) (read_at t (n - 1) (omega arith))) ∙ omega arith
