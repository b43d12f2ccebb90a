-- The regular registry in plain words, and when it is whole.
use Rattle.std.specs.Prelude.{ℕ, suc, ◌+◌, List, [], ◌∷◌, Bool, true, false, not, ◌&&◌, ◌||◌, eqb, leb, ltb, Option, None}
use Rattle.state.specs.Seq.{all_b}
use Rattle.multi_cycle_list.specs.Lists as lists
use Rattle.entry_tree.specs.Pairs.{Pair, count, is_entry, past, in_order, in_range}
use Rattle.entry_tree.specs.Walks.{walk_b}

pub record Registry : Type 0 where
  -- both trees, in subject order
  pub inactive : List Pair
  pub active : List Pair
  -- both queues, from the front: entries that become active, and heads with a clean-up mark
  pub activation : List ℕ
  pub clean_up : List ℕ
  -- the last-gap flag, the slot counter, and the entry that the walk points at
  pub last_gap : Bool
  pub slots : ℕ
  pub walk : Option ℕ

abbrev pub fresh : ℕ → Registry
fresh n = record { inactive = []; active = []; activation = []; clean_up = []; last_gap = false; slots = n; walk = None }

-- the entry e stands in a queue
abbrev pub queued : ℕ → List ℕ → Bool
queued e q = ltb 0 (lists.count e q)

-- ---- document 01's *whole*

-- no entry is registered twice
abbrev pub once_b : Registry → ℕ → Bool
once_b m e = leb (count (is_entry e) m.inactive + count (is_entry e) m.active) 1

-- each entry stands in the activation queue just if it is inactive, and in the clean-up queue only if it is active
abbrev pub queues_b : Registry → ℕ → Bool
queues_b m e = eqb (lists.count e m.activation) (count (is_entry e) m.inactive) && leb (lists.count e m.clean_up) (count (is_entry e) m.active)

-- only heads carry clean-up marks, each above subject 0 and with no active entry on the subject just below:
-- `from` is the first subject past the pair before, so a marked pair's subject is above it
abbrev pub marks_b : List ℕ → ℕ → List Pair → Bool
marks_b marks from [] = true
marks_b marks from (p ∷ l) = (not (queued p.entry marks) || ltb from p.subject) && marks_b marks (suc p.subject) l

-- a set last-gap flag has the last active subject below 8,191
abbrev pub last_b : Registry → Bool
last_b m = not m.last_gap || leb (past 0 m.active) 8191

unfoldable pub whole_b : Registry → Bool
whole_b m =
    in_range 8191 m.inactive && (in_range 8191 m.active
    && (all_b 128 (once_b m)
    && (all_b 128 (queues_b m)
    && (in_order 0 m.inactive && (in_order 0 m.active
    && (marks_b m.clean_up 0 m.active
    && (last_b m
    && walk_b m.active m.walk)))))))
