-- The registry of message transmission in plain words, and when it is whole.
use Rattle.std.specs.Prelude.{ℕ, List, [], Bool, cond, not, ◌&&◌}
use Rattle.state.specs.Seq.{all_b}
use Rattle.entry_tree.specs.Pairs.{Pair, has_entry, rising, in_range, once_b}
use Rattle.tx_queue.specs.TxQueue as queue
use Rattle.tx_queue.specs.TxQueue.{TxQueue, sets_of}
use Rattle.tx_queue.specs.Steps.{is_registered}

pub record Registry : Type 0 where
  -- a map from subject to entry, by rising subject
  pub subjects : List Pair
  pub queue : TxQueue

abbrev pub fresh : Registry
fresh = record { subjects = []; queue = queue.fresh }

-- the entry e has a subject just if it is registered
abbrev pub subject_b : Registry → ℕ → Bool
subject_b m e = cond (is_registered (sets_of m.queue e)) (has_entry e m.subjects) (not (has_entry e m.subjects))

-- document 01's *whole*: the queue; entries 0 to 127, each once, on subjects 0 to 8,191, ordered by subject, no two sharing one
unfoldable pub whole_b : Registry → Bool
whole_b m =
    queue.whole_b m.queue
    && (in_range 8191 m.subjects && (all_b 128 (once_b m.subjects) && (rising 0 m.subjects
    && all_b 128 (subject_b m))))
