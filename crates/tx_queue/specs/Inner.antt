-- The test of wholeness as the code goes. No contract of a public call cites this.
use Rattle.std.specs.Prelude.{ℕ, suc, ◌+◌, List, Bool, eqb, get_or, Option, Some, None}
use Rattle.tx_queue.specs.TxQueue.{place, sets_of}
use Rattle.tx_queue.specs.Bytes.{read}

-- an entry's mark is the number of its queue and one more, or 0
abbrev pub mark_of : Option ℕ → ℕ
mark_of None = 0
mark_of (Some k) = suc k

abbrev pub named_b : List ℕ → List ℕ → ℕ → Bool
named_b s seen e = eqb (get_or seen (16 + e) 0) (mark_of (place (sets_of (read s) e)))
