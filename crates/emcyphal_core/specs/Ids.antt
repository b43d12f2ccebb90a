-- Node ids are 0 to 127, subjects 0 to 8191, services 0 to 511, transfer ids 0 to 31 and then 0 again. A contract sees an id as its number.
use Rattle.std.specs.Prelude.{cond, ℕ, ltb, Option, Some, None}

-- how many there are of each
abbrev pub nodes : ℕ
nodes = 128

abbrev pub subjects : ℕ
subjects = 8192

abbrev pub services : ℕ
services = 512

abbrev pub transfers : ℕ
transfers = 32

-- of so many ids the one with the number n, none past the last
abbrev pub maybe_id : ℕ → ℕ → Option ℕ
maybe_id count n = cond (ltb n count) (Some n) None
