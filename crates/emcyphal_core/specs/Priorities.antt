-- The eight transfer priorities and their numbers: 0 is the most urgent, 7 the least.
use Rattle.std.specs.Prelude.{List, [], ◌∷◌, cond, ℕ, ◌-◌, leb, ltb, get_or, Option, Some, None}
use Rattle.emcyphal_core.specs.declared.Priority.{Priority}
use Rattle.emcyphal_core.specs.declared.Priority.TheVariants.{Exceptional, Immediate, Fast, High, Nominal, Low, Slow, Optional}

-- the most urgent first
abbrev pub priorities : List Priority
priorities = Exceptional ∷ Immediate ∷ Fast ∷ High ∷ Nominal ∷ Low ∷ Slow ∷ Optional ∷ []

abbrev pub number : Priority → ℕ
number Exceptional = 0
number Immediate = 1
number Fast = 2
number High = 3
number Nominal = 4
number Low = 5
number Slow = 6
number Optional = 7

-- the priority of a number below 8
abbrev pub priority_of : ℕ → Priority
priority_of n = get_or priorities n Optional

-- the priority of a number, none past 7
abbrev pub maybe_priority : ℕ → Option Priority
maybe_priority n = cond (leb n 7) (Some (priority_of n)) None

-- the priority whose number is one less, none before 0
abbrev pub before : ℕ → Option Priority
before n = cond (ltb 0 n) (maybe_priority (n - 1)) None
