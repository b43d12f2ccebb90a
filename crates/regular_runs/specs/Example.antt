-- Demand 3's bound is reached: one entry is left, two updates come before 'nothing', and the third poll says it.
use Rattle.std.specs.Prelude.{ℕ, ◌≡◌, List, [], ◌∷◌, false, length}
use Rattle.state.specs.Lengths.{regular_length, image_length}
use Rattle.gomxeli.specs.Calls.{Call, RegRegister, RegUnregister, RegPollPop}
use Rattle.regular_runs.specs.Runs.{Now, run, begin, entries, updates, says_nothing}

-- 50, 100 and 300 become active; then 50 and 300 are removed
abbrev pub calls : List Call
calls = RegRegister 0 50 ∷ RegRegister 1 100 ∷ RegRegister 2 300 ∷ RegPollPop ∷ RegPollPop ∷ RegPollPop ∷ RegUnregister 0 ∷ RegUnregister 2 ∷ []

pub record Full (w : Now) : Type 0 where
  pub left : entries w ≡ 1
  pub handed : updates 2 w ≡ 2
  pub later : says_nothing 2 w ≡ false

pub record Reached : Type 0 where
  pub full : (b i : List ℕ) → length b ≡ regular_length → length i ≡ image_length → Full (run calls (begin 4 b i))
