-- What the contracts of `fed_all` and `run` cite: what the calls of a text leave, and what is read and written.
use Rattle.std.specs.Prelude.{ℕ, ◌≡◌, ◌<◌, ◌≤◌, ◌-◌, ◌^◌, List, [], length, take, Option}
use Rattle.std.specs.Io.KnownBytes.{Consumes, Appends, IsAtEnd}
use Rattle.calls.specs.Reader.{Reader, fed_all, lines, printed}

-- the bytes s are the registry's after some first bytes of a text
abbrev pub IsStateWithin : Reader → List ℕ → List ℕ → Type 0
IsStateWithin r text s = (i : ℕ) × (i ≤ length text) × (s ≡ (fed_all r (take i text)).state)

-- a reader gave a text, and a writer took what its lines print, from the registry's bytes b on: each where it is known.
-- Short of a number of bytes that no input has, the text goes to the input's end.
pub record Answered (b : List ℕ) (left left' held held' : Option (List ℕ)) : Type 0 where
  pub text : List ℕ
  pub taken : Consumes left left' text
  pub whole : length text < 2 ^ 64 - 1 → IsAtEnd left'
  pub written : Appends held held' (printed b (lines [] text))
