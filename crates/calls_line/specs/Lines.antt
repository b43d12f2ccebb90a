-- A line of the program `calls`: the call that it is, and what that makes of the registry's bytes and prints.
-- Texts are ASCII codes: 10 ends a line, 32 is a blank, 48 to 57 are the digits.
use Rattle.std.specs.Prelude.{ℕ, zero, suc, ◌≤◌, ◌≡◌, List, [], ◌∷◌, ◌++◌, map, Bool, true, false, cond, ◌&&◌, eqb, leb, length, take, drop, Option, None, Some, option_map, Result, Ok, Err, codes, decimal}
use Rattle.std.specs.List.{prefix_len}
use Rattle.std.specs.Char.{is_ascii_digit}
use Rattle.std.specs.Option.{unwrap_or}
use Rattle.std.specs.Result.{result_ok, result_err}
use Rattle.std.specs.Str.Parse.{digits_value}
use Rattle.state.specs.Refusals.{number}
use Rattle.state.specs.Outcome.{Outcome, answer, Bytes}
use Rattle.state.specs.declared.Refusal.{Refusal}
use Rattle.state.specs.declared.Refusal.TheVariants.{NoCall}
use Rattle.entry_tree.specs.Pairs.{Pair, on_subject}
use Rattle.entry_tree.specs.declared.walk.Pushed.{Pushed}
use Rattle.regular.specs.Registry.{Registry}
use Rattle.regular.specs.Bytes.{whole_b, read}
use Rattle.regular.specs.Steps.{register, unregister, poll_pop, hub_push_start, hub_push_next}
use Rattle.regular.specs.Calls.{on, bytes}
use Rattle.regular.specs.declared.FilterUpdate.{FilterUpdate}
use Rattle.regular.specs.declared.FilterUpdate.TheVariants.{AddSubject, RemoveSubjectRange}
use Rattle.calls_line.specs.declared.parsing.Call.{Call}
use Rattle.calls_line.specs.declared.parsing.Call.TheVariants.{Register, Unregister, Poll, Walk}

-- ---- the call that a line is

-- n digits: 1 to 5 are a number, beside which stands what follows it
abbrev pub number_of : ℕ → List ℕ → Option (ℕ × List ℕ)
number_of n l = cond (leb 1 n && leb n 5) (Some (digits_value 10 (take n l), drop n l)) None

-- one blank stands before a number
unfoldable pub argument : List ℕ → Option (ℕ × List ℕ)
argument [] = None
argument (b ∷ l) = cond (eqb b 32) (number_of (prefix_len is_ascii_digit l) l) None

-- a call has nothing more
abbrev pub alone : {A : Type 0} → A → List ℕ → Option A
alone x [] = Some x
alone x (b ∷ l) = None

abbrev pub is_last : Option (ℕ × List ℕ) → Option ℕ
is_last None = None
is_last (Some p) = alone p.0 p.1

abbrev pub last_argument : List ℕ → Option ℕ
last_argument l = is_last (argument l)

abbrev pub with_two : (ℕ → ℕ → Call) → Option (ℕ × List ℕ) → Option Call
with_two f None = None
with_two f (Some p) = option_map (f p.0) (last_argument p.1)

-- `R` entry subject, `U` entry, `P`, `W` subject
abbrev pub call : ℕ → List ℕ → Option Call
call c l =
    cond (eqb c 82) (with_two Register (argument l)) (
    cond (eqb c 85) (option_map Unregister (last_argument l)) (
    cond (eqb c 80) (alone Poll l) (
    cond (eqb c 87) (option_map Walk (last_argument l)) None)))

unfoldable pub parsed : List ℕ → Option Call
parsed [] = None
parsed (c ∷ l) = cond (leb (length (c ∷ l)) 31) (call c l) None

-- ---- what is printed

-- one blank before each word
unfoldable pub spaced : List (List ℕ) → List ℕ
spaced [] = []
spaced (w ∷ ws) = 32 ∷ (w ++ spaced ws)

-- the refusal's number, or 0
abbrev pub refused : Option Refusal → ℕ
refused (Some r) = number r
refused None = 0

-- an answer's words: a refusal has none
abbrev pub words_of : {A : Type 0} → (A → List (List ℕ)) → Result A Refusal → List (List ℕ)
words_of words (Ok a) = words a
words_of words (Err r) = []

-- a wake flag is not printed
abbrev pub of_flag : Bool → List (List ℕ)
of_flag w = []

-- what a poll hands out
abbrev pub of_update : Option FilterUpdate → List (List ℕ)
of_update (Some (AddSubject x)) = codes "add" ∷ (decimal x ∷ [])
of_update (Some (RemoveSubjectRange a b)) = codes "remove" ∷ (decimal a ∷ (decimal b ∷ []))
of_update None = codes "nothing" ∷ []

-- the entry that a walk names
abbrev pub of_pushed : Option Pushed → List (List ℕ)
of_pushed (Some p) = decimal p.entry ∷ []
of_pushed None = []

-- the letter, the number and the words
abbrev pub printed : ℕ → ℕ → List (List ℕ) → List ℕ
printed letter n words = letter ∷ (spaced (decimal n ∷ words) ++ (10 ∷ []))

-- ---- what a line makes of the registry's bytes, and prints

pub record Said : Type 0 where
  pub state : List ℕ
  pub text : List ℕ

-- one call on the bytes b, and what it came to
abbrev pub once : {A : Type 0} → ℕ → (A → List (List ℕ)) → List ℕ → Outcome A Registry → Said
once letter words b r = record { state = bytes b r; text = printed letter (refused (result_err (answer r))) (words_of words (answer r)) }

-- a walk's next entry on the bytes b, and whether more follow
abbrev pub next : List ℕ → Option Pushed
next b = unwrap_or (result_ok (answer (on hub_push_next b))) None

abbrev pub more : Option Pushed → Bool
more (Some p) = p.more
more None = false

-- at most n more entries of a walk on the bytes b: those named, and the bytes left
unfoldable pub named : ℕ → Bool → List ℕ → List (List ℕ)
named zero follow b = []
named (suc n) false b = []
named (suc n) true b = of_pushed (next b) ++ named n (more (next b)) (bytes b (on hub_push_next b))

unfoldable pub walked : ℕ → Bool → List ℕ → List ℕ
walked zero follow b = b
walked (suc n) false b = b
walked (suc n) true b = walked n (more (next b)) (bytes b (on hub_push_next b))

-- whether a walk's start points at an entry
abbrev pub starts : Outcome Bool Registry → Bool
starts r = unwrap_or (result_ok (answer r)) false

-- a walk from its start r: a registry has at most 128 entries
abbrev pub walk : List ℕ → Outcome Bool Registry → Said
walk b r = record {
  state = walked 128 (starts r) (bytes b r);
  text = printed 87 (refused (result_err (answer r))) (named 128 (starts r) (bytes b r));
}

unfoldable pub said : List ℕ → Option Call → Said
said b (Some (Register e x)) = once 82 of_flag b (on (register e x) b)
said b (Some (Unregister e)) = once 85 of_flag b (on (unregister e) b)
said b (Some Poll) = once 80 of_update b (on poll_pop b)
said b (Some (Walk x)) = walk b (on (hub_push_start x) b)
said b None = record { state = b; text = printed 63 (number NoCall) [] }

-- the line on the bytes b
abbrev pub does : List ℕ → List ℕ → Said
does b line = said b (parsed line)

-- ---- what is proved of it

-- the entries on the subject x, in order
abbrev pub entries_on : ℕ → List Pair → List ℕ
entries_on x [] = []
entries_on x (p ∷ l) = cond (on_subject x p) (p.entry ∷ entries_on x l) (entries_on x l)

-- on whole bytes a walk names every active entry on its subject: 128 are enough
pub record WalkMeans : Type 0 where
  pub all_named : (b : List ℕ) → Bytes b → whole_b b ≡ true → (x : ℕ) → x ≤ 8191
      → (said b (Some (Walk x))).text ≡ printed 87 0 (map decimal (entries_on x (read b).active))
