-- The reader of lines: what each byte of the input makes of the line so far, and what is printed of a whole input.
use Rattle.std.specs.Prelude.{ℕ, ◌≡◌, List, [], ◌∷◌, ◌++◌, cond, eqb, ltb, length}
use Rattle.calls_line.specs.Lines.{does}

-- the registry's bytes, and the line so far
pub record Reader : Type 0 where
  pub state : List ℕ
  pub part : List ℕ

abbrev pub reader : List ℕ → List ℕ → Reader
reader b p = record { state = b; part = p }

-- at most 32 bytes of a line are kept: a line of 32 bytes is no call, and neither is a longer one
abbrev pub kept : List ℕ → ℕ → List ℕ
kept p b = cond (ltb (length p) 32) (p ++ (b ∷ [])) p

-- one more byte: the reader after it, and what is printed
abbrev pub fed : Reader → ℕ → Reader
fed r b = cond (eqb b 10) (reader (does r.state r.part).state []) (reader r.state (kept r.part b))

abbrev pub prints : Reader → ℕ → List ℕ
prints r b = cond (eqb b 10) (does r.state r.part).text []

-- the bytes of a text, one after the other
unfoldable pub fed_all : Reader → List ℕ → Reader
fed_all r [] = r
fed_all r (b ∷ l) = fed_all (fed r b) l

unfoldable pub prints_all : Reader → List ℕ → List ℕ
prints_all r [] = []
prints_all r (b ∷ l) = prints r b ++ prints_all (fed r b) l

-- at the end of the input: the last line needs no line end
abbrev pub last : List ℕ → List (List ℕ)
last [] = []
last (c ∷ p) = (c ∷ p) ∷ []

-- the lines of a text that goes on after p
unfoldable pub lines : List ℕ → List ℕ → List (List ℕ)
lines p [] = last p
lines p (b ∷ l) = cond (eqb b 10) (p ∷ lines [] l) (lines (p ++ (b ∷ [])) l)

-- what lines print, one after the other
unfoldable pub printed : List ℕ → List (List ℕ) → List ℕ
printed b [] = []
printed b (t ∷ ts) = (does b t).text ++ printed (does b t).state ts

abbrev pub prints_last : Reader → List ℕ
prints_last r = printed r.state (last r.part)

pub record Reads : Type 0 where
  -- it does not matter how the input is cut
  pub cut : (r : Reader) (a c : List ℕ) → (fed_all r (a ++ c) ≡ fed_all (fed_all r a) c) × (prints_all r (a ++ c) ≡ prints_all r a ++ prints_all (fed_all r a) c)
  -- the bytes of an input print what its lines print
  pub by_lines : (b input : List ℕ) → prints_all (reader b []) input ++ prints_last (fed_all (reader b []) input) ≡ printed b (lines [] input)
