-- The form that all calls on state bytes share. A kind of state gives a test `whole` of its bytes, `read`, their plain meaning,
-- and `laid`, the bytes of a meaning over the old ones; a call is a function on meanings.
use Rattle.std.specs.Prelude.{ℕ, ◌<◌, ◌≡◌, Bool, true, cond, List, length, get_or, Result, Ok, Err}
use Rattle.state.specs.declared.Refusal.{Refusal}
use Rattle.state.specs.declared.Refusal.TheVariants.{NotWhole}

-- what a call comes to: a refusal, or an answer and the meaning that is left
pub data Outcome (A M : Type 0) : Type 0 where
  refuse : Refusal → Outcome A M
  done : A → M → Outcome A M

-- the call f on bytes: refused where they are not whole
abbrev pub called : {A M : Type 0} → (List ℕ → Bool) → (List ℕ → M) → (M → Outcome A M) → List ℕ → Outcome A M
called whole read f b = cond (whole b) (f (read b)) (refuse NotWhole)

abbrev pub answer : {A M : Type 0} → Outcome A M → Result A Refusal
answer (refuse r) = Err r
answer (done a m) = Ok a

-- the bytes b after a call: as they were where it is refused
abbrev pub bytes : {A M : Type 0} → (M → List ℕ → List ℕ) → List ℕ → Outcome A M → List ℕ
bytes laid b (refuse r) = b
bytes laid b (done a m) = laid m b

-- the meaning m after a call
abbrev pub left : {A M : Type 0} → M → Outcome A M → M
left m (refuse r) = m
left m (done a n) = n

-- the numbers are bytes, as those of every lent slice are
abbrev pub Bytes : List ℕ → Type 0
Bytes b = (i : ℕ) → get_or b i 0 < 256

-- What is proved of each kind. `Valid` is wholeness as document 01 words it, on the plain meaning; `Sized m n`, that m has n bytes.
-- `A k` is the type of what the call k answers.
pub record Means {M K : Type 0} {A : K → Type 0} (whole : List ℕ → Bool) (read : List ℕ → M) (laid : M → List ℕ → List ℕ)
    (Valid : M → Type 0) (Sized : M → ℕ → Type 0) (step : (k : K) → M → Outcome (A k) M) : Type 0 where
  -- whole bytes mean something valid, and are the bytes of what they mean
  pub whole_valid : (b : List ℕ) → Bytes b → whole b ≡ true → Valid (read b)
  pub whole_sized : (b : List ℕ) → whole b ≡ true → Sized (read b) (length b)
  pub laid_read : (b : List ℕ) → Bytes b → whole b ≡ true → laid (read b) b ≡ b
  -- whatever is valid is laid out as whole bytes, which mean it
  pub laid_bytes : (m : M) (b : List ℕ) → Bytes b → Valid m → Sized m (length b) → Bytes (laid m b)
  pub laid_whole : (m : M) (b : List ℕ) → Bytes b → Valid m → Sized m (length b) → whole (laid m b) ≡ true
  pub read_laid : (m : M) (b : List ℕ) → Bytes b → Valid m → Sized m (length b) → read (laid m b) ≡ m
  -- each call keeps a valid meaning valid, and its size
  pub step_valid : (k : K) (m : M) → Valid m → Valid (left m (step k m))
  pub step_sized : (k : K) (m : M) (n : ℕ) → Valid m → Sized m n → Sized (left m (step k m)) n
  -- so a call keeps whole bytes whole, and they then mean what the call leaves of the meaning
  pub keeps_bytes : (k : K) (b : List ℕ) → Bytes b → whole b ≡ true → Bytes (bytes laid b (called whole read (step k) b))
  pub keeps_whole : (k : K) (b : List ℕ) → Bytes b → whole b ≡ true → whole (bytes laid b (called whole read (step k) b)) ≡ true
  pub keeps_meaning : (k : K) (b : List ℕ) → Bytes b → whole b ≡ true → read (bytes laid b (called whole read (step k) b)) ≡ left (read b) (step k (read b))
