-- Laws of priorities and their sets. Assumes nothing.
use mathlib.Core.Path.{◌≡◌, refl, sym, ap, ◌∙◌}
use mathlib.Core.Bool.{Bool, true, false, not, ◌&&◌, ◌||◌, cond}
use mathlib.Core.List.{List, [], ◌∷◌}
use Prim.Native.Nat.{ℕ, zero, suc, ◌+◌, ◌-◌, ◌*◌, ◌/◌, ◌%◌, ◌^◌, ◌<◌, ◌≤◌}
use native.Mathlib.Nat.{pow-succ', div-div-eq-div-mul}
use native.Mathlib.Omega.{arith}
use lib.Dec.{eqb, leb, ltb, lit<}
use lib.Bits.{bit_and, bit_or, and_shr, or_shr, and_mod, or_mod, and_lt, or_lt}
use borrow.Author.Tests.{eq-eqb}
use lib.Count.{count_leading_zeros, count_trailing_zeros}
use Rattle.std.specs.Prelude.{Some, length, filter}
use Rattle.state.specs.Seq.{all_b, to_nat}
use Rattle.emcyphal_core.specs.Priorities.{priorities, number, priority_of, maybe_priority}
use Rattle.emcyphal_core.specs.Sets.{has, bits, set_of, without, is_empty, first_in, first_of, last_of, members}
use Rattle.emcyphal_core.specs.declared.Priority.{Priority}
use Rattle.emcyphal_core.specs.declared.Priority.TheVariants.{Exceptional, Immediate, Fast, High, Nominal, Low, Slow, Optional}
use Rattle.emcyphal_core.proofs.Tables.{tab, agree, agree2}

-- priorities and their numbers
pub numbered : (p : Priority) → (number p < 8) × (priority_of (number p) ≡ p)
numbered Exceptional = (lit< tt, refl)
numbered Immediate = (lit< tt, refl)
numbered Fast = (lit< tt, refl)
numbered High = (lit< tt, refl)
numbered Nominal = (lit< tt, refl)
numbered Low = (lit< tt, refl)
numbered Slow = (lit< tt, refl)
numbered Optional = (lit< tt, refl)

pub number_below : (p : Priority) → number p < 8
number_below p = (numbered p).0

pub in_order : (n : ℕ) → n < 8 → number (priority_of n) ≡ n
in_order = agree 8 _ _ refl

-- a number's lowest bit, and those above it
low : (t : Bool) (r : ℕ) → has (to_nat t + 2 * r) 0 ≡ t
low true r = let q : (1 + 2 * r) / 1 % 2 ≡ 1 = omega arith in rw q
low false r = let q : (0 + 2 * r) / 1 % 2 ≡ 0 = omega arith in rw q

half : (t : Bool) (r : ℕ) → (to_nat t + 2 * r) / 2 ≡ r
half true r = omega arith
half false r = omega arith

high : (t : Bool) (r k : ℕ) → has (to_nat t + 2 * r) (suc k) ≡ has r k
high t r k =
    let q : (to_nat t + 2 * r) / 2 ^ suc k ≡ r / 2 ^ k =
    rw (pow-succ' 2 k, ← div-div-eq-div-mul (to_nat t + 2 * r) 2 (2 ^ k), half t r) in
    rw q

has-bits : (n : ℕ) (f : ℕ → Bool) (p : ℕ) → p < n → has (bits n f) p ≡ f p
unfolding bits
has-bits zero f p l = absurd (omega arith)
has-bits (suc n) f zero l = low (f 0) (bits n (λ p. f (suc p)))
has-bits (suc n) f (suc p) l = high (f 0) (bits n (λ p. f (suc p))) p ∙ has-bits n (λ p. f (suc p)) p (omega arith)

-- a set of given members has them
pub member : (f : ℕ → Bool) (p : ℕ) → p < 8 → has (set_of f) p ≡ f p
member = has-bits 8

lower : (t : Bool) (r m : ℕ) → r < m → to_nat t + 2 * r < 2 * m
lower true r m l = omega arith
lower false r m l = omega arith

bits-lt : (n : ℕ) (f : ℕ → Bool) → bits n f < 2 ^ n
unfolding bits
bits-lt zero f = omega arith
bits-lt (suc n) f = rw (pow-succ' 2 n) (lower (f 0) (bits n (λ p. f (suc p))) (2 ^ n) (bits-lt n (λ p. f (suc p))))

-- it is a byte
pub small : (f : ℕ → Bool) → set_of f < 256
small = bits-lt 8

-- a byte is the set of its members
pub whole : (b : ℕ) → b < 256 → set_of (has b) ≡ b
unfolding bits
whole = agree 256 _ _ refl

bits-same : (n : ℕ) (f g : ℕ → Bool) → ((p : ℕ) → p < n → f p ≡ g p) → bits n f ≡ bits n g
unfolding bits
bits-same zero f g h = refl
bits-same (suc n) f g h =
    rw (h 0 (omega arith), bits-same n (λ p. f (suc p)) (λ p. g (suc p)) (λ p l. h (suc p) (omega arith))) refl

-- sets of the same members are the same
pub same : (f g : ℕ → Bool) → ((p : ℕ) → p < 8 → f p ≡ g p) → set_of f ≡ set_of g
same = bits-same 8

-- a byte with the members f is their set
pub is_set : (b : ℕ) (f : ℕ → Bool) → b < 256 → ((p : ℕ) → p < 8 → has b p ≡ f p) → b ≡ set_of f
is_set b f l h = sym (whole b l) ∙ same (has b) f h

-- a set made of b and of the set e, whose members are f
pub of_members : (t : Bool → Bool → Bool) (b e r : ℕ) (f : ℕ → Bool) → e ≡ set_of f → r ≡ set_of (λ p. t (has b p) (has e p))
    → r ≡ set_of (λ p. t (has b p) (f p))
of_members t b e r f q h = h ∙ same (λ p. t (has b p) (has e p)) (λ p. t (has b p) (f p)) (λ p l. rw q (ap (t (has b p)) (member f p l)))

-- an operation bit by bit, as sets see it
module _ (op : ℕ → ℕ → ℕ) (t : Bool → Bool → Bool)
    (halves : (a b k : ℕ) → op a b / 2 ^ k ≡ op (a / 2 ^ k) (b / 2 ^ k))
    (rests : (a b k : ℕ) → op a b % 2 ^ k ≡ op (a % 2 ^ k) (b % 2 ^ k))
    (rule : tab 2 (λ x. tab 2 (λ y. eqb (op x y) 1)) ≡ tab 2 (λ x. tab 2 (λ y. t (eqb x 1) (eqb y 1)))) where
  bit_op : (x : ℕ) → x < 2 → (y : ℕ) → y < 2 → eqb (op x y) 1 ≡ t (eqb x 1) (eqb y 1)
  bit_op = agree2 2 2 _ _ rule

  has_op : (a b p : ℕ) → has (op a b) p ≡ t (has a p) (has b p)
  has_op a b p = rw (halves a b p, rests (a / 2 ^ p) (b / 2 ^ p) 1) (bit_op (a / 2 ^ p % 2) (omega arith) (b / 2 ^ p % 2) (omega arith))

  set_op : (a b : ℕ) → op a b < 256 → op a b ≡ set_of (λ p. t (has a p) (has b p))
  set_op a b l = is_set (op a b) (λ p. t (has a p) (has b p)) l (λ p _. has_op a b p)

pub meet : (a b : ℕ) → a < 256 → b < 256 → bit_and a b ≡ set_of (λ p. has a p && has b p)
meet a b i j = set_op bit_and ◌&&◌ and_shr and_mod refl a b (and_lt 8 a b i j)

pub join : (a b : ℕ) → a < 256 → b < 256 → bit_or a b ≡ set_of (λ p. has a p || has b p)
join a b i j = set_op bit_or ◌||◌ or_shr or_mod refl a b (or_lt 8 a b i j)

pub join_of : (a : ℕ) (f : ℕ → Bool) → a < 256 → bit_or a (set_of f) ≡ set_of (λ p. has a p || f p)
join_of a f l = of_members ◌||◌ a (set_of f) (bit_or a (set_of f)) f refl (join a (set_of f) l (small f))

-- the complement of the set e, whose members are f
pub not_of : (f : ℕ → Bool) {e r : ℕ} → e ≡ set_of f → r ≡ set_of (λ p. not (has e p)) → r ≡ set_of (λ p. not (f p))
not_of f {e} {r} = of_members (λ _ t. not t) 0 e r f

pub without_of : (b q : ℕ) {e d : ℕ} → b < 256 → d < 256 → e ≡ set_of (λ p. eqb p q) → d ≡ set_of (λ p. not (has e p)) → bit_and b d ≡ without b q
without_of b q {e} {d} l m h k = of_members ◌&&◌ b d (bit_and b d) (λ p. not (eqb p q)) (not_of _ h k) (meet b d l m)

-- tables over all bytes
pub others : (b : ℕ) → b < 256 → 255 - b ≡ set_of (λ p. not (has b p))
unfolding bits
others = agree 256 _ _ refl

pub empty : (b : ℕ) → b < 256 → eqb b 0 ≡ is_empty b
unfolding all_b
empty = agree 256 _ _ refl

pub least : (b : ℕ) → b < 256 → maybe_priority (count_trailing_zeros 8 b) ≡ first_of b
unfolding count_trailing_zeros first_in
least = agree 256 _ _ refl

pub greatest : (b : ℕ) → b < 256 → maybe_priority ((8 - count_leading_zeros 8 b + 255) % 256) ≡ last_of b
unfolding count_leading_zeros first_in
greatest = agree 256 _ _ refl

-- tables over all priorities: the sets that one gives, and the complements of these
pub only : (q : ℕ) → q < 8 → 1 * 2 ^ q % 256 ≡ set_of (λ p. eqb p q)
unfolding bits
only = agree 8 _ _ refl

pub from : (q : ℕ) → q < 8 → 255 * 2 ^ q % 256 ≡ set_of (λ p. leb q p)
unfolding bits
from = agree 8 _ _ refl

pub up_to : (q : ℕ) → q < 8 → 255 / 2 ^ (7 - q) ≡ set_of (λ p. leb p q)
unfolding bits
up_to = agree 8 _ _ refl

pub after : (q : ℕ) → q < 8 → set_of (λ p. not (leb p q)) ≡ set_of (λ p. ltb q p)
unfolding bits
after = agree 8 _ _ refl

pub ahead : (q : ℕ) → q < 8 → set_of (λ p. not (leb q p)) ≡ set_of (λ p. ltb p q)
unfolding bits
ahead = agree 8 _ _ refl

-- a set has fewer members without its first one
module _ (b : ℕ) (q : Priority) where
  has_now : Priority → Bool
  has_now p = has b (number p)

  has_then : Priority → Bool
  has_then p = has (without b (number q)) (number p)

  then_now : (p : Priority) → has_then p ≡ has_now p && not (eqb (number p) (number q))
  unfolding has_now has_then
  then_now p = member (λ p. has b p && not (eqb p (number q))) (number p) (number_below p)

  no-more : (ps : List Priority) → length (filter has_then ps) ≤ length (filter has_now ps)
  no-more [] = omega arith
  no-more (p ∷ ps) = grind (arith, then_now p, no-more ps)

  fewer-by : (t : Bool) (p : Priority) (ps : List Priority) → has_now p ≡ t → cond t (Some p) (first_in b ps) ≡ Some q
      → (first_in b ps ≡ Some q → length (filter has_then ps) < length (filter has_now ps))
      → length (filter has_then (p ∷ ps)) < length (filter has_now (p ∷ ps))
  fewer-by true p ps e h k = let s : p ≡ q = cc in let n : has_then p ≡ false = rw (then_now p, e, s, eq-eqb (number q) (number q) refl) in rw (e, n) (omega (arith, no-more ps))
  fewer-by false p ps e h k = let n : has_then p ≡ false = rw (then_now p, e) in rw (e, n) (k h)

  fewer-in : (ps : List Priority) → first_in b ps ≡ Some q → length (filter has_then ps) < length (filter has_now ps)
  unfolding first_in has_now
  fewer-in [] h = absurd (cc)
  fewer-in (p ∷ ps) h = fewer-by (has_now p) p ps refl h (fewer-in ps)

pub fewer : (b : ℕ) (q : Priority) → first_of b ≡ Some q → length (members (without b (number q))) < length (members b)
unfolding has_now has_then
fewer b q = fewer-in b q priorities

pub ruleset sets = (number_below, meet, join, join_of, others, empty, least, greatest, only, from, up_to, fewer)
