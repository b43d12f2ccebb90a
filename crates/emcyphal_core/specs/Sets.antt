-- A byte as a set of priorities: p is in the set if bit p is set.
use Rattle.std.specs.Prelude.{List, [], ◌∷◌, reverse, Bool, not, ◌&&◌, cond, ℕ, zero, suc, ◌+◌, ◌*◌, ◌/◌, ◌%◌, ◌^◌, eqb, Option, Some, None, filter}
use Rattle.state.specs.Seq.{all_b, to_nat}
use Rattle.emcyphal_core.specs.Priorities.{priorities, number}
use Rattle.emcyphal_core.specs.declared.Priority.{Priority}

-- bit p of b is set
abbrev pub has : ℕ → ℕ → Bool
has b p = eqb (b / 2 ^ p % 2) 1

-- the number whose bit p is f p for each p below n, and that has no other bit set
unfoldable pub bits : ℕ → (ℕ → Bool) → ℕ
bits zero f = 0
bits (suc n) f = to_nat (f 0) + 2 * bits n (λ p. f (suc p))

-- the set of the priorities p with f p
abbrev pub set_of : (ℕ → Bool) → ℕ
set_of f = bits 8 f

-- the set b without the priority q
abbrev pub without : ℕ → ℕ → ℕ
without b q = set_of (λ p. has b p && not (eqb p q))

-- no priority is in b
abbrev pub is_empty : ℕ → Bool
is_empty b = all_b 8 (λ p. not (has b p))

-- the first of a list that is in the set b
unfoldable pub first_in : ℕ → List Priority → Option Priority
first_in b [] = None
first_in b (p ∷ ps) = cond (has b (number p)) (Some p) (first_in b ps)

-- the member with the least number
abbrev pub first_of : ℕ → Option Priority
first_of b = first_in b priorities

-- the member with the greatest number
abbrev pub last_of : ℕ → Option Priority
last_of b = first_in b (reverse priorities)

-- a member, and the set without it
abbrev pub taken : ℕ → Option Priority → Option Priority × ℕ
taken b (Some p) = (Some p, without b (number p))
taken b None = (None, b)

-- what an iterator over b hands out, and what it then has left
abbrev pub next_of : ℕ → Option Priority × ℕ
next_of b = taken b (first_of b)

-- the members, the most urgent first
abbrev pub members : ℕ → List Priority
members b = filter (λ p. has b (number p)) priorities
