-- A list queue's bytes: byte 0 the number of classes, byte 1 the number of entries, then for each node its next and its prev.
-- Node c below the number of classes is class c; the entry e is the node classes + e.
use Rattle.std.specs.Prelude.{ℕ, zero, suc, ◌+◌, ◌-◌, ◌*◌, List, [], ◌∷◌, map, Bool, cond, ◌&&◌, ◌||◌, length, get_or, ltb, eqb}
use Rattle.state.specs.Lengths.{lists_allowed, lists_length}
use Rattle.state.specs.Seq.{all_b, some_b, each}
use Rattle.multi_cycle_list.specs.Lists.{Lists, count}

abbrev pub classes : List ℕ → ℕ
classes s = get_or s 0 0

abbrev pub entries : List ℕ → ℕ
entries s = get_or s 1 0

abbrev pub next : List ℕ → ℕ → ℕ
next s i = get_or s (2 + 2 * i) 0

abbrev pub prev : List ℕ → ℕ → ℕ
prev s i = get_or s (3 + 2 * i) 0

-- ---- the lists

-- from the node a along next, at most k steps and no further than a class (a node below c): the nodes met, and where it ends
unfoldable pub trace : ℕ → ℕ → List ℕ → ℕ → List ℕ
trace zero c s a = []
trace (suc k) c s a = cond (ltb a c) [] (a ∷ trace k c s (next s a))

unfoldable pub trace_end : ℕ → ℕ → List ℕ → ℕ → ℕ
trace_end zero c s a = a
trace_end (suc k) c s a = cond (ltb a c) a (trace_end k c s (next s a))

-- the class c's entries, from the front: the nodes along next, less the number of classes
unfoldable pub list_of : List ℕ → ℕ → List ℕ
list_of s c = map (λ n. n - classes s) (trace (entries s) (classes s) s (next s c))

unfoldable pub lists_of : List ℕ → List (List ℕ)
lists_of s = each (classes s) (list_of s)

abbrev pub read : List ℕ → Lists
read b = record { entries = entries b; rows = lists_of b }

-- ---- whole

unfoldable pub sizes_b : List ℕ → Bool
sizes_b s = lists_allowed (classes s) (entries s) && eqb (length s) (lists_length (classes s) (entries s))

-- the node i's links stay among the n nodes and come back, both ways
unfoldable pub linked_at : List ℕ → ℕ → ℕ → Bool
linked_at s n i = ltb (next s i) n && (ltb (prev s i) n && (eqb (prev s (next s i)) i && eqb (next s (prev s i)) i))

-- the class c's cycle comes back to it and meets no other class
abbrev pub closes : List ℕ → ℕ → Bool
closes s c = eqb (trace_end (entries s) (classes s) s (next s c)) c

-- the entry e is unbound, or stands in a class's list
abbrev pub placed : List ℕ → ℕ → Bool
placed s e = eqb (next s (classes s + e)) (classes s + e) || some_b (classes s) (λ c. ltb 0 (count e (list_of s c)))

-- document 01's *whole*: every cycle closes both ways and holds just one class or is a lone unbound entry
unfoldable pub whole_b : List ℕ → Bool
whole_b s = sizes_b s && (all_b (classes s + entries s) (linked_at s (classes s + entries s)) && (all_b (classes s) (closes s) && all_b (entries s) (placed s)))
