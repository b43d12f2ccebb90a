-- What the inner functions answer. No contract of a public call cites this.
use Rattle.std.specs.Prelude.{ℕ, ◌+◌, List, cond, ◌&&◌, get_or, ltb, Result, Ok, Err, Option, Some, None}
use Rattle.state.specs.declared.Refusal.{Refusal}
use Rattle.state.specs.declared.Refusal.TheVariants.{NotWhole, Size}
use Rattle.multi_cycle_list.specs.Nodes.{classes, entries, whole_b}
use Rattle.multi_cycle_list.specs.Inner.{link_at}
use Rattle.multi_cycle_list.specs.declared.link.Link.{Link}

-- whether a call is refused whose class, or entry, x is to be below the size in byte i
abbrev pub checked : List ℕ → ℕ → ℕ → Result (Unit {0}) Refusal
checked b i x = cond (whole_b b) (cond (ltb x (get_or b i 0)) (Ok tt) (Err Size)) (Err NotWhole)

-- the same where the class c and the entry e are to be below the sizes
abbrev pub move_checked : List ℕ → ℕ → ℕ → Result (Unit {0}) Refusal
move_checked b c e = cond (whole_b b) (cond (ltb c (get_or b 0 0) && ltb e (get_or b 1 0)) (Ok tt) (Err Size)) (Err NotWhole)

-- the node n as a class, where it is one
abbrev pub as_class : List ℕ → ℕ → Option ℕ
as_class b n = cond (ltb n (classes b)) (Some n) None

-- the class that the link of the entry e leads to
abbrev pub class_checked : List ℕ → ℕ → Link → Result (Option ℕ) Refusal
class_checked b e link = cond (whole_b b) (cond (ltb e (entries b)) (Ok (as_class b (link_at b (classes b + e) link))) (Err Size)) (Err NotWhole)
