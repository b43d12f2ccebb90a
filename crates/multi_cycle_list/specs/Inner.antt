-- What the inner functions store, as the code goes. No contract of a public call cites this.
use Rattle.std.specs.Prelude.{ℕ, zero, suc, ◌+◌, ◌-◌, ◌*◌, ◌<◌, ◌≤◌, ◌≡◌, List, Bool, true, false, cond, ◌&&◌, ◌||◌, not, length, get_or, set, replicate, eqb, ltb, Option, Some, None}
use Rattle.multi_cycle_list.specs.Lists.{Lists, count, moved_front, moved_back}
use Rattle.multi_cycle_list.specs.declared.link.Link.{Link}
use Rattle.multi_cycle_list.specs.declared.link.Link.TheVariants.{Next, Prev}
use Rattle.multi_cycle_list.specs.Nodes.{classes, entries, next, prev, list_of, whole_b}

-- where node 0 has the link
abbrev pub offset : Link → ℕ
offset Next = 2
offset Prev = 3

abbrev pub opposite : Link → Link
opposite Next = Prev
opposite Prev = Next

-- the node that the link of the node i leads to
abbrev pub link_at : List ℕ → ℕ → Link → ℕ
link_at s i link = get_or s (offset link + 2 * i) 0

-- a node that the bytes have
abbrev pub Fits : List ℕ → ℕ → Type 0
Fits s i = (i < 256) × (3 + 2 * i < length s)

-- and so are those next to it
pub record Around (s : List ℕ) (i : ℕ) : Type 0 where
  pub at : Fits s i
  pub after : Fits s (next s i)
  pub before : Fits s (prev s i)

-- the node a linked to the node b, both ways
abbrev pub link_b : List ℕ → ℕ → ℕ → List ℕ
link_b s a b = set (set s (3 + 2 * b) a) (2 + 2 * a) b

abbrev pub unbind_b : List ℕ → ℕ → List ℕ
unbind_b s i = link_b (link_b s i i) (prev s i) (next s i)

-- the node i, which stands alone, between the nodes a and b
abbrev pub bind_b : List ℕ → ℕ → ℕ → ℕ → List ℕ
bind_b s i a b = link_b (link_b s i b) a i

-- after the node k, which is along `Next`, or before it
abbrev pub beside_b : List ℕ → ℕ → ℕ → Link → List ℕ
beside_b s i k Next = bind_b s i k (next s k)
beside_b s i k Prev = bind_b s i (prev s k) k

-- the node i can be taken out, and then put in next to the node k
pub record Movable (s : List ℕ) (i k : ℕ) : Type 0 where
  pub out : Around s i
  pub fits : Fits (unbind_b s i) i
  pub to : Around (unbind_b s i) k

-- the nodes below k alone, the rest as in s
unfoldable pub alone_to : List ℕ → ℕ → List ℕ
alone_to s zero = s
alone_to s (suc k) = link_b (alone_to s k) k k

-- the node n as an entry
abbrev pub as_entry : List ℕ → ℕ → Option ℕ
as_entry s n = cond (ltb n (classes s)) None (Some (n - classes s))

-- the entry e at the front of the class c, which is along `Next`, or at its back
abbrev pub moved : Link → ℕ → ℕ → Lists → Lists
moved Next = moved_front
moved Prev = moved_back

-- ---- the test of wholeness

-- sizes that are allowed, and the length that they ask for
pub record Sizes (s : List ℕ) : Type 0 where
  pub some : 1 ≤ classes s
  pub most : classes s ≤ 32
  pub fewer : entries s ≤ 224
  pub sized : length s ≡ 2 + 2 * (classes s + entries s)

-- where the link of the node i leads; none where it leads out of the n nodes, or the opposite link there does not come back
abbrev pub linked : List ℕ → ℕ → ℕ → Link → Option ℕ
linked s n i link = cond (ltb (link_at s i link) n && eqb (link_at s (link_at s i link) (opposite link)) i) (Some (link_at s i link)) None

-- whether two ends met, and the marks
pub record Trail : Type 0 where
  pub met : Bool
  pub seen : List ℕ

abbrev pub ended : Bool → List ℕ → Trail
ended b l = record { met = b; seen = l }

-- whether one end, which comes to a node, meets the other, at b; from an entry's node it goes on
abbrev pub comes : ℕ → ℕ → List ℕ → (ℕ → Trail) → Option ℕ → Trail
comes c b l on None = ended false l
comes c b l on (Some x) = cond (eqb x b) (ended true l) (cond (ltb x c) (ended false l) (on x))

-- from the node a along its link and from the node b along the opposite one in turn, at most k steps, through entries alone, until the two
-- ends meet; each entry's node is marked with v
unfoldable pub trail : ℕ → ℕ → ℕ → List ℕ → Link → ℕ → ℕ → ℕ → List ℕ → Trail
trail zero n c s link a b v l = ended false l
trail (suc k) n c s link a b v l = comes c b l (λ x. trail k n c s (opposite link) b x v (set l x v)) (linked s n a link)

unfoldable pub unmarked : List ℕ
unmarked = replicate 256 0

-- the trail of the class k, on marks
abbrev pub trail_at : List ℕ → ℕ → List ℕ → Trail
trail_at s k l = trail (2 * (classes s + entries s)) (classes s + entries s) (classes s) s Next k k (k + 1) l

-- the marks of the classes below k: at each entry's node the class's number and one more
unfoldable pub marks_of : List ℕ → ℕ → List ℕ
marks_of s zero = unmarked
marks_of s (suc k) = (trail_at s k (marks_of s k)).seen

abbrev pub meets_at : List ℕ → ℕ → Bool
meets_at s k = (trail_at s k (marks_of s k)).met

-- the node x is marked, or linked to itself
abbrev pub placed_by : List ℕ → List ℕ → ℕ → Bool
placed_by s seen x = not (eqb (get_or seen x 0) 0) || (eqb (next s x) x && eqb (prev s x) x)

-- what the marks of whole bytes tell: the class of each entry, and one more; 0 for an unbound one
pub record Marked (s seen : List ℕ) : Type 0 where
  pub in_class : (e c : ℕ) → e < entries s → c < classes s → 0 < count e (list_of s c) → get_or seen (classes s + e) 0 ≡ suc c
  pub of_class : (e c : ℕ) → e < entries s → get_or seen (classes s + e) 0 ≡ suc c → (c < classes s) × (0 < count e (list_of s c))

pub record Whole (s : List ℕ) (seen : List ℕ) (r : Bool) : Type 0 where
  pub test : r ≡ whole_b s
  pub marked : r ≡ true → Marked s seen
