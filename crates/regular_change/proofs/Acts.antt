-- What each change leaves: one law for each, from the parts that it stores.
use Prim.Native.Nat.{ℕ, suc, ◌+◌, ◌-◌, ◌/◌, ◌%◌, ◌<◌, ◌≤◌}
use mathlib.Core.Path.{◌≡◌, refl, sym, ap, ◌∙◌, subst}
use mathlib.Core.Logic.{◌≢◌}
use mathlib.Core.List.{List, [], ◌∷◌, ◌++◌}
use Rattle.std.specs.Prelude.{Option, None, Some, Ok, position}
use mathlib.Core.Bool.{Bool, true, false, not, cond, ◌||◌}
use native.Mathlib.Omega.{arith}
use native.Mathlib.Decide.{ℕ_discrete}
use lib.Dec.{ltb}
use lib.ListN.{length, get_or, set, drop, replicate, length-replicate, get_or-replicate}
use lib.Seq.{set-get_or, get_or-take, get_or-drop}
use borrow.Author.Tests.{not-true, ltb-true, ltb-false, lt-ltb, eq-eqb, ne_eqb}
use borrow.Rule.Slice.PartMut.{put_mid}
use Rattle.state.specs.Seq.{to_nat}
use Rattle.state.specs.Outcome.{Bytes}
use Rattle.state.proofs.Filled.{zero-bytes}
use Rattle.state.proofs.Tests.{by_cond, and_r}
use Rattle.multi_cycle_list.specs.Lists as lists
use Rattle.multi_cycle_list.specs.Lists.{Lists, without_entry, moved_back, empty}
use Rattle.std.specs.Prelude.{Some, None}
use Rattle.multi_cycle_list.specs.Nodes as nodes
use Rattle.multi_cycle_list.specs.Laid as lists_laid
use Rattle.multi_cycle_list.proofs.Lists.{without-none, in_count, without-same, count_same, count-gone, count_kept}
use Rattle.multi_cycle_list.proofs.Laid as queues
use Rattle.multi_cycle_list.proofs.Changes.{remove-valid}
use Rattle.entry_tree.specs.Pairs.{Pair, pair, count, is_entry, has_entry, has_subject, inserted, place_of, Place, past}
use Rattle.entry_tree.specs.Places as tree
use Rattle.entry_tree.specs.Inner.{IsTree, removed_at, with_walk_past}
use Rattle.entry_tree.proofs.Laid as trees
use Rattle.entry_tree.proofs.Changes.{removed-length, inserted-length}
use Rattle.entry_tree.proofs.Reading.{read_length, read-place-subject}
use Rattle.entry_tree.specs.Walks.{next_on, moved_past, walk_over}
use Rattle.state.proofs.Bytes.{bytes-part}
use Rattle.entry_tree.proofs.Finding.{place_in, place-next, removed-is}
use Rattle.entry_tree.proofs.Walking.{walk-past, walk-stays, past-here, past-other, find-rest}
use Rattle.entry_tree.proofs.Once.{empty_tree}
use Rattle.regular.specs.Registry.{Registry, fresh, queued}
use Rattle.regular.specs.Bytes.{active_part, inactive_part, queue_part, read, whole_b, flag_over, queue_of, laid}
use Rattle.regular.specs.Steps.{waits, joins, leaves_inactive, leaves, Gaps, gaps, head_gaps, is_head, new_mark, goes_on, with_clean_up, Step, call_again, inner_step, activates, becomes_active}
use Rattle.regular.proofs.Parts.{Joined, put-active, put-inactive, put-queue, set-tail, tail_at, active-is, queue-is}
use Rattle.regular.proofs.Grounds.{sizes_of}
use Rattle.regular_valid.proofs.Facts.{Facts, at_most}
use Rattle.entry_tree.proofs.Count.{few-entries}
use Rattle.regular_valid.proofs.Places.{mark-range}
use Rattle.regular_valid.proofs.Poll.{step-front, step-last, step-next}
use Rattle.regular_valid.proofs.Reading.{parts, read-facts}
use Rattle.regular_valid.proofs.Round.{tail_of, tail_laid, split-long, split-whole, laid-joined, laid_from, queue-read, active-self, inactive-self, queue-self, low-self, high-self, flag-self, walk-self}
use Rattle.regular_change.specs.Inner.{CleanedUp, from_at, gap_before, gap_of, more, with_slots, with_flag}
use Rattle.regular.specs.declared.FilterUpdate.TheVariants.{AddSubject, RemoveSubjectRange}
use Rattle.regular_change.proofs.Looks.{place-from-at}
use Rattle.regular_change.specs.declared.look.Gap.{Gap}
use Rattle.regular_change.specs.declared.look.Gap.TheVariants.{Same, Withdrawn, Marked, Last}

-- ---- the last bytes

module _ (s : List ℕ) where
  pub flag-new : get_or s 1034 0 ≡ 0 → set s 1034 1 ≡ with_flag s true
  flag-new q = rw (eq-eqb (get_or s 1034 0) 0 q)

  pub flag_old : get_or s 1034 0 ≢ 0 → s ≡ with_flag s true
  flag_old q = sym (rw (ne_eqb (get_or s 1034 0) 0 q) (set-get_or s 1034 0))

-- ---- opening

unfoldable zeros : List ℕ
zeros = replicate 1036 0

zero-at : (i : ℕ) → i < 1036 → get_or zeros i 0 ≡ 0
unfolding zeros
zero-at i l = get_or-replicate {A = ℕ} 1036 i 0 0 l

pub opened : (n : ℕ) → set (with_slots (put_mid 770 262 (replicate 1036 0) (lists_laid.laid (empty 2 128))) n) 1035 255 ≡ laid (fresh n) (replicate 1036 0)
unfolding zeros
opened n =
    let b = zeros in
    let l : length b ≡ 1036 = length-replicate {A = ℕ} 1036 0 in
    let A = active_part b in
    let I = inactive_part b in
    let q = lists_laid.laid (empty 2 128) in
    let j0 = split-long b l in
    let j1 = put-queue b A I (queue_part b) (tail_of b) j0 q (queues.out-length 2 128 (lists_laid.arcs 2 0 ([] ∷ ([] ∷ [])))) in
    let s1 = put_mid 770 262 b q in
    let j2 = set-tail s1 A I q (tail_of b) j1 0 (n % 256) (omega arith) in
    let s2 = set s1 1032 (n % 256) in
    let j3 = set-tail s2 A I q (set (tail_of b) 0 (n % 256)) j2 1 (n / 256) (omega arith) in
    let s3 = set s2 1033 (n / 256) in
    let j4 = set-tail s3 A I q (set (set (tail_of b) 0 (n % 256)) 1 (n / 256)) j3 3 255 (omega arith) in
    laid_from (fresh n) b j4
    (empty_tree A j0.long-a (bytes-part 0 385 b (zero-bytes 1036)) (get_or-take 385 b 0 0 (omega arith) ∙ zero-at 0 (omega arith)))
    (empty_tree I j0.long-i (bytes-part 385 385 b (zero-bytes 1036)) (get_or-take 385 (drop 385 b) 0 0 (omega arith) ∙ get_or-drop 385 b 0 0 ∙ zero-at 385 (omega arith)))
    refl refl refl
    (zero-at 1034 (omega arith))
    (ap (walk_over None) (sym (zero-at 1035 (omega arith))))

-- ---- what a gap comes to

-- the clean-up queue, the last-gap flag and the slots given back, by the gap that e leaves
abbrev with_gaps : List ℕ → Bool → ℕ → Gaps
with_gaps c f n = record { clean_up = c; last_gap = f; more = n }

abbrev pub gapped : Gap → ℕ → List ℕ → Bool → Gaps
gapped Same e marks f = record { clean_up = marks; last_gap = f; more = 0 }
gapped Withdrawn e marks f = record { clean_up = lists.without e marks; last_gap = f; more = 0 }
gapped (Marked q) e marks f = record { clean_up = lists.without e marks ++ (q ∷ []); last_gap = f; more = 1 }
gapped Last e marks f = record { clean_up = lists.without e marks; last_gap = true; more = 1 }

append-nil : (l : List ℕ) → l ++ [] ≡ l
append-nil [] = refl
append-nil (x ∷ l) = ap (λ (k : List ℕ). x ∷ k) (append-nil l)

module _ (e : ℕ) (marks : List ℕ) (f : Bool) where
  before-gap : (x : ℕ) (l : List Pair) → head_gaps e x l marks f ≡ gapped (gap_before e x l marks) e marks f
  before-gap x [] = refl
  before-gap x (q ∷ l) = go (new_mark e x q marks)
    where
      go : (t : Bool) → (record { clean_up = lists.without e marks ++ cond t (q.entry ∷ []) []; last_gap = f; more = to_nat t }) ≡ gapped (cond t (Marked q.entry) Withdrawn) e marks f
      go true = refl
      go false = ap (λ (c : List ℕ). with_gaps c f 0) (append-nil (lists.without e marks))

  head_gap : (p : Place) → is_head p ≡ true → gap_of e p marks ≡ gap_before e p.subject p.rest marks
  head_gap p t = rw t

  tail-gap : (p : Place) → is_head p ≡ false → gap_of e p marks ≡ Same
  tail-gap p t = rw t

  pub gaps_are : (p : Place) (g : Gap) → g ≡ gap_of e p marks → gaps e p marks f ≡ gapped g e marks f
  gaps_are p g q = by_cond (λ (t : Gaps). t ≡ gapped g e marks f) (is_head p) {a = head_gaps e p.subject p.rest marks f} {b = with_gaps marks f 0}
      (λ t. before-gap p.subject p.rest ∙ ap (λ (z : Gap). gapped z e marks f) (sym (q ∙ head_gap p t)))
      (λ t. ap (λ (z : Gap). gapped z e marks f) (sym (q ∙ tail-gap p t)))

-- a gap that marks q: q is the next, and bears no mark
pub record Next (q : ℕ) (l : List Pair) (marks : List ℕ) : Type 0 where
  pub here : 0 < count (is_entry q) l
  pub bare : queued q marks ≡ false

next-before : (e x q : ℕ) (l : List Pair) (marks : List ℕ) → Marked q ≡ gap_before e x l marks → Next q l marks
next-before e x q [] marks = λ z. absurd (let o : ◌≡◌ {A = ℕ} 0 1 = cc in omega arith)
next-before e x q (r ∷ l) marks = by_cond (λ (g : Gap). Marked q ≡ g → Next q (r ∷ l) marks) (new_mark e x r marks) {a = Marked r.entry} {b = Withdrawn}
    (λ t z.
    let s : q ≡ r.entry = cc in
    record {
      here = rw (eq-eqb q r.entry s) (omega arith);
      bare = ap (λ (k : ℕ). queued k marks) s ∙ not-true (queued r.entry marks) (and_r (queued e marks || ltb x r.subject) (not (queued r.entry marks)) t);
    })
    (λ t z. absurd (let o : ◌≡◌ {A = ℕ} 0 1 = cc in omega arith))

pub next_of : (e q : ℕ) (p : Place) (marks : List ℕ) → Marked q ≡ gap_of e p marks → Next q p.rest marks
next_of e q p marks = by_cond (λ (g : Gap). Marked q ≡ g → Next q p.rest marks) (is_head p) {a = gap_before e p.subject p.rest marks} {b = Same}
    (λ t. next-before e p.subject q p.rest marks) (λ t z. absurd (let o : ◌≡◌ {A = ℕ} 0 1 = cc in omega arith))

pub more-is : (g : Gap) (e : ℕ) (marks : List ℕ) (f : Bool) → (gapped g e marks f).more ≡ more g
more-is Same e marks f = refl
more-is Withdrawn e marks f = refl
more-is (Marked q) e marks f = refl
more-is Last e marks f = refl

-- ---- whole bytes

without-less : (q e : ℕ) (l : List ℕ) → lists.count q (lists.without e l) ≤ lists.count q l
without-less q e l = elim (ℕ_discrete q e) [
  | yes z ↦ omega (arith, ap (λ (k : ℕ). lists.count k (lists.without e l)) z, count-gone e l)
  | no z ↦ omega (arith, count_kept q e l z)
]

gone : (e : ℕ) (xs : List ℕ) → lists.count e xs ≡ 0 → lists.without e xs ≡ xs
gone e xs z = without-none e xs (λ i. omega (arith, in_count e xs i))

any_none : (e : ℕ) (l : List Pair) → has_entry e l ≡ false → count (is_entry e) l ≡ 0
any_none e l h = omega (arith, ltb-false 0 (count (is_entry e) l) h)

any_some : (e : ℕ) (l : List Pair) → has_entry e l ≡ true → 0 < count (is_entry e) l
any_some e l h = ltb-true 0 (count (is_entry e) l) h

-- ---- the front of a queue

pub first_some : (l : List ℕ) (e : ℕ) → lists.first l ≡ Some e → l ≡ e ∷ drop 1 l
first_some [] e q = absurd (let z : ◌≡◌ {A = ℕ} 0 1 = cc in omega arith)
first_some (x ∷ l) e q = let z : x ≡ e = cc in ap (λ (k : ℕ). k ∷ l) z

pub first-none : (l : List ℕ) → lists.first l ≡ None → l ≡ []
first-none [] q = refl
first-none (x ∷ l) q = absurd (let z : ◌≡◌ {A = ℕ} 0 1 = cc in omega arith)

-- a whole queue of 2 classes and 128 entries
pub record Queue (q : List ℕ) : Type 0 where
  pub whole : nodes.whole_b q ≡ true
  pub classes : nodes.classes q ≡ 2
  pub entries : nodes.entries q ≡ 128

module _ (b : List ℕ) (y : Bytes b) (h : whole_b b ≡ true) where
  abbrev m : Registry
  m = read b

  abbrev A : List ℕ
  A = active_part b

  abbrev I : List ℕ
  I = inactive_part b

  abbrev Q : List ℕ
  Q = queue_part b

  abbrev T : List ℕ
  T = tail_of b

  J : Joined b A I Q T
  J = split-whole b y h

  F : Facts m
  F = read-facts b h

  -- what is asked of the parts

  pub whole-queue : nodes.whole_b Q ≡ true
  whole-queue = (parts b h).queue

  pub whole_long : length b ≡ 1036
  whole_long = (parts b h).bytes

  pub classes-two : nodes.classes Q ≡ 2
  classes-two = (sizes_of b (parts b h).sizes).classes

  pub entries-all : nodes.entries Q ≡ 128
  entries-all = (sizes_of b (parts b h).sizes).entries

  pub long-active : length A ≡ 385
  long-active = J.long-a

  pub long-inactive : length I ≡ 385
  long-inactive = J.long-i

  pub long-queue : length Q ≡ 262
  long-queue = J.long-q

  pub few-active : tree.size A ≤ 128
  few-active = (sizes_of b (parts b h).sizes).active

  pub few-inactive : tree.size I ≤ 128
  few-inactive = (sizes_of b (parts b h).sizes).inactive

  pub tree-active : IsTree A
  tree-active = record { len = long-active; few = few-active }

  pub tree-inactive : IsTree I
  tree-inactive = record { len = long-inactive; few = few-inactive }

  own-queue : Queue Q
  own-queue = record { whole = whole-queue; classes = classes-two; entries = entries-all }

  -- ---- an entry that is not registered

  module _ (e : ℕ) (he : e < 128) (out-i : has_entry e m.inactive ≡ false) (out-a : has_entry e m.active ≡ false) where
    zi : count (is_entry e) m.inactive ≡ 0
    zi = any_none e m.inactive out-i

    za : count (is_entry e) m.active ≡ 0
    za = any_none e m.active out-a

    -- there is room for it
    room : (l : List Pair) → ((f : ℕ) → count (is_entry f) l ≤ 1) → ((f : ℕ) → 0 < count (is_entry f) l → f < 128) → count (is_entry e) l ≡ 0 → length l < 128
    room l once inside z =
        few-entries 128 (pair e 0 ∷ l)
        (λ f. elim (ℕ_discrete f e) [ yes q ↦ rw (eq-eqb f e q) (omega (arith, ap (λ (k : ℕ). count (is_entry k) l) q)) | no q ↦ rw (ne_eqb f e q) (omega (arith, once f)) ])
        (λ f i. elim (ℕ_discrete f e) [ yes q ↦ omega arith | no q ↦ inside f (omega (arith, rw (ne_eqb f e q) at i)) ])

    pub room-active : tree.size A < 128
    room-active = omega (arith, read_length A, room m.active (λ f. omega (arith, F.once f)) (λ f i. omega (arith, F.entries f (omega arith))) za)

    pub room-inactive : tree.size I < 128
    room-inactive = omega (arith, read_length I, room m.inactive (λ f. omega (arith, F.once f)) (λ f i. omega (arith, F.entries f (omega arith))) zi)

    pub joins_then : (x : ℕ) (p : List ℕ) → p ≡ tree.laid (inserted (pair e x) (tree.read A)) A → put_mid 0 385 b p ≡ laid (joins e x m) b
    joins_then x p a =
        laid_from (joins e x m) b
        (put-active b A I Q T J p (ap length a ∙ trees.length-laid A long-active (inserted (pair e x) m.active) (omega (arith, inserted-length (pair e x) m.active, read_length A, room-active))))
        a (inactive-self b y h) (queue-self b y h) (low-self b y h) (high-self b y h) (flag-self b y h) (walk-self b y h)

    -- the queue is as it was when the entry has joined the inactive ones
    pub whole-waits : (x : ℕ) (p : List ℕ) → p ≡ tree.laid (inserted (pair e x) (tree.read I)) I → Queue (queue_part (put_mid 385 385 b p))
    whole-waits x p q =
        let l : length p ≡ 385 = ap length q ∙ trees.length-laid I long-inactive (inserted (pair e x) m.inactive) (omega (arith, inserted-length (pair e x) m.inactive, read_length I, room-inactive)) in
        subst (λ (z : List ℕ). Queue z) (sym (queue-is (put_mid 385 385 b p) A p Q T (put-inactive b A I Q T J p l))) own-queue

    -- the two queues with e at the back of the activation queue
    queued-back : moved_back 1 e (nodes.read Q) ≡ queue_of (waits e 0 0 m)
    queued-back =
        ap (moved_back 1 e) (queue-read b h)
        ∙ ap (λ (c : List ℕ). queues.lists 128 (c ∷ ((lists.without e m.activation ++ (e ∷ [])) ∷ []))) (gone e m.clean_up (omega (arith, F.marked e, za)))
        ∙ ap (λ (a : List ℕ). queues.lists 128 (m.clean_up ∷ ((a ++ (e ∷ [])) ∷ []))) (gone e m.activation (omega (arith, F.waits e, zi)))

    waiting : (x n : ℕ) → let s1 = put_mid 385 385 b (tree.laid (inserted (pair e x) (tree.read I)) I) in
        with_slots (put_mid 770 262 s1 (lists_laid.laid (moved_back 1 e (nodes.read (queue_part s1))))) n ≡ laid (waits e x n m) b
    waiting x n =
        let p = tree.laid (inserted (pair e x) (tree.read I)) I in
        let s1 = put_mid 385 385 b p in
        let j1 = put-inactive b A I Q T J p (trees.length-laid I long-inactive (inserted (pair e x) m.inactive) (omega (arith, inserted-length (pair e x) m.inactive, read_length I, room-inactive))) in
        let q = lists_laid.laid (moved_back 1 e (nodes.read (queue_part s1))) in
        let is : q ≡ lists_laid.laid (queue_of (waits e x n m)) = ap (λ (z : List ℕ). lists_laid.laid (moved_back 1 e (nodes.read z))) (queue-is s1 A p Q T j1) ∙ ap (λ (z : Lists). lists_laid.laid z) queued-back in
        let j2 = put-queue s1 A p Q T j1 q (ap length is ∙ queues.out-length 2 128 (lists_laid.arcs 2 0 (m.clean_up ∷ ((m.activation ++ (e ∷ [])) ∷ [])))) in
        let s2 = put_mid 770 262 s1 q in
        let j3 = set-tail s2 A p q T j2 0 (n % 256) (omega arith) in
        let j4 = set-tail (set s2 1032 (n % 256)) A p q (set T 0 (n % 256)) j3 1 (n / 256) (omega arith) in
        laid_from (waits e x n m) b j4 (active-self b y h) refl is refl refl (flag-self b y h) (walk-self b y h)

    pub waits_then : (x n : ℕ) (p q t : List ℕ) → p ≡ tree.laid (inserted (pair e x) (tree.read I)) I
        → q ≡ lists_laid.laid (moved_back 1 e (nodes.read (queue_part (put_mid 385 385 b p)))) → t ≡ with_slots (put_mid 770 262 (put_mid 385 385 b p) q) n
        → t ≡ laid (waits e x n m) b
    waits_then x n p q t a z w = w ∙ rw (z, a) (waiting x n)

  -- ---- an inactive entry leaves

  module _ (e i : ℕ) (at : position (is_entry e) m.inactive ≡ Some i) (in-i : has_entry e m.inactive ≡ true) where
    one-i : 0 < count (is_entry e) m.inactive
    one-i = any_some e m.inactive in-i

    pub place-inactive : i < tree.size I
    place-inactive = place_in I (is_entry e) i at

    pub inactive-entry : e < 128
    inactive-entry = omega (arith, F.entries e (omega (arith, one-i)))

    -- the two queues without e
    unqueued : without_entry e (nodes.read Q) ≡ queue_of (leaves_inactive e m)
    unqueued =
        ap (without_entry e) (queue-read b h)
        ∙ ap (λ (c : List ℕ). queues.lists 128 (c ∷ (lists.without e m.activation ∷ []))) (gone e m.clean_up (omega (arith, F.marked e, F.once e, one-i)))

    shorter : length (removed_at i (tree.read I)) ≤ 128
    shorter = omega (arith, removed-length i (tree.read I) (omega (arith, read_length I, place-inactive)), read_length I, few-inactive)

    -- the queue is as it was when the pair has left
    pub whole-leaves : (p : List ℕ) → p ≡ tree.laid (removed_at i (tree.read I)) I → Queue (queue_part (put_mid 385 385 b p))
    whole-leaves p q =
        let l : length p ≡ 385 = ap length q ∙ trees.length-laid I long-inactive (removed_at i (tree.read I)) shorter in
        subst (λ (z : List ℕ). Queue z) (sym (queue-is (put_mid 385 385 b p) A p Q T (put-inactive b A I Q T J p l))) own-queue

    left-inactive : let s1 = put_mid 385 385 b (tree.laid (removed_at i (tree.read I)) I) in
        put_mid 770 262 s1 (lists_laid.laid (without_entry e (nodes.read (queue_part s1)))) ≡ laid (leaves_inactive e m) b
    left-inactive =
        let p = tree.laid (removed_at i (tree.read I)) I in
        let s1 = put_mid 385 385 b p in
        let j1 = put-inactive b A I Q T J p (trees.length-laid I long-inactive (removed_at i (tree.read I)) shorter) in
        let q = lists_laid.laid (without_entry e (nodes.read (queue_part s1))) in
        let is : q ≡ lists_laid.laid (queue_of (leaves_inactive e m)) = ap (λ (z : List ℕ). lists_laid.laid (without_entry e (nodes.read z))) (queue-is s1 A p Q T j1) ∙ ap (λ (z : Lists). lists_laid.laid z) unqueued in
        let j2 = put-queue s1 A p Q T j1 q (ap length is ∙ queues.out-length 2 128 (lists_laid.arcs 2 0 (m.clean_up ∷ (lists.without e m.activation ∷ [])))) in
        laid_from (leaves_inactive e m) b j2 (active-self b y h)
        (ap (λ (l : List Pair). tree.laid l I) (removed-is I e i at (omega (arith, F.once e)))) is (low-self b y h) (high-self b y h) (flag-self b y h) (walk-self b y h)

    pub leaves_then : (p q : List ℕ) → p ≡ tree.laid (removed_at i (tree.read I)) I → q ≡ lists_laid.laid (without_entry e (nodes.read (queue_part (put_mid 385 385 b p))))
        → put_mid 770 262 (put_mid 385 385 b p) q ≡ laid (leaves_inactive e m) b
    leaves_then p q a z = rw (z, a) left-inactive

  -- ---- the clean-up queue's front

  module _ (e : ℕ) (ms : List ℕ) (front : m.clean_up ≡ e ∷ ms) where
    front-count : lists.count e m.clean_up ≡ suc (lists.count e ms)
    front-count = ap (lists.count e) front ∙ count_same e e ms refl

    pub front-active : has_entry e m.active ≡ true
    front-active = lt-ltb 0 (count (is_entry e) m.active) (omega (arith, F.marked e, front-count))

    pub front-entry : e < 128
    front-entry = omega (arith, F.entries e (omega (arith, F.marked e, front-count)))

    -- what the step says, from the front's place i
    module _ (i : ℕ) (at : position (is_entry e) m.active ≡ Some i) where
      pub front-place : i < tree.size A
      front-place = place_in A (is_entry e) i at

      front-subject : (place_of e m.active).subject ≡ tree.subject_at A i
      front-subject = read-place-subject A e i at

      pub front_above : 0 < tree.subject_at A i
      front_above = omega (arith, (mark-range m F e ms front).0, front-subject)

      pub front-says : (a x : ℕ) → a ≡ from_at A i → x ≡ tree.subject_at A i → Some (Ok (RemoveSubjectRange a (x - 1))) ≡ (inner_step m).says
      front-says a x qa qx =
          ap (λ (k : ℕ). Some (Ok (RemoveSubjectRange k (x - 1)))) (qa ∙ sym (place-from-at A e i at))
          ∙ ap (λ (k : ℕ). Some (Ok (RemoveSubjectRange (place_of e m.active).from (k - 1)))) (qx ∙ sym front-subject)
          ∙ sym (ap (λ (z : Step). z.says) (step-front m e ms front))

    popped-queue : without_entry e (nodes.read Q) ≡ queue_of (with_clean_up ms m.last_gap m)
    popped-queue =
        ap (without_entry e) (queue-read b h)
        ∙ ap (λ (c : List ℕ). queues.lists 128 (c ∷ (lists.without e m.activation ∷ []))) (ap (lists.without e) front ∙ without-same e e ms refl ∙ gone e ms (omega (arith, F.marked e, F.once e, front-count)))
        ∙ ap (λ (a : List ℕ). queues.lists 128 (ms ∷ (a ∷ []))) (gone e m.activation (omega (arith, F.waits e, F.once e, F.marked e, front-count)))

    popped : put_mid 770 262 b (lists_laid.laid (without_entry e (nodes.read Q))) ≡ laid (with_clean_up ms m.last_gap m) b
    popped =
        let q = lists_laid.laid (without_entry e (nodes.read Q)) in
        let is : q ≡ lists_laid.laid (queue_of (with_clean_up ms m.last_gap m)) = ap (λ (z : Lists). lists_laid.laid z) popped-queue in
        let j = put-queue b A I Q T J q (ap length is ∙ queues.out-length 2 128 (lists_laid.arcs 2 0 (ms ∷ (m.activation ∷ [])))) in
        laid_from (with_clean_up ms m.last_gap m) b j (active-self b y h) (inactive-self b y h) is (low-self b y h) (high-self b y h) (flag-self b y h) (walk-self b y h)

    pub popped-then : (q : List ℕ) → q ≡ lists_laid.laid (without_entry e (nodes.read Q)) → put_mid 770 262 b q ≡ laid (inner_step m).then b
    popped-then q z = ap (put_mid 770 262 b) z ∙ popped ∙ sym (ap (λ (z : Step). laid z.then b) (step-front m e ms front))

  -- ---- the last gap

  cleared : m.clean_up ≡ [] → set b 1034 0 ≡ laid (with_clean_up [] false m) b
  cleared q =
      let j = set-tail b A I Q T J 2 0 (omega arith) in
      laid_from (with_clean_up [] false m) b j (active-self b y h) (inactive-self b y h)
      (queue-self b y h ∙ ap (λ (c : List ℕ). lists_laid.laid (queues.lists 128 (c ∷ (m.activation ∷ [])))) q) (low-self b y h) (high-self b y h) refl (walk-self b y h)

  pub cleared-then : m.clean_up ≡ [] → m.last_gap ≡ true → set b 1034 0 ≡ laid (inner_step m).then b
  cleared-then q f = cleared q ∙ sym (ap (λ (z : Step). laid z.then b) (step-last m q f))

  pub last_says : m.clean_up ≡ [] → m.last_gap ≡ true → (a : ℕ) → a ≡ past 0 m.active → Some (Ok (RemoveSubjectRange a 8191)) ≡ (inner_step m).says
  last_says q f a p = ap (λ (k : ℕ). Some (Ok (RemoveSubjectRange k 8191))) p ∙ sym (ap (λ (z : Step). z.says) (step-last m q f))

  pub past-few : m.last_gap ≡ true → past 0 m.active ≤ 8191
  past-few f = F.last-gap f

  -- ---- the activation queue's front

  pub next-inactive : (e : ℕ) (qs : List ℕ) → m.activation ≡ e ∷ qs → has_entry e m.inactive ≡ true
  next-inactive e qs front = lt-ltb 0 (count (is_entry e) m.inactive) (omega (arith, F.waits e, ap (lists.count e) front, count_same e e qs refl))

  module _ (e i : ℕ) (qs : List ℕ) (front : m.activation ≡ e ∷ qs) (at : position (is_entry e) m.inactive ≡ Some i) where
    next-count : lists.count e m.activation ≡ suc (lists.count e qs)
    next-count = ap (lists.count e) front ∙ count_same e e qs refl

    pub next_place : i < tree.size I
    next_place = place_in I (is_entry e) i at

    pub next-entry : e < 128
    next-entry = omega (arith, F.entries e (omega (arith, F.waits e, next-count)))

    pub next-room : tree.size A < 128
    next-room = omega (arith, at_most m F, read_length A, read_length I, next_place)

    activated-queue : m.clean_up ≡ [] → without_entry e (nodes.read Q) ≡ queue_of (becomes_active e 0 qs m)
    activated-queue c =
        ap (without_entry e) (queue-read b h)
        ∙ ap (λ (l : List ℕ). queues.lists 128 (l ∷ (lists.without e m.activation ∷ []))) (gone e m.clean_up (omega (arith, F.marked e, F.once e, F.waits e, next-count)))
        ∙ ap (λ (a : List ℕ). queues.lists 128 (m.clean_up ∷ (a ∷ []))) (ap (lists.without e) front ∙ without-same e e qs refl ∙ gone e qs (omega (arith, F.waits e, F.once e, next-count)))

    gone-length : length (removed_at i (tree.read I)) ≤ 128
    gone-length = omega (arith, removed-length i (tree.read I) (omega (arith, read_length I, next_place)), read_length I, few-inactive)

    next-subject : (place_of e m.inactive).subject ≡ tree.subject_at I i
    next-subject = read-place-subject I e i at

    pub next-whole : (p : List ℕ) → p ≡ tree.laid (removed_at i (tree.read I)) I → Queue (queue_part (put_mid 385 385 b p))
    next-whole p q = whole-leaves e i at (next-inactive e qs front) p q

    -- where the pair joins
    pub next-joins : m.clean_up ≡ [] → (p q : List ℕ) → p ≡ tree.laid (removed_at i (tree.read I)) I → q ≡ lists_laid.laid (without_entry e (nodes.read (queue_part (put_mid 385 385 b p))))
        → active_part (put_mid 770 262 (put_mid 385 385 b p) q) ≡ A
    next-joins c p q qp qq =
        let s1 = put_mid 385 385 b p in
        let j1 = put-inactive b A I Q T J p (ap length qp ∙ trees.length-laid I long-inactive (removed_at i (tree.read I)) gone-length) in
        let is : q ≡ lists_laid.laid (queue_of (becomes_active e 0 qs m)) = qq ∙ ap (λ (z : List ℕ). lists_laid.laid (without_entry e (nodes.read z))) (queue-is s1 A p Q T j1) ∙ ap (λ (z : Lists). lists_laid.laid z) (activated-queue c) in
        let j2 = put-queue s1 A p Q T j1 q (ap length is ∙ queues.out-length 2 128 (lists_laid.arcs 2 0 (m.clean_up ∷ (qs ∷ [])))) in
        active-is (put_mid 770 262 s1 q) A p q T j2

    module _ (c : CleanedUp m) (x : ℕ) (qx : x ≡ tree.subject_at I i) where
      next-step : inner_step m ≡ activates e x qs m
      next-step = step-next m c.marks c.flag (e ∷ qs) front ∙ ap (λ (k : ℕ). activates e k qs m) (next-subject ∙ sym qx)

      pub next-says : (r : Bool) → r ≡ has_subject x m.active → cond r call_again (Some (Ok (AddSubject x))) ≡ (inner_step m).says
      next-says r q = ap (λ (k : Bool). cond k call_again (Some (Ok (AddSubject x)))) q ∙ sym (ap (λ (z : Step). z.says) next-step)

    activated : m.clean_up ≡ [] → (x : ℕ)
        → let s1 = put_mid 385 385 b (tree.laid (removed_at i (tree.read I)) I) in
        let s2 = put_mid 770 262 s1 (lists_laid.laid (without_entry e (nodes.read (queue_part s1)))) in
        put_mid 0 385 s2 (tree.laid (inserted (pair e x) (tree.read (active_part s2))) (active_part s2)) ≡ laid (becomes_active e x qs m) b
    activated c x =
        let p = tree.laid (removed_at i (tree.read I)) I in
        let s1 = put_mid 385 385 b p in
        let j1 = put-inactive b A I Q T J p (trees.length-laid I long-inactive (removed_at i (tree.read I)) gone-length) in
        let q = lists_laid.laid (without_entry e (nodes.read (queue_part s1))) in
        let is : q ≡ lists_laid.laid (queue_of (becomes_active e x qs m)) = ap (λ (z : List ℕ). lists_laid.laid (without_entry e (nodes.read z))) (queue-is s1 A p Q T j1) ∙ ap (λ (z : Lists). lists_laid.laid z) (activated-queue c) in
        let j2 = put-queue s1 A p Q T j1 q (ap length is ∙ queues.out-length 2 128 (lists_laid.arcs 2 0 (m.clean_up ∷ (qs ∷ [])))) in
        let s2 = put_mid 770 262 s1 q in
        let a = tree.laid (inserted (pair e x) (tree.read (active_part s2))) (active_part s2) in
        let ia : a ≡ tree.laid (inserted (pair e x) m.active) A = ap (λ (z : List ℕ). tree.laid (inserted (pair e x) (tree.read z)) z) (active-is s2 A p q T j2) in
        let j3 = put-active s2 A p q T j2 a (ap length ia ∙ trees.length-laid A long-active (inserted (pair e x) m.active) (omega (arith, inserted-length (pair e x) m.active, read_length A, next-room))) in
        laid_from (becomes_active e x qs m) b j3 ia
        (ap (λ (l : List Pair). tree.laid l I) (removed-is I e i at (omega (arith, F.once e)))) is (low-self b y h) (high-self b y h) (flag-self b y h) (walk-self b y h)

    pub next-then : (c : CleanedUp m) (x : ℕ) → x ≡ tree.subject_at I i → (p q a : List ℕ) → p ≡ tree.laid (removed_at i (tree.read I)) I
        → q ≡ lists_laid.laid (without_entry e (nodes.read (queue_part (put_mid 385 385 b p))))
        → (let s2 = put_mid 770 262 (put_mid 385 385 b p) q in a ≡ tree.laid (inserted (pair e x) (tree.read (active_part s2))) (active_part s2))
        → put_mid 0 385 (put_mid 770 262 (put_mid 385 385 b p) q) a ≡ laid (inner_step m).then b
    next-then c x qx p q a pq qq aq = rw (aq, qq, pq) (activated c.marks x ∙ sym (ap (λ (z : Step). laid z.then b) (next-step c x qx)))

  -- ---- the gap that an active entry leaves

  module _ (e : ℕ) (in_a : has_entry e m.active ≡ true) where
    one-a : 0 < count (is_entry e) m.active
    one-a = any_some e m.active in_a

    pub active-entry : e < 128
    active-entry = omega (arith, F.entries e (omega (arith, one-a)))

    idle : lists.count e m.activation ≡ 0
    idle = omega (arith, F.waits e, F.once e, one-a)

    -- the queues without e, and the bytes
    abbrev unmarked : Registry
    unmarked = with_clean_up (lists.without e m.clean_up) m.last_gap m

    withdrawn-queue : without_entry e (nodes.read Q) ≡ queue_of unmarked
    withdrawn-queue =
        ap (without_entry e) (queue-read b h)
        ∙ ap (λ (a : List ℕ). queues.lists 128 (lists.without e m.clean_up ∷ (a ∷ []))) (gone e m.activation idle)

    abbrev W : List ℕ
    W = lists_laid.laid (without_entry e (nodes.read Q))

    W-is : W ≡ lists_laid.laid (queue_of unmarked)
    W-is = ap (λ (z : Lists). lists_laid.laid z) withdrawn-queue

    W-long : length W ≡ 262
    W-long = ap length W-is ∙ queues.out-length 2 128 (lists_laid.arcs 2 0 (lists.without e m.clean_up ∷ (m.activation ∷ [])))

    abbrev s1 : List ℕ
    s1 = put_mid 770 262 b W

    J1 : Joined s1 A I W T
    J1 = put-queue b A I Q T J W W-long

    kept-gap : (g : Gap) → g ≡ Same → b ≡ laid (with_clean_up (gapped g e m.clean_up m.last_gap).clean_up (gapped g e m.clean_up m.last_gap).last_gap m) b
    kept-gap g q = rw q (laid_from m b J (active-self b y h) (inactive-self b y h) (queue-self b y h) (low-self b y h) (high-self b y h) (flag-self b y h) (walk-self b y h))

    withdrawn : (g : Gap) → g ≡ Withdrawn → s1 ≡ laid (with_clean_up (gapped g e m.clean_up m.last_gap).clean_up (gapped g e m.clean_up m.last_gap).last_gap m) b
    withdrawn g q = rw q (laid_from unmarked b J1 (active-self b y h) (inactive-self b y h) W-is (low-self b y h) (high-self b y h) (flag-self b y h) (walk-self b y h))

    last-gap : (g : Gap) → g ≡ Last → with_flag s1 true ≡ laid (with_clean_up (gapped g e m.clean_up m.last_gap).clean_up (gapped g e m.clean_up m.last_gap).last_gap m) b
    last-gap g q = rw q (
        laid_from (with_clean_up (lists.without e m.clean_up) true m) b (set-tail s1 A I W T J1 2 (flag_over true (get_or s1 1034 0)) (omega arith)) (active-self b y h) (inactive-self b y h) W-is (low-self b y h) (high-self b y h)
        (ap (flag_over true) (tail_at s1 A I W T J1 2)) (walk-self b y h))

    -- the queue after the mark was withdrawn
    valid-unmarked : lists.Valid (without_entry e (nodes.read Q))
    valid-unmarked = remove-valid (nodes.read Q) (queues.read-valid Q whole-queue) e (omega (arith, entries-all, active-entry))

    queue-then : queue_part s1 ≡ W
    queue-then = queue-is s1 A I W T J1

    whole-then : nodes.whole_b (queue_part s1) ≡ true
    whole-then = ap nodes.whole_b queue-then ∙ queues.laid_whole (without_entry e (nodes.read Q)) valid-unmarked

    read-then : nodes.read (queue_part s1) ≡ queue_of unmarked
    read-then = ap nodes.read queue-then ∙ queues.read_laid (without_entry e (nodes.read Q)) valid-unmarked ∙ withdrawn-queue

    queue-ready : Queue (queue_part s1)
    queue-ready =
        let z = queues.out-sizes 2 128 (lists_laid.arcs 2 0 (lists.without e m.clean_up ∷ (m.activation ∷ []))) in
        record { whole = whole-then; classes = ap nodes.classes (queue-then ∙ W-is) ∙ z.0; entries = ap nodes.entries (queue-then ∙ W-is) ∙ z.1 }

    module _ (q : ℕ) (nx : Marked q ≡ gap_of e (place_of e m.active) m.clean_up) where
      bare : queued q m.clean_up ≡ false
      bare = (next_of e q (place_of e m.active) m.clean_up nx).bare

      next : has_entry q m.active ≡ true
      next = lt-ltb 0 (count (is_entry q) m.active) (omega (arith, (next_of e q (place_of e m.active) m.clean_up nx).here, find-rest q e 0 m.active))

      pub next_small : q < 128
      next_small = omega (arith, F.entries q (omega (arith, any_some q m.active next)))

      unmarked-next : lists.count q m.clean_up ≡ 0
      unmarked-next = omega (arith, ltb-false 0 (lists.count q m.clean_up) bare)

      marked-queue : moved_back 0 q (nodes.read (queue_part s1)) ≡ queue_of (with_clean_up (lists.without e m.clean_up ++ (q ∷ [])) m.last_gap m)
      marked-queue =
          ap (moved_back 0 q) read-then
          ∙ ap (λ (c : List ℕ). queues.lists 128 ((c ++ (q ∷ [])) ∷ (lists.without q m.activation ∷ []))) (gone q (lists.without e m.clean_up) (omega (arith, without-less q e m.clean_up, unmarked-next)))
          ∙ ap (λ (a : List ℕ). queues.lists 128 ((lists.without e m.clean_up ++ (q ∷ [])) ∷ (a ∷ []))) (gone q m.activation (omega (arith, F.waits q, F.once q, any_some q m.active next)))

      marked_next : (g : Gap) → g ≡ Marked q → put_mid 770 262 s1 (lists_laid.laid (moved_back 0 q (nodes.read (queue_part s1)))) ≡ laid (with_clean_up (gapped g e m.clean_up m.last_gap).clean_up (gapped g e m.clean_up m.last_gap).last_gap m) b
      marked_next g z =
          let n = with_clean_up (lists.without e m.clean_up ++ (q ∷ [])) m.last_gap m in
          let x = lists_laid.laid (moved_back 0 q (nodes.read (queue_part s1))) in
          let is : x ≡ lists_laid.laid (queue_of n) = ap (λ (l : Lists). lists_laid.laid l) marked-queue in
          let j = put-queue s1 A I W T J1 x (ap length is ∙ queues.out-length 2 128 (lists_laid.arcs 2 0 ((lists.without e m.clean_up ++ (q ∷ [])) ∷ (m.activation ∷ [])))) in
          rw z (laid_from n b j (active-self b y h) (inactive-self b y h) is (low-self b y h) (high-self b y h) (flag-self b y h) (walk-self b y h))

    -- so with what the code stores: the queue without e is q, and then u
    module _ (g : Gap) (qg : g ≡ gap_of e (place_of e m.active) m.clean_up) where
      abbrev G : Gaps
      G = gaps e (place_of e m.active) m.clean_up m.last_gap

      as_gaps : (t : List ℕ) → t ≡ laid (with_clean_up (gapped g e m.clean_up m.last_gap).clean_up (gapped g e m.clean_up m.last_gap).last_gap m) b → t ≡ laid (with_clean_up G.clean_up G.last_gap m) b
      as_gaps t q = q ∙ sym (ap (λ (z : Gaps). laid (with_clean_up z.clean_up z.last_gap m) b) (gaps_are e m.clean_up m.last_gap (place_of e m.active) g qg))

      pub same-then : g ≡ Same → b ≡ laid (with_clean_up G.clean_up G.last_gap m) b
      same-then z = as_gaps b (kept-gap g z)

      module _ (q : List ℕ) (qq : q ≡ W) where
        pub withdrawn-then : g ≡ Withdrawn → put_mid 770 262 b q ≡ laid (with_clean_up G.clean_up G.last_gap m) b
        withdrawn-then z = as_gaps (put_mid 770 262 b q) (ap (put_mid 770 262 b) qq ∙ withdrawn g z)

        pub last-then : g ≡ Last → (t : List ℕ) → t ≡ with_flag (put_mid 770 262 b q) true → t ≡ laid (with_clean_up G.clean_up G.last_gap m) b
        last-then z t tq = as_gaps t (tq ∙ ap (λ (k : List ℕ). with_flag (put_mid 770 262 b k) true) qq ∙ last-gap g z)

        pub queue-after : Queue (queue_part (put_mid 770 262 b q))
        queue-after = subst (λ (z : List ℕ). Queue (queue_part (put_mid 770 262 b z))) (sym qq) queue-ready

        pub marked-then : (k : ℕ) → g ≡ Marked k → (u : List ℕ) → u ≡ lists_laid.laid (moved_back 0 k (nodes.read (queue_part (put_mid 770 262 b q))))
            → put_mid 770 262 (put_mid 770 262 b q) u ≡ laid (with_clean_up G.clean_up G.last_gap m) b
        marked-then k z u uq = as_gaps _ (rw (uq, qq) (marked_next k (sym z ∙ qg) g z))

    -- ---- and it leaves

    module _ (i : ℕ) (at : position (is_entry e) m.active ≡ Some i) (g : Gaps) where
      abbrev c1 : Registry
      c1 = with_clean_up g.clean_up g.last_gap m

      abbrev p : Place
      p = place_of e m.active

      pub place-active : i < tree.size A
      place-active = place_in A (is_entry e) i at

      less : length (removed_at i (tree.read A)) ≤ 128
      less = omega (arith, removed-length i (tree.read A) (omega (arith, read_length A, place-active)), read_length A, few-active)

      Jc : Joined (laid c1 b) (tree.laid m.active A) (tree.laid m.inactive I) (lists_laid.laid (queue_of c1)) (tail_laid c1 b)
      Jc = laid-joined c1 b whole_long (omega (arith, read_length A, few-active)) (omega (arith, read_length I, few-inactive))

      -- the walk goes on
      module _ (w : Option ℕ) (wq : w ≡ next_on (tree.subject_at A i) (drop (suc i) m.active)) where
        abbrev sc : List ℕ
        sc = laid c1 b

        byte-is : get_or sc 1035 0 ≡ get_or b 1035 0
        byte-is = tail_at sc (tree.laid m.active A) (tree.laid m.inactive I) (lists_laid.laid (queue_of c1)) (tail_laid c1 b) Jc 3 ∙ sym (walk-self b y h)

        record Walked : Type 0 where
          pub byte : ℕ
          pub joined : Joined (with_walk_past 1035 sc e w) (tree.laid m.active A) (tree.laid m.inactive I) (lists_laid.laid (queue_of c1)) (m.slots % 256 ∷ (m.slots / 256 ∷ (flag_over g.last_gap (get_or b 1034 0) ∷ (byte ∷ []))))
          pub is : byte ≡ walk_over (moved_past e (goes_on p) m.walk) (get_or b 1035 0)

        walked : Walked
        walked = elim (ℕ_discrete (get_or sc 1035 0) e) [
          | yes q ↦ record {
            byte = walk_over w (get_or sc 1035 0);
            joined = subst (λ (z : List ℕ). Joined z (tree.laid m.active A) (tree.laid m.inactive I) (lists_laid.laid (queue_of c1)) (m.slots % 256 ∷ (m.slots / 256 ∷ (flag_over g.last_gap (get_or b 1034 0) ∷ (walk_over w (get_or sc 1035 0) ∷ [])))))
                (walk-past 1035 sc e w q) (set-tail sc (tree.laid m.active A) (tree.laid m.inactive I) (lists_laid.laid (queue_of c1)) (tail_laid c1 b) Jc 3 (walk_over w (get_or sc 1035 0)) (omega arith));
            is = ap (walk_over w) byte-is ∙ ap (λ (o : Option ℕ). walk_over o (get_or b 1035 0)) (wq ∙ sym (place-next A e i at) ∙ sym (past-here (get_or b 1035 0) e (goes_on p) (sym byte-is ∙ q) active-entry));
          }
          | no q ↦ record {
            byte = walk_over m.walk (get_or b 1035 0);
            joined = subst (λ (z : List ℕ). Joined z (tree.laid m.active A) (tree.laid m.inactive I) (lists_laid.laid (queue_of c1)) (tail_laid c1 b)) (walk-stays 1035 sc e w q) Jc;
            is = ap (λ (o : Option ℕ). walk_over o (get_or b 1035 0)) (sym (past-other (get_or b 1035 0) e (goes_on p) (λ z. q (byte-is ∙ z))));
          }
        ]

      -- the walk's byte, the counter, the tree
      module _ (w : Option ℕ) (s : List ℕ) (v : ℕ)
          (j : Joined s (tree.laid m.active A) (tree.laid m.inactive I) (lists_laid.laid (queue_of c1)) (m.slots % 256 ∷ (m.slots / 256 ∷ (flag_over g.last_gap (get_or b 1034 0) ∷ (v ∷ [])))))
          (n : ℕ) (nq : n ≡ m.slots + g.more) (vq : v ≡ walk_over (moved_past e (goes_on p) m.walk) (get_or b 1035 0)) where
        active-then : active_part (with_slots s n) ≡ A
        active-then =
            let T0 = m.slots % 256 ∷ (m.slots / 256 ∷ (flag_over g.last_gap (get_or b 1034 0) ∷ (v ∷ []))) in
            let A' = tree.laid m.active A in
            let I' = tree.laid m.inactive I in
            let Q' = lists_laid.laid (queue_of c1) in
            let j1 = set-tail s A' I' Q' T0 j 0 (n % 256) (omega arith) in
            let j2 = set-tail (set s 1032 (n % 256)) A' I' Q' (set T0 0 (n % 256)) j1 1 (n / 256) (omega arith) in
            active-is (with_slots s n) A' I' Q' (set (set T0 0 (n % 256)) 1 (n / 256)) j2 ∙ sym (active-self b y h)

        left-active : put_mid 0 385 (with_slots s n) (tree.laid (removed_at i (tree.read (active_part (with_slots s n)))) (active_part (with_slots s n))) ≡ laid (leaves e p g m) b
        left-active =
            let T0 = m.slots % 256 ∷ (m.slots / 256 ∷ (flag_over g.last_gap (get_or b 1034 0) ∷ (v ∷ []))) in
            let A' = tree.laid m.active A in
            let I' = tree.laid m.inactive I in
            let Q' = lists_laid.laid (queue_of c1) in
            let j1 = set-tail s A' I' Q' T0 j 0 (n % 256) (omega arith) in
            let j2 = set-tail (set s 1032 (n % 256)) A' I' Q' (set T0 0 (n % 256)) j1 1 (n / 256) (omega arith) in
            let t = tree.laid (removed_at i (tree.read (active_part (with_slots s n)))) (active_part (with_slots s n)) in
            let is : t ≡ tree.laid (removed_at i m.active) A = ap (λ (z : List ℕ). tree.laid (removed_at i (tree.read z)) z) active-then in
            let j3 = put-active (with_slots s n) A' I' Q' (set (set T0 0 (n % 256)) 1 (n / 256)) j2 t (ap length is ∙ trees.length-laid A long-active (removed_at i m.active) less) in
            laid_from (leaves e p g m) b j3
            (is ∙ ap (λ (l : List Pair). tree.laid l A) (removed-is A e i at (omega (arith, F.once e))))
            refl refl (ap (λ (k : ℕ). k % 256) nq) (ap (λ (k : ℕ). k / 256) nq) refl vq

    -- the place i of the entry, its gap, and where the walk goes on: the queue, the walk and the counter become s1, s2 and s3
    module _ (i : ℕ) (at : position (is_entry e) m.active ≡ Some i) (g : Gap) (qg : g ≡ gap_of e (place_of e m.active) m.clean_up) (n : ℕ) (qn : n ≡ m.slots + more g)
        (w : Option ℕ) (wq : w ≡ next_on (tree.subject_at A i) (drop (suc i) m.active)) (s1 s2 s3 : List ℕ)
        (q1 : let G = gaps e (place_of e m.active) m.clean_up m.last_gap in s1 ≡ laid (with_clean_up G.clean_up G.last_gap m) b)
        (q2 : s2 ≡ with_walk_past 1035 s1 e w) (q3 : s3 ≡ with_slots s2 n)
      where
        abbrev H : Gaps
        H = gaps e (place_of e m.active) m.clean_up m.last_gap

        abbrev sw : List ℕ
        sw = with_walk_past 1035 (laid (with_clean_up H.clean_up H.last_gap m) b) e w

        more_then : n ≡ m.slots + H.more
        more_then =
            qn ∙ ap (λ (k : ℕ). m.slots + k) (sym (ap (λ (z : Gaps). z.more) (gaps_are e m.clean_up m.last_gap (place_of e m.active) g qg) ∙ more-is g e m.clean_up m.last_gap))

        s3-is : s3 ≡ with_slots sw n
        s3-is = q3 ∙ ap (λ (z : List ℕ). with_slots z n) (q2 ∙ ap (λ (z : List ℕ). with_walk_past 1035 z e w) q1)

        -- the tree is as it was
        pub tree-then : IsTree (active_part s3) × (i < tree.size (active_part s3))
        tree-then =
            let k = walked i at H w wq in
            subst (λ (t : List ℕ). IsTree t × (i < tree.size t)) (sym (ap active_part s3-is ∙ active-then i at H w sw k.byte k.joined n more_then k.is)) (tree-active, place-active i at H)

        pub left-then : (t : List ℕ) → t ≡ tree.laid (removed_at i (tree.read (active_part s3))) (active_part s3) → put_mid 0 385 s3 t ≡ laid (leaves e (place_of e m.active) H m) b
        left-then t qt =
            let k = walked i at H w wq in
            ap (put_mid 0 385 s3) qt ∙ ap (λ (z : List ℕ). put_mid 0 385 z (tree.laid (removed_at i (tree.read (active_part z))) (active_part z))) s3-is
            ∙ left-active i at H w sw k.byte k.joined n more_then k.is
