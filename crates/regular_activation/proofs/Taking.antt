-- Many inner steps at once, on bytes: the entries leave the activation queue one by one, then each tree changes.
use Prim.Native.Nat.{ℕ, zero, suc, ◌+◌, ◌-◌, ◌/◌, ◌%◌, ◌<◌, ◌≤◌}
use mathlib.Core.Path.{◌≡◌, refl, sym, ap, ◌∙◌, subst}
use mathlib.Core.List.{List, [], ◌∷◌}
use mathlib.Core.Bool.{true}
use native.Mathlib.Omega.{arith}
use lib.ListN.{length, get_or, set, drop, replicate}
use borrow.Rule.Slice.PartMut.{put_mid}
use Rattle.state.specs.Outcome.{Bytes}
use Rattle.multi_cycle_list.specs.Lists as lists
use Rattle.multi_cycle_list.specs.Lists.{Lists, first, row, without_entry}
use Rattle.std.specs.Prelude.{Option, Some, None}
use Rattle.multi_cycle_list.specs.Nodes as nodes
use Rattle.multi_cycle_list.specs.Laid as lists_laid
use Rattle.multi_cycle_list.proofs.Lists.{without-none, in_count, without-same, count_same}
use Rattle.multi_cycle_list.proofs.Laid as queues
use Rattle.multi_cycle_list.proofs.Changes.{front_in}
use Rattle.entry_tree.specs.Pairs.{Pair, in_order}
use Rattle.entry_tree.specs.Places as tree
use Rattle.entry_tree.specs.Places.{subject_at}
use Rattle.entry_tree.specs.Inner.{IsTree}
use Rattle.entry_merge.specs.Inner.{kept, stays, filled, merged}
use Rattle.entry_tree.proofs.Lists.{none}
use Rattle.entry_tree.proofs.Reading.{read_length, read_at}
use Rattle.entry_merge.proofs.Merging.{merged-length}
use Rattle.regular.specs.Registry.{Registry}
use Rattle.regular.specs.Bytes.{active_part, inactive_part, queue_part, read, whole_b, flag_over, queue_of}
use Rattle.regular.specs.Steps.{inner_step}
use Rattle.regular.proofs.Parts.{Joined, put-active, put-inactive, put-queue, tail_at, active-is, inactive-is, queue-is, long}
use Rattle.entry_tree.specs.Walks.{walk_over}
use Rattle.regular_valid.proofs.Facts.{at_most}
use Rattle.regular_valid.proofs.Valid.{Whole, inner_whole}
use Rattle.regular_valid.proofs.Reading.{parts, read-facts, read_whole, queue-valid}
use Rattle.regular_valid.proofs.Round.{tail_of, split-long, laid_from, queue-read, queue-self, low-self, high-self, flag-self, walk-self}
use Rattle.regular_change.specs.Inner.{CleanedUp}
use Rattle.regular_activation.specs.Inner.{again, Again, Activated, StartsAt, Starts, Free, Consists, Taken}
use Rattle.regular_change.proofs.Looks.{known}
use Rattle.regular_change.proofs.Acts.{Queue, first_some}
use Rattle.regular_activation.proofs.Running.{Running, running_none, running_more, running_queue}

-- ---- the parts of bytes

tail_of_lem : (s : List ℕ) (i : ℕ) → i < 4 → get_or (tail_of s) i 0 ≡ get_or s (1032 + i) 0
tail_of_lem s zero h = refl
tail_of_lem s (suc zero) h = refl
tail_of_lem s (suc (suc zero)) h = refl
tail_of_lem s (suc (suc (suc zero))) h = refl
tail_of_lem s (suc (suc (suc (suc i)))) h = absurd (omega arith)

pub consists : (s t A I Q : List ℕ) → Joined t A I Q (tail_of s) → Consists s t A I Q
consists s t A I Q j = record {
  long = long t A I Q (tail_of s) j;
  active = active-is t A I Q (tail_of s) j;
  inactive = inactive-is t A I Q (tail_of s) j;
  queue = queue-is t A I Q (tail_of s) j;
  tail = λ i h. tail_at t A I Q (tail_of s) j i ∙ tail_of_lem s i h;
}

pub joined : (s t A I Q : List ℕ) → Consists s t A I Q → Joined t A I Q (tail_of s)
joined s t A I Q h =
    let e : tail_of t ≡ tail_of s = λ k. h.tail 0 (omega arith) k ∷ (h.tail 1 (omega arith) k ∷ (h.tail 2 (omega arith) k ∷ (h.tail 3 (omega arith) k ∷ []))) in
    subst (λ (z : List ℕ). Joined t A I Q z) e
    (subst (λ (z : List ℕ). Joined t A I z (tail_of t)) h.queue
    (subst (λ (z : List ℕ). Joined t A z (queue_part t) (tail_of t)) h.inactive
    (subst (λ (z : List ℕ). Joined t z (inactive_part t) (queue_part t) (tail_of t)) h.active (split-long t h.long))))

-- ---- the entries, one by one

pub record Taking (b s slots gone : List ℕ) (front : Option ℕ) : Type 0 where
  pub meaning : Registry
  pub run : Running (read b) meaning slots gone
  pub parts : Consists b s (active_part b) (inactive_part b) (lists_laid.laid (queue_of meaning))
  pub next : front ≡ first meaning.activation

gone-none : (e : ℕ) (xs : List ℕ) → lists.count e xs ≡ 0 → lists.without e xs ≡ xs
gone-none e xs z = without-none e xs (λ i. omega (arith, in_count e xs i))

module _ (b : List ℕ) (y : Bytes b) (h : whole_b b ≡ true) where
  few : length (read b).inactive ≤ 128
  few = omega (arith, at_most (read b) (read-facts b h))

  pub taking_none : CleanedUp (read b) → (slots gone : List ℕ) → slots ≡ replicate 128 255 → gone ≡ replicate 256 0 → (front : Option ℕ) → front ≡ first (row (nodes.read (queue_part b)) 1)
      → Taking b b slots gone front
  taking_none c slots gone qs qg front q =
      subst (λ (z : List ℕ). Taking b b z gone front) (sym qs)
      (subst (λ (z : List ℕ). Taking b b (replicate 128 255) z front) (sym qg)
      (record {
        meaning = read b;
        run = running_none (read b) (read_whole b y h) c.marks c.flag few;
        parts = consists b b (active_part b) (inactive_part b) (lists_laid.laid (queue_of (read b)))
            (subst (λ (z : List ℕ). Joined b (active_part b) (inactive_part b) z (tail_of b)) (queue-self b y h) (split-long b (parts b h).bytes));
        next = q ∙ ap (λ (z : Lists). first (row z 1)) (queue-read b h);
      }))

  module _ (s slots gone : List ℕ) (front : Option ℕ) (k : Taking b s slots gone front) where
    abbrev m : Registry
    m = k.meaning

    valid : lists.Valid (queue_of m)
    valid = queue-valid m k.run.whole.facts

    pub queue-then : nodes.read (queue_part s) ≡ queue_of m
    queue-then = ap nodes.read k.parts.queue ∙ queues.read_laid (queue_of m) valid

    pub queue-whole : Queue (queue_part s)
    queue-whole =
        let z = queues.out-sizes 2 128 (lists_laid.arcs 2 0 (m.clean_up ∷ (m.activation ∷ []))) in
        record { whole = ap nodes.whole_b k.parts.queue ∙ queues.laid_whole (queue_of m) valid; classes = ap nodes.classes k.parts.queue ∙ z.0; entries = ap nodes.entries k.parts.queue ∙ z.1 }

    pub front-then : (e : ℕ) → front ≡ Some e → first (row (nodes.read (queue_part s)) 1) ≡ Some e
    front-then e q = ap (λ (z : Lists). first (row z 1)) queue-then ∙ sym k.next ∙ q

    pub front-small : (e : ℕ) → front ≡ Some e → e < 128
    front-small e q = omega (arith, front_in (queue_part s) 1 queue-whole.whole (omega (arith, queue-whole.classes)) e (front-then e q), queue-whole.entries)

    pub tree_then : IsTree (inactive_part s)
    tree_then = subst IsTree (sym k.parts.inactive) (known b h).inactive

    module _ (e : ℕ) (qe : front ≡ Some e) (start : List (Option ℕ)) (st : Starts b start) (g : ℕ) (qg : get_or start e None ≡ Some g) (j : ℕ)
        (fits : Free (inactive_part s) slots j (subject_at (inactive_part s) g))
      where
        abbrev I : List ℕ
        I = inactive_part b

        abbrev q : List ℕ
        q = drop 1 m.activation

        front-is : m.activation ≡ e ∷ q
        front-is = first_some m.activation e (sym k.next ∙ qe)

        at : StartsAt b e g
        at = st e g qg

        free : Free I slots j (subject_at I g)
        free = subst (λ (t : List ℕ). Free t slots j (subject_at t g)) k.parts.inactive fits

        small : j < 128
        small = omega (arith, free.inside, (known b h).inactive.few)

        subject_of : (i : ℕ) → i < tree.size I → (get_or (read b).inactive i none).subject ≡ subject_at I i
        subject_of i l = ap (λ (p : Pair). p.subject) (read_at I i l)

        abbrev m' : Registry
        m' = (inner_step m).then

        inside : j < length (read b).inactive
        inside = omega (arith, read_length I, free.inside)

        next-filled : 0 < j → (get_or (read b).inactive (j - 1) none).subject ≡ subject_at I g → get_or slots (j - 1) 0 < 128
        next-filled l z = free.next l (sym (subject_of (j - 1) (omega (arith, free.inside))) ∙ z)

        run-then : Running (read b) m' (set slots j e) (set gone e 1)
        run-then = running_more (read b) m slots gone k.run (read-facts b h) (known b h).conditions.order-i e q front-is (subject_at I g) at.subject at.active j inside small free.empty (subject_of j free.inside ∙ free.on) next-filled

        activation-then : m'.activation ≡ q
        activation-then = running_queue (read b) m slots gone k.run (read-facts b h) (known b h).conditions.order-i e q front-is (subject_at I g) at.subject at.active j inside small free.empty (subject_of j free.inside ∙ free.on) next-filled

        front-count : lists.count e m.activation ≡ suc (lists.count e q)
        front-count = ap (lists.count e) front-is ∙ count_same e e q refl

        abbrev two : List ℕ → List ℕ → Lists
        two x z = queues.lists 128 (x ∷ (z ∷ []))

        queue-is-then : without_entry e (nodes.read (queue_part s)) ≡ queue_of m'
        queue-is-then =
            ap (without_entry e) queue-then
            ∙ ap (λ (c : List ℕ). two c (lists.without e m.activation)) (gone-none e m.clean_up (omega (arith, k.run.whole.facts.marked e, k.run.whole.facts.once e, k.run.whole.facts.waits e, front-count)))
            ∙ ap (λ (a : List ℕ). two m.clean_up a) (ap (lists.without e) front-is ∙ without-same e e q refl ∙ gone-none e q (omega (arith, k.run.whole.facts.once e, k.run.whole.facts.waits e, front-count)))
            ∙ ap (λ (c : List ℕ). two c q) (k.run.idle ∙ sym run-then.idle)
            ∙ ap (λ (a : List ℕ). two m'.clean_up a) (sym activation-then)

        pub taking_more : (p : List ℕ) → p ≡ lists_laid.laid (without_entry e (nodes.read (queue_part s))) → (front' : Option ℕ) → front' ≡ first (drop 1 (row (nodes.read (queue_part s)) 1))
            → Taking b (put_mid 770 262 s p) (set slots j e) (set gone e 1) front'
        taking_more p qp front' qf =
            let is : p ≡ lists_laid.laid (queue_of m') = qp ∙ ap (λ (z : Lists). lists_laid.laid z) queue-is-then in
            let j1 = put-queue s (active_part b) I (lists_laid.laid (queue_of m)) (tail_of b) (joined b s (active_part b) I (lists_laid.laid (queue_of m)) k.parts) p
            (ap length is ∙ queues.out-length 2 128 (lists_laid.arcs 2 0 (m'.clean_up ∷ (m'.activation ∷ [])))) in
            record {
              meaning = m';
              run = run-then;
              parts = consists b (put_mid 770 262 s p) (active_part b) I (lists_laid.laid (queue_of m')) (subst (λ (z : List ℕ). Joined (put_mid 770 262 s p) (active_part b) I z (tail_of b)) is j1);
              next = qf ∙ ap (λ (z : Lists). first (drop 1 (row z 1))) queue-then ∙ ap first (sym activation-then);
            }

        pub shorter : (p : List ℕ) → p ≡ lists_laid.laid (without_entry e (nodes.read (queue_part s))) → (front' : Option ℕ) → front' ≡ first (drop 1 (row (nodes.read (queue_part s)) 1))
            → length (row (nodes.read (queue_part (put_mid 770 262 s p))) 1) < length (row (nodes.read (queue_part s)) 1)
        unfolding taking_more
        shorter p qp front' qf =
            omega (
              arith,
              ap (λ (z : Lists). length (row z 1)) queue-then,
              ap length front-is,
              ap length activation-then,
              ap (λ (z : Lists). length (row z 1)) (ap nodes.read (taking_more p qp front' qf).parts.queue ∙ queues.read_laid (queue_of m') (queue-valid m' run-then.whole.facts)),
            )

-- ---- the trees

pub part-long-a : (s : List ℕ) → length s ≡ 1036 → length (active_part s) ≡ 385
part-long-a s l = (split-long s l).long-a

pub part-long-i : (s : List ℕ) → length s ≡ 1036 → length (inactive_part s) ≡ 385
part-long-i s l = (split-long s l).long-i

trees_then : (s A I : List ℕ) → length s ≡ 1036 → length A ≡ 385 → length I ≡ 385 → Consists s (put_mid 385 385 (put_mid 0 385 s A) I) A I (queue_part s)
trees_then s A I l la li =
    let j = put-active s (active_part s) (inactive_part s) (queue_part s) (tail_of s) (split-long s l) A la in
    consists s (put_mid 385 385 (put_mid 0 385 s A) I) A I (queue_part s) (put-inactive (put_mid 0 385 s A) A (inactive_part s) (queue_part s) (tail_of s) j I li)

pub inactive-then : (s A : List ℕ) → length s ≡ 1036 → length A ≡ 385 → inactive_part (put_mid 0 385 s A) ≡ inactive_part s
inactive-then s A l la = inactive-is (put_mid 0 385 s A) A (inactive_part s) (queue_part s) (tail_of s) (put-active s (active_part s) (inactive_part s) (queue_part s) (tail_of s) (split-long s l) A la)

-- the inactive tree is as it was when the active one has become A
pub tree_after : (s A : List ℕ) → length s ≡ 1036 → tree.size (inactive_part s) ≤ 128 → length A ≡ length (active_part s) → IsTree (inactive_part (put_mid 0 385 s A))
tree_after s A l few la = subst IsTree (sym (inactive-then s A l (la ∙ part-long-a s l))) (record { len = part-long-i s l; few = few })

-- the copies a and i are the trees; A is what the merge leaves, B what the removal does
pub changed : (s : List ℕ) → length s ≡ 1036 → (slots gone a : List ℕ) → a ≡ active_part s → (i : List ℕ) → i ≡ inactive_part s
    → (A : List ℕ) → length A ≡ length (active_part s) → A ≡ tree.laid (merged (tree.read a) (filled slots (tree.read i))) (active_part s)
    → (B : List ℕ) → length B ≡ length (inactive_part (put_mid 0 385 s A)) → B ≡ tree.laid (kept (stays gone) (tree.read (inactive_part (put_mid 0 385 s A)))) (inactive_part (put_mid 0 385 s A))
    → Consists s (put_mid 385 385 (put_mid 0 385 s A) B) (tree.laid (merged (tree.read (active_part s)) (filled slots (tree.read (inactive_part s)))) (active_part s)) (tree.laid (kept (stays gone) (tree.read (inactive_part s))) (inactive_part s)) (queue_part s)
changed s l slots gone a qa i qi A la e_a B lb e_b =
    let ja = la ∙ part-long-a s l in
    let z = inactive-then s A l ja in
    let is_a : A ≡ tree.laid (merged (tree.read (active_part s)) (filled slots (tree.read (inactive_part s)))) (active_part s)
    = e_a ∙ ap (λ (k : List ℕ). tree.laid (merged (tree.read k) (filled slots (tree.read i))) (active_part s)) qa ∙ ap (λ (k : List ℕ). tree.laid (merged (tree.read (active_part s)) (filled slots (tree.read k))) (active_part s)) qi in
    let is_b : B ≡ tree.laid (kept (stays gone) (tree.read (inactive_part s))) (inactive_part s) = e_b ∙ ap (λ (k : List ℕ). tree.laid (kept (stays gone) (tree.read k)) k) z in
    subst (λ (k : List ℕ). Consists s (put_mid 385 385 (put_mid 0 385 s A) B) k (tree.laid (kept (stays gone) (tree.read (inactive_part s))) (inactive_part s)) (queue_part s)) is_a
    (subst (λ (k : List ℕ). Consists s (put_mid 385 385 (put_mid 0 385 s A) B) A k (queue_part s)) is_b (trees_then s A B l ja (lb ∙ ap length z ∙ part-long-i s l)))

-- ---- all of it

whole_again : (m : Registry) → Whole m → (k : ℕ) → Whole (again k m)
whole_again m w zero = w
whole_again m w (suc k) = inner_whole (again k m) (whole_again m w k)

pub whole-steps : (m n : Registry) → Whole m → Again m n → Whole n
whole-steps m n w a = subst (λ (z : Registry). Whole z) (sym a.last) (whole_again m w a.steps)

module _ (b : List ℕ) (y : Bytes b) (h : whole_b b ≡ true) (s slots gone : List ℕ) (k : Taken b s slots gone) where
  abbrev n : Registry
  n = k.meaning

  pub room-then : tree.size (active_part s) + length (filled slots (tree.read (inactive_part s))) ≤ 128
  room-then =
      omega (
        arith,
        at_most n (whole-steps (read b) n (read_whole b y h) k.steps).facts,
        ap length k.active,
        merged-length (read b).active (filled slots (read b).inactive),
        read_length (active_part b),
        ap tree.size k.parts.active,
        ap (λ (t : List ℕ). length (filled slots (tree.read t))) k.parts.inactive,
      )

  pub few-then : tree.size (inactive_part s) ≤ 128
  few-then = omega (arith, ap tree.size k.parts.inactive, (known b h).inactive.few)

  pub order-a-then : in_order 0 (tree.read (active_part s)) ≡ true
  order-a-then = ap (λ (t : List ℕ). in_order 0 (tree.read t)) k.parts.active ∙ (known b h).conditions.order-a

  pub order-i-then : in_order 0 (tree.read (inactive_part s)) ≡ true
  order-i-then = ap (λ (t : List ℕ). in_order 0 (tree.read t)) k.parts.inactive ∙ (known b h).conditions.order-i

  pub activated : (t : List ℕ) → Consists s t (tree.laid (merged (tree.read (active_part s)) (filled slots (tree.read (inactive_part s)))) (active_part s)) (tree.laid (kept (stays gone) (tree.read (inactive_part s))) (inactive_part s)) (queue_part s)
      → Activated b t
  activated t c =
      let A = tree.laid (merged (tree.read (active_part s)) (filled slots (tree.read (inactive_part s)))) (active_part s) in
      let I = tree.laid (kept (stays gone) (tree.read (inactive_part s))) (inactive_part s) in
      let over : Consists b t A I (queue_part s) = record { long = c.long; active = c.active; inactive = c.inactive; queue = c.queue; tail = λ i l. c.tail i l ∙ k.parts.tail i l } in
      record {
        meaning = n;
        steps = k.steps;
        bytes = laid_from n b (joined b t A I (queue_part s) over)
            (ap (λ (z : List ℕ). tree.laid (merged (tree.read z) (filled slots (tree.read (inactive_part s)))) z) k.parts.active
            ∙ ap (λ (z : List ℕ). tree.laid (merged (read b).active (filled slots (tree.read z))) (active_part b)) k.parts.inactive
            ∙ ap (λ (z : List Pair). tree.laid z (active_part b)) (sym k.active))
            (ap (λ (z : List ℕ). tree.laid (kept (stays gone) (tree.read z)) z) k.parts.inactive ∙ ap (λ (z : List Pair). tree.laid z (inactive_part b)) (sym k.inactive))
            k.parts.queue
            (low-self b y h ∙ ap (λ (z : ℕ). z % 256) (sym k.same_slots))
            (high-self b y h ∙ ap (λ (z : ℕ). z / 256) (sym k.same_slots))
            (flag-self b y h ∙ ap (λ z. flag_over z (get_or b 1034 0)) (sym k.same_flag))
            (walk-self b y h ∙ ap (λ z. walk_over z (get_or b 1035 0)) (sym k.same_walk));
      }
