-- Demand 3, call by call: what the invariant begins with, what keeps it, and what it tells.
use Prim.Native.Nat.{ℕ, ◌+◌, ◌≤◌, ◌<◌}
use mathlib.Core.Path.{◌≡◌, refl, sym, ap, subst}
use mathlib.Core.Logic.{◌⊎◌, inl, inr}
use mathlib.Core.Bool.{Bool, true, false}
use mathlib.Core.List.{List, [], ◌∷◌, ◌++◌}
use native.Mathlib.Omega.{arith}
use lib.ListN.{length}
use Rattle.state.specs.Seq.{to_nat}
use Rattle.std.specs.Prelude.{Option, None, Some, is_some, Result, Ok, Err}
use Rattle.state.specs.Outcome.{Outcome, answer, left}
use Rattle.state.specs.declared.Refusal.{Refusal}
use Rattle.state.proofs.Tests.{not-both, same_test}
use Rattle.multi_cycle_list.specs.Lists as lists
use Rattle.entry_tree.specs.Pairs.{Pair, count, is_entry, on_subject, has_subject, without}
use Rattle.entry_tree.proofs.Changes.{without-count, without-count-other, without-length}
use Rattle.regular.specs.Registry.{Registry, fresh}
use Rattle.regular.specs.Steps.{Call, PollPop, step, poll_pop}
use Rattle.regular.specs.declared.FilterUpdate.{FilterUpdate}
use Rattle.regular.specs.declared.FilterUpdate.TheVariants.{AddSubject}
use Rattle.regular_valid.specs.Moves as moves
use Rattle.regular_valid.specs.Moves.{Registered}
use Rattle.regular_valid.specs.Inner.{handed, moved, put, covers}
use Rattle.entry_tree.proofs.Count.{same, diff, compare_eq, T_true, any-true, true-any, false-any, count-append, count-all}
use Rattle.regular_valid.proofs.Queue.{count-first, count-nil}
use Rattle.multi_cycle_list.proofs.Lists.{count-other}
use Rattle.regular_valid.proofs.Good.{held_all, only-held}
use Rattle.regular_valid.proofs.Inv.{Inv, entries-length, inv-fresh}
use Rattle.regular_valid.proofs.Poll.{due, Polled, adds, ends, removes, polled}
use Rattle.regular_valid.proofs.Valid.{Whole, step_kept}

pub begin : (n : ℕ) → n ≤ 65535 → Inv (fresh n) (λ x. false) (moves.lists [] [])
begin = inv-fresh

-- as many marks as active entries at most
marks-most : (q : List ℕ) (l : List Pair) → ((x : ℕ) → lists.count x q ≤ count (is_entry x) l) → ((x : ℕ) → count (is_entry x) l ≤ 1) → length q ≤ length l
marks-most [] l h u = omega arith
marks-most (e ∷ q) l h u =
    let r : length q ≤ length (without e l) = marks-most q (without e l) (λ x. elim (compare_eq x e) [
      | same z t ↦ rw z (omega (arith, h e, u e, count-first e q))
      | diff n t ↦ omega (arith, h x, without-count-other e x n l, count-other x e q (λ z. n (sym z)))
    ]) (λ x. omega (arith, u x, without-count e (is_entry x) l)) in
    omega (arith, without-length e l, h e, count-first e q)

bit_most : (b : Bool) → to_nat b ≤ 1
bit_most true = omega arith
bit_most false = omega arith

bit_none : (b : Bool) → to_nat b ≡ 0 → b ≡ false
bit_none true h = absurd (omega (arith, h))
bit_none false h = refl

empty : {A : Type 0} (l : List A) → length l ≡ 0 → l ≡ []
empty [] h = refl
empty (a ∷ l) h = absurd (omega (arith, h))

count_most : (t : Pair → Bool) (l : List Pair) → count t l ≤ length l
count_most t [] = omega arith
count_most t (p ∷ l) = omega (arith, bit_most (t p), count_most t l)

module _ (m : Registry) (F : ℕ → Bool) (g : Registered) (i : Inv m F g) where
  -- the registry is whole
  pub whole : Whole m
  whole = record { facts = i.sound.facts; room = i.room }

  -- the filter holds no number past 8,191
  pub top : (x : ℕ) → F x ≡ true → x ≤ 8191
  top x h = i.sound.top x (rw h tt)

  -- a filter that holds the same is as good
  pub same_filter : (F' : ℕ → Bool) → ((x : ℕ) → F x ≡ F' x) → Inv m F' g
  same_filter F' h = subst (λ (f : ℕ → Bool). Inv m f g) (λ j x. h x j) i

  -- a call keeps the invariant: its update goes into the filter, and its answer moves the two lists
  pub kept : (k : Call) → Inv (left m (step k m)) (put (handed k (answer (step k m))) F) (moved k (answer (step k m)) g)
  kept k = (step_kept k m F g i).inv

  -- no removal handed out covers the subject of an active pair
  pub clear : (k : Call) (x : ℕ) → covers (handed k (answer (step k m))) x ≡ true → has_subject x g.active ≡ false
  clear k x h = false-any (on_subject x) g.active ((step_kept k m F g i).clear x h)

  -- what is left to hand out: marks, the flag and the pairs that wait
  pub bound : due m ≤ length g.waiting + length g.active + 1
  bound =
      omega (
        arith,
        bit_most m.last_gap,
        marks-most m.clean_up m.active i.sound.facts.marked (λ x. omega (arith, i.sound.facts.once x)),
        ap length i.queue,
        entries-length g.waiting,
        count-all g.active,
        count-all m.active,
        i.active (λ p. true),
      )

  -- nothing left: the filter holds just the subjects of the two lists
  pub exact : due m ≡ 0 → (x : ℕ) → F x ≡ has_subject x (g.waiting ++ g.active)
  exact z x =
      let c : m.clean_up ≡ [] = empty m.clean_up (omega arith) in
      let l : m.last_gap ≡ false = bit_none m.last_gap (omega arith) in
      let w : count (on_subject x) g.waiting ≡ 0 = omega (arith, count_most (on_subject x) g.waiting, ap length i.queue, entries-length g.waiting) in
      let all : count (on_subject x) (g.waiting ++ g.active) ≡ count (on_subject x) m.active = omega (arith, count-append (on_subject x) g.waiting g.active, i.active (on_subject x)) in
      same_test (F x) (has_subject x (g.waiting ++ g.active))
      (λ h. true-any (on_subject x) (g.waiting ++ g.active) (rw all (only-held (λ y. rw c (count-nil y)) (rw l at i.sound.good) x (omega arith) (rw h tt))))
      (λ h. T_true (F x) (held_all i.sound.good x (rw all at (any-true (on_subject x) (g.waiting ++ g.active) h))))

-- ---- polls

module _ (m : Registry) (F : ℕ → Bool) (g : Registered) where
  never : {r : Outcome (Option FilterUpdate) Registry} → Polled m F g r → (n : Refusal) → answer r ≡ Err n → ⊥
  never (adds x k r j h) n q = let z : ◌≡◌ {A = ℕ} 0 1 = cc in omega arith
  never (ends k j h) n q = let z : ◌≡◌ {A = ℕ} 0 1 = cc in omega arith
  never (removes a b k r s j c h) n q = let z : ◌≡◌ {A = ℕ} 0 1 = cc in omega arith

  says : {r : Outcome (Option FilterUpdate) Registry} → Polled m F g r → (is_some (handed PollPop (answer r)) ≡ true) ⊎ (answer r ≡ Ok None)
  says (adds x k r j h) = inl refl
  says (ends k j h) = inr refl
  says (removes a b k r s j c h) = inl refl

  add_low : {r : Outcome (Option FilterUpdate) Registry} → Polled m F g r → (x : ℕ) → answer r ≡ Ok (Some (AddSubject x)) → x ≤ 8191
  add_low (adds y k r j h) x q = let z : y ≡ x = cc in omega arith
  add_low (ends k j h) x q = absurd (let z : ◌≡◌ {A = ℕ} 0 1 = cc in omega arith)
  add_low (removes a b k r s j c h) x q = absurd (let z : ◌≡◌ {A = ℕ} 0 1 = cc in omega arith)

  less : {r : Outcome (Option FilterUpdate) Registry} → Polled m F g r → is_some (handed PollPop (answer r)) ≡ true → due (left m r) < due m
  less (adds x k r j h) q = h
  less (ends k j h) q = not-both (sym q)
  less (removes a b k r s j c h) q = h

  none_left : {r : Outcome (Option FilterUpdate) Registry} → Polled m F g r → answer r ≡ Ok None → due (left m r) ≡ 0
  none_left (adds x k r j h) q = absurd (let z : ◌≡◌ {A = ℕ} 0 1 = cc in omega arith)
  none_left (ends k j h) q = h
  none_left (removes a b k r s j c h) q = absurd (let z : ◌≡◌ {A = ℕ} 0 1 = cc in omega arith)

  module _ (i : Inv m F g) where
    abbrev A : Result (Option FilterUpdate) Refusal
    A = answer (poll_pop m)

    -- a poll is never refused: it hands out an update or says 'nothing'
    pub poll-taken : (n : Refusal) → A ≡ Err n → ⊥
    poll-taken = never (polled m F g i)

    pub poll-says : (is_some (handed PollPop A) ≡ true) ⊎ (A ≡ Ok None)
    poll-says = says (polled m F g i)

    -- an update leaves less to hand out, and 'nothing' leaves nothing
    pub poll-less : is_some (handed PollPop A) ≡ true → due (left m (poll_pop m)) < due m
    poll-less = less (polled m F g i)

    pub poll-nothing : A ≡ Ok None → due (left m (poll_pop m)) ≡ 0
    poll-nothing = none_left (polled m F g i)

    -- a poll that says 'nothing': the filter then holds just the subjects of the two lists
    pub at-nothing : A ≡ Ok None → (x : ℕ) → put (handed PollPop A) F x ≡ has_subject x ((moved PollPop A g).waiting ++ (moved PollPop A g).active)
    at-nothing q = exact (left m (poll_pop m)) (put (handed PollPop A) F) (moved PollPop A g) (kept m F g i PollPop) (poll-nothing q)
