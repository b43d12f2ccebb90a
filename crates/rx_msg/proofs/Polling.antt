-- Inner steps and the poll's loop over them.
use Prim.Native.Nat.{ℕ, zero, suc, ◌<◌, ◌≤◌}
use mathlib.Core.Path.{◌≡◌, refl, sym, ap, ◌∙◌, subst}
use mathlib.Core.Logic.{◌⊎◌, inl, inr, ⊎_elim, ◌≢◌}
use mathlib.Core.List.{List, [], ◌∷◌}
use mathlib.Core.Bool.{Bool, true, false, not}
use native.Mathlib.Omega.{arith}
use lib.Dec.{eqb}
use lib.ListN.{length}
use borrow.Author.Tests.{eq-eqb, ne_eqb}
use Rattle.std.specs.Prelude.{Option, None, Some, Ok}
use Rattle.state.specs.Outcome.{done, Bytes}
use Rattle.state.proofs.Outcomes.{Ends, laid_out}
use Rattle.multi_cycle_list.specs.Lists.{Lists, first, row}
use Rattle.multi_cycle_list.specs.Nodes as nodes
use Rattle.entry_tree.specs.Pairs.{pair, place_of}
use Rattle.entry_tree.specs.Places.{size}
use Rattle.entry_tree.proofs.Changes.{without-length, inserted-length}
use Rattle.entry_tree.proofs.Reading.{read_length}
use Rattle.regular.specs.Registry.{Registry}
use Rattle.regular.specs.Bytes.{inactive_part, queue_part, whole_b, read, laid}
use Rattle.regular.specs.Steps.{Says, call_again, Step, step_by, inner_step, on_step, steps, poll_pop}
use Rattle.regular.specs.Calls.{on}
use Rattle.regular_valid.specs.Means.{Valid}
use Rattle.regular.specs.declared.FilterUpdate.{FilterUpdate}
use Rattle.regular_valid.proofs.Facts.{at_most}
use Rattle.regular_valid.proofs.Valid.{Whole, whole_valid, inner_whole}
use Rattle.regular_valid.proofs.Reading.{parts, read-facts, read_whole}
use Rattle.regular_valid.proofs.Poll.{again-shorter, step-next}
use Rattle.regular_valid.proofs.Round.{queue-read, laid_read, laid-again}
use Rattle.regular_valid.proofs.Mean.{read_laid, laid_whole, laid_bytes}
use Rattle.regular_change.specs.Inner.{CleanedUp}
use Rattle.regular_activation.specs.Inner.{again, Again, Activated}
use Rattle.regular_activation.proofs.Taking.{whole-steps}

-- ---- the queues' fronts

pub clean_up_front : (s : List ℕ) → whole_b s ≡ true → first (row (nodes.read (queue_part s)) 0) ≡ first (read s).clean_up
clean_up_front s h = ap (λ (q : Lists). first (row q 0)) (queue-read s h)

pub activation-front : (s : List ℕ) → whole_b s ≡ true → first (row (nodes.read (queue_part s)) 1) ≡ first (read s).activation
activation-front s h = ap (λ (q : Lists). first (row q 1)) (queue-read s h)

pub flag-set : (v : ℕ) → v ≢ 0 → not (eqb v 0) ≡ true
flag-set v n = rw (ne_eqb v 0 n)

pub flag-clear : (v : ℕ) → v ≡ 0 → not (eqb v 0) ≡ false
flag-clear v q = rw (eq-eqb v 0 q)

-- nothing is left
pub still_ends : (s : List ℕ) → Bytes s → whole_b s ≡ true → CleanedUp (read s) → (read s).activation ≡ [] → (r : Says) → r ≡ None
    → (r ≡ (inner_step (read s)).says) × (s ≡ laid (inner_step (read s)).then s)
still_ends s y h c a r z =
    let q = step-next (read s) c.marks c.flag [] a in
    (z ∙ ap (λ (t : Step). t.says) (sym q), sym (laid_read s y h) ∙ ap (λ (t : Step). laid t.then s) (sym q))

-- ---- one step

-- what a step keeps, as far as the bytes ask
record Grows (m n : Registry) : Type 0 where
  inactive : length n.inactive ≤ length m.inactive
  active : length m.active ≤ length n.active
  walk : n.walk ≡ m.walk
  flag : (n.last_gap ≡ false) ⊎ (n.last_gap ≡ m.last_gap)

grows-by : (marks : List ℕ) (f : Bool) (q : List ℕ) (m : Registry) → m.last_gap ≡ f → Grows m (step_by marks f q m).then
grows-by (e ∷ marks) f q m l = record { inactive = omega arith; active = omega arith; walk = refl; flag = inr (sym l) }
grows-by [] true q m l = record { inactive = omega arith; active = omega arith; walk = refl; flag = inl refl }
grows-by [] false [] m l = record { inactive = omega arith; active = omega arith; walk = refl; flag = inr refl }
grows-by [] false (e ∷ q) m l = record {
  inactive = omega (arith, without-length e m.inactive);
  active = omega (arith, inserted-length (pair e (place_of e m.inactive).subject) m.active);
  walk = refl;
  flag = inr refl;
}

grows : (m : Registry) → Grows m (inner_step m).then
grows m = grows-by m.clean_up m.last_gap m.activation m refl

-- what many steps keep, and what they come to
grows-more : (m n : Registry) → Grows m n → Grows m (inner_step n).then
grows-more m n g =
    let k = grows n in
    record {
      inactive = omega (arith, g.inactive, k.inactive);
      active = omega (arith, g.active, k.active);
      walk = k.walk ∙ g.walk;
      flag = ⊎_elim (λ q. inl q) (λ q. ⊎_elim (λ z. inl (q ∙ z)) (λ z. inr (q ∙ z)) g.flag) k.flag;
    }

grows-again : (m : Registry) (k : ℕ) → Grows m (again k m)
grows-again m zero = record { inactive = omega arith; active = omega arith; walk = refl; flag = inr refl }
grows-again m (suc k) = grows-more m (again k m) (grows-again m k)

again-few : (m : Registry) (k : ℕ) → ((i : ℕ) → i < k → (inner_step (again i m)).says ≡ call_again) → length (again k m).activation ≤ length m.activation
again-few m zero f = omega arith
again-few m (suc k) f = omega (arith, again-few m k (λ i h. f i (omega arith)), again-shorter (again k m) (f k (omega arith)))

-- a step that says 'call again' finds and leaves nothing to clean up
again-idle : (marks : List ℕ) (f : Bool) (q : List ℕ) (m : Registry) → m.clean_up ≡ marks → m.last_gap ≡ f → (step_by marks f q m).says ≡ call_again → CleanedUp (step_by marks f q m).then
again-idle (e ∷ marks) f q m c l s = absurd (let z : ◌≡◌ {A = ℕ} 0 1 = cc in omega arith)
again-idle [] true q m c l s = absurd (let z : ◌≡◌ {A = ℕ} 0 1 = cc in omega arith)
again-idle [] false [] m c l s = absurd (let z : ◌≡◌ {A = ℕ} 0 1 = cc in omega arith)
again-idle [] false (e ∷ q) m c l s = record { marks = c; flag = l }

-- ---- the loop

-- s is what the steps so far left of b: its meaning laid over b, with the rest of the poll to come
pub record Polling (b s : List ℕ) : Type 0 where
  pub begun : whole_b b ≡ true
  pub bytes : Bytes s
  pub whole : whole_b s ≡ true
  pub over : s ≡ laid (read s) b
  pub rest : poll_pop (read b) ≡ poll_pop (read s)
  pub few : length (read s).inactive ≤ size (inactive_part b)

pub begins : (s : List ℕ) → Bytes s → whole_b s ≡ true → Polling s s
begins s y h = record { begun = h; bytes = y; whole = h; over = sym (laid_read s y h); rest = refl; few = omega (arith, read_length (inactive_part s)) }

pub same-long : (b s : List ℕ) → Polling b s → length s ≡ length b
same-long b s p = (parts s p.whole).bytes ∙ sym (parts b p.begun).bytes

-- what a poll comes to, by its first step
abbrev Polls : Registry → Says → Type 0
Polls m p = poll_pop m ≡ on_step p (inner_step m).then (steps (length m.activation) (inner_step m).then)

poll-by : (m : Registry) (p : Says) → (inner_step m).says ≡ p → Polls m p
unfolding poll_pop steps
poll-by m p q = ap (λ (x : Says). on_step x (inner_step m).then (steps (length m.activation) (inner_step m).then)) q

poll-again : (m : Registry) → (inner_step m).says ≡ call_again → poll_pop m ≡ poll_pop (inner_step m).then
unfolding poll_pop
poll-again m q = poll-by m call_again q ∙ ap (λ (n : ℕ). steps n (inner_step m).then) (sym (again-shorter m q))

module _ (b s : List ℕ) (p : Polling b s) (t : List ℕ) (q : t ≡ laid (inner_step (read s)).then s) where
  abbrev m : Registry
  m = read s

  abbrev n : Registry
  n = (inner_step (read s)).then

  next : Whole n
  next = inner_whole m (read_whole s p.bytes p.whole)

  valid : Valid n
  valid = whole_valid n next

  long : length s ≡ 1036
  long = (parts s p.whole).bytes

  read_next : read t ≡ n
  read_next = ap read q ∙ read_laid n s p.bytes valid long

  over-next : t ≡ laid n b
  over-next =
      let g = grows m in
      let a = at_most m (read-facts s p.whole) in
      let a' = at_most n next.facts in
      q ∙ ap (laid n) p.over ∙ laid-again m n b (parts b p.begun).bytes (omega arith) (omega arith) p.few g.active (omega arith) g.walk g.flag

  module _ (r : Says) (e : r ≡ (inner_step (read s)).says) where
    pub goes_on : r ≡ call_again → Polling b t
    goes_on k = record {
      begun = p.begun;
      bytes = subst Bytes (sym q) (laid_bytes n s p.bytes valid long);
      whole = ap whole_b q ∙ laid_whole n s p.bytes valid long;
      over = over-next ∙ ap (λ (x : Registry). laid x b) (sym read_next);
      rest = p.rest ∙ poll-again m (sym e ∙ k) ∙ ap poll_pop (sym read_next);
      few = omega (arith, ap (λ (x : Registry). length x.inactive) read_next, (grows m).inactive, p.few);
    }

    pub shorter : r ≡ call_again → length (read t).activation < length (read s).activation
    shorter k = omega (arith, again-shorter m (sym e ∙ k), ap (λ (x : Registry). length x.activation) read_next)

    -- nothing is to clean up then
    pub idle_then : r ≡ call_again → CleanedUp (read t)
    idle_then k =
        let z = again-idle m.clean_up m.last_gap m.activation m refl refl (sym e ∙ k) in
        record { marks = ap (λ (x : Registry). x.clean_up) read_next ∙ z.marks; flag = ap (λ (x : Registry). x.last_gap) read_next ∙ z.flag }

    ends : (a : Option FilterUpdate) → poll_pop m ≡ done a n → Ends laid b (on poll_pop b) (Ok a) t
    ends a z = laid_out whole_b read laid poll_pop b p.begun a n t (p.rest ∙ z) over-next

    pub ends-update : (u : FilterUpdate) → r ≡ Some (Ok u) → Ends laid b (on poll_pop b) (Ok (Some u)) t
    ends-update u k = ends (Some u) (poll-by m (Some (Ok u)) (sym e ∙ k))

    pub ends-nothing : r ≡ None → Ends laid b (on poll_pop b) (Ok None) t
    ends-nothing k = ends None (poll-by m None (sym e ∙ k))

-- ---- many steps at once

again-poll : (m : Registry) (k : ℕ) → ((i : ℕ) → i < k → (inner_step (again i m)).says ≡ call_again) → poll_pop m ≡ poll_pop (again k m)
again-poll m zero f = refl
again-poll m (suc k) f = again-poll m k (λ i h. f i (omega arith)) ∙ poll-again (again k m) (f k (omega arith))

module _ (b s : List ℕ) (p : Polling b s) (t : List ℕ) (a : Activated s t) where
  abbrev later : Registry
  later = a.meaning

  abbrev taken : Again (read s) later
  taken = a.steps

  later-whole : Whole later
  later-whole = whole-steps (read s) later (read_whole s p.bytes p.whole) taken

  later-valid : Valid later
  later-valid = whole_valid later later-whole

  later-grows : Grows (read s) later
  later-grows = subst (λ (x : Registry). Grows (read s) x) (sym taken.last) (grows-again (read s) taken.steps)

  later-long : length s ≡ 1036
  later-long = (parts s p.whole).bytes

  read-later : read t ≡ later
  read-later = ap read a.bytes ∙ read_laid later s p.bytes later-valid later-long

  over-later : t ≡ laid later b
  over-later =
      let n = at_most (read s) (read-facts s p.whole) in
      let n' = at_most later later-whole.facts in
      a.bytes ∙ ap (laid later) p.over
      ∙ laid-again (read s) later b (parts b p.begun).bytes (omega arith) (omega arith) p.few later-grows.active (omega arith) later-grows.walk later-grows.flag

  pub goes_on-later : Polling b t
  goes_on-later = record {
    begun = p.begun;
    bytes = subst Bytes (sym a.bytes) (laid_bytes later s p.bytes later-valid later-long);
    whole = ap whole_b a.bytes ∙ laid_whole later s p.bytes later-valid later-long;
    over = over-later ∙ ap (λ (x : Registry). laid x b) (sym read-later);
    rest = p.rest ∙ again-poll (read s) taken.steps taken.says ∙ ap poll_pop (sym taken.last) ∙ ap poll_pop (sym read-later);
    few = omega (arith, ap (λ (x : Registry). length x.inactive) read-later, later-grows.inactive, p.few);
  }

  pub not_longer : length (read t).activation ≤ length (read s).activation
  not_longer = omega (arith, ap (λ (x : Registry). length x.activation) (read-later ∙ taken.last), again-few (read s) taken.steps taken.says)
