-- A poll: its inner steps keep the invariant, and what is left to hand out grows less.
use Prim.Native.Nat.{ℕ, zero, suc, ◌+◌, ◌-◌, ◌≤◌, ◌<◌}
use mathlib.Core.Path.{◌≡◌, refl, sym, ap, ◌∙◌}
use mathlib.Core.Bool.{Bool, true, false, ◌&&◌}
use mathlib.Core.List.{List, [], ◌∷◌, ◌++◌, map}
use native.Mathlib.Omega.{arith}
use lib.Dec.{leb}
use lib.ListN.{length}
use borrow.Author.Tests.{leb-true}
use Rattle.state.specs.Seq.{to_nat}
use Rattle.std.specs.Prelude.{Option, None, Some, Ok, Err}
use Rattle.state.specs.Outcome.{Outcome, done}
use Rattle.state.proofs.Tests.{not-both, and_l, and_r}
use Rattle.entry_tree.specs.Pairs.{Pair, count, is_entry, on_subject, without, place_of, past}
use Rattle.entry_tree.proofs.Changes.{inserted-count, without-none}
use Rattle.regular.specs.Registry.{Registry}
use Rattle.regular.specs.Steps.{PollPop, Says, call_again, Step, with_clean_up, becomes_active, activates, step_by, inner_step, on_step, steps, poll_pop}
use Rattle.regular.specs.declared.FilterUpdate.{FilterUpdate}
use Rattle.regular.specs.declared.FilterUpdate.TheVariants.{AddSubject, RemoveSubjectRange}
use Rattle.regular_valid.specs.Moves as moves
use Rattle.regular_valid.specs.Moves.{Registered, activated}
use Rattle.regular_valid.specs.Inner.{into}
use Rattle.entry_tree.proofs.Count.{below, above, compare_le, eqb-self, count-subject, first-only, same-without, count-append}
use Rattle.regular_valid.proofs.Queue.{count-first}
use Rattle.regular_valid.proofs.Good.{front-clear, past-clear}
use Rattle.regular_valid.proofs.Places.{find-is, mark-range, next-on}
use Rattle.regular_valid.proofs.Sound.{Sound, front-sound, last-sound, again-sound, add-sound}
use Rattle.regular_valid.proofs.Inv.{Inv, entry_of}
use Rattle.regular_valid.proofs.Calls.{Kept}

-- ---- the inner step by the queues

module _ (m : Registry) where
  pub step-front : (e : ℕ) (ms : List ℕ) → m.clean_up ≡ e ∷ ms → inner_step m ≡ step_by (e ∷ ms) m.last_gap m.activation m
  step-front e ms q = ap (λ (c : List ℕ). step_by c m.last_gap m.activation m) q

  pub step-last : m.clean_up ≡ [] → m.last_gap ≡ true → inner_step m ≡ step_by [] true m.activation m
  step-last q f = ap (λ (c : List ℕ). step_by c m.last_gap m.activation m) q ∙ ap (λ (t : Bool). step_by [] t m.activation m) f

  pub step-next : m.clean_up ≡ [] → m.last_gap ≡ false → (l : List ℕ) → m.activation ≡ l → inner_step m ≡ step_by [] false l m
  step-next q f l a = ap (λ (c : List ℕ). step_by c m.last_gap m.activation m) q ∙ ap (λ (t : Bool). step_by [] t m.activation m) f ∙ ap (λ (c : List ℕ). step_by [] false c m) a

-- ---- one inner step

-- the inner step of a registry with nothing to clean up and the entry e next
next-step : (m : Registry) (e x : ℕ) (q : List ℕ) → m.clean_up ≡ [] → m.last_gap ≡ false → m.activation ≡ e ∷ q → (place_of e m.inactive).subject ≡ x → inner_step m ≡ activates e x q m
next-step m e x q c l a r =
    ap (λ (k : List ℕ). step_by k m.last_gap m.activation m) c
    ∙ ap (λ (f : Bool). step_by [] f m.activation m) l
    ∙ ap (λ (k : List ℕ). step_by [] false k m) a
    ∙ ap (λ (y : ℕ). activates e y q m) r

-- what a filter makes of the step's answer
abbrev pub pop_into : Says → (ℕ → Bool) → ℕ → Bool
pop_into (Some (Ok update)) F = into update F
pop_into (Some (Err again)) F = F
pop_into None F = F

inner_by : (m : Registry) (F : ℕ → Bool) → Sound m F → (marks : List ℕ) (f : Bool) (q : List ℕ) → m.clean_up ≡ marks → m.last_gap ≡ f → m.activation ≡ q
    → Sound (step_by marks f q m).then (pop_into (step_by marks f q m).says F)
inner_by m F s (e ∷ marks) f q c l a = front-sound m F s e marks f c l
inner_by m F s [] true q c l a = last-sound m F s c
inner_by m F s [] false [] c l a = s
inner_by m F s [] false (e ∷ q) c l a =
    let k = next-on m s.facts e q a in
    elim (compare_le 1 (count (on_subject (place_of e m.inactive).subject) m.active)) [
      | below i t ↦ rw t (again-sound m F s e (place_of e m.inactive).subject q a c l k i)
      | above i t ↦ rw t (add-sound m F s e (place_of e m.inactive).subject q a c l k (omega arith))
    ]

pub inner_sound : (m : Registry) (F : ℕ → Bool) → Sound m F → Sound (inner_step m).then (pop_into (inner_step m).says F)
inner_sound m F s = inner_by m F s m.clean_up m.last_gap m.activation refl refl refl

slots-by : (marks : List ℕ) (f : Bool) (q : List ℕ) (m : Registry) → (step_by marks f q m).then.slots ≡ m.slots
slots-by (e ∷ marks) f q m = refl
slots-by [] true q m = refl
slots-by [] false [] m = refl
slots-by [] false (e ∷ q) m = refl

pub inner_slots : (m : Registry) → (inner_step m).then.slots ≡ m.slots
inner_slots m = slots-by m.clean_up m.last_gap m.activation m

again_by : (marks : List ℕ) (f : Bool) (q : List ℕ) (m : Registry) → (step_by marks f q m).says ≡ call_again → suc (length (step_by marks f q m).then.activation) ≡ length q
again_by (e ∷ marks) f q m h = absurd (let z : ◌≡◌ {A = ℕ} 0 1 = cc in omega arith)
again_by [] true q m h = absurd (let z : ◌≡◌ {A = ℕ} 0 1 = cc in omega arith)
again_by [] false [] m h = absurd (let z : ◌≡◌ {A = ℕ} 0 1 = cc in omega arith)
again_by [] false (e ∷ q) m h = refl

-- a step that says 'call again' takes an entry off the activation queue
pub again-shorter : (m : Registry) → (inner_step m).says ≡ call_again → suc (length (inner_step m).then.activation) ≡ length m.activation
again-shorter m h = again_by m.clean_up m.last_gap m.activation m h

-- so it does not matter how many steps a poll may take at most
pub steps_fuel : (n k : ℕ) (m : Registry) → length m.activation < n → length m.activation < k → steps n m ≡ steps k m
unfolding steps
steps_fuel zero k m h j = absurd (omega (arith, h))
steps_fuel (suc n) zero m h j = absurd (omega (arith, j))
steps_fuel (suc n) (suc k) m h j =
    go (inner_step m).says refl (λ q. steps_fuel n k (inner_step m).then (omega (arith, again-shorter m q)) (omega (arith, again-shorter m q)))
  where
    go : (s : Says) → (inner_step m).says ≡ s → ((inner_step m).says ≡ call_again → steps n (inner_step m).then ≡ steps k (inner_step m).then)
        → on_step s (inner_step m).then (steps n (inner_step m).then) ≡ on_step s (inner_step m).then (steps k (inner_step m).then)
    go (Some (Ok update)) q r = refl
    go (Some (Err again)) q r = r q
    go None q r = refl

-- ---- what is left to hand out

abbrev pub due : Registry → ℕ
due m = length m.clean_up + to_nat m.last_gap + length m.activation

-- what a poll with nothing to clean up comes to, where h are the two lists after it
data Quiet (d : ℕ) (F : ℕ → Bool) (h : Registered) : Outcome (Option FilterUpdate) Registry → Type 0 where
  brings : (x : ℕ) (n : Registry) → x ≤ 8191 → Inv n (into (AddSubject x) F) h → due n < d → Quiet d F h (done (Some (AddSubject x)) n)
  stops : (n : Registry) → Inv n F h → due n ≡ 0 → Quiet d F h (done None n)

-- what a poll comes to
pub data Polled (m : Registry) (F : ℕ → Bool) (g : Registered) : Outcome (Option FilterUpdate) Registry → Type 0 where
  adds : (x : ℕ) (n : Registry) → x ≤ 8191 → Inv n (into (AddSubject x) F) (activated g.waiting g.active) → due n < due m → Polled m F g (done (Some (AddSubject x)) n)
  ends : (n : Registry) → Inv n F (activated g.waiting g.active) → due n ≡ 0 → Polled m F g (done None n)
  removes : (a b : ℕ) (n : Registry) → a ≤ b → b ≤ 8191 → Inv n (into (RemoveSubjectRange a b) F) g → ((x : ℕ) → a ≤ x → x ≤ b → count (on_subject x) g.active ≡ 0) → due n < due m
      → Polled m F g (done (Some (RemoveSubjectRange a b)) n)

steps-is : (n : ℕ) (m : Registry) (s : Step) → inner_step m ≡ s → steps (suc n) m ≡ on_step s.says s.then (steps n s.then)
unfolding steps
steps-is n m s q = ap (λ (t : Step). on_step t.says t.then (steps n t.then)) q

-- the pair p becomes active
active-inv : (m : Registry) (F F' : ℕ → Bool) (g : Registered) → Inv m F g → (p : Pair) (w : List Pair) → g.waiting ≡ p ∷ w → Sound (becomes_active p.entry p.subject (map entry_of w) m) F'
    → Inv (becomes_active p.entry p.subject (map entry_of w) m) F' (moves.lists w (g.active ++ (p ∷ [])))
active-inv m F F' g i p w q s =
    let all : (t : Pair → Bool) → count t (p ∷ w) ≡ count t m.inactive = rw q at i.waiting in
    let z : count (is_entry p.entry) w ≡ 0 = first-only p w (omega (arith, all (is_entry p.entry), i.sound.facts.once p.entry)) in
    let rest : without p.entry (p ∷ w) ≡ w = rw (eqb-self p.entry) (without-none p.entry w z) in
    record {
      sound = s;
      room = i.room;
      queue = refl;
      waiting = λ t. ap (count t) (sym rest) ∙ same-without p.entry (p ∷ w) m.inactive all t;
      active = λ t. rw (count-append t g.active (p ∷ []), inserted-count p t m.active) (omega (arith, i.active t));
    }

quiet : (n : ℕ) (m : Registry) (F : ℕ → Bool) (g : Registered) → Inv m F g → m.clean_up ≡ [] → m.last_gap ≡ false → length m.activation < n → (d : ℕ) → due m ≤ d
    → Quiet d F (activated g.waiting g.active) (steps n m)
unfolding steps
quiet zero m F g i c l h d b = absurd (omega (arith, h))
quiet (suc n) m F g i c l h d b = go g.waiting refl (λ m' g' i' c' l' h' b'. quiet n m' F g' i' c' l' h' d b')
  where
    go : (w : List Pair) → g.waiting ≡ w
        → ((m' : Registry) (g' : Registered) → Inv m' F g' → m'.clean_up ≡ [] → m'.last_gap ≡ false → length m'.activation < n → due m' ≤ d → Quiet d F (activated g'.waiting g'.active) (steps n m'))
        → Quiet d F (activated w g.active) (steps (suc n) m)
    go [] q rec =
        let a : m.activation ≡ [] = sym i.queue ∙ ap (map entry_of) q in
        rw (steps-is n m (record { says = None; then = m }) (step-next m c l [] a))
        (stops m (record { sound = i.sound; room = i.room; queue = sym a; waiting = rw q at i.waiting; active = i.active }) (rw (c, l, a) refl))
    go (p ∷ w) q rec =
        let x : ℕ = p.subject in
        let a : m.activation ≡ p.entry ∷ map entry_of w = sym i.queue ∙ ap (map entry_of) q in
        let all : (t : Pair → Bool) → count t (p ∷ w) ≡ count t m.inactive = rw q at i.waiting in
        let here : 0 < count (λ z. is_entry p.entry z && on_subject p.subject z) (p ∷ w) = rw (eqb-self p.entry, eqb-self p.subject) (omega arith) in
        let r = find-is p 0 m.inactive (omega (arith, i.sound.facts.once p.entry)) (omega (arith, all (λ z. is_entry p.entry z && on_subject p.subject z))) in
        let k : 0 < count (on_subject p.subject) m.inactive = omega (arith, all (on_subject p.subject), count-subject p w) in
        let u = steps-is n m (activates p.entry p.subject (map entry_of w) m) (next-step m p.entry p.subject (map entry_of w) c l a r) in
        let len : length m.activation ≡ suc (length (map entry_of w)) = ap length a in
        elim (compare_le 1 (count (on_subject p.subject) m.active)) [
          | below j v ↦ rw (u, i.active (on_subject p.subject), v)
              (rec (becomes_active p.entry p.subject (map entry_of w) m) (moves.lists w (g.active ++ (p ∷ [])))
              (active-inv m F F g i p w q (again-sound m F i.sound p.entry p.subject (map entry_of w) a c l k j)) c l (omega arith) (omega arith))
          | above j v ↦ rw (u, i.active (on_subject p.subject), v)
              (brings p.subject (becomes_active p.entry p.subject (map entry_of w) m) (i.sound.facts.inactive-subjects p.subject k)
              (active-inv m F (into (AddSubject p.subject) F) g i p w q (add-sound m F i.sound p.entry p.subject (map entry_of w) a c l k (omega arith))) (omega arith))
        ]

loud : (m : Registry) (F : ℕ → Bool) (g : Registered) → Inv m F g → (marks : List ℕ) (f : Bool) → m.clean_up ≡ marks → m.last_gap ≡ f → Polled m F g (poll_pop m)
unfolding poll_pop steps
loud m F g i (e ∷ marks) f c l =
    let k = mark-range m i.sound.facts e marks c in
    let s : inner_step m ≡ step_by (e ∷ marks) f m.activation m = ap (λ (k : List ℕ). step_by k m.last_gap m.activation m) c ∙ ap (λ (b : Bool). step_by (e ∷ marks) b m.activation m) l in
    rw (steps-is (length m.activation) m (step_by (e ∷ marks) f m.activation m) s)
    (removes (place_of e m.active).from ((place_of e m.active).subject - 1) (with_clean_up marks f m) (omega (arith, k)) (omega (arith, k))
    (record { sound = front-sound m F i.sound e marks f c l; room = i.room; queue = i.queue; waiting = i.waiting; active = i.active })
    (λ x a b. i.active (on_subject x) ∙ front-clear e (rw c at i.sound.good) (omega (arith, count-first e marks)) x a b)
    (rw (c, l) (omega arith)))
loud m F g i [] true c l =
    let s : inner_step m ≡ step_by [] true m.activation m = ap (λ (k : List ℕ). step_by k m.last_gap m.activation m) c ∙ ap (λ (b : Bool). step_by [] b m.activation m) l in
    rw (steps-is (length m.activation) m (step_by [] true m.activation m) s)
    (removes (past 0 m.active) 8191 (with_clean_up [] false m) (i.sound.facts.last-gap l) (omega arith)
    (record { sound = last-sound m F i.sound c; room = i.room; queue = i.queue; waiting = i.waiting; active = i.active })
    (λ x a b. i.active (on_subject x) ∙ (past-clear i.sound.good x a).1)
    (rw (c, l) (omega arith)))
loud m F g i [] false c l = go (quiet (suc (length m.activation)) m F g i c l (omega arith) (due m) (omega arith))
  where
    go : {r : Outcome (Option FilterUpdate) Registry} → Quiet (due m) F (activated g.waiting g.active) r → Polled m F g r
    go (brings x n k j h) = adds x n k j h
    go (stops n j h) = ends n j h

pub polled : (m : Registry) (F : ℕ → Bool) (g : Registered) → Inv m F g → Polled m F g (poll_pop m)
polled m F g i = loud m F g i m.clean_up m.last_gap refl refl

poll-by : (m : Registry) (F : ℕ → Bool) (g : Registered) {r : Outcome (Option FilterUpdate) Registry} → Polled m F g r → Kept PollPop m F g r
poll-by m F g (adds x n k j h) = record { inv = j; clear = λ y q. not-both (sym q) }
poll-by m F g (ends n j h) = record { inv = j; clear = λ y q. not-both (sym q) }
poll-by m F g (removes a b n k l j c h) = record { inv = j; clear = λ y q. c y (leb-true a y (and_l (leb a y) (leb y b) q)) (leb-true y b (and_r (leb a y) (leb y b) q)) }

pub poll-kept : (m : Registry) (F : ℕ → Bool) (g : Registered) → Inv m F g → Kept PollPop m F g (poll_pop m)
poll-kept m F g i = poll-by m F g (polled m F g i)
