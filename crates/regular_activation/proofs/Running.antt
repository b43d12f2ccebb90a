-- Many inner steps at once: what each makes of the registry and of the entries noted.
use Prim.Native.Nat.{ℕ, zero, suc, ◌-◌, ◌<◌, ◌≤◌}
use mathlib.Core.Path.{◌≡◌, refl, sym, ap, ◌∙◌, subst}
use mathlib.Core.List.{List, [], ◌∷◌}
use mathlib.Core.Bool.{Bool, true, false, cond}
use Rattle.std.specs.Prelude.{Some, Ok}
use native.Mathlib.Omega.{arith}
use native.Mathlib.Decide.{ℕ_discrete, dec_lt}
use lib.ListN.{length, get_or, set, replicate, length-set, length-replicate, get_or-replicate}
use lib.Seq.{get_or-set_same, get_or-set_other}
use borrow.Author.Tests.{eq-eqb}
use Rattle.multi_cycle_list.specs.Lists as lists
use Rattle.multi_cycle_list.proofs.Lists.{count_same}
use Rattle.entry_tree.specs.Pairs.{Pair, pair, count, is_entry, on_subject, has_subject, place_of, without, inserted, in_order}
use Rattle.entry_merge.specs.Inner.{kept, stays, filled, merged}
use Rattle.entry_tree.proofs.Lists.{none}
use Rattle.entry_tree.proofs.Changes.{order-at}
use Rattle.entry_tree.proofs.Count.{any-true, true-any}
use Rattle.entry_merge.proofs.Merging.{merged-count, merged-joins, kept-all, kept-subject, marked_more, filled-order, unfilled, filled-joins}
use Rattle.regular.specs.Registry.{Registry}
use Rattle.regular.specs.Steps.{Step, call_again, inner_step, activates}
use Rattle.regular.specs.declared.FilterUpdate.TheVariants.{AddSubject}
use Rattle.regular_valid.proofs.Facts.{Facts}
use Rattle.regular_valid.proofs.Valid.{Whole, inner_whole}
use Rattle.regular_valid.proofs.Poll.{step-next}
use Rattle.regular_activation.specs.Inner.{again, Again}

-- ---- steps

pub again-none : (m : Registry) → Again m m
again-none m = record { steps = 0; last = refl; says = λ i h. absurd (omega arith) }

pub again-more : (m n : Registry) → Again m n → (inner_step n).says ≡ call_again → Again m (inner_step n).then
again-more m n a q = record {
  steps = suc a.steps;
  last = ap (λ (r : Registry). (inner_step r).then) a.last;
  says = λ i h. elim (ℕ_discrete i a.steps) [
    | yes z ↦ ap (λ (k : ℕ). (inner_step (again k m)).says) z ∙ ap (λ (r : Registry). (inner_step r).says) (sym a.last) ∙ q
    | no z ↦ a.says i (omega arith)
  ];
}

-- ---- the entries noted

zeros-at : (n e : ℕ) → get_or (replicate {A = ℕ} n 0) e 0 ≡ 0
zeros-at zero e = refl
zeros-at (suc n) zero = refl
zeros-at (suc n) (suc e) = zeros-at n e

-- from m₀, steps have led to m; `slots` and `gone` have the entries that they took
pub record Running (m₀ m : Registry) (slots gone : List ℕ) : Type 0 where
  pub steps : Again m₀ m
  pub whole : Whole m
  pub idle : m.clean_up ≡ []
  pub clear : m.last_gap ≡ false
  pub clear₀ : m₀.last_gap ≡ false
  pub long-s : length slots ≡ 128
  pub long-g : length gone ≡ 256
  pub active : m.active ≡ merged m₀.active (filled slots m₀.inactive)
  pub inactive : m.inactive ≡ kept (stays gone) m₀.inactive
  -- the places of a subject are filled from the first on
  pub groups : (i k : ℕ) → i < k → k < length m₀.inactive → (get_or m₀.inactive i none).subject ≡ (get_or m₀.inactive k none).subject → get_or slots k 0 < 128 → get_or slots i 0 < 128
  pub same_slots : m.slots ≡ m₀.slots
  pub same_walk : m.walk ≡ m₀.walk

pub running_none : (m : Registry) → Whole m → m.clean_up ≡ [] → m.last_gap ≡ false → length m.inactive ≤ 128 → Running m m (replicate 128 255) (replicate 256 0)
running_none m w c f few = record {
  steps = again-none m;
  whole = w;
  idle = c;
  clear = f;
  clear₀ = f;
  long-s = length-replicate {A = ℕ} 128 255;
  long-g = length-replicate {A = ℕ} 256 0;
  active = ap (merged m.active) (sym (unfilled (replicate 128 255) m.inactive (λ i b. omega (arith, get_or-replicate {A = ℕ} 128 i 255 0 (omega (arith, length-replicate {A = ℕ} 128 255))))));
  inactive = sym (kept-all (stays (replicate 256 0)) m.inactive (λ p. eq-eqb (get_or (replicate 256 0) p.entry 0) 0 (zeros-at 256 p.entry)));
  groups = λ i k a b q l. absurd (omega (arith, get_or-replicate {A = ℕ} 128 k 255 0 (omega arith)));
  same_slots = refl;
  same_walk = refl;
}

-- the front e of the activation queue, on the active subject x, takes the place j
module _ (m₀ m : Registry) (slots gone : List ℕ) (r : Running m₀ m slots gone) (f : Facts m₀) (order : in_order 0 m₀.inactive ≡ true) (e : ℕ) (q : List ℕ) (front : m.activation ≡ e ∷ q)
    (x : ℕ) (on : (place_of e m₀.inactive).subject ≡ x) (known : has_subject x m₀.active ≡ true)
    (j : ℕ) (inside : j < length m₀.inactive) (few : j < 128) (empty : 128 ≤ get_or slots j 0) (at : (get_or m₀.inactive j none).subject ≡ x)
    (next : 0 < j → (get_or m₀.inactive (j - 1) none).subject ≡ x → get_or slots (j - 1) 0 < 128)
  where
    abbrev I : List Pair
    I = m₀.inactive

    waiting : 0 < count (is_entry e) m.inactive
    waiting = omega (arith, r.whole.facts.waits e, ap (lists.count e) front ∙ count_same e e q refl)

    taken-small : e < 128
    taken-small = omega (arith, r.whole.facts.entries e (omega (arith, waiting)))

    subject-is : (place_of e m.inactive).subject ≡ x
    subject-is =
        ap (λ (l : List Pair). (place_of e l).subject) r.inactive
        ∙ kept-subject (stays gone) e I (omega (arith, f.once e)) (omega (arith, waiting, ap (count (is_entry e)) r.inactive))
        ∙ on

    step_is : inner_step m ≡ activates e x q m
    step_is = step-next m r.idle r.clear (e ∷ q) front ∙ ap (λ (k : ℕ). activates e k q m) subject-is

    still_known : has_subject x m.active ≡ true
    still_known =
        true-any (on_subject x) m.active
        (omega (arith, ap (count (on_subject x)) r.active, merged-count (on_subject x) m₀.active (filled slots I), any-true (on_subject x) m₀.active known))

    says-again : (inner_step m).says ≡ call_again
    says-again = ap (λ (s : Step). s.says) step_is ∙ ap (λ (b : Bool). cond b call_again (Some (Ok (AddSubject x)))) still_known

    below : (i : ℕ) → i < j → (get_or I i none).subject ≤ x
    below i h = omega (arith, order-at 0 I order i j (omega arith) inside)

    beyond : (i : ℕ) → j < i → i < length I → i < length slots → get_or slots i 0 < 128 → x < (get_or I i none).subject
    beyond i h b c l = elim (dec_lt x (get_or I i none).subject) [
      | yes z ↦ z
      | no z ↦ (let s : (get_or I j none).subject ≡ (get_or I i none).subject = omega (arith, order-at 0 I order j i (omega arith) b) in absurd (omega (arith, r.groups j i h b s l)))
    ]

    -- the places of its subject before it
    filled-before : (i : ℕ) → i < j → (get_or I i none).subject ≡ x → get_or slots i 0 < 128
    filled-before i h s =
        let z : (get_or I (j - 1) none).subject ≡ x = omega (arith, order-at 0 I order i (j - 1) (omega arith) (omega arith), order-at 0 I order (j - 1) j (omega arith) inside) in
        elim (ℕ_discrete i (j - 1)) [
          | yes k ↦ subst (λ (n : ℕ). get_or slots n 0 < 128) (sym k) (next (omega arith) z)
          | no k ↦ r.groups i (j - 1) (omega arith) (omega arith) (s ∙ sym z) (next (omega arith) z)
        ]

    groups-then : (i k : ℕ) → i < k → k < length I → (get_or I i none).subject ≡ (get_or I k none).subject → get_or (set slots j e) k 0 < 128 → get_or (set slots j e) i 0 < 128
    groups-then i k a b s l = elim (ℕ_discrete i j) [
      | yes z ↦ subst (λ (n : ℕ). get_or (set slots j e) n 0 < 128) (sym z) (omega (arith, get_or-set_same slots j e 0 (omega (arith, r.long-s)), taken-small))
      | no z ↦ elim (ℕ_discrete k j) [
        | yes y ↦ (let w : (get_or I k none).subject ≡ x = ap (λ (n : ℕ). (get_or I n none).subject) y ∙ at in omega (arith, get_or-set_other slots j i e 0 z, filled-before i (omega arith) (s ∙ w)))
        | no y ↦ omega (arith, get_or-set_other slots j i e 0 z, r.groups i k a b s (omega (arith, get_or-set_other slots j k e 0 y)))
      ]
    ]

    pub running_more : Running m₀ (inner_step m).then (set slots j e) (set gone e 1)
    running_more = record {
      steps = again-more m₀ m r.steps says-again;
      whole = inner_whole m r.whole;
      idle = ap (λ (s : Step). s.then.clean_up) step_is ∙ r.idle;
      clear = ap (λ (s : Step). s.then.last_gap) step_is ∙ r.clear;
      clear₀ = r.clear₀;
      long-s = length-set slots j e ∙ r.long-s;
      long-g = length-set gone e 1 ∙ r.long-g;
      active = ap (λ (s : Step). s.then.active) step_is
          ∙ ap (inserted (pair e x)) r.active
          ∙ merged-joins (pair e x) m₀.active (filled slots I) 0 (filled-order 0 slots I order)
          ∙ ap (merged m₀.active) (sym (filled-joins e x j slots I taken-small (omega (arith, r.long-s)) inside empty at below beyond));
      inactive = ap (λ (s : Step). s.then.inactive) step_is ∙ ap (without e) r.inactive ∙ marked_more gone e (omega (arith, r.long-g, taken-small)) I;
      groups = groups-then;
      same_slots = ap (λ (s : Step). s.then.slots) step_is ∙ r.same_slots;
      same_walk = ap (λ (s : Step). s.then.walk) step_is ∙ r.same_walk;
    }

    pub running_queue : (inner_step m).then.activation ≡ q
    running_queue = ap (λ (s : Step). s.then.activation) step_is
