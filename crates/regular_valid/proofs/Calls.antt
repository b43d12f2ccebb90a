-- Registering, removing and walking keep the invariant.
use Prim.Native.Nat.{ℕ, ◌+◌, ◌-◌, ◌≤◌, ◌<◌}
use mathlib.Core.Path.{◌≡◌, refl, sym, ap, ◌∙◌}
use mathlib.Core.Bool.{Bool, true, false, not, ◌&&◌, ◌||◌, and-false}
use Rattle.std.specs.Prelude.{Option, None, Some}
use mathlib.Core.List.{List, [], ◌∷◌, ◌++◌, map}
use native.Mathlib.Omega.{arith}
use lib.Dec.{eqb, ltb}
use borrow.Author.Tests.{ltb-false}
use Rattle.state.specs.Outcome.{Outcome, refuse, done, answer, left}
use Rattle.state.specs.declared.Refusal.{Refusal}
use Rattle.state.specs.declared.Refusal.TheVariants.{EntryRange, Range, Registered as AlreadyRegistered, NoSubjectSlot, NotRegistered, SlotsFull}
use Rattle.state.proofs.Tests.{by_cond, not-both}
use Rattle.multi_cycle_list.specs.Lists as lists
use Rattle.entry_tree.specs.Pairs.{pair, count, is_entry, on_subject, has_entry, has_subject, place_of}
use Rattle.entry_tree.proofs.Changes.{inserted-count, without-none}
use Rattle.entry_tree.specs.Walks.{first_on, next_on}
use Rattle.entry_tree.proofs.Walking.{find-rest, first-in, next_in}
use Rattle.regular.specs.Registry.{Registry}
use Rattle.regular.specs.Steps.{Call, Register, Unregister, HubPushStart, PollPop, HubPushNext, Answer, Gaps, gaps, waits, joins, register, leaves, leaves_inactive, unregister, with_walk, hub_push_start, hub_push_next, push_next}
use Rattle.regular_valid.specs.Moves.{Registered}
use Rattle.regular_valid.specs.Inner.{handed, moved, put, covers}
use Rattle.entry_tree.proofs.Count.{any-true, any_false, count-append, same-without}
use Rattle.regular_valid.proofs.Sound.{waits-sound, joins-sound, inactive-sound, leaves-sound, walk-sound}
use Rattle.regular_valid.proofs.Inv.{Inv, entry_of, entries-back, entries-without}

-- what a call comes to: the invariant after it, and no removal that covers an active subject
pub record Kept (k : Call) (m : Registry) (F : ℕ → Bool) (g : Registered) (r : Outcome (Answer k) Registry) : Type 0 where
  pub inv : Inv (left m r) (put (handed k (answer r)) F) (moved k (answer r) g)
  pub clear : (x : ℕ) → covers (handed k (answer r)) x ≡ true → count (on_subject x) g.active ≡ 0

pub refused : (k : Call) (m : Registry) (F : ℕ → Bool) (g : Registered) → Inv m F g → (n : Refusal) → Kept k m F g (refuse n)
refused (Register e x) m F g i n = record { inv = i; clear = λ x h. not-both (sym h) }
refused (Unregister e) m F g i n = record { inv = i; clear = λ x h. not-both (sym h) }
refused (HubPushStart x) m F g i n = record { inv = i; clear = λ x h. not-both (sym h) }
refused PollPop m F g i n = record { inv = i; clear = λ x h. not-both (sym h) }
refused HubPushNext m F g i n = record { inv = i; clear = λ x h. not-both (sym h) }

or-false : (a b : Bool) → (a || b) ≡ false → (a ≡ false) × (b ≡ false)
or-false true b q = not-both q
or-false false b q = (refl, q)

-- ---- registering

module _ (m : Registry) (F : ℕ → Bool) (g : Registered) (i : Inv m F g) (e x : ℕ) (wake : Bool) where
  abbrev There : Bool
  There = has_subject x m.active && not (has_subject x m.inactive)

  choice : (b : Bool) → There ≡ b → (has_subject x g.active && not (has_subject x g.waiting)) ≡ b
  choice b q = rw (i.active (on_subject x), i.waiting (on_subject x)) q

  module _ (he : e ≤ 127) (zi : count (is_entry e) m.inactive ≡ 0) (za : count (is_entry e) m.active ≡ 0) where
    waits_kept : x ≤ 8191 → There ≡ false → (n : ℕ) → n ≤ m.slots → Kept (Register e x) m F g (done wake (waits e x n m))
    waits_kept hx q n hn = record {
      inv = rw (choice false q) record {
        sound = waits-sound m F i.sound e x he zi za hx n;
        room = omega (arith, i.room);
        queue = entries-back g.waiting (pair e x) ∙ ap (λ (l : List ℕ). l ++ (e ∷ [])) i.queue;
        waiting = λ t. rw (count-append t g.waiting (pair e x ∷ []), inserted-count (pair e x) t m.inactive) (omega (arith, i.waiting t));
        active = i.active;
      };
      clear = λ y h. not-both (sym h);
    }

    joins-kept : There ≡ true → 0 < count (on_subject x) m.active → Kept (Register e x) m F g (done wake (joins e x m))
    joins-kept q k = record {
      inv = rw (choice true q) record {
        sound = joins-sound m F i.sound e x he zi za k;
        room = i.room;
        queue = i.queue;
        waiting = i.waiting;
        active = λ t. rw (count-append t g.active (pair e x ∷ []), inserted-count (pair e x) t m.active) (omega (arith, i.active t));
      };
      clear = λ y h. not-both (sym h);
    }

pub register-kept : (m : Registry) (F : ℕ → Bool) (g : Registered) → Inv m F g → (e x : ℕ) → Kept (Register e x) m F g (register e x m)
unfolding register
register-kept m F g i e x =
    by_cond K (ltb 127 e) (λ y. refuse-with EntryRange) (λ low.
    by_cond K (ltb 8191 x) (λ y. refuse-with Range) (λ small.
    by_cond K (has_entry e m.inactive || has_entry e m.active) (λ y. refuse-with AlreadyRegistered) (λ new.
    let n = or-false (has_entry e m.inactive) (has_entry e m.active) new in
    let zi = any_false (is_entry e) m.inactive n.0 in
    let za = any_false (is_entry e) m.active n.1 in
    let hx : x ≤ 8191 = ltb-false 8191 x small in
    let he : e ≤ 127 = ltb-false 127 e low in
    by_cond K (has_subject x m.inactive) (λ q. waits_kept m F g i e x false he zi za hx (rw (q, and-false) refl) m.slots (omega arith)) (λ qi.
    by_cond K (has_subject x m.active) (λ qa. joins-kept m F g i e x false he zi za (rw (qa, qi) refl) (any-true (on_subject x) m.active qa)) (λ qa.
    by_cond K (eqb m.slots 0) (λ y. refuse-with NoSubjectSlot) (λ y.
    waits_kept m F g i e x true he zi za hx (rw qa refl) (m.slots - 1) (omega arith)))))))
  where
    K : Outcome Bool Registry → Type 0
    K r = Kept (Register e x) m F g r

    refuse-with : (n : Refusal) → K (refuse n)
    refuse-with n = refused (Register e x) m F g i n

-- ---- removing

module _ (m : Registry) (F : ℕ → Bool) (g : Registered) (i : Inv m F g) (e : ℕ) where
  inactive-kept : 0 < count (is_entry e) m.inactive → Kept (Unregister e) m F g (done false (leaves_inactive e m))
  inactive-kept k = record {
    inv = record {
      sound = inactive-sound m F i.sound e;
      room = i.room;
      queue = entries-without e g.waiting ∙ ap (lists.without e) i.queue;
      waiting = same-without e g.waiting m.inactive i.waiting;
      active = λ t. same-without e g.active m.active i.active t ∙ ap (count t) (without-none e m.active (omega (arith, i.sound.facts.once e)));
    };
    clear = λ y h. not-both (sym h);
  }

  abbrev After : Gaps
  After = gaps e (place_of e m.active) m.clean_up m.last_gap

  active-kept : count (is_entry e) m.inactive ≡ 0 → 0 < count (is_entry e) m.active → m.slots + After.more ≤ 65535
      → Kept (Unregister e) m F g (done (ltb 0 After.more) (leaves e (place_of e m.active) After m))
  active-kept z k r = record {
    inv = record {
      sound = leaves-sound m F i.sound e k;
      room = r;
      queue = ap (map entry_of) (without-none e g.waiting (i.waiting (is_entry e) ∙ z)) ∙ i.queue;
      waiting = λ t. ap (count t) (without-none e g.waiting (i.waiting (is_entry e) ∙ z)) ∙ i.waiting t;
      active = same-without e g.active m.active i.active;
    };
    clear = λ y h. not-both (sym h);
  }

pub unregister-kept : (m : Registry) (F : ℕ → Bool) (g : Registered) → Inv m F g → (e : ℕ) → Kept (Unregister e) m F g (unregister e m)
unfolding unregister
unregister-kept m F g i e =
    by_cond K (ltb 127 e) (λ y. refuse-with EntryRange) (λ low.
    by_cond K (has_entry e m.inactive) (λ q. inactive-kept m F g i e (any-true (is_entry e) m.inactive q)) (λ qi.
    by_cond K (has_entry e m.active)
    (λ q. by_cond K (ltb 65535 (m.slots + (After m F g i e).more)) (λ y. refuse-with SlotsFull) (λ y.
    active-kept m F g i e (any_false (is_entry e) m.inactive qi) (any-true (is_entry e) m.active q) (ltb-false 65535 (m.slots + (After m F g i e).more) y)))
    (λ y. refuse-with NotRegistered)))
  where
    K : Outcome Bool Registry → Type 0
    K r = Kept (Unregister e) m F g r

    refuse-with : (n : Refusal) → K (refuse n)
    refuse-with n = refused (Unregister e) m F g i n

-- ---- walking

walk-inv : (m : Registry) (F : ℕ → Bool) (g : Registered) → Inv m F g → (o : Option ℕ) → ((y : ℕ) → o ≡ Some y → 0 < count (is_entry y) m.active) → Inv (with_walk o m) F g
walk-inv m F g i o h = record { sound = walk-sound m F i.sound o h; room = i.room; queue = i.queue; waiting = i.waiting; active = i.active }

pub start-kept : (m : Registry) (F : ℕ → Bool) (g : Registered) → Inv m F g → (x : ℕ) → Kept (HubPushStart x) m F g (hub_push_start x m)
unfolding hub_push_start
start-kept m F g i x =
    by_cond (λ (r : Outcome Bool Registry). Kept (HubPushStart x) m F g r) (ltb 8191 x) (λ y. refused (HubPushStart x) m F g i Range)
    (λ y. record { inv = walk-inv m F g i (first_on x m.active) (λ y. first-in x y m.active); clear = λ y h. not-both (sym h) })

next-kept : (m : Registry) (F : ℕ → Bool) (g : Registered) → Inv m F g → (o : Option ℕ) → Kept HubPushNext m F g (push_next o m)
next-kept m F g i None = record { inv = i; clear = λ y h. not-both (sym h) }
next-kept m F g i (Some e) = record {
  inv = walk-inv m F g i (next_on (place_of e m.active).subject (place_of e m.active).rest) (λ y q. omega (arith, next_in (place_of e m.active).subject y (place_of e m.active).rest q, find-rest y e 0 m.active));
  clear = λ y h. not-both (sym h);
}

pub walk_kept : (m : Registry) (F : ℕ → Bool) (g : Registered) → Inv m F g → Kept HubPushNext m F g (hub_push_next m)
unfolding hub_push_next
walk_kept m F g i = next-kept m F g i m.walk
