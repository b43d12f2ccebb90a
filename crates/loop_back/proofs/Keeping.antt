-- Each call keeps a whole registry whole.
use Prim.Native.Nat.{ℕ, ◌<◌, ◌≤◌}
use mathlib.Core.Path.{◌≡◌, refl}
use Rattle.std.specs.Prelude.{Option, None, Some}
use mathlib.Core.Bool.{true, false}
use native.Mathlib.Omega.{arith}
use lib.Dec.{ltb}
use borrow.Author.Tests.{ltb-false}
use Rattle.state.specs.Outcome.{Outcome, left}
use Rattle.state.proofs.Tests.{by_cond}
use Rattle.entry_tree.specs.Pairs.{pair, count, is_entry, has_entry, place_of}
use Rattle.entry_tree.specs.Walks.{first_on}
use Rattle.entry_tree.proofs.Changes.{inserted-count, inserted-range, inserted-order, without-range, without-order}
use Rattle.entry_tree.proofs.Once.{inserted-once, without-once}
use Rattle.entry_tree.proofs.Walking.{none-some, first_entry, first-in, find-rest, past_in}
use Rattle.loop_back.specs.Registry as registry
use Rattle.loop_back.specs.Registry.{Registry, fresh}
use Rattle.loop_back.specs.Steps.{joins, goes_on, leaves, with_walk, push_next, Call, Register, Unregister, HubPushStart, HubPushNext, step, register, unregister, hub_push_start, hub_push_next}
use Rattle.loop_back.proofs.Facts.{Facts, facts_of, of_facts}

pub fresh-facts : Facts fresh
fresh-facts = record { range = refl; once = λ e. omega arith; order = refl; walks = λ e q. absurd (none-some e q) }

module _ (m : Registry) (f : Facts m) where
  join-facts : (e x : ℕ) → e ≤ 127 → x ≤ 8191 → has_entry e m.entries ≡ false → Facts (joins e x m)
  join-facts e x a b n = record {
    range = inserted-range (pair e x) 8191 m.entries a b f.range;
    once = inserted-once e x m.entries n f.once;
    order = inserted-order (pair e x) 0 m.entries (omega arith) f.order;
    walks = λ w q. omega (arith, inserted-count (pair e x) (is_entry w) m.entries, f.walks w q);
  }

  leave_facts : (e : ℕ) → Facts (leaves e m)
  leave_facts e = record {
    range = without-range e 8191 m.entries f.range;
    once = without-once e m.entries f.once;
    order = without-order e 0 m.entries f.order;
    walks = past_in e (goes_on (place_of e m.entries)) m.entries (f.once e) (λ y q. first_entry y (place_of e m.entries).rest q) m.walk f.walks;
  }

  walk-facts : (w : Option ℕ) → ((e : ℕ) → w ≡ Some e → 0 < count (is_entry e) m.entries) → Facts (with_walk w m)
  walk-facts w g = record { range = f.range; once = f.once; order = f.order; walks = g }

  abbrev Left : {A : Type 0} → Outcome A Registry → Type 0
  Left o = Facts (left m o)

  next-facts : (w : Option ℕ) → Left (push_next w m)
  next-facts None = f
  next-facts (Some e) = walk-facts (goes_on (place_of e m.entries)) (λ w q. omega (arith, first_entry w (place_of e m.entries).rest q, find-rest w e 0 m.entries))

  keeps : (k : Call) → Left (step k m)
  unfolding register unregister hub_push_start hub_push_next
  keeps (Register e x) =
      by_cond Left (ltb 127 e) (λ _. f) (λ p.
      by_cond Left (ltb 8191 x) (λ _. f) (λ q.
      by_cond Left (has_entry e m.entries) (λ _. f) (λ r.
      join-facts e x (ltb-false 127 e p) (ltb-false 8191 x q) r)))
  keeps (Unregister e) =
      by_cond Left (ltb 127 e) (λ _. f) (λ _.
      by_cond Left (has_entry e m.entries) (λ _. leave_facts e) (λ _. f))
  keeps (HubPushStart x) = by_cond Left (ltb 8191 x) (λ _. f) (λ _. walk-facts (first_on x m.entries) (λ e. first-in x e m.entries))
  keeps HubPushNext = next-facts m.walk

pub step_valid : (k : Call) (m : Registry) → registry.whole_b m ≡ true → registry.whole_b (left m (step k m)) ≡ true
step_valid k m h = of_facts (left m (step k m)) (keeps m (facts_of m h) k)
