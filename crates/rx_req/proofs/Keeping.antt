-- Each call keeps a valid meaning valid.
use Prim.Native.Nat.{ℕ, zero-le}
use mathlib.Core.Bool.{Bool}
use lib.Dec.{ltb}
use borrow.Author.Tests.{ltb-false}
use Rattle.state.specs.Outcome.{Outcome, left}
use Rattle.state.proofs.Tests.{by_cond}
use Rattle.entry_tree.specs.Pairs.{pair, on_subject, has_entry, has_subject, inserted, without}
use Rattle.entry_tree.proofs.Count.{any_false}
use Rattle.entry_tree.proofs.Changes.{inserted-range, without-range}
use Rattle.entry_tree.proofs.Once.{inserted-once, inserted_rising, without-once, without-rising}
use Rattle.rx_req.specs.Registry.{Registry}
use Rattle.rx_req.specs.Steps.{Call, Register, Unregister, PollPush, step, register, unregister, poll_push}
use Rattle.rx_req.specs.Means.{Valid}
use Rattle.rx_req.proofs.Testing.{conditions, of_conditions}

abbrev Keeps : {A : Type 0} → Registry → Outcome A Registry → Type 0
Keeps m o = Valid (left m o)

register-valid : (e x : ℕ) (m : Registry) → Valid m → Keeps m (register e x m)
unfolding register
register-valid e x m f =
    let c = conditions m f in
    by_cond (Keeps m) (ltb 127 e) (λ t. f) (λ te.
    by_cond (Keeps m) (ltb 511 x) (λ t. f) (λ tx.
    by_cond (Keeps m) (has_entry e m) (λ t. f) (λ he.
    by_cond (Keeps m) (has_subject x m) (λ t. f) (λ hx.
    of_conditions (inserted (pair e x) m) (record {
      range = inserted-range (pair e x) 511 m (ltb-false 127 e te) (ltb-false 511 x tx) c.range;
      once = inserted-once e x m he c.once;
      rises = inserted_rising (pair e x) 0 m zero-le (any_false (on_subject x) m hx) c.rises;
    })))))

unregister-valid : (e : ℕ) (m : Registry) → Valid m → Keeps m (unregister e m)
unfolding unregister
unregister-valid e m f =
    let c = conditions m f in
    by_cond (Keeps m) (ltb 127 e) (λ t. f) (λ te.
    by_cond (Keeps m) (has_entry e m)
    (λ he. of_conditions (without e m) (record { range = without-range e 511 m c.range; once = without-once e m c.once; rises = without-rising e 0 m c.rises }))
    (λ t. f))

poll-valid : (x : ℕ) (loop_back : Bool) (m : Registry) → Valid m → Keeps m (poll_push x loop_back m)
unfolding poll_push
poll-valid x loop_back m f = by_cond (Keeps m) (ltb 511 x) (λ t. f) (λ t. f)

pub step_valid : (k : Call) (m : Registry) → Valid m → Valid (left m (step k m))
step_valid (Register e x) = register-valid e x
step_valid (Unregister e) = unregister-valid e
step_valid (PollPush x loop_back) = poll-valid x loop_back
