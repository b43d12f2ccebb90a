-- No length is that of two kinds: the length alone tells the kind.
-- List queues have even lengths up to 514, key queues leave 3 when divided by 4, and the registries keep clear of both.
use Prim.Native.Nat.{ℕ, ◌%◌, ◌≤◌}
use mathlib.Core.Path.{◌≡◌, refl, sym, ◌∙◌}
use mathlib.Core.Logic.{◌≢◌}
use mathlib.Core.Bool.{true, cond, ◌&&◌}
use native.Mathlib.Omega.{arith}
use lib.Dec.{leb, eqb}
use borrow.Author.Tests.{leb-true, ne_eqb, eq-eqb}
use Rattle.state.specs.Lengths.{Kind, Regular, LoopBack, Requests, Messages, Responses, Lists, Keys, Has, regular, loop-back, requests, messages, responses, lists, keys, Disjoint, lists_allowed, lists_length, keys_length, regular_length, loop_back_length, requests_length, messages_length, responses_length, image_length}
use Rattle.state.proofs.Tests.{and_l, and_r}

unfoldable kind_of : ℕ → Kind
kind_of n =
    cond (eqb n regular_length) Regular
    (cond (eqb n loop_back_length) LoopBack
    (cond (eqb n requests_length) Requests
    (cond (eqb n messages_length) Messages
    (cond (eqb n responses_length) Responses
    (cond (eqb (n % 4) 3) Keys Lists)))))

lists-most : (c e : ℕ) → lists_allowed c e ≡ true → lists_length c e ≤ 514
lists-most c e h =
    let r : (leb c 32 && leb e 224) ≡ true = and_r (leb 1 c) (leb c 32 && leb e 224) h in
    let a = leb-true c 32 (and_l (leb c 32) (leb e 224) r) in
    let b = leb-true e 224 (and_r (leb c 32) (leb e 224) r) in
    omega arith

other : (n : ℕ) → n ≢ regular_length → n ≢ loop_back_length → n ≢ requests_length → n ≢ messages_length → n ≢ responses_length → kind_of n ≡ cond (eqb (n % 4) 3) Keys Lists
unfolding kind_of
other n a b c d e = rw (ne_eqb n regular_length a, ne_eqb n loop_back_length b, ne_eqb n requests_length c, ne_eqb n messages_length d, ne_eqb n responses_length e)

kind-of : (k : Kind) (n : ℕ) → Has k n → kind_of n ≡ k
unfolding kind_of
kind-of _ _ regular = refl
kind-of _ _ loop-back = refl
kind-of _ _ requests = refl
kind-of _ _ messages = refl
kind-of _ _ responses = refl
kind-of _ _ (lists c e h) =
    let m = lists-most c e h in
    let n = lists_length c e in
    other n (omega arith) (omega arith) (omega arith) (omega arith) (omega arith) ∙ rw (ne_eqb (n % 4) 3 (omega arith))
kind-of _ _ (keys k e h) =
    let n = keys_length k e in
    other n (omega arith) (omega arith) (omega arith) (omega arith) (omega arith) ∙ rw (eq-eqb (n % 4) 3 (omega arith))

no_image : (k : Kind) (n : ℕ) → Has k n → n ≡ image_length → ⊥
no_image _ _ regular q = omega arith
no_image _ _ loop-back q = omega arith
no_image _ _ requests q = omega arith
no_image _ _ messages q = omega arith
no_image _ _ responses q = omega arith
no_image _ _ (lists c e h) q = let m = lists-most c e h in omega arith
no_image _ _ (keys k e h) q = omega arith

pub disjoint : Disjoint
disjoint = record { one_kind = λ j k n p q. sym (kind-of j n p) ∙ kind-of k n q; no_image = no_image }
