-- Polls: the packed answer says what the answer says, and what a poll keeps and tells.
use Prim.Native.Nat.{ℕ, ◌≤◌, ◌<◌}
use mathlib.Core.Path.{◌≡◌, refl, sym, ap, subst, ◌∙◌}
use mathlib.Core.Bool.{Bool, true, false, cond, not, ◌||◌}
use mathlib.Core.Logic.{inl, inr}
use mathlib.Core.List.{List, ◌++◌}
use native.Mathlib.Omega.{arith}
use native.Mathlib.Decide.{dec_lt}
use lib.ListN.{length}
use borrow.Author.Tests.{eq-eqb, le-ltb}
use Rattle.state.specs.Lengths.{image_length}
use Rattle.std.specs.Prelude.{Option, None, Some, is_some, Result, Ok}
use Rattle.state.specs.Outcome as state
use Rattle.state.specs.Outcome.{Outcome, left}
use Rattle.state.specs.declared.Refusal.{Refusal}
use Rattle.state.proofs.Tests.{false_of, not-both}
use Rattle.entry_tree.specs.Pairs.{has_subject}
use Rattle.regular.specs.Registry.{Registry}
use Rattle.regular.specs.Bytes.{read}
use Rattle.regular.specs.Steps.{PollPop, poll_pop}
use Rattle.regular.specs.declared.FilterUpdate.{FilterUpdate}
use Rattle.regular.specs.declared.FilterUpdate.TheVariants.{AddSubject, RemoveSubjectRange}
use Rattle.regular_valid.specs.Inner as moves
use Rattle.regular_valid.specs.Moves.{Registered, activated}
use Rattle.regular_valid.proofs.Poll as poll
use Rattle.regular_valid.proofs.Poll.{due}
use Rattle.regular_valid.proofs.Demand as demand
use Rattle.filter_image.specs.Image as image
use Rattle.filter_image.proofs.Laws.{length-image, holds-image, holds-past}
use Rattle.gomxeli.specs.Answers.{answered, updates, packed, accepted}
use Rattle.gomxeli.specs.Calls.{RegPollPop}
use Rattle.gomxeli.proofs.Fields.{accepted_of, first_of, second_of}
use Rattle.regular_runs.specs.Runs.{Now, after, answer, polls, is_nothing, is_add, put_update, covers}
use Rattle.regular_runs.proofs.Fields.{nothing_of, add_of, removal_of}
use Rattle.regular_runs.proofs.Kept.{Good, on-meaning, meaning-kept, regular-kept}

-- ---- the answers of a poll, and their numbers

-- what a poll answers
abbrev Told : Type 0
Told = Result (Option FilterUpdate) Refusal

-- the filter after a poll's answer
abbrev into : Told → (ℕ → Bool) → ℕ → Bool
into a F = moves.put (moves.handed PollPop a) F

data Update : Told → Type 0 where
  adds : (x : ℕ) → x ≤ 8191 → Update (Ok (Some (AddSubject x)))
  removes : (a b : ℕ) → a ≤ b → b ≤ 8191 → Update (Ok (Some (RemoveSubjectRange a b)))
  nothing : Update (Ok None)

update_of : {m : Registry} {F : ℕ → Bool} {g : Registered} {r : Outcome (Option FilterUpdate) Registry} → poll.Polled m F g r → Update (state.answer r)
update_of (poll.adds x n k j h) = adds x k
update_of (poll.ends n j h) = nothing
update_of (poll.removes a b n k l j c h) = removes a b k l

-- the bytes n are an image of what i holds once the answer's update is in
record Put (a : Told) (i n : List ℕ) : Type 0 where
  long : length n ≡ image_length
  holds : (x : ℕ) → into a (image.holds i) x ≡ image.holds n x

record Says (a : Told) (n : ℕ) : Type 0 where
  taken : accepted n ≡ true
  ends : is_nothing n ≡ not (is_some (moves.handed PollPop a))
  moving : (g : Registered) → moves.moved PollPop a g ≡ cond (is_add n || is_nothing n) (activated g.waiting g.active) g
  covering : (x : ℕ) → covers polls n x ≡ moves.covers (moves.handed PollPop a) x
  put : (i : List ℕ) → length i ≡ image_length → ((x : ℕ) → into a (image.holds i) x ≡ true → x ≤ 8191) → Put a i (put_update n i)

-- the image of a set of subjects
image-all : (f : ℕ → Bool) → ((x : ℕ) → f x ≡ true → x ≤ 8191) → (x : ℕ) → f x ≡ image.holds (image.image_of f) x
image-all f top x =
    elim (dec_lt x 8192) [
      | yes l ↦ sym (holds-image f x l)
      | no h ↦ false_of (f x) (λ t. omega (arith, top x t)) ∙ sym (holds-past f x (omega arith))
    ]

put-image : (a : Told) (i n : List ℕ) → n ≡ image.image_of (into a (image.holds i)) → ((x : ℕ) → into a (image.holds i) x ≡ true → x ≤ 8191) → Put a i n
put-image a i n q top = rw q record { long = length-image (into a (image.holds i)); holds = image-all (into a (image.holds i)) top }

module _ (x : ℕ) (k : x ≤ 8191) where
  abbrev Add : ℕ
  Add = packed 0 1 x 0

  put-add : (i : List ℕ) → length i ≡ image_length → put_update Add i ≡ image.image_of (image.with x (image.holds i))
  unfolding image.add_subject
  put-add i l = rw (add_of 1 x 0 (omega arith), first_of 0 1 x 0 (omega arith) (omega arith) (omega arith), le-ltb 8191 x k, eq-eqb (length i) image_length l) refl

  says-add : Says (Ok (Some (AddSubject x))) Add
  says-add = record {
    taken = accepted_of 1 x 0;
    ends = nothing_of 1 x 0 (omega arith);
    moving = λ g. rw (add_of 1 x 0 (omega arith)) refl;
    covering = λ y. rw (removal_of 1 x 0 (omega arith)) refl;
    put = λ i l top. put-image (Ok (Some (AddSubject x))) i (put_update Add i) (put-add i l) top;
  }

module _ (a b : ℕ) (k : a ≤ b) (l : b ≤ 8191) where
  abbrev Removal : ℕ
  Removal = packed 0 2 a b

  put_removal : (i : List ℕ) → length i ≡ image_length → put_update Removal i ≡ image.image_of (image.without_range a b (image.holds i))
  unfolding image.remove_subject_range
  put_removal i h =
      rw (add_of 2 a b (omega arith), removal_of 2 a b (omega arith), first_of 0 2 a b (omega arith) (omega arith) (omega arith), second_of 0 2 a b (omega arith) (omega arith) (omega arith), le-ltb 8191 a (omega arith), le-ltb 8191 b l, le-ltb b a k, eq-eqb (length i) image_length h) refl

  says_removal : Says (Ok (Some (RemoveSubjectRange a b))) Removal
  says_removal = record {
    taken = accepted_of 2 a b;
    ends = nothing_of 2 a b (omega arith);
    moving = λ g. rw (add_of 2 a b (omega arith), nothing_of 2 a b (omega arith)) refl;
    covering = λ y. rw (removal_of 2 a b (omega arith), first_of 0 2 a b (omega arith) (omega arith) (omega arith), second_of 0 2 a b (omega arith) (omega arith) (omega arith)) refl;
    put = λ i h top. put-image (Ok (Some (RemoveSubjectRange a b))) i (put_update Removal i) (put_removal i h) top;
  }

says_nothing : Says (Ok None) (packed 0 0 0 0)
says_nothing = record {
  taken = accepted_of 0 0 0;
  ends = nothing_of 0 0 0 (omega arith);
  moving = λ g. rw (add_of 0 0 0 (omega arith), nothing_of 0 0 0 (omega arith)) refl;
  covering = λ y. rw (removal_of 0 0 0 (omega arith)) refl;
  put = λ i h top. rw (add_of 0 0 0 (omega arith), removal_of 0 0 0 (omega arith)) record { long = h; holds = λ x. refl };
}

says : {a : Told} → Update a → Says a (answered updates a)
says (adds x k) = says-add x k
says (removes a b k l) = says_removal a b k l
says nothing = says_nothing

-- ---- a poll

module _ (w : Now) (g : Good w) where
  abbrev M : Registry
  M = read w.state

  abbrev F : ℕ → Bool
  F = image.holds w.image

  abbrev A : Told
  A = state.answer (poll_pop M)

  abbrev Next : Now
  Next = after RegPollPop w

  said : Says A (answer RegPollPop w)
  said = rw (on-meaning PollPop w g) (says (update_of (poll.polled M F w.registered g.inv)))

  put_in : Put A w.image Next.image
  put_in = said.put w.image g.long (demand.top (left M (poll_pop M)) (into A F) (moves.moved PollPop A w.registered) (demand.kept M F w.registered g.inv PollPop))

  same-moved : moves.moved PollPop A w.registered ≡ Next.registered
  same-moved = said.moving w.registered

  pub poll-good : Good Next
  poll-good = regular-kept PollPop w g Next.image Next.registered put_in.long put_in.holds same-moved

  pub poll-taken : accepted (answer RegPollPop w) ≡ true
  poll-taken = said.taken

  pub poll-clear : (x : ℕ) → covers polls (answer RegPollPop w) x ≡ true → has_subject x w.registered.active ≡ false
  poll-clear x h = demand.clear M F w.registered g.inv PollPop x (sym (said.covering x) ∙ h)

  -- 'nothing' is said just if no update is handed out
  at_end : is_nothing (answer RegPollPop w) ≡ true → A ≡ Ok None
  at_end h = elim (demand.poll-says M F w.registered g.inv) [ inl u ↦ not-both (sym h ∙ said.ends ∙ ap not u) | inr q ↦ q ]

  before_end : is_nothing (answer RegPollPop w) ≡ false → is_some (moves.handed PollPop A) ≡ true
  before_end h = elim (demand.poll-says M F w.registered g.inv) [ inl u ↦ u | inr q ↦ not-both (sym (said.ends ∙ ap (λ (a : Told). not (is_some (moves.handed PollPop a))) q) ∙ h) ]

  pub poll-exact : is_nothing (answer RegPollPop w) ≡ true → (x : ℕ) → image.holds Next.image x ≡ has_subject x (Next.registered.waiting ++ Next.registered.active)
  poll-exact h x =
      sym (put_in.holds x)
      ∙ demand.at-nothing M F w.registered g.inv (at_end h) x
      ∙ ap (λ (r : Registered). has_subject x (r.waiting ++ r.active)) same-moved

  pub poll-less : is_nothing (answer RegPollPop w) ≡ false → due (read Next.state) < due M
  poll-less h = subst (λ (n : Registry). due n < due M) (sym (meaning-kept PollPop w g)) (demand.poll-less M F w.registered g.inv (before_end h))
