-- Demand 1: every exported call answers a result or one of its refusals, and a refusal leaves every lent byte.
use Rattle.std.specs.Prelude.{ℕ, ◌≤◌, ◌≡◌, Bool, true, false, ◌||◌, ◌⊎◌, List, [], ◌∷◌, eqb}
use Rattle.gomxeli.specs.Answers.{packed, number}
use Rattle.gomxeli.specs.Calls.{Call, Outcome, does, McqFront, McqBack, McqIsEmpty, McqIsFront, McqIsBack, McqRemove, McqOpen, McqMoveFront, McqMoveBack, IqFront, IqBack, IqContains, IqGet, IqRemove, IqEnqueueFront, IqEnqueueBack, IqDequeue, IqOpen, IqGetMut, IqInsert, RegOpen, RegUnregister, RegHubPushStart, RegRegister, RegPollPop, RegHubPushNext, LbOpen, LbHubPushNext, LbUnregister, LbHubPushStart, LbRegister, ReqOpen, ReqUnregister, ReqRegister, ReqPollPush, TxmOpen, TxrOpen, TxmUnregister, TxrUnregister, TxmRegister, TxrRegister, TxmUpdate, TxrUpdate, TxmPick, TxrPick, TxmSettle, TxrSettle}
use Rattle.refusals.specs.Stateless.{ImageCall, ImgOpen, ImgAddSubject, ImgRemoveSubjectRange, ImgHasSubject, image, LeafCall, leaf}

-- a is one of l
abbrev pub among : ℕ → List ℕ → Bool
among a [] = false
among a (x ∷ l) = eqb a x || among a l

-- an answer that refuses: one of l, with a number of document 01's table; 17 is the program's alone
pub record Refusal (l : List ℕ) (a : ℕ) : Type 0 where
  pub listed : among a l ≡ true
  pub least : 1 ≤ number a
  pub most : number a ≤ 16

-- what a call on the bytes b may come to: a result, whose number is 0, or one of the refusals l, which leaves the bytes
pub data Answered (l b : List ℕ) : Outcome → Type 0 where
  result : (o : Outcome) → number o.answer ≡ 0 → Answered l b o
  refused : (a : ℕ) → Refusal l a → Answered l b (record { answer = a; bytes = b })

-- the answers that refuse a call, in document 01's order, at opening a queue's sizes first: each is its number alone, but for 14, which hands
-- back the key and the value
abbrev pub refusals : Call → List ℕ
refusals (McqOpen c e) = 13 ∷ 1 ∷ []
refusals (McqFront c) = 1 ∷ 13 ∷ []
refusals (McqBack c) = 1 ∷ 13 ∷ []
refusals (McqIsEmpty c) = 1 ∷ 13 ∷ []
refusals (McqIsFront e) = 1 ∷ 13 ∷ []
refusals (McqIsBack e) = 1 ∷ 13 ∷ []
refusals (McqRemove e) = 1 ∷ 13 ∷ []
refusals (McqMoveFront c e) = 1 ∷ 13 ∷ []
refusals (McqMoveBack c e) = 1 ∷ 13 ∷ []
refusals (IqOpen k e) = 13 ∷ 1 ∷ []
refusals (IqContains k) = 1 ∷ []
refusals (IqGet k) = 1 ∷ []
refusals (IqGetMut k v) = 1 ∷ []
refusals (IqInsert k v) = 1 ∷ packed 14 0 k v ∷ 16 ∷ []
refusals (IqRemove k) = 1 ∷ 16 ∷ []
refusals IqFront = 1 ∷ []
refusals IqBack = 1 ∷ []
refusals (IqEnqueueFront k) = 1 ∷ 15 ∷ []
refusals (IqEnqueueBack k) = 1 ∷ 15 ∷ []
refusals (IqDequeue k) = 1 ∷ 15 ∷ []
refusals (RegOpen n) = 1 ∷ 3 ∷ []
refusals (RegRegister e x) = 1 ∷ 2 ∷ 3 ∷ 5 ∷ 6 ∷ []
refusals (RegUnregister e) = 1 ∷ 2 ∷ 8 ∷ 9 ∷ []
refusals RegPollPop = 1 ∷ []
refusals (RegHubPushStart x) = 1 ∷ 3 ∷ []
refusals RegHubPushNext = 1 ∷ []
refusals LbOpen = 1 ∷ []
refusals (LbRegister e x) = 1 ∷ 2 ∷ 3 ∷ 5 ∷ []
refusals (LbUnregister e) = 1 ∷ 2 ∷ 8 ∷ []
refusals (LbHubPushStart x) = 1 ∷ 3 ∷ []
refusals LbHubPushNext = 1 ∷ []
refusals ReqOpen = 1 ∷ []
refusals (ReqRegister e x) = 1 ∷ 2 ∷ 3 ∷ 5 ∷ 7 ∷ []
refusals (ReqUnregister e) = 1 ∷ 2 ∷ 8 ∷ []
refusals (ReqPollPush x loop_back) = 1 ∷ 3 ∷ []
refusals TxmOpen = 1 ∷ []
refusals (TxmRegister e x r) = 1 ∷ 2 ∷ 3 ∷ 10 ∷ 5 ∷ 7 ∷ []
refusals (TxmUnregister e) = 1 ∷ 2 ∷ 10 ∷ 8 ∷ []
refusals (TxmUpdate e r) = 1 ∷ 2 ∷ 10 ∷ 8 ∷ []
refusals (TxmPick mask mtu) = 1 ∷ 3 ∷ 10 ∷ []
refusals (TxmSettle frame r p n last) = 1 ∷ 3 ∷ 11 ∷ 12 ∷ []
refusals TxrOpen = 1 ∷ []
refusals (TxrRegister e r) = 1 ∷ 2 ∷ 10 ∷ 5 ∷ []
refusals (TxrUnregister e) = 1 ∷ 2 ∷ 10 ∷ 8 ∷ []
refusals (TxrUpdate e r) = 1 ∷ 2 ∷ 10 ∷ 8 ∷ []
refusals (TxrPick mask mtu) = 1 ∷ 3 ∷ 10 ∷ []
refusals (TxrSettle frame r p n last) = 1 ∷ 3 ∷ 11 ∷ 12 ∷ []

abbrev pub image_refusals : ImageCall → List ℕ
image_refusals ImgOpen = 4 ∷ []
image_refusals (ImgAddSubject subject) = 3 ∷ 4 ∷ []
image_refusals (ImgRemoveSubjectRange first last) = 3 ∷ 4 ∷ []
image_refusals (ImgHasSubject subject) = 3 ∷ 4 ∷ []

pub record Demand1 : Type 0 where
  pub on_state : (c : Call) (b : List ℕ) → Answered (refusals c) b (does c b)
  pub on-image : (c : ImageCall) (b : List ℕ) → Answered (image_refusals c) b (image c b)
  -- a leaf has no bytes, and refuses only a priority above 7
  pub leaves : (c : LeafCall) → (number (leaf c) ≡ 0) ⊎ (leaf c ≡ 3)
