-- Document 01's starred cases, in one table. Each row runs calls, by the definitions that their contracts cite, on zero bytes
-- that its first call opens.
use Rattle.std.specs.Prelude.{ℕ, ◌≡◌, Bool, true, false, List, [], ◌∷◌, map, replicate, Option, Some}
use Rattle.state.specs.Seq.{to_nat}
use Rattle.state.specs.Lengths.{keys_length, regular_length, loop_back_length, messages_length, responses_length}
use Rattle.entry_tree.specs.Walks.{first_on}
use Rattle.regular.specs.Bytes.{read}
use Rattle.gomxeli.specs.Answers.{packed}
use Rattle.gomxeli.specs.Calls.{Call, IqOpen, IqInsert, IqGet, IqRemove, RegOpen, RegRegister, RegUnregister, RegPollPop, RegHubPushStart, RegHubPushNext, LbOpen, LbRegister, LbHubPushStart, LbHubPushNext, TxmOpen, TxmRegister, TxmPick, TxmSettle, TxrOpen, TxrRegister, TxrPick, TxrSettle, run, left}

-- what bytes tell: a regular registry's slot counter; the head of a subject, its first active entry
pub data Told : Type 0 where
  Counter : ℕ → Told
  Head : ℕ → Option ℕ → Told

-- the same of the bytes b
abbrev pub tells : List ℕ → Told → Told
tells b (Counter n) = Counter (read b).slots
tells b (Head x e) = Head x (first_on x (read b).active)

-- a state's length, calls on it, and what is expected: their answers, and what the bytes that they leave tell
pub record Row : Type 0 where
  pub length : ℕ
  pub calls : List Call
  pub answers : List ℕ
  pub told : List Told

pub record Seen : Type 0 where
  pub answers : List ℕ
  pub told : List Told

abbrev pub found : Row → Seen
found r = record {
  answers = run r.calls (replicate r.length 0);
  told = map (tells (left r.calls (replicate r.length 0))) r.told;
}

abbrev pub expected : Row → Seen
expected r = record { answers = r.answers; told = r.told }

-- ---- answers

-- accepted, with nothing to tell; accepted, with a value; a refusal
abbrev pub plain : ℕ
plain = packed 0 0 0 0

abbrev pub value : ℕ → ℕ
value v = packed 0 1 0 v

abbrev pub refused : ℕ → ℕ
refused n = packed n 0 0 0

-- accepted, with a wake flag
abbrev pub wake : Bool → ℕ
wake b = packed 0 (to_nat b) 0 0

-- a poll's updates; it says 'nothing' by `plain`
abbrev pub adds : ℕ → ℕ
adds x = packed 0 1 x 0

abbrev pub removes : ℕ → ℕ → ℕ
removes a b = packed 0 2 a b

-- a walk that points at an entry; it names one, and tells whether more follow; it names none by `plain`
abbrev pub points : ℕ
points = packed 0 1 0 0

abbrev pub names : ℕ → Bool → ℕ
names e more = packed 0 1 e (to_nat more)

-- a pick names an entry and its priority; a settlement the entry, with a wake flag
abbrev pub picks : ℕ → ℕ → ℕ
picks e p = packed 0 1 e p

abbrev pub settles : ℕ → Bool → ℕ
settles e b = packed 0 (to_nat b) e 0

-- ---- the table

-- a fresh poll: nothing
unfoldable pub fresh_poll : Row
fresh_poll = record {
  length = regular_length;
  calls = RegOpen 1 ∷ RegPollPop ∷ [];
  answers = plain ∷ plain ∷ [];
  told = [];
}

-- 100 by entries 0, 1, unpolled: poll adds 100, next poll nothing; then remove 0: poll nothing, 1 is head
unfoldable pub shared_subject : Row
shared_subject = record {
  length = regular_length;
  calls = RegOpen 1 ∷ RegRegister 0 100 ∷ RegRegister 1 100 ∷ RegPollPop ∷ RegPollPop ∷ RegUnregister 0 ∷ RegPollPop ∷ [];
  answers = plain ∷ wake true ∷ wake false ∷ adds 100 ∷ plain ∷ wake false ∷ plain ∷ [];
  told = Head 100 (Some 1) ∷ [];
}

-- 100, 200, 300 active from 3 slots; remove 200, then 100: one update, 0 to 299; counter 1
unfoldable pub three_subjects : Row
three_subjects = record {
  length = regular_length;
  calls = RegOpen 3 ∷ RegRegister 0 100 ∷ RegRegister 1 200 ∷ RegRegister 2 300 ∷ RegPollPop ∷ RegPollPop ∷ RegPollPop ∷ RegUnregister 1 ∷ RegUnregister 0 ∷ RegPollPop ∷ RegPollPop ∷ [];
  answers = plain ∷ wake true ∷ wake true ∷ wake true ∷ adds 100 ∷ adds 200 ∷ adds 300 ∷ wake true ∷ wake false ∷ removes 0 299 ∷ plain ∷ [];
  told = Counter 1 ∷ [];
}

-- only 300 active, removed: 0 to 8,191
unfoldable pub only_one : Row
only_one = record {
  length = regular_length;
  calls = RegOpen 1 ∷ RegRegister 0 300 ∷ RegPollPop ∷ RegUnregister 0 ∷ RegPollPop ∷ [];
  answers = plain ∷ wake true ∷ adds 300 ∷ wake true ∷ removes 0 8191 ∷ [];
  told = [];
}

-- 0 and 1 active, 0 removed: 0 to 0
unfoldable pub first_subject : Row
first_subject = record {
  length = regular_length;
  calls = RegOpen 2 ∷ RegRegister 0 0 ∷ RegRegister 1 1 ∷ RegPollPop ∷ RegPollPop ∷ RegUnregister 0 ∷ RegPollPop ∷ [];
  answers = plain ∷ wake true ∷ wake true ∷ adds 0 ∷ adds 1 ∷ wake true ∷ removes 0 0 ∷ [];
  told = [];
}

-- 8,190 and 8,191 active, 8,191 removed: 8,191 to 8,191
unfoldable pub last_subject : Row
last_subject = record {
  length = regular_length;
  calls = RegOpen 2 ∷ RegRegister 0 8190 ∷ RegRegister 1 8191 ∷ RegPollPop ∷ RegPollPop ∷ RegUnregister 1 ∷ RegPollPop ∷ [];
  answers = plain ∷ wake true ∷ wake true ∷ adds 8190 ∷ adds 8191 ∷ wake true ∷ removes 8191 8191 ∷ [];
  told = [];
}

-- one slot, register 100, remove unpolled, register 101: 6
unfoldable pub lost_slot : Row
lost_slot = record {
  length = regular_length;
  calls = RegOpen 1 ∷ RegRegister 0 100 ∷ RegUnregister 0 ∷ RegRegister 0 101 ∷ [];
  answers = plain ∷ wake true ∷ wake false ∷ refused 6 ∷ [];
  told = [];
}

-- entries 0, 1, 2 active on 100, walk names 0, remove 1, walk names 2, ends
unfoldable pub removed_on_walk : Row
removed_on_walk = record {
  length = regular_length;
  calls = RegOpen 1 ∷ RegRegister 0 100 ∷ RegRegister 1 100 ∷ RegRegister 2 100 ∷ RegPollPop ∷ RegPollPop ∷ RegHubPushStart 100 ∷ RegHubPushNext ∷ RegUnregister 1 ∷ RegHubPushNext ∷ RegHubPushNext ∷ [];
  answers = plain ∷ wake true ∷ wake false ∷ wake false ∷ adds 100 ∷ plain ∷ points ∷ names 0 true ∷ wake false ∷ names 2 false ∷ plain ∷ [];
  told = [];
}

-- loop-back 0 on 100, 1 on 200: frame 100 names 0 and 1, frame 150 none
unfoldable pub loop_back_walk : Row
loop_back_walk = record {
  length = loop_back_length;
  calls = LbOpen ∷ LbRegister 0 100 ∷ LbRegister 1 200 ∷ LbHubPushStart 100 ∷ LbHubPushNext ∷ LbHubPushNext ∷ LbHubPushStart 150 ∷ LbHubPushNext ∷ [];
  answers = plain ∷ plain ∷ plain ∷ points ∷ names 0 true ∷ names 1 false ∷ plain ∷ plain ∷ [];
  told = [];
}

-- transmit 0, 1 ready at 4: pick 0, last frame, still ready, pick 1. Messages, and responses
unfoldable pub last_frame_of_message : Row
last_frame_of_message = record {
  length = messages_length;
  calls = TxmOpen ∷ TxmRegister 0 100 16 ∷ TxmRegister 1 200 16 ∷ TxmPick 255 8 ∷ TxmSettle 1 16 4 8 64 ∷ TxmPick 255 8 ∷ [];
  answers = plain ∷ wake false ∷ wake false ∷ picks 0 4 ∷ settles 0 false ∷ picks 1 4 ∷ [];
  told = [];
}

unfoldable pub last_frame_of_response : Row
last_frame_of_response = record {
  length = responses_length;
  calls = TxrOpen ∷ TxrRegister 0 16 ∷ TxrRegister 1 16 ∷ TxrPick 255 8 ∷ TxrSettle 1 16 4 8 64 ∷ TxrPick 255 8 ∷ [];
  answers = plain ∷ wake false ∷ wake false ∷ picks 0 4 ∷ settles 0 false ∷ picks 1 4 ∷ [];
  told = [];
}

-- the same with a frame that is not last: pick 0 again
unfoldable pub next_frame_of_message : Row
next_frame_of_message = record {
  length = messages_length;
  calls = TxmOpen ∷ TxmRegister 0 100 16 ∷ TxmRegister 1 200 16 ∷ TxmPick 255 8 ∷ TxmSettle 1 16 4 8 0 ∷ TxmPick 255 8 ∷ [];
  answers = plain ∷ wake false ∷ wake false ∷ picks 0 4 ∷ settles 0 false ∷ picks 0 4 ∷ [];
  told = [];
}

unfoldable pub next_frame_of_response : Row
next_frame_of_response = record {
  length = responses_length;
  calls = TxrOpen ∷ TxrRegister 0 16 ∷ TxrRegister 1 16 ∷ TxrPick 255 8 ∷ TxrSettle 1 16 4 8 0 ∷ TxrPick 255 8 ∷ [];
  answers = plain ∷ wake false ∷ wake false ∷ picks 0 4 ∷ settles 0 false ∷ picks 0 4 ∷ [];
  told = [];
}

-- key 3 value 7, then key 3 value 9: 7 comes back, 9 is not kept; remove 3: 16
unfoldable pub key_twice : Row
key_twice = record {
  length = keys_length 3 2;
  calls = IqOpen 3 2 ∷ IqInsert 3 7 ∷ IqInsert 3 9 ∷ IqGet 3 ∷ IqRemove 3 ∷ [];
  answers = plain ∷ plain ∷ value 7 ∷ plain ∷ refused 16 ∷ [];
  told = [];
}

unfoldable pub table : List Row
table =
    fresh_poll ∷ shared_subject ∷ three_subjects ∷ only_one ∷ first_subject ∷ last_subject ∷ lost_slot ∷ removed_on_walk
    ∷ loop_back_walk ∷ last_frame_of_message ∷ last_frame_of_response ∷ next_frame_of_message ∷ next_frame_of_response ∷ key_twice ∷ []

pub record Cases : Type 0 where
  pub all : map found table ≡ map expected table
