-- Demand 3: any list of exported calls on one regular registry's state bytes, and the filter image that its updates go into.
use Rattle.std.specs.Prelude.{ℕ, zero, suc, ◌+◌, ◌≤◌, ◌≡◌, List, [], ◌∷◌, ◌++◌, Bool, true, false, cond, ◌&&◌, ◌||◌, eqb, leb, length}
use Rattle.state.specs.Seq.{to_nat}
use Rattle.state.specs.Lengths.{regular_length, image_length}
use Rattle.entry_tree.specs.Pairs.{pair, has_subject}
use Rattle.regular_valid.specs.Moves.{Registered, lists, joined, taken, activated}
use Rattle.filter_image.specs.Image as image
use Rattle.gomxeli.specs.Answers.{what, first, second, accepted}
use Rattle.gomxeli.specs.Calls.{Call, does, McqFront, McqBack, McqIsEmpty, McqIsFront, McqIsBack, McqRemove, McqOpen, McqMoveFront, McqMoveBack, IqFront, IqBack, IqContains, IqGet, IqRemove, IqEnqueueFront, IqEnqueueBack, IqDequeue, IqOpen, IqGetMut, IqInsert, RegOpen, RegUnregister, RegHubPushStart, RegRegister, RegPollPop, RegHubPushNext, LbOpen, LbHubPushNext, LbUnregister, LbHubPushStart, LbRegister, ReqOpen, ReqUnregister, ReqRegister, ReqPollPush, TxmOpen, TxrOpen, TxmUnregister, TxrUnregister, TxmRegister, TxrRegister, TxmUpdate, TxrUpdate, TxmPick, TxrPick, TxmSettle, TxrSettle}

-- a poll's answer: 'nothing', an add of the first field, a removal of the range from the first field to the second
abbrev pub is_nothing : ℕ → Bool
is_nothing a = accepted a && eqb (what a) 0

abbrev pub is_add : ℕ → Bool
is_add a = accepted a && eqb (what a) 1

abbrev pub is_removal : ℕ → Bool
is_removal a = accepted a && eqb (what a) 2

-- ---- what a call is to the registry

pub data Part : Type 0 where
  registers : ℕ → ℕ → Part
  removes : ℕ → Part
  opens polls other : Part

abbrev pub part : Call → Part
part (McqFront c) = other
part (McqBack c) = other
part (McqIsEmpty c) = other
part (McqIsFront e) = other
part (McqIsBack e) = other
part (McqRemove e) = other
part (McqOpen c e) = other
part (McqMoveFront c e) = other
part (McqMoveBack c e) = other
part IqFront = other
part IqBack = other
part (IqContains k) = other
part (IqGet k) = other
part (IqRemove k) = other
part (IqEnqueueFront k) = other
part (IqEnqueueBack k) = other
part (IqDequeue k) = other
part (IqOpen k e) = other
part (IqGetMut k v) = other
part (IqInsert k v) = other
part (RegOpen n) = opens
part (RegUnregister e) = removes e
part (RegHubPushStart x) = other
part (RegRegister e x) = registers e x
part RegPollPop = polls
part RegHubPushNext = other
part LbOpen = other
part LbHubPushNext = other
part (LbUnregister e) = other
part (LbHubPushStart x) = other
part (LbRegister e x) = other
part ReqOpen = other
part (ReqUnregister e) = other
part (ReqRegister e x) = other
part (ReqPollPush x f) = other
part TxmOpen = other
part TxrOpen = other
part (TxmUnregister e) = other
part (TxrUnregister e) = other
part (TxmRegister e x r) = other
part (TxrRegister e r) = other
part (TxmUpdate e r) = other
part (TxrUpdate e r) = other
part (TxmPick mask mtu) = other
part (TxrPick mask mtu) = other
part (TxmSettle frame r p n last) = other
part (TxrSettle frame r p n last) = other

-- ---- document 01's *waiting* and *active*, moved by a call and its answer alone

abbrev pub moved : Part → ℕ → Registered → Registered
moved (registers e x) a r = cond (accepted a) (joined (pair e x) r) r
moved (removes e) a r = cond (accepted a) (taken e r) r
moved polls a r = cond (is_add a || is_nothing a) (activated r.waiting r.active) r
moved opens a r = r
moved other a r = r

-- ---- the image: an update goes in by the image's own calls

abbrev pub put_update : ℕ → List ℕ → List ℕ
put_update a i = cond (is_add a) (image.bytes i (image.add_subject (first a) i)) (cond (is_removal a) (image.bytes i (image.remove_subject_range (first a) (second a) i)) i)

abbrev pub put : Part → ℕ → List ℕ → List ℕ
put (registers e x) a i = i
put (removes e) a i = i
put polls a i = put_update a i
put opens a i = i
put other a i = i

-- a poll's answer is a removal that covers the subject y
abbrev pub covers : Part → ℕ → ℕ → Bool
covers (registers e x) a y = false
covers (removes e) a y = false
covers polls a y = is_removal a && (leb (first a) y && leb y (second a))
covers opens a y = false
covers other a y = false

-- ---- runs

pub record Now : Type 0 where
  pub state : List ℕ
  pub image : List ℕ
  pub registered : Registered

abbrev pub answer : Call → Now → ℕ
answer c w = (does c w.state).answer

abbrev pub after : Call → Now → Now
after c w = record {
  state = (does c w.state).bytes;
  image = put (part c) (answer c w) w.image;
  registered = moved (part c) (answer c w) w.registered;
}

unfoldable pub run : List Call → Now → Now
run [] w = w
run (c ∷ cs) w = run cs (after c w)

-- the state that opening with n slots makes of the bytes b, and the image that opening makes of the bytes i
abbrev pub begin : ℕ → List ℕ → List ℕ → Now
begin n b i = record { state = (does (RegOpen n) b).bytes; image = image.bytes i (image.opening i); registered = lists [] [] }

-- a call opened the registry anew; no call of a list does
abbrev pub is_opened : Part → ℕ → Bool
is_opened (registers e x) a = false
is_opened (removes e) a = false
is_opened polls a = false
is_opened opens a = accepted a
is_opened other a = false

unfoldable pub NotOpened : List Call → Now → Type 0
NotOpened [] w = Unit {0}
NotOpened (c ∷ cs) w = (is_opened (part c) (answer c w) ≡ false) × NotOpened cs (after c w)

-- no removal handed out on the way covers the subject of an entry active at that moment
unfoldable pub Clear : List Call → Now → Type 0
Clear [] w = Unit {0}
Clear (c ∷ cs) w = ((x : ℕ) → covers (part c) (answer c w) x ≡ true → has_subject x w.registered.active ≡ false) × Clear cs (after c w)

-- k polls and nothing else: the updates that they hand out before 'nothing', and whether they say it
unfoldable pub updates : ℕ → Now → ℕ
updates zero w = 0
updates (suc k) w = cond (is_nothing (answer RegPollPop w)) 0 (to_nat (is_add (answer RegPollPop w) || is_removal (answer RegPollPop w)) + updates k (after RegPollPop w))

unfoldable pub says_nothing : ℕ → Now → Bool
says_nothing zero w = false
says_nothing (suc k) w = is_nothing (answer RegPollPop w) || says_nothing k (after RegPollPop w)

-- the number of regular entries registered
abbrev pub entries : Now → ℕ
entries w = length w.registered.waiting + length w.registered.active

-- ---- the theorem

-- of the moment w after a list of calls
pub record Holds (w : Now) : Type 0 where
  -- a poll is not refused
  pub taken : accepted (answer RegPollPop w) ≡ true
  -- if it says 'nothing', the image then has exactly the subjects of registered entries
  pub exact : is_nothing (answer RegPollPop w) ≡ true → (x : ℕ)
      → image.holds (after RegPollPop w).image x ≡ has_subject x ((after RegPollPop w).registered.waiting ++ (after RegPollPop w).registered.active)
  -- polls alone hand out at most n + 1 updates before 'nothing', and say it by the (n + 2)th
  pub few : (k : ℕ) → updates k w ≤ entries w + 1
  pub ends : says_nothing (entries w + 2) w ≡ true

pub record Demand3 : Type 0 where
  pub clear : (n : ℕ) (b i : List ℕ) (cs : List Call) → n ≤ 65535 → length b ≡ regular_length → length i ≡ image_length → NotOpened cs (begin n b i) → Clear cs (begin n b i)
  pub holds : (n : ℕ) (b i : List ℕ) (cs : List Call) → n ≤ 65535 → length b ≡ regular_length → length i ≡ image_length → NotOpened cs (begin n b i) → Holds (run cs (begin n b i))
