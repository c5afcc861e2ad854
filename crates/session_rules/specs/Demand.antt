-- What a demand for a fixture does and answers (pytest's fixture guide, "Fixtures can request other fixtures", "Fixtures can be
-- requested more than once per test (return values are cached)", "Automatic grouping of tests by fixture instances").
use Rattle.std.specs.Prelude.{ℕ, zero, suc, ◌+◌, ◌==◌, Bool, true, false, List, [], ◌∷◌, ◌++◌, Option, Some, None, map, if◌then◌else◌}
use Rattle.session_types.specs.declared.journal.Made.{Made}
use Rattle.session_types.specs.declared.journal.Event.{Event}
use Rattle.session_types.specs.declared.journal.Event.TheVariants.{Up, UpFailed}
use Rattle.session_types.specs.Live.{find, dependents}
use Rattle.session_types.specs.Numbers.{joined, with_number}
use Rattle.session_rules.specs.World.{Language, Rules, Item, Slot, LiveInstance, SetUpEnd, Value, Failure, BodyEnd, Returned, Yielded, Raised, NewException, NewRequest}
use Rattle.session_rules.specs.Teardown.{Grant, SessionState, Step, down_all, in_world}

-- the answer to a demand: what was given, or the exceptions
pub data Answer (L : Language) : Type 0 where
  Given : Grant L → Answer L
  Refused : List L.Thrown → Answer L

pub record Reply (L : Language) : Type 0 where
  pub answer : Answer L
  pub state : SessionState L

abbrev pub reply : {L : Language} → Answer L → SessionState L → Reply L
reply a s = record { answer = a; state = s }

-- the answers to the demands of a list, or the first fault
pub data JointAnswer (L : Language) : Type 0 where
  AllGiven : List (Grant L) → JointAnswer L
  OneRefused : List L.Thrown → JointAnswer L

pub record Replies (L : Language) : Type 0 where
  pub answers : JointAnswer L
  pub state : SessionState L

abbrev pub replies : {L : Language} → JointAnswer L → SessionState L → Replies L
replies a s = record { answers = a; state = s }

abbrev pub ask_next : {L : Language} → (List (Grant L) → SessionState L → Replies L) → List (Grant L) → Answer L → SessionState L → Replies L
ask_next rest given (Given i) s = rest (given ++ i ∷ []) s
ask_next rest given (Refused es) s = replies (OneRefused es) s

-- each in order, behind those that were given; the first fault is the answer
abbrev pub ask_all : {L : Language} → (ℕ → SessionState L → Reply L) → List ℕ → List (Grant L) → SessionState L → Replies L
ask_all ask [] given s = replies (AllGiven given) s
ask_all ask (d ∷ ds) given s = ask_next (ask_all ask ds) given (ask d s).answer (ask d s).state

-- the numbers of these, each once
abbrev pub numbers_of : {L : Language} → List (Grant L) → List ℕ → List ℕ
numbers_of [] ks = ks
numbers_of (i ∷ is) ks = numbers_of is (with_number i.order ks)

-- the numbers of these and of all on which they depend, each once, the greatest first
abbrev pub kept_of : {L : Language} → List (Grant L) → List ℕ → List ℕ
kept_of [] ks = ks
kept_of (i ∷ is) ks = kept_of is (joined i.bases (joined (i.order ∷ []) ks))

abbrev pub values_of : {L : Language} → List (Grant L) → List L.Value
values_of given = map (λ i. i.value) given

abbrev pub got : {L : Language} → L.Value → LiveInstance L → Grant L
got v i = record { def = i.def; order = i.order; value = v; bases = i.bases }

-- the exception that a failed set-up kept is raised again
abbrev pub answer_of : {L : Language} → LiveInstance L → SetUpEnd L → Answer L
answer_of i (Value v) = Given (got v i)
answer_of i (Failure e) = Refused (e ∷ [])

abbrev pub made_of : {L : Language} → List ℕ → LiveInstance L → Made
made_of bases i = record { n = i.order; def = i.def; param = i.param; node = i.node; bases = bases }

abbrev pub event_of : {L : Language} → List ℕ → LiveInstance L → SetUpEnd L → Event
event_of bases i (Value v) = Up (made_of bases i)
event_of bases i (Failure e) = UpFailed (made_of bases i)

-- one comes up, or fails to; its bases are what its arguments were given
abbrev pub born : {L : Language} → List ℕ → LiveInstance L → L.World → SessionState L → Reply L
born bases i w s = reply (answer_of i i.slot.kept) (record s { world = w; live = s.live ++ i ∷ []; next = s.next + 1; events = s.events ++ event_of bases i i.slot.kept ∷ [] })

-- what is kept of one whose function ended, and the world behind it
pub record NewInstance (L : Language) : Type 0 where
  pub held : Slot L
  pub world : L.World

abbrev pub making : {L : Language} → SetUpEnd L → Option L.Rest → Option L.Value → L.World → NewInstance L
making kept rest request w = record { held = record { kept = kept; rest = rest; request = request }; world = w }

abbrev pub failed_instance : {L : Language} → Option L.Value → NewException L → NewInstance L
failed_instance request t = making (Failure t.thrown) None request t.world

-- a function without `yield` gives what it returns. One with a `yield` is frozen there; where it ends without, it fails
abbrev pub making_of : {L : Language} → Rules L → ℕ → Option L.Value → BodyEnd L → L.World → NewInstance L
making_of rules d request (Yielded v rest) w = making (Value v) (Some rest) request w
making_of rules d request (Raised e) w = making (Failure e) None request w
making_of rules d request (Returned v) w = if rules.yields d then failed_instance request (rules.did_not_yield d w) else making (Value v) None request w

abbrev pub call_fixture_func : {L : Language} → Rules L → Item → ℕ → List (Grant L) → Option L.Value → NewRequest L → NewInstance L
call_fixture_func rules item d given own a =
    making_of rules d a.request (rules.begin item.node d (item.parameter d) own (values_of given) a.request a.world).how
    (rules.begin item.node d (item.parameter d) own (values_of given) a.request a.world).world

-- the instance that is made for d with these arguments
abbrev pub fresh : {L : Language} → Rules L → Item → ℕ → List (Grant L) → ℕ → Slot L → LiveInstance L
fresh rules item d given n held =
    record {
      def = d;
      param = item.parameter d;
      node = item.place d;
      scope = rules.scope d;
      order = n;
      bases = kept_of given [];
      slot = held;
    }

abbrev pub instance_reply : {L : Language} → Rules L → Item → ℕ → List (Grant L) → NewInstance L → SessionState L → Reply L
instance_reply rules item d given m s = born (numbers_of given []) (fresh rules item d given s.next m.held) m.world s

abbrev pub set_up : {L : Language} → Rules L → Item → ℕ → List (Grant L) → SessionState L → Reply L
set_up rules item d given s = instance_reply rules item d given (call_fixture_func rules item d given s.instance (rules.ask item.node d (item.parameter d) s.world)) s

-- where the old one is gone: where teardowns raised, these exceptions are the answer
abbrev pub set_up_after : {L : Language} → Rules L → Item → ℕ → List (Grant L) → List L.Thrown → SessionState L → Reply L
set_up_after rules item d given [] s = set_up rules item d given s
set_up_after rules item d given (x ∷ xs) s = reply (Refused (x ∷ xs)) s

abbrev pub replace : {L : Language} → Rules L → Item → ℕ → List (Grant L) → Step L → Reply L
replace rules item d given r = set_up_after rules item d given r.raised r.state

abbrev pub is_same : Option ℕ → Option ℕ → Bool
is_same None None = true
is_same None (Some y) = false
is_same (Some x) None = false
is_same (Some x) (Some y) = x == y

-- none lives on its scope node: it is made. One lives with the same parameter: it answers, or its kept exception does. One lives
-- with another parameter: it goes down with all that depend on it, and then it is made
abbrev pub settle : {L : Language} → Rules L → Item → ℕ → List (Grant L) → Option (LiveInstance L) → SessionState L → Reply L
settle rules item d given None s = set_up rules item d given s
settle rules item d given (Some i) s =
    if is_same i.param (item.parameter d)
    then reply (answer_of i i.slot.kept) s
    else replace rules item d given (down_all rules (dependents i.order s.live) s)

abbrev pub with_arguments : {L : Language} → Rules L → Item → ℕ → JointAnswer L → SessionState L → Reply L
with_arguments rules item d (AllGiven given) s = settle rules item d given (find d (item.place d) s.live) s
with_arguments rules item d (OneRefused es) s = reply (Refused es) s

abbrev pub answer_with : {L : Language} → Rules L → Item → ℕ → Replies L → Reply L
answer_with rules item d r = with_arguments rules item d r.answers r.state

abbrev pub fault_reply : {L : Language} → NewException L → SessionState L → Reply L
fault_reply t s = reply (Refused (t.thrown ∷ [])) (in_world t.world s)

-- its arguments are demanded in order, and then it is found or made. What asks `depth` deep asks for itself: that is a fault of
-- the item's closure
abbrev pub demand : {L : Language} → Rules L → Item → ℕ → ℕ → SessionState L → Reply L
demand rules item zero d s = fault_reply (rules.fault item.node s.world) s
demand rules item (suc depth) d s = answer_with rules item d (ask_all (demand rules item depth) (item.requests d) [] s)
