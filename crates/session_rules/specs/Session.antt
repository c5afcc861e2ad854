-- The three phases of an item, and a session (pytest's reference, "Test running (runtest) hooks").
use Rattle.std.specs.Prelude.{ℕ, ◌+◌, ◌==◌, nat_le, nat_lt, Bool, true, false, ◌&&◌, List, [], ◌∷◌, ◌++◌, length, drop, Option, Some, None, if◌then◌else◌}
use Rattle.std.specs.Option.{option_to_list}
use Rattle.hook_order.specs.declared.implementation.Impl.{Impl}
use Rattle.session_types.specs.declared.journal.Event.{Event}
use Rattle.session_types.specs.declared.journal.Event.TheVariants.{CallBegins, CallEnds}
use Rattle.session_types.specs.Live.{not_on}
use Rattle.session_rules.specs.Hooks.{HookAnswer, HookGave, HookRaised, HookInner, AllValues, InnerGave, InnerRaised, HookMessage, SentValues, SentValue, SentRaise, HookBeginning, AtYield, OpenRaised, HookStep, HookRunner, HookEnd, hook_call}
use Rattle.session_rules.specs.World.{Language, Rules, Item, Phase, SetUp, Call, Teardown, BodyEnd, Returned, Yielded, Raised, BodyOutcome, CallOutcome, NewException, NewRequest, ClosedRequest, WorldAnswer, Exceptions, Frame, HookArguments, Account}
use Rattle.session_rules.specs.Teardown.{Grant, PhaseEnd, ItemObject, SessionState, Step, session_step, in_world, emit, also_raised, torn, finalize_all, closed_request, down_all}
use Rattle.session_rules.specs.Demand.{Answer, Given, Refused, demand, numbers_of}

-- HOOKS AROUND A BUILT-IN

-- the built-in implementations have these numbers of registration; 0 is the one that skips
abbrev pub built_in : Phase → ℕ
built_in SetUp = 1
built_in Call = 2
built_in Teardown = 3

abbrev pub raise_if_any : {L : Language} → List L.Thrown → HookAnswer L.Value (Exceptions L)
raise_if_any [] = HookGave None
raise_if_any (e ∷ es) = HookRaised (record { first = e; more = es })

abbrev pub did_step : {L : Language} → Step L → HookStep (SessionState L) (HookAnswer L.Value (Exceptions L))
did_step r = record { answer = raise_if_any r.raised; state = r.state }

-- one exception
abbrev pub single_exception : {L : Language} → L.Thrown → Exceptions L
single_exception e = record { first = e; more = [] }

abbrev pub one_raised : {L : Language} → HookAnswer L.Value L.Thrown → HookAnswer L.Value (Exceptions L)
one_raised (HookGave value) = HookGave value
one_raised (HookRaised e) = HookRaised (single_exception e)

abbrev pub answered : {L : Language} {A : Type 0} → A → L.World → WorldAnswer L A
answered a w = record { answer = a; world = w }

abbrev pub implemented : {L : Language} → WorldAnswer L (HookAnswer L.Value L.Thrown) → WorldAnswer L (HookAnswer L.Value (Exceptions L))
implemented a = answered (one_raised a.answer) a.world

abbrev pub opening_threw : {L : Language} → NewException L → WorldAnswer L (HookBeginning (Frame L) (Exceptions L))
opening_threw t = answered (OpenRaised (single_exception t.thrown)) t.world

-- how the beginning of a wrapper ended; one that ends without yielding has raised
abbrev pub opening : {L : Language} → Rules L → Impl → BodyEnd L → L.World → WorldAnswer L (HookBeginning (Frame L) (Exceptions L))
opening rules which (Yielded v rest) w = answered (AtYield (record { which = which; rest = rest })) w
opening rules which (Raised e) w = answered (OpenRaised (single_exception e)) w
opening rules which (Returned v) w = opening_threw (rules.wrapper_did_not_yield which w)

-- what a wrapper gets; of several exceptions the first
abbrev pub sent_to_wrapper : {L : Language} → List L.Value → HookInner L.Value (Exceptions L) → HookMessage L.Value L.Thrown
sent_to_wrapper values AllValues = SentValues values
sent_to_wrapper values (InnerGave value) = SentValue value
sent_to_wrapper values (InnerRaised e) = SentRaise e.first

-- where the exception that leaves a wrapper is the one that it got, all are handed on; else it replaces them
abbrev pub left_by : {L : Language} → Rules L → HookInner L.Value (Exceptions L) → L.Thrown → Exceptions L
left_by rules AllValues e = single_exception e
left_by rules (InnerGave value) e = single_exception e
left_by rules (InnerRaised r) e = if rules.is_same_object e r.first then r else single_exception e

abbrev pub resuming_threw : {L : Language} → NewException L → WorldAnswer L (HookAnswer L.Value (Exceptions L))
resuming_threw t = answered (HookRaised (single_exception t.thrown)) t.world

-- how what remained of a wrapper ended; one that yields again is given up and has raised
abbrev pub resuming : {L : Language} → Rules L → Impl → HookInner L.Value (Exceptions L) → BodyEnd L → L.World → WorldAnswer L (HookAnswer L.Value (Exceptions L))
resuming rules which inner (Returned v) w = answered (HookGave (rules.unless_none v)) w
resuming rules which inner (Raised e) w = answered (HookRaised (left_by rules inner e)) w
resuming rules which inner (Yielded v rest) w = resuming_threw (rules.wrapper_yielded_again which (rules.abandon rest w))

abbrev pub opening_of : {L : Language} → Rules L → Impl → BodyOutcome L → WorldAnswer L (HookBeginning (Frame L) (Exceptions L))
opening_of rules which o = opening rules which o.how o.world

abbrev pub resuming_of : {L : Language} → Rules L → Impl → HookInner L.Value (Exceptions L) → BodyOutcome L → WorldAnswer L (HookAnswer L.Value (Exceptions L))
resuming_of rules which inner o = resuming rules which inner o.how o.world

abbrev pub did_world : {L : Language} {A : Type 0} → SessionState L → WorldAnswer L A → HookStep (SessionState L) A
did_world s a = record { answer = a.answer; state = in_world a.world s }

-- the value that was given, unless it is None
abbrev pub gathered : {V E : Type 0} → HookAnswer V E → List V
gathered (HookGave value) = option_to_list value
gathered (HookRaised e) = []

abbrev pub did_call : {L : Language} → SessionState L → WorldAnswer L (HookAnswer L.Value (Exceptions L)) → HookStep (SessionState L) (HookAnswer L.Value (Exceptions L))
did_call s a = record { answer = a.answer; state = record s { world = a.world; values = s.values ++ gathered a.answer } }

-- the `item` object of a node, where it was made
abbrev pub object_of : {L : Language} → ℕ → List (ItemObject L) → Option L.Value
object_of node [] = None
object_of node (o ∷ os) = if node == o.node then Some o.object else object_of node os

abbrev pub object_of_next : {L : Language} → Option ℕ → List (ItemObject L) → Option L.Value
object_of_next None os = None
object_of_next (Some node) os = object_of node os

abbrev pub hook_arguments : {L : Language} → Item → Option ℕ → SessionState L → HookArguments L
hook_arguments item next s = record { item = object_of item.node s.objects; next = object_of_next next s.objects }

abbrev pub object_made : {L : Language} → ℕ → WorldAnswer L L.Value → SessionState L → SessionState L
object_made node a s = record s { world = a.world; objects = s.objects ++ record { node = node; object = a.answer } ∷ [] }

-- each item has one `item` object in a session, which is made where a hook call first wants it
abbrev pub make_missing_object : {L : Language} → Rules L → ℕ → Option L.Value → SessionState L → SessionState L
make_missing_object rules node None s = object_made node (rules.make_item node s.world) s
make_missing_object rules node (Some object) s = s

abbrev pub with_item_object : {L : Language} → Rules L → ℕ → SessionState L → SessionState L
with_item_object rules node s = make_missing_object rules node (object_of node s.objects) s

abbrev pub with_nextitem : {L : Language} → Rules L → Option ℕ → SessionState L → SessionState L
with_nextitem rules None s = s
with_nextitem rules (Some node) s = with_item_object rules node s

-- before a hook call: the objects are there, and no value is gathered
abbrev pub ready : {L : Language} → Rules L → Item → Option ℕ → SessionState L → SessionState L
ready rules item next s = record (with_nextitem rules next (with_item_object rules item.node s)) { values = [] }

-- the built-in implementation does what it is given, and all others act on the world
abbrev pub runner_of : {L : Language} → Rules L → Phase → Item → Option ℕ → (SessionState L → Step L) → HookRunner (SessionState L) L.Value (Exceptions L) (Frame L)
runner_of rules phase item next built =
    record {
      call = λ which s. if which.registered == built_in phase then did_step (built s) else did_call s (implemented (rules.implement phase item.node (hook_arguments item next s) which s.world));
      begin = λ which s. did_world s (opening_of rules which (rules.open_wrapper phase item.node (hook_arguments item next s) which s.world));
      resume = λ frame inner s. did_world s (resuming_of rules frame.which inner (rules.resume_wrapper phase item.node frame.rest (sent_to_wrapper s.values inner) s.world));
    }

abbrev pub raised_of : {L : Language} → HookInner L.Value (Exceptions L) → List L.Thrown
raised_of AllValues = []
raised_of (InnerGave value) = []
raised_of (InnerRaised e) = e.first ∷ e.more

abbrev pub hooked : {L : Language} → HookEnd (SessionState L) L.Value (Exceptions L) → Step L
hooked h = session_step (raised_of h.outcome) h.state

-- the hook call of a phase; `next` is the next item, for the hooks of a teardown
abbrev pub in_hooks : {L : Language} → Rules L → Phase → Item → Option ℕ → (SessionState L → Step L) → SessionState L → Step L
in_hooks rules phase item next built s = hooked (hook_call (runner_of rules phase item next built) (rules.hooks phase item.node) (ready rules item next s))

-- THE END OF A PHASE

abbrev pub as_count : Bool → ℕ
as_count b = if b then 1 else 0

-- its own events are those behind the events of earlier phases
abbrev pub end_of : {L : Language} → Phase → Item → L.Told → Step L → PhaseEnd L
end_of phase item told r = record { phase = phase; item = item.node; raised = r.raised; told = told; events = drop r.state.told r.state.events }

-- what a phase tells is kept, and counted where it is a failure or an error
abbrev pub ended_with : {L : Language} → Phase → Item → Account L → Step L → Step L
ended_with {L} phase item t r =
    session_step r.raised (record r.state {
      world = t.world;
      ends = r.state.ends ++ end_of phase item t.told r ∷ [];
      told = length r.state.events;
      bad = r.state.bad + as_count (L.is_bad phase t.told);
    })

abbrev pub telling : {L : Language} → Rules L → Phase → Item → Step L → Account L
telling rules phase item r = rules.end_phase phase item.node r.raised r.state.world

abbrev pub phase_finished : {L : Language} → Rules L → Phase → Item → Step L → Step L
phase_finished rules phase item r = ended_with phase item (telling rules phase item r) r

-- the failures and errors with those of a phase that ends so
abbrev pub bad_behind : {L : Language} → Rules L → Phase → Item → Step L → ℕ
bad_behind {L} rules phase item r = r.state.bad + as_count (L.is_bad phase (telling rules phase item r).told)

-- whether so many failures and errors reach a maxfail above 0
abbrev pub reaches : ℕ → ℕ → Bool
reaches maxfail bad = nat_lt 0 maxfail && nat_le maxfail bad

abbrev pub has_reached : {L : Language} → ℕ → SessionState L → Bool
has_reached maxfail s = reaches maxfail s.bad

-- SET-UP

abbrev pub with_grant : {L : Language} → Grant L → SessionState L → SessionState L
with_grant i s = record s { given = s.given ++ i ∷ [] }

abbrev pub demand_next : {L : Language} → (SessionState L → Step L) → Answer L → SessionState L → Step L
demand_next rest (Given i) s = rest (with_grant i s)
demand_next rest (Refused es) s = session_step es s

abbrev pub demand_closure : {L : Language} → Rules L → Item → List ℕ → SessionState L → Step L
demand_closure rules item [] s = session_step [] s
demand_closure rules item (d ∷ ds) s = demand_next (demand_closure rules item ds) (demand rules item rules.depth d s).answer (demand rules item rules.depth d s).state

abbrev pub faulted : {L : Language} → SessionState L → NewException L → Step L
faulted s t = session_step (t.thrown ∷ []) (in_world t.world s)

-- a fault of the closure is raised before any demand
abbrev pub set_up_by : {L : Language} → Rules L → Item → Option (List ℕ) → SessionState L → Step L
set_up_by rules item None s = faulted s (rules.fault item.node s.world)
set_up_by rules item (Some ds) s = demand_closure rules item ds s

abbrev pub set_up_item : {L : Language} → Rules L → Item → SessionState L → Step L
set_up_item rules item s = set_up_by rules item item.closure s

abbrev pub set_up_phase : {L : Language} → Rules L → Item → SessionState L → Step L
set_up_phase rules item s = phase_finished rules SetUp item (in_hooks rules SetUp item None (set_up_item rules item) s)

-- CALL

-- the value that answered a definition's demand
abbrev pub value_for : {L : Language} → ℕ → List (Grant L) → Option L.Value
value_for d [] = None
value_for d (i ∷ is) = if d == i.def then Some i.value else value_for d is

abbrev pub value_of_argument : {L : Language} → List (Grant L) → Option ℕ → Option L.Value
value_of_argument given None = None
value_of_argument given (Some d) = value_for d given

abbrev pub with_value : {V : Type 0} → Option V → Option (List V) → Option (List V)
with_value None vs = None
with_value (Some v) None = None
with_value (Some v) (Some vs) = Some (v ∷ vs)

-- the values of a test's arguments, where each has one
abbrev pub values_for : {L : Language} → List (Grant L) → List (Option ℕ) → Option (List L.Value)
values_for given [] = Some []
values_for given (a ∷ others) = with_value (value_of_argument given a) (values_for given others)

abbrev pub tested : {L : Language} → SessionState L → Option L.Value → CallOutcome L → Step L
tested s request a = session_step (option_to_list a.raised) (record s { world = a.world; request = request })

abbrev pub test_asked : {L : Language} → Rules L → Item → List L.Value → SessionState L → NewRequest L → Step L
test_asked rules item values s a = tested s a.request (rules.test item.node s.instance values a.request a.world)

-- where a wrapper swallowed a fault of the set-up, an argument may have no value
abbrev pub test_with : {L : Language} → Rules L → Item → Option (List L.Value) → SessionState L → Step L
test_with rules item None s = faulted s (rules.wrong_arguments item.node s.world)
test_with rules item (Some values) s = test_asked rules item values s (rules.ask_test item.node s.world)

abbrev pub pyfunc_call : {L : Language} → Rules L → Item → SessionState L → Step L
pyfunc_call rules item s = test_with rules item (values_for s.given item.arguments) s

abbrev pub emitted : {L : Language} → Event → Step L → Step L
emitted e r = session_step r.raised (emit e r.state)

abbrev pub call_item : {L : Language} → Rules L → Item → SessionState L → SessionState L
call_item rules item s =
    (phase_finished rules Call item (emitted (CallEnds item.node) (in_hooks rules Call item None (pyfunc_call rules item) (emit (CallBegins item.node (numbers_of s.given [])) s)))).state

-- where the set-up passed
abbrev pub call_after : {L : Language} → Rules L → Item → List L.Thrown → SessionState L → SessionState L
call_after rules item [] s = call_item rules item s
call_after rules item (x ∷ xs) s = s

abbrev pub call_phase : {L : Language} → Rules L → Item → Step L → SessionState L
call_phase rules item r = call_after rules item r.raised r.state

-- TEARDOWN

abbrev pub chain_of : Option Item → List ℕ
chain_of None = []
chain_of (Some item) = item.chain

abbrev pub node_of : Option Item → Option ℕ
node_of None = None
node_of (Some item) = Some item.node

-- the test's own finalizers, latest first; from here on its `request` takes no others
abbrev pub finalized : {L : Language} → Rules L → ClosedRequest L → SessionState L → Step L
finalized rules c s =
    session_step (finalize_all rules c.finalizers (torn [] c.world)).raised
    (record s { world = (finalize_all rules c.finalizers (torn [] c.world)).world; request = None })

abbrev pub finalize_own : {L : Language} → Rules L → SessionState L → Step L
finalize_own rules s = finalized rules (closed_request rules s.request s.world) s

-- what isn't for the next item goes down, with all that depend on it
abbrev pub down_off : {L : Language} → Rules L → List ℕ → Step L → Step L
down_off rules chain r = also_raised r.raised (down_all rules (not_on chain r.state.live) (record r.state { given = []; left = true }))

abbrev pub leave : {L : Language} → Rules L → Option Item → SessionState L → Step L
leave rules next s = down_off rules (chain_of next) (finalize_own rules s)

-- where a hook call stands: in a phase of an item, and at a teardown before the next item
pub record HookPlace : Type 0 where
  pub phase : Phase
  pub item : Item
  pub next : Option Item

-- what the built-in implementation of a phase does
abbrev pub built_of : {L : Language} → Rules L → Phase → Item → Option Item → SessionState L → Step L
built_of rules SetUp item next s = set_up_item rules item s
built_of rules Call item next s = pyfunc_call rules item s
built_of rules Teardown item next s = leave rules next s

-- the runner of the hook call of a phase
abbrev pub hook_runner : {L : Language} → Rules L → HookPlace → HookRunner (SessionState L) L.Value (Exceptions L) (Frame L)
hook_runner rules place = runner_of rules place.phase place.item (node_of place.next) (built_of rules place.phase place.item place.next)

-- where the built-in wasn't reached it is done right behind the hook call
abbrev pub leave_behind : {L : Language} → Rules L → Option Item → Step L → Step L
leave_behind rules next r = if r.state.left then r else also_raised r.raised (leave rules next r.state)

abbrev pub torn_down : {L : Language} → Rules L → Item → Option Item → SessionState L → Step L
torn_down rules item next s = leave_behind rules next (in_hooks rules Teardown item (node_of next) (leave rules next) (record s { left = false }))

-- where this phase makes the failures and errors reach maxfail, all that lives goes down
abbrev pub all_down : {L : Language} → Rules L → ℕ → Item → Step L → Step L
all_down rules maxfail item r = if reaches maxfail (bad_behind rules Teardown item r) then also_raised r.raised (down_all rules r.state.live r.state) else r

abbrev pub next_of : List Item → Option Item
next_of [] = None
next_of (item ∷ items) = Some item

-- there is no next item where maxfail has been reached
abbrev pub next_unless : Bool → List Item → Option Item
next_unless true items = None
next_unless false items = next_of items

abbrev pub teardown_ended : {L : Language} → Rules L → ℕ → Item → Step L → SessionState L
teardown_ended rules maxfail item r = (phase_finished rules Teardown item (all_down rules maxfail item r)).state

abbrev pub teardown_phase : {L : Language} → Rules L → ℕ → Item → List Item → SessionState L → SessionState L
teardown_phase rules maxfail item items s = teardown_ended rules maxfail item (torn_down rules item (next_unless (has_reached maxfail s) items) s)

-- ITEMS AND SESSIONS

abbrev pub with_instance : {L : Language} → WorldAnswer L (Option L.Value) → SessionState L → SessionState L
with_instance a s = record s { world = a.world; instance = a.answer }

-- an item begins with a new instance of its class
abbrev pub with_new_instance : {L : Language} → Rules L → Item → SessionState L → SessionState L
with_new_instance rules item s = with_instance (rules.make_instance item.node s.world) s

abbrev pub run_item : {L : Language} → Rules L → ℕ → Item → List Item → SessionState L → SessionState L
run_item rules maxfail item items s = teardown_phase rules maxfail item items (call_phase rules item (set_up_phase rules item (with_new_instance rules item s)))

-- the items in order, as far as maxfail lets them
abbrev pub session : {L : Language} → Rules L → ℕ → List Item → SessionState L → SessionState L
session rules maxfail [] s = s
session rules maxfail (item ∷ items) s =
    if has_reached maxfail (run_item rules maxfail item items s) then run_item rules maxfail item items s
    else session rules maxfail items (run_item rules maxfail item items s)

-- no live instance and no event
abbrev pub initial_state : {L : Language} → L.World → SessionState L
initial_state w =
    record {
      world = w;
      live = [];
      next = 0;
      events = [];
      instance = None;
      objects = [];
      values = [];
      given = [];
      request = None;
      left = false;
      ends = [];
      told = 0;
      bad = 0;
    }

-- whether the session stopped early
abbrev pub has_stopped : {L : Language} → ℕ → SessionState L → Bool
has_stopped maxfail s = has_reached maxfail s
