-- What the functions of sources do is what the rules of a plan say.
use Rattle.std.proofs.Common.{◌≡◌, ℕ, Bool, List, [], ◌∷◌, ◌++◌, map, refl, sym, ap, ap₂, ◌∙◌, subst, Option, None, Some, option_to_list}
use Rattle.std.proofs.lemmas.List.Kept.{AllPairs-filter}
use Rattle.fixture_world.specs.fixture_calls.Asking.{test_request}
use Rattle.fixture_world.specs.fixture_calls.Calls.{test_called}
use Rattle.fixture_world.specs.fixture_calls.Hooks.{hook_begun}
use Rattle.fixture_world.specs.fixture_calls.declared.failure.Failure.{Failure}
use Rattle.fixture_world.specs.fixture_calls.declared.yields.FixtureEnd.{FixtureEnd}
use Rattle.fixture_world.specs.Items.{closure_of, item_in_session}
use Rattle.hook_order.specs.HookOrder.{InHookOrder, RunsBefore}
use Rattle.hook_order.specs.declared.implementation.Impl.{Impl}
use Rattle.hook_phases.specs.Steps.{IsKnownWhere, behind_implement, item_where}
use Rattle.item_stack.specs.Leaving.{IsNextItem, chain_for}
use Rattle.py_values.specs.declared.value.Value.{Value}
use Rattle.report_parts.specs.Outcomes.{is_raised}
use Rattle.report_parts.specs.declared.outcome.Phase.{Phase as ShownPhase}
use Rattle.report_parts.specs.declared.outcome.Phase.TheVariants as shown
use Rattle.runtest_reports.specs.report_rules.Collected.{CapturedEnd, ends_badly}
use Rattle.run_items.specs.Hooking.{arguments_at, implemented_at}
use Rattle.run_items.specs.Stands.{IsPlan, IsPlannedItem, node_of, object_noted, plan_rules, planned, stand_state}
use Rattle.run_items.specs.declared.plan.Plan.{Plan}
use Rattle.run_items.specs.declared.stand.ItemObject.{ItemObject as StandObject}
use Rattle.run_items.specs.declared.stand.Stand.{Stand}
use Rattle.runtest_reports.specs.Kept.{session_phase}
use Rattle.runtest_reports.specs.Stages.{IsKnownItem, session_item}
use Rattle.fixture_world.specs.runtest_rules.Failures.{fixture_fault, wrong_arguments}
use Rattle.fixture_world.specs.runtest_rules.Language.{python}
use Rattle.fixture_world.specs.runtest_rules.Objects.{instance_of_item, item_object}
use Rattle.fixture_world.specs.runtest_rules.Phases.{phase_ended, phase_of}
use Rattle.fixture_world.specs.runtest_rules.Rules.{hooks_for, implemented_for, impls_of, serves}
use Rattle.session_rules.specs.Hooks.{HookAnswer}
use Rattle.session_rules.specs.Session.{answered, chain_of, gathered, object_made, one_raised, with_new_instance, set_up_by, set_up_item, telling, test_with}
use Rattle.session_rules.specs.Session as session
use Rattle.session_rules.specs.Teardown.{ItemObject, SessionState, Step, emit, in_world, session_step}
use Rattle.session_rules.specs.World.{Language, Teardown, WorldAnswer}
use Rattle.session_rules.specs.World as world
use Rattle.session_types.specs.declared.journal.Event.{Event}
use Rattle.item_stack.specs.setup_stack.declared.stack.SetupStack.{SetupStack}
use Rattle.fixture_world.specs.fixture_calls.source_meaning.Meaning.{SourceWorld}
use Rattle.test_suite.specs.Hooks.{hook_at}
use Rattle.test_suite.specs.Suites.{item_with_node}
use Rattle.test_suite.specs.declared.item.Item.{Item}

-- the objects with one more
pub object_more : (os : List StandObject) (o : StandObject) → map object_noted (os ++ o ∷ []) ≡ map object_noted os ++ object_noted o ∷ []
object_more [] o = refl
object_more (x ∷ os) o = ap (λ (l : List (ItemObject python)). object_noted x ∷ l) (object_more os o)

module _ (plan : Plan) (item : Item) (p : IsPlannedItem plan item) where
  -- THE OBJECTS

  pub opened_same : (s : SessionState python) (own : Option Value) (w : SourceWorld) → (own, w) ≡ instance_of_item item s.world → record s { world = w; instance = own } ≡ with_new_instance (plan_rules plan) (item_in_session plan.table item) s
  opened_same s own w e =
      ap (λ (x : Option Value × SourceWorld). record s { world = x.1; instance = x.0 }) (e ∙ ap (λ (i : Item). instance_of_item i s.world) (sym p.found))

  pub object_same : (s : SessionState python) (v : Value) (w : SourceWorld) (objects : List (ItemObject python)) → (v, w) ≡ item_object item s.world → objects ≡ s.objects ++ record { node = item.node; object = v } ∷ []
      → record s { world = w; objects = objects } ≡ object_made item.node ((plan_rules plan).make_item item.node s.world) s
  object_same s v w objects e more =
      ap (λ (l : List (ItemObject python)). record s { world = w; objects = l }) more
      ∙ ap (λ (x : Value × SourceWorld). record s { world = x.1; objects = s.objects ++ record { node = item.node; object = x.0 } ∷ [] }) (e ∙ ap (λ (i : Item). item_object i s.world) (sym p.found))

  -- THE SET-UP

  pub fault_same : (s : SessionState python) (f : Failure) (w : SourceWorld) → closure_of item.closure ≡ None → (f, w) ≡ fixture_fault item s.world → session_step (f ∷ []) (in_world w s) ≡ set_up_item (plan_rules plan) (item_in_session plan.table item) s
  fault_same s f w none e =
      ap (λ (x : Failure × SourceWorld). session_step (x.0 ∷ []) (in_world x.1 s)) (e ∙ ap (λ (i : Item). fixture_fault i s.world) (sym p.found))
      ∙ ap (λ (o : Option (List ℕ)). set_up_by (plan_rules plan) (item_in_session plan.table item) o s) (sym none)

  -- THE HOOKS

  pub hooks_same : (phase : world.Phase) (hooks : List Impl) → hooks ≡ hooks_for plan.run.suite.hooks item (impls_of plan.run.suite.hooks phase) → hooks ≡ (plan_rules plan).hooks phase item.node
  hooks_same phase hooks e = e ∙ ap (λ (i : Item). hooks_for plan.run.suite.hooks i (impls_of plan.run.suite.hooks phase)) (sym p.found)

  -- those that serve an item stay in hook order
  pub hooks_ordered : IsPlan plan → (phase : world.Phase) (hooks : List Impl) → hooks ≡ hooks_for plan.run.suite.hooks item (impls_of plan.run.suite.hooks phase) → InHookOrder hooks
  hooks_ordered q phase hooks e =
      subst (λ (l : List Impl). InHookOrder l) (sym e) (AllPairs-filter RunsBefore (serves plan.run.suite.hooks item) (impls_of plan.run.suite.hooks phase) (q.hooks phase))

  -- THE IMPLEMENTATIONS BESIDE THOSE OF THE PHASES

  pub implement_same : (next : Option Item) (which : Impl) (s : SessionState python) (given behind : Option Value) (w2 : SourceWorld) (a : HookAnswer Value Failure)
      → given ≡ (arguments_at plan item next which s).item → behind ≡ (arguments_at plan item next which s).next
      → answered {L = python} a w2 ≡ implemented_for plan.run.limit plan.run.suite.hooks item (record { item = given; next = behind }) which s.world → answered {L = python} a w2 ≡ implemented_at plan item next which s
  implement_same next which s given behind w2 a g b e =
      e
      ∙ (ap (λ (i : Item). implemented_for plan.run.limit plan.run.suite.hooks i (record { item = given; next = behind }) which s.world) (sym p.found)
      ∙ ap₂ (λ (x y : Option Value). implemented_for plan.run.limit plan.run.suite.hooks (item_with_node plan.run.suite item.node) (record { item = x; next = y }) which s.world) g b)

  pub gathered_same : (next : Option Item) (which : Impl) (s : SessionState python) (w2 : SourceWorld) (a : HookAnswer Value Failure) (values : List Value) → answered {L = python} a w2 ≡ implemented_at plan item next which s
      → values ≡ s.values ++ gathered (one_raised {L = python} a) → record s { world = w2; values = values } ≡ behind_implement (implemented_at plan item next which s) s
  gathered_same next which s w2 a values e more =
      ap (λ (l : List Value). record s { world = w2; values = l }) more
      ∙ ap (λ (x : WorldAnswer python (HookAnswer Value Failure)). behind_implement x s) e

  -- THE CALL

  pub called_same : (s : SessionState python) (values : List Value) (request : Option Value) (w1 w2 : SourceWorld) (failure : Option Failure)
      → (request, w1) ≡ test_request item s.world → (failure, w2) ≡ test_called plan.run.limit item s.instance values request w1
      → session_step (option_to_list failure) (record s { world = w2; request = request }) ≡ test_with (plan_rules plan) (item_in_session plan.table item) (Some values) s
  called_same s values request w1 w2 failure e f =
      let called : (Option Value × SourceWorld) → Item → (Option Failure × SourceWorld) = λ x i. test_called plan.run.limit i s.instance values x.0 x.1 in
      ap (λ (y : Option Failure × SourceWorld). session_step (option_to_list y.0) (record s { world = y.1; request = request })) (f ∙ ap (λ (i : Item). called (request, w1) i) (sym p.found))
      ∙ ap (λ (x : Option Value × SourceWorld). session_step (option_to_list (called x (item_with_node plan.run.suite item.node)).0) (record s { world = (called x (item_with_node plan.run.suite item.node)).1; request = x.0 }))
      (e ∙ ap (λ (i : Item). test_request i s.world) (sym p.found))

  pub wrong_same : (s : SessionState python) (f : Failure) (w : SourceWorld) → (f, w) ≡ wrong_arguments item s.world → session_step (option_to_list (Some f)) (in_world w s) ≡ test_with (plan_rules plan) (item_in_session plan.table item) None s
  wrong_same s f w e =
      ap (λ (x : Failure × SourceWorld). session_step (x.0 ∷ []) (in_world x.1 s)) (e ∙ ap (λ (i : Item). wrong_arguments i s.world) (sym p.found))

  -- THE END OF A PHASE

  phase_same : (phase : ShownPhase) → phase_of phase ≡ session_phase phase
  phase_same shown.Setup = refl
  phase_same shown.Call = refl
  phase_same shown.Teardown = refl

  pub ended_by : (phase : ShownPhase) (raised : List Failure) (s : SessionState python) (x : CapturedEnd × SourceWorld) → x ≡ phase_ended (phase_of phase) item raised s.world
      → x ≡ phase_ended (session_phase phase) (item_with_node plan.run.suite item.node) raised s.world
  ended_by phase raised s x e =
      e ∙ (ap (λ (q : world.Phase). phase_ended q item raised s.world) (phase_same phase) ∙ ap (λ (i : Item). phase_ended (session_phase phase) i raised s.world) (sym p.found))

  -- whether a teardown that raised these is an error
  pub fails_same : (raised : List Failure) (s : SessionState python) (error : Bool) → error ≡ ends_badly Teardown (phase_ended Teardown item raised s.world).0
      → error ≡ is_raised (telling (plan_rules plan) Teardown (item_in_session plan.table item) (session_step raised s)).told.end
  fails_same raised s error e = e ∙ ap (λ (i : Item). ends_badly Teardown (phase_ended Teardown i raised s.world).0) (sym p.found)

-- a wrapper begins with the objects of the item and the next
pub begun_same : (plan : Plan) (item : Item) (next : Option Item) (which : Impl) (s : SessionState python) (given behind : Option Value) (begun : FixtureEnd × SourceWorld)
    → given ≡ (arguments_at plan item next which s).item → behind ≡ (arguments_at plan item next which s).next
    → begun ≡ hook_begun plan.run.limit (hook_at plan.run.suite.hooks which.code) given behind s.world
    → begun ≡ hook_begun plan.run.limit (hook_at plan.run.suite.hooks which.code) (arguments_at plan item next which s).item (arguments_at plan item next which s).next s.world
begun_same plan item next which s given behind begun g b e = e ∙ ap₂ (λ (x y : Option Value). hook_begun plan.run.limit (hook_at plan.run.suite.hooks which.code) x y s.world) g b

-- an event is noted
pub noted_same : (s : Stand) (k : SetupStack Value Failure ℕ) (e f : Event) → k ≡ record s.stack.stack { events = k.events } → k.events ≡ s.stack.stack.events ++ e ∷ [] → e ≡ f
    → stand_state (record s { stack = record s.stack { stack = k } }) ≡ emit f (stand_state s)
noted_same s k e f same more q =
    ap (λ (t : SetupStack Value Failure ℕ). stand_state (record s { stack = record s.stack { stack = t } })) same
    ∙ (ap (λ (es : List Event). record (stand_state s) { events = es }) more
    ∙ ap (λ (x : Event). emit x (stand_state s)) q)

-- the events around a hook call
pub call_same : {L : Language} (act : SessionState L → Step L) (b e : Event) (s t u v : SessionState L) (raised : List L.Thrown) → t ≡ emit b s → session_step raised u ≡ act t → v ≡ emit e u
    → session_step raised v ≡ session.emitted e (act (emit b s))
call_same {L} act b e s t u v raised h k l =
    ap (λ (x : SessionState L). session_step raised x) l ∙ ap (λ (r : Step L). session.emitted e r) (k ∙ ap act h)

-- THE NEXT ITEM

pub next_stands : (plan : Plan) (next : Option Item) → IsKnownWhere (IsPlannedItem plan) next → IsNextItem plan.table (node_of next)
next_stands plan None k = tt
next_stands plan (Some item) k = k.node

pub next_chain : (plan : Plan) (next : Option Item) → chain_for plan.table (node_of next) ≡ chain_of (item_where (item_in_session plan.table) next)
next_chain plan None = refl
next_chain plan (Some item) = refl

-- a stage and its hooks know of items alike
pub known_where : (plan : Plan) (next : Option Item) → IsKnownItem (IsPlannedItem plan) next → IsKnownWhere (IsPlannedItem plan) next
known_where plan None k = k
known_where plan (Some item) k = k

pub next_item_same : (plan : Plan) (next : Option Item) → item_where (item_in_session plan.table) next ≡ session_item (planned plan) next
next_item_same plan None = refl
next_item_same plan (Some item) = refl
