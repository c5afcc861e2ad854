-- WHAT A STACK KNOWS of the fixtures of its table, and the rules by which it sets them up.
use Rattle.std.specs.Prelude.{◌≡◌, ℕ, ◌<◌, Bool, true, false, List, [], ◌∷◌, Option, Some, None, is_some, length, map, slice_get, if◌then◌else◌}
use Rattle.collect_names.specs.Objects.{function_at, object_in}
use Rattle.fixture_definitions.specs.Arguments.{arguments_asked, defined_at}
use Rattle.fixture_instances.specs.Resting.{AreSpent}
use Rattle.fixture_instances.specs.declared.items.BoundValue.{BoundValue}
use Rattle.fixture_instances.specs.declared.items.ItemParam.{ItemParam}
use Rattle.fixture_instances.specs.declared.items.ItemRef.{ItemRef}
use Rattle.fixture_table.specs.Nearest.{def_at}
use Rattle.fixture_table.specs.Tree.{IsTree}
use Rattle.fixture_table.specs.declared.types.FixtureDef.{FixtureDef}
use Rattle.py_world.specs.Resuming.{is_out}
use Rattle.py_values.specs.declared.object.FunctionObj.{FunctionObj}
use Rattle.py_values.specs.declared.object.Obj.{Obj}
use Rattle.py_values.specs.declared.value.Value.{Value}
use Rattle.py_values.specs.declared.value.Value.TheVariants as val
use Rattle.run_items.specs.Stands.{IsNewStand, stand_state}
use Rattle.run_items.specs.declared.stand.Stand.{Stand}
use Rattle.run_items.specs.source_meaning.Meaning.{SourceWorld}
use Rattle.run_items.specs.runtest_rules.Language.{python}
use Rattle.run_items.specs.runtest_rules.Rules.{rules_within}
use Rattle.session_rules.specs.Frames.{StandsWith}
use Rattle.session_rules.specs.World.{Rules}
use Rattle.session_types.specs.declared.journal.Event.{Event}
use Rattle.session_types.specs.declared.scope.Scope.{Scope}
use Rattle.test_suite.specs.Hooks.{no_hooks}
use Rattle.test_suite.specs.Suites.{fixture_at, no_item}
use Rattle.test_suite.specs.declared.fixture.Fixture.{Fixture}
use Rattle.test_suite.specs.declared.item.BoundArgument.{BoundArgument}
use Rattle.test_suite.specs.declared.item.FixtureParam.{FixtureParam}
use Rattle.test_suite.specs.declared.item.Item.{Item}
use Rattle.test_suite.specs.declared.suite.Suite.{Suite}
use Rattle.test_session.specs.declared.stack.SetupStack.{SetupStack}

-- the function of a code; what isn't there is None, which can't be called
abbrev pub function_or : Option Value → Value
function_or (Some v) = v
function_or None = val.None

abbrev pub text_or : Option (List ℕ) → List ℕ
text_or (Some text) = text
text_or None = []

-- whether a function stands in a class: then it takes the instance first
abbrev pub is_method : Option FunctionObj → Bool
is_method (Some f) = is_some f.class
is_method None = false

abbrev pub has_yield : Option FunctionObj → Bool
has_yield (Some f) = f.yields
has_yield None = false

-- a fixture with this function, as its object is
abbrev pub fixture_of : Option FunctionObj → Value → List ℕ → Scope → Fixture
fixture_of f v name scope = record {
  name = name;
  function = v;
  in_class = is_method f;
  arguments = arguments_asked (is_method f) f;
  scope = scope;
  yields = has_yield f;
  defined = defined_at f;
}

module _ (heap : List Obj) (codes : List Value) (names : List (List ℕ)) where
  -- the function of a definition
  abbrev pub code_of : FixtureDef → Value
  code_of d = function_or (slice_get codes d.code)

  -- THE FIXTURE that a definition is, by the function of its code and the text of its name
  abbrev pub fixture_known : FixtureDef → Fixture
  fixture_known d = fixture_of (function_at (object_in heap (code_of d))) (code_of d) (text_or (slice_get names d.name)) d.scope

  abbrev pub fixtures_known : List FixtureDef → List Fixture
  fixtures_known defs = map fixture_known defs

-- an item by what its row binds and gives to fixtures
abbrev pub bound_known : List (List ℕ) → BoundValue Value → BoundArgument
bound_known names b = record { name = text_or (slice_get names b.name); number = b.name; value = b.value }

abbrev pub param_known : ItemParam Value → FixtureParam
param_known p = record { def = p.def; number = p.number; value = p.value; id = [] }

abbrev pub item_known : List (List ℕ) → ItemRef Value → Item
item_known names item = record no_item { node = item.node; bound = map (bound_known names) item.bound; params = map param_known item.params }

-- a suite of these items and fixtures
abbrev pub suite_of : List Item → List Fixture → ℕ → Suite
suite_of items fixtures outer = record { items = items; fixtures = fixtures; outer = outer; hooks = no_hooks }

-- the fixtures of a stack: those of its plan, or else what is known of the definitions of its table
abbrev pub fixtures_of : List Obj → SetupStack → List Fixture
fixtures_of heap s = if s.looked then s.plan.run.suite.fixtures else fixtures_known heap s.codes s.names s.plan.table.defs

-- THE RULES of a stack for an item, within a limit of steps
abbrev pub item_rules : ℕ → List Obj → SetupStack → ItemRef Value → Rules python
item_rules limit heap s item = rules_within limit (suite_of (item_known s.names item ∷ []) (fixtures_of heap s) item.node)

-- THE RULES of a teardown, where no item is at hand
abbrev pub down_rules : ℕ → List Obj → SetupStack → Rules python
down_rules limit heap s = rules_within limit (suite_of [] (fixtures_of heap s) 0)

-- the rules for these items and the fixtures of its plan
abbrev pub rules_of : ℕ → List Item → ℕ → SetupStack → Rules python
rules_of limit items outer s = rules_within limit (suite_of items s.plan.run.suite.fixtures outer)

-- with these events in its journal
abbrev pub with_events : List Event → SetupStack → SetupStack
with_events events s = record s { stand = record s.stand { stack = record s.stand.stack { stack = record s.stand.stack.stack { events = events } } } }

-- with these fixtures in its plan
abbrev pub with_fixtures : List Fixture → SetupStack → SetupStack
with_fixtures fixtures s = record s { plan = record s.plan { run = record s.plan.run { suite = record s.plan.run.suite { fixtures = fixtures } } } }

-- behind a look at the functions of its codes
abbrev pub looked_at : List Obj → SetupStack → SetupStack
looked_at heap s = record (with_fixtures (fixtures_of heap s) s) { looked = true }

-- the fixtures of the plan are those of the table, with their scopes, where they were looked at; else each definition has a code
pub record KnowsTable (s : SetupStack) : Type 0 where
  pub tree : IsTree s.plan.table.nodes
  pub counted : s.looked ≡ false → length s.codes ≡ length s.plan.table.defs
  pub many : s.looked ≡ true → length s.plan.table.defs ≡ length s.plan.run.suite.fixtures
  pub scopes : s.looked ≡ true → (d : ℕ) → d < length s.plan.table.defs → (fixture_at s.plan.run.suite d).scope ≡ (def_at s.plan.table.defs d).scope

-- what is set up, in a world
abbrev pub in_world : SourceWorld → Stand → Stand
in_world w stand = record stand { world = w }

-- the frozen frames that it holds are out in a world, each once
abbrev pub StandsIn : SourceWorld → SetupStack → Type 0
StandsIn w s = StandsWith (stand_state (in_world w s.stand)) is_out []

-- NO FRAME IS OUT: in this world neither a fixture nor a wrapper of a hook stands at its `yield` (Language Reference, "Yield expressions")
abbrev pub NoneOut : SourceWorld → Type 0
NoneOut w = (n : ℕ) → is_out n w ≡ false

-- it holds no frozen frame
abbrev pub IsSpent : SetupStack → Type 0
IsSpent s = AreSpent s.stand.stack.stack.live.live

-- nothing is set up
abbrev pub IsNewStack : SetupStack → Type 0
IsNewStack s = IsNewStand s.stand
