-- The `request` that a fixture or a test takes (pytest's reference, `request` and `FixtureRequest`).
use Rattle.std.specs.Prelude.{ℕ, Bool, true, false, List, [], Option, Some, None, codes, reverse}
use Rattle.py_values.specs.declared.object.RequestObj.{RequestObj}
use Rattle.py_values.specs.declared.value.Value.{Value}
use Rattle.py_world.specs.World.{world_with_heap}
use Rattle.py_machine.specs.runner_values.Given.{open_request, added_object}
use Rattle.py_machine.specs.runner_values.Requests.{finalizers_of, request_changed}
use Rattle.session_types.specs.declared.scope.Scope.{Scope}
use Rattle.session_types.specs.declared.scope.Scope.TheVariants.{Session, Module, Class, Function}
use Rattle.py_machine.specs.source_meaning.Meaning.{SourceWorld}
use Rattle.test_suite.specs.declared.fixture.Fixture.{Fixture}
use Rattle.test_suite.specs.declared.item.Item.{Item}
use Rattle.fixture_calls.specs.Arguments.{asks_request}
use Rattle.fixture_calls.specs.Failing.{in_heap}

-- the name of a scope
abbrev pub scope_text : Scope → List ℕ
scope_text Session = codes "session"
scope_text Module = codes "module"
scope_text Class = codes "class"
scope_text Function = codes "function"

abbrev pub as_request : Value × SourceWorld → Option Value × SourceWorld
as_request made = (Some made.0, made.1)

-- a new `request`, open, where one is taken
abbrev pub request_if : Bool → Option (List ℕ) → List ℕ → Option Value → SourceWorld → Option Value × SourceWorld
request_if true name scope param w = as_request (in_heap (added_object (open_request name scope param) w.heap) w)
request_if false name scope param w = (None, w)

-- THE `request` of a fixture, where its function takes one: it has the fixture's name and scope, and the parameter, where there is one
unfoldable pub fixture_request : Fixture → Option Value → SourceWorld → Option Value × SourceWorld
fixture_request f param w = request_if (asks_request f.arguments) (Some f.name) (scope_text f.scope) param w

-- THE `request` of a test, where it takes one: it has no name and no parameter, and function scope
unfoldable pub test_request : Item → SourceWorld → Option Value × SourceWorld
test_request i w = request_if (asks_request i.arguments) None (codes "function") None w

-- a request that takes no finalizers, and has none
abbrev pub spent_request : RequestObj → RequestObj
spent_request r = record r { finalizers = []; closed = true }

-- A REQUEST IS CLOSED: its finalizers, latest first, are taken, and it takes no others
unfoldable pub finalizers_taken : Value → SourceWorld → List Value × SourceWorld
finalizers_taken request w = (reverse (finalizers_of request w.heap), world_with_heap (request_changed spent_request request w.heap) w)
