-- Where the machine is, and how the parts of a run of core code end.
use Rattle.std.specs.Prelude.{ℕ, suc, List, [], map, drop, Option, codes}
use Rattle.run_tree.specs.Todo.{Ending, run}
use Rattle.std.specs.declared.alloc.Global.{Global}
use Rattle.std.specs.declared.rc.Rc.{Rc}
use Rattle.std.specs.declared.vec.Vec.{Vec}
use Rattle.py_source.specs.declared.pos.Pos.{Pos}
use Rattle.py_core.specs.declared.expr.CoreExpr.{CoreExpr}
use Rattle.core_meaning.specs.py_world.declared.trace.TraceFrame.{TraceFrame}
use Rattle.core_meaning.specs.py_world.declared.ended.Thrown.{Thrown}
use Rattle.core_meaning.specs.py_world.World.{CallState}
use Rattle.core_meaning.specs.py_world.Arguments.{Arguments}
use Rattle.core_meaning.specs.py_world.Site.{Own, InModule, InFunction, InClass, Scene, Site, site, frame}
use Rattle.core_meaning.specs.py_world.Outcome.{Outcome, Gave, Next, Returned, Broke, Continued, Raised, Exhaustion, Rest, Continuation, Request, Suspension}
use Rattle.core_meaning.specs.py_world.Calls.{body_of}
use Rattle.core_meaning.specs.Requests.{core_kinds}
use Rattle.core_meaning.specs.Expressions.{CorePart, eval}
use Rattle.core_meaning.specs.Statements.{entry}
use Rattle.core_meaning.specs.Meaning.{CoreWorld, core}
use Rattle.machine_state.specs.declared.place.Place.{Place}
use Rattle.machine_state.specs.declared.place.Place.TheVariants.{Module, Function, Class}
use Rattle.machine_state.specs.declared.place.Location.{Location}
use Rattle.machine_state.specs.declared.arguments.CallArguments.{CallArguments}
use Rattle.machine_state.specs.declared.frame.End.{End}
use Rattle.machine_state.specs.declared.frame.End.TheVariants as end

abbrev pub CoreState : Type 0
CoreState = CallState core_kinds

abbrev pub CoreOutcome : Type 0
CoreOutcome = Outcome core_kinds

abbrev pub CoreRest : Type 0
CoreRest = Rest core_kinds

abbrev pub CoreThen : Type 0
CoreThen = Continuation core_kinds

abbrev pub CoreEnding : Type 0
CoreEnding = Ending Pos (Exhaustion core_kinds) (Request core_kinds) CoreOutcome (Suspension core_kinds)

-- what is done for a request
abbrev pub step : Request core_kinds → CoreThen → CoreRest
step = body_of core

-- how a run ends, whatever is noted
abbrev pub ends : ℕ → CoreRest → CoreEnding
ends n t = (run step n t).1

abbrev pub outcome : End → CoreState → CoreOutcome
outcome (end.Value v) s = Gave v s
outcome end.Next s = Next s
outcome (end.Returned v) s = Returned v s
outcome end.Broke s = Broke s
outcome end.Continued s = Continued s
outcome (end.Raised e trace) s = Raised e trace s

-- what is known of a place
abbrev pub path_in : Place → List ℕ
path_in (Module path home) = path
path_in (Function code) = code.path
path_in (Class path name home at) = path

abbrev pub place_name : Place → List ℕ
place_name (Module path home) = codes "<module>"
place_name (Function code) = (entry code.code).name
place_name (Class path name home at) = name

abbrev pub home_in : Place → ℕ
home_in (Module path home) = home
home_in (Function code) = code.home
home_in (Class path name home at) = home

abbrev pub own_in : Place → Own
own_in (Module path home) = InModule
own_in (Function code) = InFunction (entry code.code).own
own_in (Class path name home at) = InClass at

-- how many functions are open there
abbrev pub depth_in : Place → ℕ → ℕ
depth_in (Module path home) around = around
depth_in (Function code) around = suc around
depth_in (Class path name home at) around = around

abbrev pub depth_of : Location → ℕ
depth_of h = depth_in h.place h.around

-- where the machine is, given the open calls and the exception that is being handled
abbrev pub scene_in : Place → ℕ → List TraceFrame → Option Thrown → Scene
scene_in place around outer handled =
    record { around = record { trace = outer; depth = depth_in place around; handling = handled }; path = path_in place; name = place_name place; home = home_in place; own = own_in place }

abbrev pub frame_of : Location → TraceFrame
frame_of h = frame (path_in h.place) h.line (place_name h.place)

abbrev pub site_of : Location → List TraceFrame → Option Thrown → Site
site_of h outer handled = site (scene_in h.place h.around outer handled) h.line

abbrev pub at_line : ℕ → Location → Location
at_line line h = record { place = h.place; around = h.around; line = line }

abbrev pub no_world : CoreWorld
no_world = record { sources = []; modules = []; heap = []; codes = []; printed = []; frozen = []; traces = [] }

-- the parts of a list of expressions from a place on
abbrev pub parts_from : ℕ → Rc (Vec (Rc CoreExpr Global) Global) Global → List CorePart
parts_from at es = map (λ e. eval e.value) (drop at es.value.items)

-- the arguments of a call
abbrev pub arguments_in : CallArguments → Arguments
arguments_in args = record { plain = args.plain.items; named = args.named }
