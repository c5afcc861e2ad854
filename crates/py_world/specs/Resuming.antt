-- Bodies that stop at a `yield`: they begin, go on and are given up by the runner (Language Reference, yield expressions;
-- generator-iterator methods).
use Rattle.std.specs.Prelude.{ℕ, ◌-◌, Bool, List, [], ◌∷◌, ◌++◌, length, Option, Some, None, is_some, Result, Ok, Err, if◌then◌else◌, slice_get, slice_set}
use Rattle.run_tree.specs.Todo.{Done, run}
use Rattle.run_tree.specs.Todo as tree
use Rattle.py_source.specs.declared.pos.Pos.{Pos}
use Rattle.py_values.specs.declared.end.Raise.{Raise}
use Rattle.py_values.specs.declared.object.FunctionObj.{FunctionObj}
use Rattle.py_values.specs.declared.value.Value.{Value}
use Rattle.py_values.specs.declared.value.Value.TheVariants as val
use Rattle.py_world.specs.declared.ended.Outcome as ended
use Rattle.py_world.specs.declared.ended.Thrown.{Thrown}
use Rattle.py_world.specs.declared.trace.TraceFrame.{TraceFrame}
use Rattle.py_world.specs.World.{Kinds, World, CallState, Locals, FunctionCode, Frozen, state, world_with_frozen}
use Rattle.py_world.specs.Site.{Scene, Site, no_call, site, frame}
use Rattle.py_world.specs.Arguments.{fitted}
use Rattle.py_world.specs.Outcome.{Outcome, Gave, Raised, Exhaustion, Suspension, Rest, Request, raised, call_end}
use Rattle.py_world.specs.Calls.{Meaning, fitted_or, entered, body_of}
use Rattle.py_world.specs.Runs.{Told, ended_value, ended_spent, ended_by, start, function_and, begun_by_runner}

-- what a body goes on with: a value that is sent, or an exception that is thrown at its `yield`
pub data Sent : Type 0 where
  SentValue : Value → Sent
  SentThrow : Thrown → Sent

-- how a begin or a resumption ends: the body has stopped at a `yield` that gives a value, and its frame has a number; or it is over,
-- as a call is
pub data BegunOut : Type 0 where
  Yielded : Value → ℕ → BegunOut
  Over : ended.Outcome → BegunOut

-- with the steps that it took
pub record BegunBody : Type 0 where
  pub out : BegunOut
  pub steps : ℕ

abbrev pub ToldBegun : (K : Kinds) → Type 0
ToldBegun K = BegunBody × World K

abbrev pub begun_with : BegunOut → ℕ → BegunBody
begun_with out steps = record { out = out; steps = steps }

-- the frame that a place has, where it is out
abbrev pub frame_at : {L : Type 0} → Option (Option (Frozen L)) → Option (Frozen L)
frame_at (Some f) = f
frame_at None = None

-- a place with nothing open around it, and no exception that is being handled
abbrev pub bare_scene : Scene → Scene
bare_scene s = record { around = record { trace = []; depth = s.around.depth; handling = None }; path = s.path; name = s.name; home = s.home; own = s.own }

abbrev pub bare : Site → Site
bare p = site (bare_scene p.scene) p.line

module _ {K : Kinds} where
  -- the frozen frame of a number
  abbrev pub frozen_at : ℕ → World K → Option (Frozen K.rest)
  frozen_at n w = frame_at (slice_get w.frozen n)

  -- whether it is out
  abbrev pub is_out : ℕ → World K → Bool
  is_out n w = is_some (frozen_at n w)

  -- A FRAME IS GIVEN UP: it isn't out any more
  abbrev pub abandon_of : ℕ → World K → World K
  abandon_of n w = world_with_frozen (slice_set w.frozen n None) w

  -- a body that has stopped, as it is out
  abbrev pub frozen_body : Suspension K → Frozen K.rest
  frozen_body f = record { rest = f.rest; site = bare f.site; locals = f.state.locals }

  abbrev pub with_frame : Frozen K.rest → World K → World K
  with_frame f w = world_with_frozen (w.frozen ++ Some f ∷ []) w

  -- what is told where it ends as a call, and where it stops
  abbrev pub begun_over : Told K → ToldBegun K
  begun_over t = (begun_with (Over t.0.out) t.0.steps, t.1)

  abbrev pub begun_yielded : Suspension K → ℕ → ToldBegun K
  begun_yielded f steps = (begun_with (Yielded f.value (length f.state.world.frozen)) steps, with_frame (frozen_body f) f.state.world)

  abbrev pub begun_by : ℕ → tree.Ending Pos (Exhaustion K) (Request K) (Outcome K) (Suspension K) → ToldBegun K
  begun_by budget (tree.Ended o left) = begun_over (ended_by o (budget - left))
  begun_by budget (tree.Spent x) = begun_over (ended_spent budget x)
  begun_by budget (tree.Frozen f left) = begun_yielded f (budget - left)

  -- the end of the `yield` behind which a body goes on
  abbrev pub sent_end : Sent → CallState K → Outcome K
  sent_end (SentValue v) s = Gave v s
  sent_end (SentThrow t) s = Raised t.exc t.trace s

-- the local names with which the body of a yield function begins, or what is raised where it can't be called so
abbrev pub begin_arguments : FunctionObj → List Value → Result Locals Raise
begin_arguments f args = fitted_or f.name (fitted f.params args [] [])

module _ {K : Kinds} (meaning : Meaning K) where
  abbrev pub begun_of : ℕ → Rest K → ToldBegun K
  begun_of budget tree = begun_by budget (run (body_of meaning) budget tree).1

  -- the body of a yield function; an error that the runner makes has the one frame of the function, at its `def`, and takes no step
  abbrev pub body_begun : FunctionCode K.code → Result Locals Raise → List TraceFrame → CallState K → Rest K
  body_begun st (Ok names) at s = entered meaning.entry st (Ok names) no_call s (λ o. Done (call_end s o))
  body_begun st (Err r) at s = Done (raised r at s)

  -- what is no yield function is called
  abbrev pub function_opened : Option (FunctionCode K.code) → FunctionObj → List Value → Value → List Value → CallState K → Rest K
  function_opened None x all f args s = begun_by_runner meaning f args s
  function_opened (Some st) x all f args s =
      if x.yields then body_begun st (begin_arguments x all) (frame x.path x.line x.name ∷ []) s else begun_by_runner meaning f args s

  abbrev pub object_opened : Option (FunctionObj × List Value) → Value → List Value → CallState K → Rest K
  object_opened (Some x) f args s = function_opened (slice_get s.world.codes x.0.code) x.0 x.1 f args s
  object_opened None f args s = begun_by_runner meaning f args s

  abbrev pub opened_by_runner : Value → List Value → CallState K → Rest K
  opened_by_runner (val.Ref id) args s = object_opened (function_and s.world.heap args (slice_get s.world.heap id.at)) (val.Ref id) args s
  opened_by_runner val.None args s = begun_by_runner meaning val.None args s
  opened_by_runner (val.Bool b) args s = begun_by_runner meaning (val.Bool b) args s
  opened_by_runner (val.Int n) args s = begun_by_runner meaning (val.Int n) args s

  -- A BEGIN: a yield function's body, or that of a method that is one, runs until it stops or is over; all else is called
  abbrev pub begin_of : Value → List Value → ℕ → World K → ToldBegun K
  begin_of f args budget w = begun_of budget (opened_by_runner f args (start w))

  -- what remains of a body goes on, with its names
  abbrev pub resumed : Frozen K.rest → Sent → World K → Rest K
  resumed f sent w = meaning.remains f.rest f.site (sent_end sent (state f.locals [] w)) (λ o. Done (call_end (start w) o))

  abbrev pub resumed_by : Option (Frozen K.rest) → ℕ → Sent → ℕ → World K → ToldBegun K
  resumed_by None n sent budget w = begun_over (ended_value val.None 0 w)
  resumed_by (Some f) n sent budget w = begun_of budget (resumed f sent (abandon_of n w))

  -- A RESUMPTION of a frame, which isn't out any more, with a new count of steps; where it isn't out nothing is done
  abbrev pub resume_of : ℕ → Sent → ℕ → World K → ToldBegun K
  resume_of n sent budget w = resumed_by (frozen_at n w) n sent budget w
