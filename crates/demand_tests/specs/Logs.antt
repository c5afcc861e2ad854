-- A world that notes what is done in it. What the function of each definition does stands in a script.
use Rattle.std.specs.Prelude.{◌≡◌, ℕ, Bool, true, false, List, [], ◌∷◌, ◌++◌, is_some, length, map, Option, None, Some, slice_get, slice_index_or, slice_set, if◌then◌else◌}
use Rattle.session_types.specs.declared.scope.Scope.TheVariants as scope
use Rattle.session_rules.specs.Hooks.{HookGave}
use Rattle.session_rules.specs.Frames.{StandsWith}
use Rattle.session_rules.specs.World.{BodyEnd, BodyOutcome, Language, Returned, Yielded, Raised, Rules, language}
use Rattle.fixture_table.specs.declared.types.CollectionNode.{CollectionNode}
use Rattle.fixture_table.specs.declared.types.FixtureDef.{FixtureDef}
use Rattle.fixture_table.specs.declared.types.NodeKind.TheVariants as kind
use Rattle.fixture_table.specs.Tables.{TableValue}
use Rattle.setup_stack.specs.Views.{stack_state}
use Rattle.setup_stack.specs.declared.stack.SetupStack.{SetupStack}
use Rattle.demand_tests.specs.declared.logs.Cause.{Cause}
use Rattle.demand_tests.specs.declared.logs.Cause.TheVariants as cause
use Rattle.demand_tests.specs.declared.logs.LogEntry.{LogEntry}
use Rattle.demand_tests.specs.declared.logs.LogEntry.TheVariants as done
use Rattle.demand_tests.specs.declared.logs.Log.{Log}
use Rattle.demand_tests.specs.declared.logs.Part.{Part}
use Rattle.demand_tests.specs.declared.logs.Script.{Script}
use Rattle.demand_tests.specs.declared.logs.Way.{Way}
use Rattle.demand_tests.specs.declared.logs.Way.TheVariants.{Returns, Raises, YieldsOnce, YieldsTwice, RaisesBehind, NeverYields, Loops, LoopsBehind}

abbrev pub spoken : Language
spoken = language Log ℕ Cause ℕ ℕ (λ phase told. false)

-- a function that no row is about
abbrev pub other_part : Part
other_part = record { scope = scope.Function; way = Returns; fails = false }

abbrev pub part_at : List Part → ℕ → Part
part_at parts d = slice_index_or parts d other_part

abbrev pub is_generator : Way → Bool
is_generator Returns = false
is_generator Raises = false
is_generator YieldsOnce = true
is_generator YieldsTwice = true
is_generator RaisesBehind = true
is_generator NeverYields = true
is_generator Loops = true
is_generator LoopsBehind = true

-- where a function stands at its `yield`, and where it yields again
abbrev pub is_standing : Way → Bool
is_standing Returns = false
is_standing Raises = false
is_standing YieldsOnce = true
is_standing YieldsTwice = true
is_standing RaisesBehind = true
is_standing NeverYields = false
is_standing Loops = false
is_standing LoopsBehind = true

abbrev pub is_twice : Way → Bool
is_twice Returns = false
is_twice Raises = false
is_twice YieldsOnce = false
is_twice YieldsTwice = true
is_twice RaisesBehind = false
is_twice NeverYields = false
is_twice Loops = false
is_twice LoopsBehind = false

-- the value of a fixture is its number; what remains of it has the next number of a frame
abbrev pub begun : Way → ℕ → ℕ → BodyEnd spoken
begun Returns d n = Returned d
begun Raises d n = Raised (cause.InSetUp d)
begun YieldsOnce d n = Yielded d n
begun YieldsTwice d n = Yielded d n
begun RaisesBehind d n = Yielded d n
begun NeverYields d n = Returned d
begun Loops d n = Raised (cause.OutOfSteps d)
begun LoopsBehind d n = Yielded d n

abbrev pub resumed : Way → ℕ → ℕ → BodyEnd spoken
resumed Returns d n = Returned d
resumed Raises d n = Returned d
resumed YieldsOnce d n = Returned d
resumed YieldsTwice d n = Yielded d n
resumed RaisesBehind d n = Raised (cause.InTeardown d)
resumed NeverYields d n = Returned d
resumed Loops d n = Returned d
resumed LoopsBehind d n = Raised (cause.OutOfSteps d)

-- the definition of a frame, while it is out
abbrev pub known : Option (Option ℕ) → Option ℕ
known None = None
known (Some d) = d

abbrev pub def_in : List (Option ℕ) → ℕ → Option ℕ
def_in frames n = known (slice_get frames n)

abbrev pub is_out : ℕ → Log → Bool
is_out n w = is_some (def_in w.frames n)

-- one more, where it stands
abbrev pub frames_with : Bool → ℕ → List (Option ℕ) → List (Option ℕ)
frames_with standing d frames = if standing then frames ++ Some d ∷ [] else frames

abbrev pub frames_without : ℕ → List (Option ℕ) → List (Option ℕ)
frames_without n frames = slice_set frames n None

-- the finalizer of a fixture is its number
abbrev pub finalizer_raised : Part → ℕ → Option Cause
finalizer_raised part d = if part.fails then Some (cause.InFinalizer d) else None

abbrev pub with_log_line : LogEntry → Log → Log
with_log_line one w = record w { lines = w.lines ++ one ∷ [] }

abbrev pub rest_given_up : ℕ → Log → Log
rest_given_up rest w = record w { frames = frames_without rest w.frames; last = def_in w.frames rest; before = w.last }

-- a function is called
abbrev pub began : Way → ℕ → Log → BodyOutcome spoken
began way d w = record { how = begun way d (length w.frames); world = record (with_log_line (done.Begun d) w) { frames = frames_with (is_standing way) d w.frames } }

-- what remains of the one of this definition goes on
abbrev pub went_on : Script → ℕ → ℕ → Log → BodyOutcome spoken
went_on script rest d w =
    record {
      how = resumed (part_at script.parts d).way d (length w.frames);
      world = record (with_log_line (done.Resumed d) w) { frames = frames_with (is_twice (part_at script.parts d).way) d (frames_without rest w.frames) };
    }

abbrev pub went_on_where : Script → ℕ → Option ℕ → Log → BodyOutcome spoken
went_on_where script rest None w = record { how = Returned 0; world = w }
went_on_where script rest (Some d) w = went_on script rest d w

abbrev pub logging : Script → Rules spoken
logging script =
    record {
      depth = length script.parts;
      scope = λ d. (part_at script.parts d).scope;
      yields = λ d. is_generator (part_at script.parts d).way;
      make_instance = λ item w. record { answer = None; world = w };
      make_item = λ item w. record { answer = 0; world = w };
      ask = λ item d param w. record { request = Some d; world = w };
      begin = λ item d param own values request w. began (part_at script.parts d).way d w;
      did_not_yield = λ d w. record { thrown = cause.NoYield d; world = w };
      resume = λ rest w. went_on_where script rest (def_in w.frames rest) w;
      abandon = λ rest w. rest_given_up rest w;
      yielded_again = λ d w. record { thrown = cause.SecondYield d; world = w };
      close = λ request w. record { finalizers = request ∷ []; world = with_log_line (done.Closed request) w };
      finalize = λ f w. record { raised = finalizer_raised (part_at script.parts f) f; world = with_log_line (done.Finalized f) w };
      fault = λ item w. record { thrown = cause.InFault item; world = w };
      ask_test = λ item w. record { request = None; world = w };
      test = λ item own values request w. record { raised = None; world = w };
      wrong_arguments = λ item w. record { thrown = cause.InFault item; world = w };
      hooks = λ phase item. [];
      implement = λ phase item arguments which w. record { answer = HookGave None; world = w };
      open_wrapper = λ phase item arguments which w. record { how = Returned 0; world = w };
      wrapper_did_not_yield = λ which w. record { thrown = cause.InFault 0; world = w };
      resume_wrapper = λ phase item rest sent w. record { how = Returned 0; world = record w { frames = frames_without rest w.frames } };
      wrapper_yielded_again = λ which w. record { thrown = cause.InFault 0; world = w };
      unless_none = λ v. None;
      is_same_object = λ e f. false;
      end_phase = λ phase item raised w. record { told = 0; world = w };
    }

-- each definition of a table has its part
abbrev pub InStep : List Part → List FixtureDef → Type 0
InStep parts defs = map (λ p. p.scope) parts ≡ map (λ d. d.scope) defs

-- a file under the root, and two items in it
abbrev pub two_items : List CollectionNode
two_items =
    record { kind = kind.Session; parent = 0 }
    ∷ record { kind = kind.File; parent = 0 }
    ∷ record { kind = kind.Item; parent = 1 }
    ∷ record { kind = kind.Item; parent = 1 }
    ∷ []

pub record IsBench (script : Script) (table : TableValue) : Type 0 where
  pub step : InStep script.parts table.defs
  pub nodes : table.nodes ≡ two_items

-- the frames of the live instances are out, each that of one
abbrev pub FramesAreOut : Script → Log → SetupStack ℕ Cause ℕ → Type 0
FramesAreOut script world stack = StandsWith (stack_state (logging script) world stack) is_out []
