-- Parts whose value is there at once.
use Rattle.std.specs.Prelude.{ℕ, suc, ◌≤◌, ◌≡◌, ◌++◌, Bool, true, false, List, [], Option, Some, None}
use Rattle.py_values.specs.declared.end.Effect.{Effect}
use Rattle.py_values.specs.declared.end.Effect.TheVariants.{Give}
use Rattle.py_values.specs.declared.rows.Param.{Param}
use Rattle.py_values.specs.declared.value.Value.{Value}
use Rattle.py_values.specs.Ends.{payable}
use Rattle.machine_state.specs.py_world.declared.trace.TraceFrame.{TraceFrame}
use Rattle.machine_state.specs.py_world.declared.ended.Thrown.{Thrown}
use Rattle.machine_state.specs.py_core.declared.stmt.CoreFn.{CoreFn}
use Rattle.machine_state.specs.py_world.World.{Locals, FunctionCode, state}
use Rattle.machine_state.specs.py_world.Site.{Site}
use Rattle.machine_state.specs.py_world.Arguments.{fitted}
use Rattle.machine_state.specs.py_world.Names.{named_in}
use Rattle.machine_state.specs.py_world.Outcome as Outcome
use Rattle.machine_state.specs.py_world.Outcome.{Gave, Next, call_end, operated}
use Rattle.machine_state.specs.py_world.Expressions.{arguments}
use Rattle.machine_state.specs.core_meaning.Requests.{Layer}
use Rattle.machine_state.specs.core_meaning.Expressions.{CorePart}
use Rattle.machine_state.specs.core_meaning.Statements.{CoreBody, entry}
use Rattle.machine_state.specs.declared.machine.Machine.{Machine}
use Rattle.machine_state.specs.declared.place.Location.{Location}
use Rattle.machine_state.specs.declared.place.Place.TheVariants.{Function}
use Rattle.machine_state.specs.Places.{CoreOutcome, CoreRest, CoreState, CoreThen, at_line, ends, home_in, own_in, scene_in, site_of}
use Rattle.machine_state.specs.Frames.{site_now, state_of, world_of}
use Rattle.machine_immediate.specs.declared.immediate.Immediate.{Immediate}
use Rattle.machine_immediate.specs.declared.immediate.BodyEnd.{BodyEnd}
use Rattle.machine_immediate.specs.declared.immediate.BodyEnd.TheVariants.{Over, Returned}

-- where a value is there, and the steps that are left behind it
abbrev pub ended_at : Value → ℕ → Immediate
ended_at v left = record { value = v; left = left }

-- A PART'S VALUE IS THERE: the part's run under these steps goes on with the value, in the same state, under those that are left
pub record IsImmediate (part : CorePart) (left : ℕ) (d : Immediate) (m : Machine) : Type 0 where
  pub fewer : d.left ≤ left
  pub goes_on : (k : CoreThen) → ends left (part (site_now m) (state_of m) k) ≡ ends d.left (k (Gave d.value (state_of m)))

-- the same in a place with these names and temporaries, over this machine's objects and functions, whatever is open around the place, on
-- whatever line of it
pub record HasValueIn (part : CorePart) (left : ℕ) (d : Immediate) (m : Machine) (here : Location) (names : Locals) (temps : List (Option Value)) : Type 0 where
  pub fewer : d.left ≤ left
  pub goes_on : (outer : List TraceFrame) (handled : Option Thrown) (line : ℕ) (k : CoreThen)
      → ends left (part (site_of (at_line line here) outer handled) (state names temps (world_of m)) k) ≡ ends d.left (k (Gave d.value (state names temps (world_of m))))

-- an operator's value is there in whatever place and state
pub record IsOperated (what : Effect) (left : ℕ) (d : Immediate) : Type 0 where
  pub fewer : d.left ≤ left
  pub goes_on : (p : Site) (s : CoreState) (k : CoreThen) → ends left (operated what p s k) ≡ ends d.left (k (Gave d.value s))

-- what is made within these steps is this value, behind the operator's own step
pub record IsMadeWithin (made : Option Effect) (left : ℕ) (d : Immediate) : Type 0 where
  pub fewer : d.left ≤ left
  pub goes_on : (m : Effect) → made ≡ payable left m → (p : Site) (s : CoreState) (k : CoreThen) → ends (suc left) (operated m p s k) ≡ ends d.left (k (Gave d.value s))

-- what was given is put into the place of another, and it is told whether something was given
abbrev pub PutIn : Option Immediate → Bool → Immediate → Type 0
PutIn None is d = is ≡ false
PutIn (Some e) is d = (is ≡ true) × (d ≡ e)

-- a name's value is there in a place with these names, at no cost
pub record IsNameNow (name : List ℕ) (left : ℕ) (d : Immediate) (m : Machine) (here : Location) (names : Locals) : Type 0 where
  pub free : d.left ≡ left
  pub bound : named_in (own_in here.place) name (home_in here.place) names m.heap ≡ Give d.value 0

-- THE VALUES OF ARGUMENTS ARE THERE, and parameters are bound to them behind the names that are bound so far
pub record AreBound (parts : List CorePart) (params : List Param) (so_far bound : Locals) (left behind : ℕ) (m : Machine) (here : Location) (names : Locals) (temps : List (Option Value)) : Type 0 where
  pub values : List Value
  pub fits : fitted params values [] so_far ≡ Some bound
  pub fewer : behind ≤ left
  pub goes_on : (before : List Value) (outer : List TraceFrame) (handled : Option Thrown) (line : ℕ) (k : CoreThen) (go : List Value → CoreState → CoreRest)
      → ends left (arguments parts before (site_of (at_line line here) outer handled) (state names temps (world_of m)) k go) ≡ ends behind (go (before ++ values) (state names temps (world_of m)))

-- A CALL'S VALUE IS THERE: that of the body of a code with these names, behind the call's own step, where so many functions are open around
-- it; the caller goes on with it in its own state
pub record IsRunNow (code : FunctionCode CoreFn) (around : ℕ) (bound : Locals) (left : ℕ) (d : Immediate) (m : Machine) : Type 0 where
  pub behind : ℕ
  pub paid : left ≡ suc behind
  pub fewer : d.left ≤ behind
  pub goes_on : (caller : CoreState) (outer : List TraceFrame) (handled : Option Thrown) (k : CoreThen) → caller.world ≡ world_of m
      → ends behind ((entry code.code).body (scene_in (Function code) around outer handled) (state bound [] (world_of m)) (λ o. k (call_end caller o))) ≡ ends d.left (k (Gave d.value caller))

-- how a body has ended: it is over, or with what it returns
abbrev pub value_of_end : BodyEnd → Value → Option Value
value_of_end Over v = None
value_of_end Returned v = Some v

abbrev pub outcome_of_body : Option Value → CoreState → CoreOutcome
outcome_of_body None s = Next s
outcome_of_body (Some v) s = Outcome.Returned v s

-- THE END OF A BODY IS THERE, with what it returns if it does, in a place with these names and no temporaries
pub record BodyEnds (body : List Layer → CoreBody) (left : ℕ) (returned : Option Value) (behind : ℕ) (m : Machine) (here : Location) (names : Locals) : Type 0 where
  pub fewer : behind ≤ left
  pub goes_on : (ls : List Layer) (outer : List TraceFrame) (handled : Option Thrown) (k : CoreThen)
      → ends left (body ls (scene_in here.place here.around outer handled) (state names [] (world_of m)) k) ≡ ends behind (k (outcome_of_body returned (state names [] (world_of m))))

-- the end of a statement's part is there, on whatever line
pub record PartEnds (part : CorePart) (left : ℕ) (returned : Option Value) (behind : ℕ) (m : Machine) (here : Location) (names : Locals) : Type 0 where
  pub fewer : behind ≤ left
  pub goes_on : (outer : List TraceFrame) (handled : Option Thrown) (line : ℕ) (k : CoreThen)
      → ends left (part (site_of (at_line line here) outer handled) (state names [] (world_of m)) k) ≡ ends behind (k (outcome_of_body returned (state names [] (world_of m))))
