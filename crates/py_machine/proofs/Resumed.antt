-- How begins and resumptions by the runner go on, and what is told of them.
use Rattle.std.proofs.Common.{◌≡◌, ◌∙◌, ℕ, List, [], true, is_some, Option, Some, None, Ok, sym, ap, refl}
use Rattle.run_tree.specs.Todo.{Done}
use Rattle.py_core.specs.declared.stmt.CoreFn.{CoreFn}
use Rattle.py_values.specs.declared.value.Value.{Value}
use Rattle.lower_law.specs.py_world.Arguments.{positional_arguments}
use Rattle.lower_law.specs.py_world.Calls.{entered, invoke}
use Rattle.lower_law.specs.py_world.Outcome.{call_end, raised}
use Rattle.lower_law.specs.py_world.Resuming.{BegunBody, Sent, abandon_of, begun_by, begun_over, frozen_at, is_out, opened_by_runner, resumed, sent_end}
use Rattle.lower_law.specs.py_world.Runs.{begun_by_runner, ended_by, start}
use Rattle.lower_law.specs.py_world.Site.{no_call}
use Rattle.lower_law.specs.py_world.World.{Frozen, Locals, FunctionCode, state}
use Rattle.lower_law.specs.core_meaning.Meaning.{CoreWorld, core, core_begin, core_resume}
use Rattle.lower_law.specs.core_meaning.Requests.{Layer}
use Rattle.lower_law.specs.core_meaning.Statements.{entry, remains}
use Rattle.machine_state.specs.declared.frame.Frame.{Frame}
use Rattle.machine_state.specs.declared.place.Location.{Location}
use Rattle.machine_state.specs.Places.{CoreEnding, CoreOutcome, CoreRest, CoreState, ends, outcome}
use Rattle.machine_state.specs.declared.frame.End.{End}
use Rattle.machine_state.specs.declared.machine.Machine.{Machine}
use Rattle.machine_state.specs.Frames.{after_stack, outer_of, machine_rest, state_of}
use Rattle.machine_state.proofs.Costs.{ends_done}
use Rattle.machine_runner.specs.declared.misfit.Misfit.{Misfit}
use Rattle.machine_runner.specs.declared.openings.Opening.TheVariants.{Body, Refused, Call}
use Rattle.machine_runner.specs.Begun.{Begins}
use Rattle.machine_runner.specs.Openings.{opening_rest}
use Rattle.py_machine.proofs.Beginning.{same_left}

-- what is told of a run
pub begun_tells : (budget n : ℕ) (t : CoreRest) (ending : CoreEnding) (b : BegunBody) (w : CoreWorld) → n ≡ budget → ends n t ≡ ending → begun_by budget ending ≡ (b, w)
    → begun_by budget (ends budget t) ≡ (b, w)
begun_tells budget n t ending b w left run told = ap (λ (m : ℕ). begun_by budget (ends m t)) (sym left) ∙ ap (begun_by budget) run ∙ told

-- of an end at once
ended_told : (budget : ℕ) (o : CoreOutcome) → begun_by budget (ends budget (Done o)) ≡ begun_over (ended_by o 0)
ended_told budget o = ap (begun_by budget) (ends_done budget o) ∙ ap (λ (n : ℕ). begun_over (ended_by o n)) (same_left budget)

-- on an empty stack
pub body_enters : (fs : List Frame) (h : Location) (n : ℕ) (s : CoreState) (code : FunctionCode CoreFn) (names : Locals) → fs ≡ []
    → ends n (entered entry code (Ok names) no_call s (λ (o : CoreOutcome). Done (call_end s o))) ≡ ends n (entered entry code (Ok names) (record { trace = outer_of fs; depth = 0; handling = None }) s (λ (o : CoreOutcome). after_stack fs h (call_end s o)))
body_enters fs h n s code names e = rw e refl

module _ (f : Value) (args : List Value) (budget : ℕ) (w w' : CoreWorld) (s : CoreState) (b : BegunBody) (is : s ≡ start w) where
  -- the body of a yield function
  pub body_begins : (code : FunctionCode CoreFn) (names : Locals) → opened_by_runner core f args (start w) ≡ opening_rest (Body code names) f args (start w)
      → begun_by budget (ends budget (entered entry code (Ok names) no_call s (λ o. Done (call_end s o)))) ≡ (b, w') → core_begin f args budget w ≡ (b, w')
  body_begins code names opened told = ap (λ t. begun_by budget (ends budget t)) opened ∙ (rw is at told)

  -- one whose arguments don't fit
  pub body_refused : (x : Misfit) → opened_by_runner core f args (start w) ≡ opening_rest (Refused x) f args (start w)
      → begun_over (ended_by (raised x.raise x.trace s) 0) ≡ (b, w') → core_begin f args budget w ≡ (b, w')
  body_refused x opened told = ap (λ t. begun_by budget (ends budget t)) opened ∙ ended_told budget (raised x.raise x.trace (start w)) ∙ (rw is at told)

  -- what is called
  pub call_begins : opened_by_runner core f args (start w) ≡ opening_rest Call f args (start w)
      → begun_by budget (ends budget (begun_by_runner core f args s)) ≡ (b, w') → core_begin f args budget w ≡ (b, w')
  call_begins opened told = ap (λ t. begun_by budget (ends budget t)) opened ∙ (rw is at told)

  pub called_fits : Begins None f args (start w) → begun_by budget (ends budget (invoke entry f (positional_arguments args) no_call s (λ o. Done (call_end s o)))) ≡ (b, w')
      → begun_by budget (ends budget (begun_by_runner core f args s)) ≡ (b, w')
  called_fits begins told = rw is (ap (λ t. begun_by budget (ends budget t)) begins ∙ (rw is at told))

  pub called_misfits : (x : Misfit) → Begins (Some x) f args (start w) → begun_over (ended_by (raised x.raise x.trace s) 0) ≡ (b, w')
      → begun_by budget (ends budget (begun_by_runner core f args s)) ≡ (b, w')
  called_misfits x begins told = rw is (ap (λ t. begun_by budget (ends budget t)) begins ∙ ended_told budget (raised x.raise x.trace (start w)) ∙ (rw is at told))

-- what remains of a body, in a machine
pub wakes : (budget : ℕ) (m : Machine) (x : Frozen (List Layer)) (e : End) (sent : Sent) (w : CoreWorld) (ending : CoreEnding) → m.left ≡ budget → state_of m ≡ state x.locals [] w
    → ((o : CoreOutcome) → machine_rest m o ≡ remains x.rest x.site o (λ o. Done (call_end (start w) o))) → ((s : CoreState) → outcome e s ≡ sent_end sent s)
    → ends m.left (machine_rest m (outcome e (state_of m))) ≡ ending → ends budget (resumed core x sent w) ≡ ending
wakes budget m x e sent w ending left is rest end run =
    ap (λ (n : ℕ). ends n (resumed core x sent w)) (sym left)
    ∙ ap (ends m.left) (sym (rest (outcome e (state_of m)) ∙ ap (λ (o : CoreOutcome). remains x.rest x.site o (λ o. Done (call_end (start w) o))) (end (state_of m) ∙ ap (sent_end sent) is))) ∙ run

-- a frame that is out
module _ (n : ℕ) (sent : Sent) (budget : ℕ) (w w' : CoreWorld) (ending : CoreEnding) (b : BegunBody)
    (runs : (f : Frozen (List Layer)) → frozen_at n w ≡ Some f → ends budget (resumed core f sent (abandon_of n w)) ≡ ending) (told : begun_by budget ending ≡ (b, w')) where
  found_resumes : (o : Option (Frozen (List Layer))) → frozen_at n w ≡ o → is_some o ≡ true → core_resume n sent budget w ≡ (b, w')
  found_resumes (Some f) is out = rw is (ap (begun_by budget) (runs f is) ∙ told)
  found_resumes None is out = absurd cc

  pub frame_resumes : is_out n w ≡ true → core_resume n sent budget w ≡ (b, w')
  frame_resumes out = found_resumes (frozen_at n w) refl out
