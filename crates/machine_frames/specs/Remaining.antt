-- What follows where a body that has stopped goes on.
use Rattle.std.specs.Prelude.{◌≡◌, ℕ, List, [], Option, Some, None, map, slice_get, slice_set}
use Rattle.run_tree.specs.Todo.{Done}
use Rattle.machine_state.specs.py_world.Outcome.{call_end}
use Rattle.machine_state.specs.py_world.Resuming.{frame_at}
use Rattle.machine_state.specs.py_world.Runs.{start}
use Rattle.machine_state.specs.py_world.Site.{Site, site}
use Rattle.machine_state.specs.py_world.World.{Frozen}
use Rattle.machine_state.specs.core_meaning.Meaning.{CoreWorld}
use Rattle.machine_state.specs.core_meaning.Requests.{Layer}
use Rattle.machine_state.specs.core_meaning.Statements.{remains}
use Rattle.machine_state.specs.declared.place.Location.{Location}
use Rattle.machine_state.specs.declared.frame.Frame.{Frame}
use Rattle.machine_state.specs.declared.frozen.FrozenBody.{FrozenBody}
use Rattle.machine_state.specs.Places.{CoreOutcome, scene_in, site_of}
use Rattle.machine_state.specs.Stacks.{StackView}
use Rattle.machine_state.specs.Frames.{after_stack, frozen_of}

-- a frozen frame in the words of the meaning
abbrev pub CoreFrozen : Type 0
CoreFrozen = Frozen (List Layer)

-- what follows a stack is what remains of a body, whatever end it is given, and then a call by the runner ends
abbrev pub IsRemainder : List Frame → ℕ → List Layer → Type 0
IsRemainder own line rest = (h : Location) (o : CoreOutcome) (w : CoreWorld)
    → after_stack own h o ≡ remains rest (site (scene_in h.place h.around [] None) line) o (λ o. Done (call_end (start w) o))

-- the frozen frames, in the words of the meaning
abbrev pub frozen_in : StackView → List (Option CoreFrozen)
frozen_in s = map frozen_of s.frozen

-- the frozen frame of a number goes on, where it is out
pub record WokenFrom (body : FrozenBody) (number : ℕ) (old new : StackView) : Type 0 where
  pub rest : List Layer
  pub out : frame_at (slice_get (frozen_in old) number) ≡ Some (record { rest = rest; site = site_of body.here [] None; locals = body.locals })
  pub gone : frozen_in new ≡ slice_set (frozen_in old) number None
  pub goes_on : IsRemainder new.own body.here.line rest

abbrev pub Woken : Option FrozenBody → ℕ → StackView → StackView → Type 0
Woken (Some body) number old new = WokenFrom body number old new
Woken None number old new = frame_at (slice_get (frozen_in old) number) ≡ None
