-- Which frames say what exception is being handled.
use Rattle.std.specs.Prelude.{◌≡◌, Option, Some, None}
use Rattle.core_meaning.specs.py_world.declared.ended.Thrown.{Thrown}
use Rattle.machine_state.specs.declared.frame.End.{End}
use Rattle.machine_state.specs.declared.frame.UnwindFrame.{UnwindFrame}
use Rattle.machine_state.specs.declared.frame.Frame.{Frame}
use Rattle.machine_state.specs.Frames.{handling_again, handling_unwind, handling_in}

-- this one, or that around
abbrev pub IsHandling : Option Thrown → (Option Thrown → Option Thrown) → Type 0
IsHandling (Some t) handling = (around : Option Thrown) → handling around ≡ Some t
IsHandling None handling = (around : Option Thrown) → handling around ≡ around

abbrev pub AgainTells : Option Thrown → End → Type 0
AgainTells t e = IsHandling t (handling_again e)

abbrev pub UnwindTells : Option Thrown → UnwindFrame → Type 0
UnwindTells t f = IsHandling t (handling_unwind f)

abbrev pub FrameTells : Option Thrown → Frame → Type 0
FrameTells t f = IsHandling t (handling_in f)
