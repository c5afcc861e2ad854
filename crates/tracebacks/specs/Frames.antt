-- The open calls behind an exception, as a report tells them.
use Rattle.std.specs.Prelude.{ℕ, List, map, encode_utf8_all}
use Rattle.py_machine.specs.Lines.{line_at}
use Rattle.py_values.specs.declared.object.FunctionObj.{FunctionObj}
use Rattle.py_world.specs.Site.{frame}
use Rattle.py_world.specs.World.{CodedSource}
use Rattle.py_world.specs.declared.trace.TraceFrame.{TraceFrame}
use Rattle.report_parts.specs.declared.report.Frame.{Frame}
use Rattle.report_parts.specs.declared.report.Told.{Told}

-- the place of a function's `def`
abbrev pub def_frame : FunctionObj → TraceFrame
def_frame f = frame f.path f.line f.name

module _ {M : Type 0} where
  -- an open call, with its source line
  abbrev pub frame_told : List (CodedSource M) → TraceFrame → Frame
  frame_told sources f = record { file = encode_utf8_all f.path; line = f.line; name = encode_utf8_all f.name; source = line_at f.path f.line sources }

  abbrev pub told : List (CodedSource M) → List TraceFrame → List ℕ → Told
  told sources trace text = record { frames = map (frame_told sources) trace; text = text }
