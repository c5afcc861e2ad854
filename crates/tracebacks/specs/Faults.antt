-- The fault of a source as an exception: an error of collection (pytest's "How to manage pytest's output").
use Rattle.std.specs.Prelude.{ℕ, List, [], ◌∷◌, ◌++◌, codes}
use Rattle.tracebacks.specs.Lines as lines
use Rattle.py_source.specs.Faults.{source_line, source_text}
use Rattle.py_source.specs.declared.fault.SourceFault.{SourceFault}
use Rattle.report_parts.specs.declared.report.Frame.{Frame}
use Rattle.report_parts.specs.declared.report.Told.{Told}

-- the place of the fault, with the line of its source; bytes that are no text have none
abbrev pub fault_frame : List ℕ → List ℕ → SourceFault → Frame
fault_frame file bytes fault = record { file = file; line = source_line fault; name = codes "<module>"; source = lines.source_line bytes (source_line fault) }

abbrev pub fault_text : SourceFault → List ℕ
fault_text fault = codes "SyntaxError: " ++ source_text fault

abbrev pub fault_told : List ℕ → List ℕ → SourceFault → Told
fault_told file bytes fault = record { frames = fault_frame file bytes fault ∷ []; text = fault_text fault }
