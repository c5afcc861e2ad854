-- An open call as a report tells it, from its parts.
use Rattle.std.proofs.Common.{◌≡◌, ℕ, List, Option, sym, ap, ◌∙◌}
use Rattle.std.specs.Prelude.{IsUtf8, chars, encode_utf8_all}
use Rattle.std.proofs.lemmas.Str.{chars_from_encodes}
use Rattle.py_machine.specs.Lines.{line_at}
use Rattle.py_world.specs.World.{CodedSource}
use Rattle.py_world.specs.declared.trace.TraceFrame.{TraceFrame}
use Rattle.report_parts.specs.declared.report.Frame.{Frame}
use Rattle.tracebacks.specs.Frames.{frame_told}

abbrev frame_with : ℕ → List ℕ → List ℕ → Option (List ℕ) → Frame
frame_with line file name source = record { file = file; line = line; name = name; source = source }

pub frame_is : {M : Type 0} (sources : List (CodedSource M)) (f : TraceFrame) (file text name : List ℕ) (source : Option (List ℕ))
    → file ≡ encode_utf8_all f.path → text ≡ file → IsUtf8 text → name ≡ encode_utf8_all f.name → source ≡ line_at (chars text) f.line sources
    → ◌≡◌ {A = Frame} (record { file = file; line = f.line; name = name; source = source }) (frame_told sources f)
frame_is sources f file text name source fi te u na so =
    ap (λ x. frame_with f.line x name source) fi
    ∙ (ap (λ x. frame_with f.line (encode_utf8_all f.path) x source) na
    ∙ ap (frame_with f.line (encode_utf8_all f.path) (encode_utf8_all f.name))
    (so ∙ ap (λ path. line_at path f.line sources) (sym (chars_from_encodes f.path text u (sym (te ∙ fi))))))
