use Rattle.std.proofs.Common.{ap, ◌∙◌}
use Rattle.std.specs.Prelude.{encode_utf8_all}
use Rattle.tracebacks.proofs.OpenCalls.{frame_is}
use Rattle.tracebacks.proofs.frames.frame_told.Goals as goal

pub returns : goal.returns
returns c =
    frame_is c.args.world.now.sources c.args.frame.now c.in_ok-file.file c.text.result.now c.in_ok-encoded.field-0 c.in_ok-source.source
    (c.in_ok-file.ensures ∙ ap encode_utf8_all c.chars.ensures) c.text.ensures c.text.utf8 (c.in_ok-encoded.ensures ∙ ap encode_utf8_all c.chars-2.ensures)
    (c.in_ok-source.ensures ∙ c.line.ensures)
