use Rattle.std.specs.Prelude.{option_map}
use Rattle.machine_state.specs.Lines.{told_line}
use Rattle.machine_state.proofs.TextLines.{text_told, none_told}
use Rattle.machine_state.proofs.lines.source_line.Goals as goal

pub returns-in-Ok : goal.returns-in-Ok
returns-in-Ok c =
    text_told c.args.bytes.now c.without_mark.result.now c.in-Ok.text.now c.args.number (option_map told_line c.numbered.result)
    c.without_mark.ensures c.in-Ok.ensures.cases.0 c.in-Ok.ensures.cases.1 c.numbered.ensures

pub returns-in-Err : goal.returns-in-Err
returns-in-Err c = none_told c.args.bytes.now c.without_mark.result.now c.args.number c.without_mark.ensures c.in-Err.ensures.cases.0
