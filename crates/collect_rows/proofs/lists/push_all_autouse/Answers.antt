use Rattle.std.proofs.Common.{◌++◌, ap, ◌∙◌, arith}
use Rattle.fixture_table.specs.Nearest.{blank, def_at}
use Rattle.collect_rows.specs.Rows.{autouse_name}
use Rattle.collect_rows.proofs.Steps.{flat_at}
use Rattle.collect_rows.proofs.lists.push_all_autouse.Goals as goal

pub loop-number-preserved : goal.loop-number-preserved
loop-number-preserved c =
    flat_at (autouse_name c.args.table.now c.args.item) c.args.table.now.defs c.loop-number.number blank _ _ _ (omega arith) c.loop-number.invariant
    (c.in_ok-push_autouse.ensures ∙ ap (λ d. c.loop-number.known.items ++ autouse_name c.args.table.now c.args.item (def_at c.args.table.now.defs d)) c.in_ok-numbered.ensures)
