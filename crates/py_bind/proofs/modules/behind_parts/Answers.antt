use Rattle.std.proofs.Common.{sym, ◌∙◌}
use Rattle.std.specs.List.{flat_map}
use Rattle.py_bind.specs.Modules.{path_part}
use Rattle.py_bind.proofs.Paths.{part_step, part_stop, none_given}
use Rattle.py_bind.proofs.modules.behind_parts.Goals as goal

pub returns-in_err-rest : goal.returns-in_err-rest
returns-in_err-rest c = none_given c.from_residual.result (flat_map path_part c.args.names.now) c.args.text.now c.from_residual.ensures
    (sym c.loop-name.invariant ∙ part_stop c.args.names.now c.loop-name.name-index c.name-item.result c.loop-name.rest.now c.loop-name-test.true c.name-item.is c.in_err-rest.ensures)

pub loop-name-preserved : goal.loop-name-preserved
loop-name-preserved c = part_step c.args.names.now c.loop-name.name-index c.name-item.result c.loop-name.rest.now c.in_ok-rest.rest.now c.loop-name-test.true c.name-item.is c.in_ok-rest.ensures ∙ c.loop-name.invariant
