use Rattle.std.proofs.Common.{◌-◌, length, take, drop}
use Rattle.std.specs.List.{flat_map}
use Rattle.py_bind.specs.Modules.{path_part, slashed}
use Rattle.py_bind.proofs.Paths.{dotted_on, dotted_not, none_given, same_given}
use Rattle.py_bind.proofs.modules.behind_dotted.Goals as goal

pub returns-in_err-behind_name-in-len1-up : goal.returns-in_err-behind_name-in-len1-up
returns-in_err-behind_name-in-len1-up c = none_given c.from_residual.result (slashed c.args.dotted.now) c.args.text.now c.from_residual.ensures
    (dotted_not c.args.dotted.now c.first-item.result c.args.text.now c.in-len1-up.len_at_least c.first-item.is c.in_err-behind_name-in-len1-up.ensures)

pub returns-in_ok-behind_name-in-len1-up : goal.returns-in_ok-behind_name-in-len1-up
returns-in_ok-behind_name-in-len1-up c = same_given c.behind_parts.result (slashed c.args.dotted.now) c.args.text.now (flat_map path_part (take (length c.args.dotted.now - 1) (drop 1 c.args.dotted.now))) c.in_ok-behind_name-in-len1-up.field-0.now
    (dotted_on c.args.dotted.now c.first-item.result c.args.text.now c.in_ok-behind_name-in-len1-up.field-0.now c.in-len1-up.len_at_least c.first-item.is c.in_ok-behind_name-in-len1-up.ensures)
    c.behind_parts.ensures
