use Rattle.std.proofs.Common.{◌<◌, length, rules}
use Rattle.std.specs.Prelude.{option_copied}
use Rattle.machine_state.specs.Places.{arguments_in}
use Rattle.machine_arguments.proofs.Shapes.{shaped_more}
use Rattle.machine_arguments.proofs.shape.shape_named.Goals as goal

pub loop-i-preserved : goal.loop-i-preserved
loop-i-preserved c =
    let within : c.loop-i.i < length c.args.values.now = search rules in
    shaped_more c.args.names.now c.args.values.now c.loop-i.i (arguments_in c.loop-i.given) c.loop-i.invariant (arguments_in c.put.new.given) (option_copied c.name_at.result) _ within c.name_at.ensures c.in_ok-put.ensures
