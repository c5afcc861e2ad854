use Rattle.std.proofs.Common.{◌∙◌, sym, arith}
use Rattle.machine_arguments.proofs.NamedParameters.{fits_past}
use Rattle.machine_arguments.proofs.arguments.fit.Goals as goal

pub returns-then-args-params : goal.returns-then-args-params
returns-then-args-params c =
    fits_past c.args.params.now c.args.args.now c.loop-i.i c.loop-i.named c.loop-i.names (omega (arith, c.loop-i-test.false, c.loop-i.auto.i-end)) c.if-args-params.true ∙ sym c.loop-i.invariant
