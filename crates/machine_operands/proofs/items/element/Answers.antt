use Rattle.std.proofs.Common.{◌+◌, length, arith}
use Rattle.std.proofs.lemmas.Result.{IfOk-weaker}
use Rattle.machine_state.specs.Work.{stack_work, weight_from}
use Rattle.machine_operands.proofs.Weights.{falls_more}
use Rattle.machine_operands.proofs.items.element.Goals as goal

pub returns-in_ok-made-in-None-clause-work : goal.returns-in_ok-made-in-None-clause-work
returns-in_ok-made-in-None-clause-work c =
    let m = c.args.m.now in
    IfOk-weaker c.settle.result _ _
    (λ t h. falls_more t c.settle.new.m m.left (1 + stack_work m) (weight_from (length c.args.so_far.items) c.args.es + 1 + stack_work m) (omega arith) h) c.settle.ensures.work
