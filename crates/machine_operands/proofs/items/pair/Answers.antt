use Rattle.std.proofs.Common.{◌+◌, length, arith}
use Rattle.std.proofs.lemmas.Result.{IfOk-weaker}
use Rattle.machine_state.specs.Work.{stack_work}
use Rattle.machine_expr.specs.Pairs.{pairs_weight}
use Rattle.machine_operands.proofs.Weights.{falls_more}
use Rattle.machine_operands.proofs.items.pair.Goals as goal

pub returns-in_ok-made-in-None-clause-work : goal.returns-in_ok-made-in-None-clause-work
returns-in_ok-made-in-None-clause-work c =
    let m = c.args.m.now in
    IfOk-weaker c.settle.result _ _
    (λ t h. falls_more t c.settle.new.m m.left (1 + stack_work m) (pairs_weight (length c.args.so_far.items) c.args.ks c.args.es + 1 + stack_work m) (omega arith) h) c.settle.ensures.work
