use Rattle.std.proofs.Common.{arith}
use Rattle.pytest_core.proofs.ByWorkers.{wrote_begun}
use Rattle.pytest_core.proofs.workers.put_sized.Goals as goal

pub put_crew-requires-clause-workers : goal.put_crew-requires-clause-workers
put_crew-requires-clause-workers g c κs within = (let few = c.min-workers.ensures in let long = c.len.ensures in let all = c.args.sizes.ok in omega (arith, few, long, all))

pub returns-in-Ok-clause-wrote : goal.returns-in-Ok-clause-wrote
returns-in-Ok-clause-wrote g c = λ d collected sized whole. c.put_crew.ensures.wrote d collected sized whole (g.S.Sink.told c.args.out.now) c.in-Ok.ensures.ok

pub returns-in-Err-clause-wrote : goal.returns-in-Err-clause-wrote
returns-in-Err-clause-wrote g c =
    λ d collected sized whole.
    wrote_begun c.args.options.now d c.requires.asks c.args.count c.args.deselected whole c.args.sizes.items sized c.requires.some c.min-workers.result (let few = c.min-workers.ensures in let long = c.len.ensures in let all = c.args.sizes.ok in omega (arith, few, long, all))
    (g.S.Sink.told c.args.out.now) (g.S.Sink.told c.put_head.new.out) c.in-Err.fault c.in-Err.ensures.broke
