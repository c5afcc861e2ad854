use Rattle.std.proofs.Common.{length, ap}
use Rattle.pytest_core.proofs.Streamed.{put_broke, put_run}
use Rattle.pytest_core.proofs.collected.put_run.Goals as goal

pub returns-in-Ok-clause-put : goal.returns-in-Ok-clause-put
returns-in-Ok-clause-put g c =
    put_run c.args.options.now c.args.found c.args.selected c.args.deselected c.args.errors.now c.args.world c.in-Ok.answer (length c.items.result.now) (g.S.Sink.told c.args.out.now) (g.S.Sink.told c.run_of.new.out) (g.S.Sink.told c.put_rest.new.out) c.put_rest.result
    (ap length c.items.ensures) c.in-Ok.ensures.ran c.put_rest.ensures.put

pub returns-in-Err-clause-put : goal.returns-in-Err-clause-put
returns-in-Err-clause-put g c =
    put_broke c.args.options.now c.args.found c.args.selected c.args.deselected c.args.errors.now c.args.world (g.S.Sink.told c.args.out.now) (g.S.Sink.told c.run_of.new.out) c.in-Err.fault c.in-Err.ensures.broke
