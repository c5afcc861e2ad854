use Rattle.std.proofs.Common.{length, ap}
use Rattle.worker_sessions.specs.collect_tree.Told.{collected_told}
use Rattle.pytest_core.proofs.NoWorkers.{none_placed, single}
use Rattle.pytest_core.proofs.Ran.{are_apart}
use Rattle.pytest_core.proofs.Streamed.{run_no_tree, wrote_head, wrote_run}
use Rattle.pytest_core.proofs.collected.put_single.Goals as goal

pub put_run-requires-clause-apart : goal.put_run-requires-clause-apart
put_run-requires-clause-apart g c = are_apart c.args.collected c.args.world c.requires.distinct

pub returns-in-Ok-clause-wrote : goal.returns-in-Ok-clause-wrote
returns-in-Ok-clause-wrote g c =
    let x = c.args.collected in
    let none = single c.args.options.now x.found x.places.items x.selected x.deselected x.errors.items c.args.world c.requires.single in
    wrote_run c.args.options.now x c.args.world none (none_placed c.args.options.now (collected_told x c.args.world) none) (length c.items.result.now) c.as_slice-errors.result.now (ap length c.items.ensures) c.as_slice-errors.ensures.value
    (g.S.Sink.told c.args.out.now) (g.S.Sink.told c.put_head.new.out) (g.S.Sink.told c.put_run.new.out) c.put_run.result c.in-Ok.ensures.ok c.put_run.ensures.put

pub returns-in-Ok-clause-no_tree : goal.returns-in-Ok-clause-no_tree
returns-in-Ok-clause-no_tree g c =
    let x = c.args.collected in
    let none = single c.args.options.now x.found x.places.items x.selected x.deselected x.errors.items c.args.world c.requires.single in
    run_no_tree c.args.options.now x c.args.world none (none_placed c.args.options.now (collected_told x c.args.world) none) c.as_slice-errors.result.now (g.S.Sink.told c.put_head.new.out) (g.S.Sink.told c.put_run.new.out) c.put_run.result c.put_run.ensures.put

pub returns-clause-wrote : goal.returns-clause-wrote
returns-clause-wrote g c =
    let x = c.args.collected in
    let none = single c.args.options.now x.found x.places.items x.selected x.deselected x.errors.items c.args.world c.requires.single in
    wrote_head c.args.options.now x c.args.world none (none_placed c.args.options.now (collected_told x c.args.world) none) (length c.items.result.now) c.as_slice-errors.result.now (ap length c.items.ensures) c.as_slice-errors.ensures.value
    (g.S.Sink.told c.args.out.now) (g.S.Sink.told c.put_head.new.out) c.in-Err.fault c.in-Err.ensures.broke
