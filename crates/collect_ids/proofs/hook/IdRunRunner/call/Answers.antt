use Rattle.std.proofs.Common.{List, refl}
use Rattle.collect_ids.specs.Runs.{site_of, site_runner}
use Rattle.collect_ids.proofs.Called.{run_ran}
use Rattle.runtest_rules.specs.tracebacks.source_meaning.Meaning.{SourceWorld}
use Rattle.collect_ids.specs.Runs.{AreWaiting}
use Rattle.collect_ids.specs.declared.hook.IdFrame.{IdFrame}
use Rattle.collect_ids.proofs.Frames.{call_waiting, ran_if}
use Rattle.collect_ids.proofs.hook.IdRunRunner.call.Goals as goal

pub returns-clause-run : goal.returns-clause-run
returns-clause-run c =
    let before = c.args.self.now in (
      run_ran ((site_runner (site_of before)).call c.args.which.now before.world.now) before c.call_one.result (record before { world = record before.world { now = c.call_one.new.world } }) c.call_one.ensures refl,
      refl,
    )

pub returns-clause-frames : goal.returns-clause-frames
returns-clause-frames c =
    let before = c.args.self.now in
    ran_if ((site_runner (site_of before)).call c.args.which.now before.world.now) before.world.now c.call_one.new.world c.call_one.result (λ (u : SourceWorld). (frames : List IdFrame) → AreWaiting frames before.world.now → AreWaiting frames u) c.call_one.ensures
    (λ frames h. call_waiting before.limit before.table.now before.value before.name frames c.args.which.now before.world.now h)
