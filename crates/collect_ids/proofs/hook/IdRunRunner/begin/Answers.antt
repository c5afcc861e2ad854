use Rattle.std.proofs.Common.{refl}
use Rattle.collect_ids.specs.Runs.{site_of, site_runner}
use Rattle.collect_ids.proofs.Called.{run_opened}
use Rattle.collect_ids.proofs.Frames.{begin_waiting, opened_waiting}
use Rattle.collect_ids.proofs.hook.IdRunRunner.begin.Goals as goal

pub returns-clause-run : goal.returns-clause-run
returns-clause-run c =
    let before = c.args.self.now in (
      run_opened ((site_runner (site_of before)).begin c.args.which.now before.world.now) before c.open_one.result (record before { world = record before.world { now = c.open_one.new.world } }) c.open_one.ensures refl,
      refl,
    )

pub returns-clause-frames : goal.returns-clause-frames
returns-clause-frames c = λ frames h.
    let before = c.args.self.now in
    opened_waiting ((site_runner (site_of before)).begin c.args.which.now before.world.now) before.world.now c.open_one.new.world c.open_one.result frames c.open_one.ensures
    (begin_waiting before.limit before.table.now before.value before.name frames c.args.which.now before.world.now h)
