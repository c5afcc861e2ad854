use Rattle.std.proofs.Common.{List, ◌∷◌, refl}
use Rattle.collect_ids.specs.Runs.{site_of, site_runner}
use Rattle.collect_ids.proofs.Called.{run_given, run_ran}
use Rattle.hook_order.proofs.Waiting.{if_inner}
use Rattle.runtest_rules.specs.tracebacks.source_meaning.Meaning.{SourceWorld}
use Rattle.collect_ids.specs.Runs.{AreWaiting}
use Rattle.collect_ids.specs.declared.hook.IdFrame.{IdFrame}
use Rattle.collect_ids.proofs.Frames.{resume_waiting, went_if}
use Rattle.collect_ids.proofs.hook.IdRunRunner.resume.Goals as goal

pub returns-clause-run : goal.returns-clause-run
returns-clause-run c =
    let before = c.args.self.now in (
      λ inside e. run_ran ((site_runner (site_of before)).resume c.args.frozen inside before.world.now) before c.resume_one.result (record before { world = record before.world { now = c.resume_one.new.world } })
          (c.resume_one.ensures.run before.value before.name inside (run_given c.args.inner inside e)) refl,
      refl,
    )

pub resume_one-requires : goal.resume_one-requires
resume_one-requires c = record { out = if_inner _ _ c.args.inner (λ h. h.1.0.0) c.requires.frames }

pub returns-clause-frames : goal.returns-clause-frames
returns-clause-frames c =
    let before = c.args.self.now in
    went_if (λ inside. (site_runner (site_of before)).resume c.args.frozen inside before.world.now) before.world.now c.resume_one.new.world c.args.inner c.resume_one.result
    (λ (u : SourceWorld). (frames : List IdFrame) → AreWaiting (c.args.frozen ∷ frames) before.world.now → AreWaiting frames u) (c.resume_one.ensures.run before.value before.name)
    (λ inside frames h. resume_waiting before.limit before.table.now before.value before.name frames c.args.frozen inside before.world.now h)
