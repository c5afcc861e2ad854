use Rattle.std.proofs.Common.{refl}
use Rattle.pytest_core.proofs.Reports.{tells}
use Rattle.worker_sessions.specs.run_items.runtest_rules.Rules.{rules}
use Rattle.pytest_core.proofs.laws.what_a_report_tells.Goals as goal

pub returns : goal.returns
returns c = tells (record {
  fits = λ options sources collected same. c.what_is_collected_fits.ensures options sources collected same (rules options collected.table) refl (λ d. refl);
  built_ins = λ options sources collected same chosen m. c.hooks_have_the_built_ins.ensures options sources collected same chosen.item;
  frames = c.sources_keep_their_frames.ensures;
  none_out = c.collection_leaves_no_frame_out.ensures;
})
