use Rattle.std.proofs.Common.{[], refl, subst, sym, ap, ◌∙◌}
use Rattle.report_text.specs.Progress.{progress_of}
use Rattle.worker_sessions.specs.run_items.NotRun.{AreNotRun}
use Rattle.pytest_core.proofs.Ran.{answer_listed}
use Rattle.pytest_core.proofs.collected.listed.Goals as goal

pub returns : goal.returns
returns c = λ errors w.
    record {
      is = answer_listed c.args.options.now c.args.found.now c.args.selected.now errors w c.in_ok-reports.reports.items _ c.requires.listing c.requires.numbers
          (subst (λ is. AreNotRun is c.args.selected.now c.in_ok-reports.reports.items) c.items.ensures c.in_ok-reports.ensures) refl;
      whole = sym (c.in_ok-left.ensures ∙ ap (λ reports. progress_of c.args.options.now reports []) c.as_slice.ensures.value);
    }
