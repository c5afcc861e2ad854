use Rattle.std.proofs.Common.{ℕ, List, false, ap₂, ◌∙◌, subst}
use Rattle.report_parts.specs.declared.report.ItemReport.{ItemReport}
use Rattle.report_text.specs.Progress.{progress_of}
use Rattle.worker_sessions.specs.run_items.report_rules.Answer as printed
use Rattle.pytest_core.specs.ByWorkers.{NoErrors}
use Rattle.pytest_core.specs.Status.{status_seen}
use Rattle.pytest_core.specs.Streamed.{PutBy, rest_of}
use Rattle.pytest_core.proofs.workers.put_workers.Goals as goal

pub returns-clause-put : goal.returns-clause-put
returns-clause-put g c =
    subst (λ (l : List ℕ). PutBy (rest_of c.args.options.now c.args.count c.args.deselected NoErrors l c.args.run.reports.items false) (status_seen (printed.status_of c.args.count NoErrors c.args.run.reports.items)) (g.S.Sink.told c.args.out.now) (g.S.Sink.told c.put_rest.new.out) c.put_rest.result)
    (c.in_ok-left.ensures ∙ ap₂ (λ (rs : List ItemReport) ps. progress_of c.args.options.now rs ps) c.as_slice.ensures.value c.as_slice-2.ensures.value) c.put_rest.ensures.put
