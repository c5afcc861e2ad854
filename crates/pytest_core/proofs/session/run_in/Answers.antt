use Rattle.std.proofs.Common.{◌++◌, List, refl, rules, sym, ap, ◌∙◌, subst}
use Rattle.report_parts.specs.declared.report.ItemReport.{ItemReport}
use Rattle.pytest_core.proofs.First.{first_begun, first_ran}
use Rattle.pytest_core.proofs.Streamed.{broke_first, err_cause, ok_cause, stems_new, wrote_all}
use Rattle.pytest_core.proofs.session.run_in.Goals as goal

pub run-end-requires-clause-from : goal.run-end-requires-clause-from
run-end-requires-clause-from g c = stems_new g.S.Sink.told g.S.Sink.faults _ c.new.ensures.items refl

pub returns-in-Ok-clause-ran : goal.returns-in-Ok-clause-ran
returns-in-Ok-clause-ran g c =
    let ran = c.in-Ok.ensures.run in
    record {
      is = first_ran c.args.plan.now c.args.options.now c.args.groups.now c.args.stand.now.world c.in-Ok.end ran.0 c.run-end.new.stand c.run-end.new.to.reports.items c.has_stopped.result c.run-end.new.feed
          c.in-Ok.ensures.done (ran.1 ∙ ap (λ (xs : List ItemReport). xs ++ ran.0) c.new.ensures.items) c.has_stopped.ensures ran.2;
      told = wrote_all g.S.Sink.told g.S.Sink.faults _ c.run-end.new.to _ c.in-Ok.ensures.stems (search rules);
    }

pub returns-in-Ok-clause-sink : goal.returns-in-Ok-clause-sink
returns-in-Ok-clause-sink g c = ok_cause g.S.Sink.told g.S.Sink.faults _ c.run-end.new.to _ _ _ c.in-Ok.ensures.stems (search rules)

pub returns-in-Err-clause-broke : goal.returns-in-Err-clause-broke
returns-in-Err-clause-broke g c =
    broke_first g.S.Sink.told g.S.Sink.faults c.args.plan.now c.args.options.now c.args.groups.now c.args.stand.now.world _ c.run-end.new.to _ c.in-Err.ensures.broken.0 c.in-Err.ensures.broken.1 (search rules) c.in-Err.fault
    c.fault_of.result c.fault_of.ensures refl
    (first_begun c.args.plan.now c.args.options.now c.args.groups.now c.args.stand.now.world c.run-end.new.to.reports.items c.run-end.new.feed c.new.result.items c.new.ensures.items c.in-Err.ensures.begun)

pub returns-in-Err-clause-sink : goal.returns-in-Err-clause-sink
returns-in-Err-clause-sink g c =
    err_cause g.S.Sink.told g.S.Sink.faults _ c.run-end.new.to _ c.in-Err.ensures.broken.0 c.in-Err.ensures.broken.1 (search rules) c.in-Err.fault c.fault_of.result c.fault_of.ensures c.in-Err.ensures.blamed refl
