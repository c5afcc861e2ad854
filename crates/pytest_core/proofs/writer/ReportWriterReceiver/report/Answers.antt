use borrow.Rule.Reborrow.{re_v}
use Rattle.std.proofs.Common.{◌≡◌, true, false, List, refl, sym, ap, ◌∙◌}
use Rattle.report_parts.specs.declared.report.ItemReport.{ItemReport}
use Rattle.report_pieces.specs.Pieces.{piece_of}
use Rattle.pytest_core.proofs.Streamed.{stems_broke, stems_kept, stems_more}
use Rattle.pytest_core.proofs.writer.ReportWriterReceiver.report.Goals as goal

pub returns-in-Err-clause-broken : goal.returns-in-Err-clause-broken
returns-in-Err-clause-broken g c = stems_kept g.S.Sink.told g.S.Sink.faults c.args.self.now (record c.args.self.now { reports = c.push.new.self }) refl refl c.in-Err.ensures.items refl refl

pub returns-in-Ok-put_all-clause-stems : goal.returns-in-Ok-put_all-clause-stems
returns-in-Ok-put_all-clause-stems g c =
    stems_more g.S.Sink.told g.S.Sink.faults c.args.self.now (record c.args.self.now { out = re_v c.put_all.new.out c.args.self.now.out; reports = c.push.new.self }) c.args.report c.deref.result.now refl refl c.in_default-push.ensures.items
    (c.deref.ensures.value ∙ (c.in-Ok.ensures ∙ ap (λ (rs : List ItemReport). piece_of c.args.self.now.options.now rs c.args.report) c.as_slice.ensures.value)) c.in-Ok-put_all.ensures.ok c.put_all.ensures.cause.later refl

pub returns-in-Err-Failed-clause-broken : goal.returns-in-Err-Failed-clause-broken
returns-in-Err-Failed-clause-broken g c =
    let is = c.in-Err-Failed.is in
    let fail = c.in-Err-Failed.field-0-is in
    stems_broke g.S.Sink.told g.S.Sink.faults c.args.self.now (record c.args.self.now { out = re_v c.put_all.new.out c.args.self.now.out; reports = c.push.new.self; failed = true }) c.args.report c.deref.result.now refl refl c.in_default-push.ensures.items
    (c.deref.ensures.value ∙ (c.in-Ok.ensures ∙ ap (λ (rs : List ItemReport). piece_of c.args.self.now.options.now rs c.args.report) c.as_slice.ensures.value)) c.put_all.ensures.prefix c.put_all.ensures.cause.later
    (λ yes. c.put_all.ensures.cause.failed (cc))

pub returns-clause-broken : goal.returns-clause-broken
returns-clause-broken g c =
    stems_broke g.S.Sink.told g.S.Sink.faults c.args.self.now (record c.args.self.now { out = re_v c.put_all.new.out c.args.self.now.out; reports = c.push.new.self }) c.args.report c.deref.result.now refl refl c.in_default-push.ensures.items
    (c.deref.ensures.value ∙ (c.in-Ok.ensures ∙ ap (λ (rs : List ItemReport). piece_of c.args.self.now.options.now rs c.args.report) c.as_slice.ensures.value)) c.put_all.ensures.prefix c.put_all.ensures.cause.later
    (λ yes. absurd (let z : true ≡ false = sym yes ∙ c.if-self.false in cc))
