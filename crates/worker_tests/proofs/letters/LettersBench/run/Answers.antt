use Rattle.std.proofs.Common.{◌≡◌, ◌<◌, ◌++◌, ℕ, List, [], sym, ap, ◌∙◌, subst, arith}
use Rattle.cli_words.specs.Options.{defaults}
use Rattle.report_parts.specs.declared.report.ItemReport.{ItemReport}
use Rattle.report_rules.specs.Collected.{Collected, report_language}
use Rattle.share_files.specs.Deal.{Every}
use Rattle.worker_runs.specs.Threads.{thread_reports}
use Rattle.worker_tests.proofs.Sessions.{below_more, printed_more, reports_more, thread_is}
use Rattle.worker_tests.specs.Letters.{file_printed, file_reports, letters_printed, letters_reports, letters_rules, letters_fixture}
use Rattle.worker_tests.specs.declared.letters.Printed.{Printed}
use Rattle.worker_tests.proofs.letters.LettersBench.run.Goals as goal

pub loop-file-preserved : goal.loop-file-preserved
loop-file-preserved g c =
    let given = g.F.Feed.given c.loop-file.feed in
    let was = c.loop-file.invariant in
    let s = c.in-Some.ensures.some in
    let n = c.in-Some.file in
    let most = was.limit in
    let less = s.2 in
    let ran = c.in_ok-run_file.ensures in
    record {
      origin = c.in-Some.ensures.same.0 ∙ was.origin;
      limit = c.in-Some.ensures.same.1 ∙ most;
      below = subst (λ (l : List ℕ). Every (λ m. m < 4) l) (sym s.4) (below_more given n was.below (omega (arith, most, less)));
      printed = ran.printed ∙ (ap (λ (w : List ℕ). file_printed w n) was.printed ∙ (sym (printed_more [] given n) ∙ ap (λ (l : List ℕ). letters_printed [] l) (sym s.4)));
      reports = ran.reports
          ∙ (ap (λ (w : List ℕ). c.loop-file.reports.items ++ file_reports w n) was.printed
          ∙ (ap (λ (l : List ItemReport). l ++ file_reports (letters_printed [] given) n) was.reports
          ∙ (sym (reports_more [] given n) ∙ ap (λ (l : List ℕ). letters_reports [] l) (sym s.4))));
    }

pub returns-clause-reports : goal.returns-clause-reports
returns-clause-reports g c =
    let given = g.F.Feed.given c.next.new.self in
    let was = c.loop-file.invariant in
    let same = c.in_default.ensures.none.1 in
    let below = subst (λ (l : List ℕ). Every (λ m. m < 4) l) (sym same) was.below in
    λ rises d is.
    subst (λ (x : Collected (report_language Printed ℕ ℕ ℕ) ℕ). c.loop-file.reports.items ≡ thread_reports letters_rules letters_fixture defaults x given) (sym is)
    (was.reports ∙ (ap (λ (l : List ℕ). letters_reports [] l) (sym same) ∙ sym (thread_is given below rises)))
