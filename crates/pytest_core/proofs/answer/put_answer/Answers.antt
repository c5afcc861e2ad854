use Rattle.std.proofs.Common.{[], arith, map, string_bytes, subst}
use Rattle.pytest_core.specs.Report.{IsTreeReport}
use Rattle.pytest_core.specs.Request.{WordsAsk}
use Rattle.pytest_core.specs.declared.request.Request.TheVariants.{Run, Said}
use Rattle.pytest_core.proofs.Asked.{no_maxfail, run_said, run_words}
use Rattle.pytest_core.proofs.Generated.{generated_fits}
use Rattle.pytest_core.proofs.Said.{said_by, some_of, some_as}
use Rattle.pytest_core.proofs.Streamed.{wrote_as, wrote_response}
use Rattle.pytest_core.proofs.Wrote.{no_fault_put, said_ok}
use Rattle.pytest_core.proofs.answer.put_answer.Goals as goal

pub returns-in-Said-clause-report : goal.returns-in-Said-clause-report
returns-in-Said-clause-report g c =
    let asks : WordsAsk (map string_bytes c.args.words.now) (Said c.in-Said.response) = subst (WordsAsk (map string_bytes c.args.words.now)) c.in-Said.is c.in_ok-request.ensures in
    some_of (g.T.Tree.files c.args.tree.now) _ (λ fs. wrote_response (IsTreeReport (map string_bytes c.args.words.now) fs) c.in-Said.response.0.items c.in-Said.response.1 (g.S.Sink.told c.args.out.now) (g.S.Sink.told c.put_response.new.out) c.put_response.result (asks fs) c.put_response.ensures.put)

pub returns-in-Said-clause-said : goal.returns-in-Said-clause-said
returns-in-Said-clause-said g c =
    let asks : WordsAsk (map string_bytes c.args.words.now) (Said c.in-Said.response) = subst (WordsAsk (map string_bytes c.args.words.now)) c.in-Said.is c.in_ok-request.ensures in
    said_ok _ c.in-Said.response.1 _ _ c.put_response.result (said_by (IsTreeReport (map string_bytes c.args.words.now) []) (c.in-Said.response.0.items, c.in-Said.response.1) (asks [])) c.put_response.ensures.put

pub returns-in-Said-clause-untouched : goal.returns-in-Said-clause-untouched
returns-in-Said-clause-untouched g c = λ e. absurd (no_fault_put _ _ _ _ c.put_response.result c.put_response.ensures.put e)

pub returns-in-Said-clause-read : goal.returns-in-Said-clause-read
returns-in-Said-clause-read g c = λ e. absurd (no_fault_put _ _ _ _ c.put_response.result c.put_response.ensures.put e)

pub returns-in-Said-clause-tree : goal.returns-in-Said-clause-tree
returns-in-Said-clause-tree g c = record { later = omega arith; failed = λ e. absurd (no_fault_put _ _ _ _ c.put_response.result c.put_response.ensures.put e) }

pub returns-in-Run-clause-report : goal.returns-in-Run-clause-report
returns-in-Run-clause-report g c =
    let asks : WordsAsk (map string_bytes c.args.words.now) (Run c.in-Run.options c.in-Run.exprs) = subst (WordsAsk (map string_bytes c.args.words.now)) c.in-Run.is c.in_ok-request.ensures in
    some_as (g.T.Tree.files c.args.tree.now) _ _
    (λ fs h. wrote_as _ (IsTreeReport (map string_bytes c.args.words.now) fs) (g.S.Sink.told c.args.out.now) (g.S.Sink.told c.put_run.new.out) c.put_run.result (run_said (map string_bytes c.args.words.now) c.in-Run.options c.in-Run.exprs asks fs) h) c.put_run.ensures.wrote

pub returns-in-Run-clause-read : goal.returns-in-Run-clause-read
returns-in-Run-clause-read g c =
    let asks : WordsAsk (map string_bytes c.args.words.now) (Run c.in-Run.options c.in-Run.exprs) = subst (WordsAsk (map string_bytes c.args.words.now)) c.in-Run.is c.in_ok-request.ensures in
    λ e. run_words (map string_bytes c.args.words.now) c.in-Run.options c.in-Run.exprs asks

pub put_run-requires-clause-conflict : goal.put_run-requires-clause-conflict
put_run-requires-clause-conflict g c κs within =
    let asks : WordsAsk (map string_bytes c.args.words.now) (Run c.in-Run.options c.in-Run.exprs) = subst (WordsAsk (map string_bytes c.args.words.now)) c.in-Run.is c.in_ok-request.ensures in
    no_maxfail (map string_bytes c.args.words.now) c.in-Run.options asks.1

pub put_run-requires-clause-bounds : goal.put_run-requires-clause-bounds
put_run-requires-clause-bounds g c κs within =
    let asks : WordsAsk (map string_bytes c.args.words.now) (Run c.in-Run.options c.in-Run.exprs) = subst (WordsAsk (map string_bytes c.args.words.now)) c.in-Run.is c.in_ok-request.ensures in
    generated_fits (map string_bytes c.args.words.now) c.in-Run.options asks.1
