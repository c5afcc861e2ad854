use Rattle.pytest_core.proofs.Said.{some_as}
use Rattle.pytest_core.proofs.Wrote.{limit_untouched, limit_wrote, no_fault, wrote_kept}
use Rattle.pytest_core.proofs.answer.put_tree.Goals as goal

pub returns-in-Ok-clause-wrote : goal.returns-in-Ok-clause-wrote
returns-in-Ok-clause-wrote g c =
    some_as (g.T.Tree.files c.args.tree.now) _ _ (λ fs kept. wrote_kept _ fs c.in-Ok.files (g.S.Sink.told c.args.out.now) (g.S.Sink.told c.put_files.new.out) c.put_files.result kept c.put_files.ensures.wrote) c.in-Ok.ensures.kept

pub returns-in-Ok-clause-untouched : goal.returns-in-Ok-clause-untouched
returns-in-Ok-clause-untouched g c = λ e. absurd (no_fault c.put_files.result c.put_files.ensures.no_tree e)

pub returns-in-Ok-clause-tree : goal.returns-in-Ok-clause-tree
returns-in-Ok-clause-tree g c = record { later = c.load_files.ensures.cause.later; failed = λ e. absurd (no_fault c.put_files.result c.put_files.ensures.no_tree e) }

pub returns-in-Err-clause-wrote : goal.returns-in-Err-clause-wrote
returns-in-Err-clause-wrote g c =
    limit_wrote c.args.options.now (g.T.Tree.files c.args.tree.now) c.in-Err.fault (g.S.Sink.told c.args.out.now) (g.S.Sink.told c.put_limit.new.out) c.put_limit.result c.in-Err.ensures.limit c.put_limit.ensures.put

pub returns-in-Err-clause-untouched : goal.returns-in-Err-clause-untouched
returns-in-Err-clause-untouched g c = λ e. limit_untouched c.in-Err.fault (g.S.Sink.told c.args.out.now) (g.S.Sink.told c.put_limit.new.out) c.put_limit.result c.put_limit.ensures.put e
