use Rattle.std.proofs.Common.{ℕ, Option, Some, arith, subst}
use Rattle.pytest_core.specs.Request.{IsInBounds}
use Rattle.pytest_core.proofs.Said.{says_generated, says_tree, some_as}
use Rattle.pytest_core.proofs.Wrote.{no_fault, wrote_any, wrote_as_kept}
use Rattle.pytest_core.proofs.answer.put_run.Goals as goal

pub returns-in-Some-clause-wrote : goal.returns-in-Some-clause-wrote
returns-in-Some-clause-wrote g c =
    wrote_any _ _ (g.T.Tree.files c.args.tree.now) (g.S.Sink.told c.args.out.now) (g.S.Sink.told c.put_generated.new.out) c.put_generated.result
    (says_generated c.args.options.now (c.in-Some.seed, c.in-Some.count) c.requires.accepted c.in-Some.is) c.put_generated.ensures.wrote

pub returns-in-Some-clause-untouched : goal.returns-in-Some-clause-untouched
returns-in-Some-clause-untouched g c = λ e. absurd (no_fault c.put_generated.result c.put_generated.ensures.no_tree e)

pub returns-in-Some-clause-tree : goal.returns-in-Some-clause-tree
returns-in-Some-clause-tree g c = record { later = omega arith; failed = λ e. absurd (no_fault c.put_generated.result c.put_generated.ensures.no_tree e) }

pub returns-in-None-clause-wrote : goal.returns-in-None-clause-wrote
returns-in-None-clause-wrote g c =
    some_as (g.T.Tree.files c.args.tree.now) _ _ (λ fs h. wrote_as_kept _ _ fs (g.S.Sink.told c.args.out.now) (g.S.Sink.told c.put_tree.new.out) c.put_tree.result (says_tree c.args.options.now c.requires.accepted c.in-None.is) h) c.put_tree.ensures.wrote

pub put_generated-requires-clause-bounds : goal.put_generated-requires-clause-bounds
put_generated-requires-clause-bounds g c κs within = subst (λ (o : Option (ℕ × ℕ)). IsInBounds o) c.in-Some.is c.requires.bounds
