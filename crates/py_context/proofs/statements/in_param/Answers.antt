use Rattle.std.proofs.Common.{◌++◌}
use Rattle.py_tree.specs.Trees.{some_tree}
use Rattle.py_grammar.specs.Context.{unless, in_maybe}
use Rattle.py_context.proofs.StatementPlaces.{param_joined}
use Rattle.py_context.proofs.statements.in_param.Goals as goal

pub returns : goal.returns
returns c =
    let p = c.args.param.now in
    param_joined c.args.globals.now c.args.before.now c.args.defaulted p c.may_follow.result c.join-2.result c.may_follow.ensures
    (c.join-2.ensures (unless c.may_follow.result p.at) (in_maybe (some_tree p.annotation) ++ in_maybe (some_tree p.default)) c.unless.ensures
    (c.join.ensures (in_maybe (some_tree p.annotation)) (in_maybe (some_tree p.default)) c.in_optional.ensures c.in_optional-2.ensures))
