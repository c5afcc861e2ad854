use Rattle.std.proofs.Common.{ℕ, List, false, sym, ap, ◌∙◌}
use Rattle.py_context.proofs.StatementPlaces.{param_places, param_list, param_found, param_none}
use Rattle.py_context.proofs.statements.in_params.Goals as goal

pub loop-param-init : goal.loop-param-init
loop-param-init c = ap (λ (b : List (List ℕ)). param_list c.args.globals.now b false c.args.params.now) c.new-before.ensures.items

pub returns-in-Some : goal.returns-in-Some
returns-in-Some c =
    let p = c.param-item.result in
    param_found c.args.globals.now c.loop-param.before.items c.loop-param.defaulted c.args.params.now c.loop-param.param-index p c.in-Some.at _ c.loop-param-test.true c.param-item.is
    (sym c.in-Some.is ∙ (c.in_ok-at.ensures ∙ ap (λ (b : List (List ℕ)). param_places c.args.globals.now b c.loop-param.defaulted p) c.deref.ensures.value)) c.loop-param.invariant

pub returns : goal.returns
returns c = param_none c.args.globals.now c.loop-param.before.items c.loop-param.defaulted c.args.params.now c.loop-param.param-index _ c.loop-param-test.false c.loop-param.invariant
