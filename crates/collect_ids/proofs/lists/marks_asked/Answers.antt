use Rattle.std.proofs.Common.{arith, List, length, get_or, ap, ◌∙◌}
use Rattle.collect_params.specs.declared.given.Parametrization.{Parametrization}
use Rattle.param_rows.specs.declared.param.ParamMark.{ParamMark}
use Rattle.py_values.specs.declared.value.Value.{Value}
use Rattle.collect_ids.specs.Asking.{asked_behind, marks_asked}
use Rattle.collect_ids.proofs.Walks.{behind_nothing, marks_done, marks_on, marks_stop}
use Rattle.collect_ids.proofs.lists.marks_asked.Goals as goal

pub loop-one-init : goal.loop-one-init
loop-one-init c =
    let all = marks_asked c.args.limit c.args.hooks.now c.args.impls.now c.args.test.now c.args.names.now c.args.test.now.parametrized c.args.world.now in
    ap (λ (xs : List (ParamMark Value)). asked_behind xs all) c.new-marks.ensures ∙ behind_nothing all

pub returns-in-Some : goal.returns-in-Some
returns-in-Some c =
    let i = c.loop-one.one-index in
    let one = c.one-item.result in
    marks_stop c.args.limit c.args.hooks.now c.args.impls.now c.args.test.now c.args.names.now c.args.test.now.parametrized i one _ _ _ _ _ _ _ _ (omega (arith, ap length c.items-one-items.ensures)) (c.one-item.is ∙ ap (λ (xs : List Parametrization). get_or xs i one) c.items-one-items.ensures) c.loop-one.invariant
    c.in_ok-fault.ensures c.in_ok-mark.ensures c.in-Some.is

pub loop-one-preserved : goal.loop-one-preserved
loop-one-preserved c =
    let i = c.loop-one.one-index in
    let one = c.one-item.result in
    marks_on c.args.limit c.args.hooks.now c.args.impls.now c.args.test.now c.args.names.now c.args.test.now.parametrized i one _ _ _ _ _ _ _ (omega (arith, ap length c.items-one-items.ensures)) (c.one-item.is ∙ ap (λ (xs : List Parametrization). get_or xs i one) c.items-one-items.ensures) c.loop-one.invariant
    c.in_ok-fault.ensures c.in_ok-mark.ensures c.in_default.is

pub returns : goal.returns
returns c = marks_done c.args.limit c.args.hooks.now c.args.impls.now c.args.test.now c.args.names.now c.args.test.now.parametrized c.loop-one.one-index _ _ _ (omega (arith, ap length c.items-one-items.ensures)) c.loop-one.invariant
