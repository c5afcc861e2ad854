use Rattle.std.proofs.Common.{arith, List, ap, ◌∙◌}
use Rattle.param_rows.specs.Ids.{Id}
use Rattle.collect_ids.specs.Asking.{asked_behind, values_asked}
use Rattle.collect_ids.proofs.Walks.{behind_nothing, values_done, values_on, values_stop}
use Rattle.collect_ids.proofs.values.values_asked.Goals as goal

pub loop-at-init : goal.loop-at-init
loop-at-init c =
    let all = values_asked c.args.limit c.args.hooks.now c.args.impls.now c.args.test.now c.args.number c.args.names.now c.args.values.now c.args.world.now in
    ap (λ (xs : List Id). asked_behind xs all) c.new-ids.ensures ∙ behind_nothing all

pub returns-in-Some : goal.returns-in-Some
returns-in-Some c =
    values_stop c.args.limit c.args.hooks.now c.args.impls.now c.args.test.now c.args.number c.args.names.now c.args.values.now c.loop-at.at c.index-names-at.result _ _ _ _ _ _ _ _ _ (omega arith) (omega arith) c.index-names-at.is c.loop-at.invariant
    c.in_ok-fault.ensures c.in_ok-id.ensures c.in-Some.is

pub loop-at-preserved : goal.loop-at-preserved
loop-at-preserved c =
    values_on c.args.limit c.args.hooks.now c.args.impls.now c.args.test.now c.args.number c.args.names.now c.args.values.now c.loop-at.at c.index-names-at.result _ _ _ _ _ _ _ _ (omega arith) (omega arith) c.index-names-at.is c.loop-at.invariant
    c.in_ok-fault.ensures c.in_ok-id.ensures c.in_default.is

pub returns : goal.returns
returns c = values_done c.args.limit c.args.hooks.now c.args.impls.now c.args.test.now c.args.number c.args.names.now c.args.values.now c.loop-at.at _ _ _ (omega arith) c.loop-at.invariant
