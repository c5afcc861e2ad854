use Rattle.std.proofs.Common.{arith, List, ap, ◌∙◌}
use Rattle.param_rows.specs.Ids.{Id}
use Rattle.collect_ids.specs.Asking.{asked_behind, sets_asked}
use Rattle.collect_ids.proofs.Walks.{behind_nothing, sets_done, sets_on, sets_stop}
use Rattle.collect_ids.proofs.values.sets_asked.Goals as goal

pub loop-number-init : goal.loop-number-init
loop-number-init c =
    let all = sets_asked c.args.limit c.args.hooks.now c.args.impls.now c.args.test.now 0 c.args.names.now c.args.sets.now c.args.world.now in
    ap (λ (xs : List Id). asked_behind xs all) c.new-ids.ensures ∙ behind_nothing all

pub returns-in-Some : goal.returns-in-Some
returns-in-Some c =
    sets_stop c.args.limit c.args.hooks.now c.args.impls.now c.args.test.now c.args.names.now c.args.sets.now c.loop-number.number c.index-sets-number.result _ _ _ _ _ _ _ _ (omega arith) c.index-sets-number.is c.loop-number.invariant
    c.in_ok-fault.ensures c.in_ok-id.ensures c.in-Some.is

pub loop-number-preserved : goal.loop-number-preserved
loop-number-preserved c =
    sets_on c.args.limit c.args.hooks.now c.args.impls.now c.args.test.now c.args.names.now c.args.sets.now c.loop-number.number c.index-sets-number.result _ _ _ _ _ _ _ (omega arith) c.index-sets-number.is c.loop-number.invariant
    c.in_ok-fault.ensures c.in_ok-id.ensures c.in_default.is

pub returns : goal.returns
returns c = sets_done c.args.limit c.args.hooks.now c.args.impls.now c.args.test.now c.args.names.now c.args.sets.now c.loop-number.number _ _ _ (omega arith) c.loop-number.invariant
