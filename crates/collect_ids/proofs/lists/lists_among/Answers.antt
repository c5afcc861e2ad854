use Rattle.std.proofs.Common.{ℕ, List, arith, map, ap, ◌∙◌}
use Rattle.param_rows.specs.Ids.{Id}
use Rattle.collect_rows.specs.Seen.{seen_list}
use Rattle.collect_ids.specs.Asking.{asked_behind, lists_asked}
use Rattle.collect_ids.proofs.Walks.{behind_nothing, lists_done, lists_on, lists_stop}
use Rattle.collect_ids.proofs.lists.lists_among.Goals as goal

pub loop-def-init : goal.loop-def-init
loop-def-init c =
    let all = lists_asked c.args.limit c.args.hooks.now c.args.impls.now c.args.test.now c.args.definitions.now c.args.closure.now c.args.world.now in
    ap (λ (xs : List (ℕ × List Id)). asked_behind xs all) (ap (map seen_list) c.new-lists.ensures.items) ∙ behind_nothing all

pub returns-in-Some : goal.returns-in-Some
returns-in-Some c =
    lists_stop c.args.limit c.args.hooks.now c.args.impls.now c.args.test.now c.args.definitions.now c.args.closure.now c.loop-def.def-index c.def-item.result _ _ _ _ _ _ _ (omega arith) c.def-item.is c.loop-def.invariant c.in_ok-fault.ensures c.in-Some.is

pub loop-def-preserved : goal.loop-def-preserved
loop-def-preserved c =
    lists_on c.args.limit c.args.hooks.now c.args.impls.now c.args.test.now c.args.definitions.now c.args.closure.now c.loop-def.def-index c.def-item.result _ _ _ _ _ _ (omega arith) c.def-item.is c.loop-def.invariant c.in_ok-fault.ensures c.in_default.is

pub returns : goal.returns
returns c = lists_done c.args.limit c.args.hooks.now c.args.impls.now c.args.test.now c.args.definitions.now c.args.closure.now c.loop-def.def-index _ _ _ (omega arith) c.loop-def.invariant
