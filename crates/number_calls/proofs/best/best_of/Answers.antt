use Rattle.std.proofs.Common.{◌∙◌, arith, sym}
use Rattle.number_calls.specs.Best.{best_from}
use Rattle.number_calls.proofs.Picking.{best_over, best_short, none_within}
use Rattle.number_calls.proofs.best.best_of.Goals as goal

pub returns-then-budget-eq0 : goal.returns-then-budget-eq0
returns-then-budget-eq0 c = none_within c.args.least c.args.heap.now c.args.first c.args.budget c.args.rest.now (omega arith)

pub returns-then-budget-used-lt2 : goal.returns-then-budget-used-lt2
returns-then-budget-used-lt2 c =
    best_short c.args.least c.args.heap.now c.loop-v.best c.loop-v.used c.args.budget c.args.rest.now c.loop-v.v-index c.args.first
    (best_from c.args.least c.args.heap.now c.args.first 1 c.args.rest.now) (omega arith) (omega arith) c.loop-v.invariant.rest

pub returns-in-None : goal.returns-in-None
returns-in-None c =
    best_over c.args.least c.args.heap.now c.loop-v.best c.loop-v.used c.args.budget c.args.rest.now c.loop-v.v-index _
    (best_from c.args.least c.args.heap.now c.args.first 1 c.args.rest.now) (omega arith) (omega arith) (sym c.in-None.is ∙ c.in_ok-told.ensures) c.loop-v.invariant.rest
