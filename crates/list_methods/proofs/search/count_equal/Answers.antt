use Rattle.std.proofs.Common.{◌≡◌, ◌+◌, ◌≤◌, ◌∙◌, arith, drop}
use Rattle.std.proofs.lemmas.List.{at_drop_all}
use Rattle.py_compare.specs.Equal.{equal_of}
use Rattle.list_methods.specs.Search.{tally_from}
use Rattle.list_methods.proofs.Searching.{tally_none, tally_over, tally_goes, tally_sinks, tally_breaks, tally_ends}
use Rattle.list_methods.proofs.search.count_equal.Goals as goal

pub returns-then-budget-spent : goal.returns-then-budget-spent
returns-then-budget-spent c =
    tally_none (equal_of c.args.heap.now c.args.v) 0 c.args.spent c.args.budget c.args.items.now (omega arith)

pub returns-in-TooDeep : goal.returns-in-TooDeep
returns-in-TooDeep c =
    tally_sinks (equal_of c.args.heap.now c.args.v) c.loop-x.count c.loop-x.used c.in-TooDeep.n c.args.budget c.args.items.now c.loop-x.x-index _ (tally_from (equal_of c.args.heap.now c.args.v) 0 c.args.spent c.args.items.now)
    (omega arith) (omega arith) c.loop-x.invariant.rest c.in-TooDeep.ensures

pub returns-in-NotOrdered : goal.returns-in-NotOrdered
returns-in-NotOrdered c =
    tally_breaks (equal_of c.args.heap.now c.args.v) c.loop-x.count c.loop-x.used c.in-NotOrdered.n c.args.budget c.args.items.now c.loop-x.x-index _ (tally_from (equal_of c.args.heap.now c.args.v) 0 c.args.spent c.args.items.now)
    (omega arith) (omega arith) c.loop-x.invariant.rest c.in-NotOrdered.ensures

pub returns-in-Exhausted : goal.returns-in-Exhausted
returns-in-Exhausted c =
    tally_over (equal_of c.args.heap.now c.args.v) c.loop-x.count c.loop-x.used c.args.budget c.args.items.now c.loop-x.x-index _ (tally_from (equal_of c.args.heap.now c.args.v) 0 c.args.spent c.args.items.now)
    (omega arith) (omega arith) c.loop-x.invariant.rest c.in-Exhausted.ensures

pub loop-x-preserved : goal.loop-x-preserved
loop-x-preserved c =
    let k : ((tally_from (equal_of c.args.heap.now c.args.v) 0 c.args.spent c.args.items.now) ≡ tally_from (equal_of c.args.heap.now c.args.v) c.loop-x.count (c.loop-x.used + c.in-No.n) (drop (c.loop-x.x-index + 1) c.args.items.now)) × (c.loop-x.used + c.in-No.n ≤ c.args.budget) =
    tally_goes (equal_of c.args.heap.now c.args.v) c.loop-x.count c.loop-x.used c.in-No.n c.args.budget c.args.items.now c.loop-x.x-index _ (tally_from (equal_of c.args.heap.now c.args.v) 0 c.args.spent c.args.items.now)
    (omega arith) (omega arith) c.loop-x.invariant.rest c.in-No.ensures in
    record { rest = k.0; within = k.1; few = omega arith }

pub returns : goal.returns
returns c =
    tally_ends (equal_of c.args.heap.now c.args.v) c.loop-x.count c.loop-x.used c.args.budget (tally_from (equal_of c.args.heap.now c.args.v) 0 c.args.spent c.args.items.now) c.loop-x.invariant.within
    (c.loop-x.invariant.rest ∙ at_drop_all (tally_from (equal_of c.args.heap.now c.args.v) c.loop-x.count c.loop-x.used) c.args.items.now c.loop-x.x-index (omega arith))
