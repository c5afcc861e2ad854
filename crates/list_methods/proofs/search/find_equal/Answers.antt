use Rattle.std.proofs.Common.{◌≡◌, ◌+◌, ◌≤◌, ◌∙◌, arith, drop}
use Rattle.std.proofs.lemmas.List.{at_drop_all}
use Rattle.py_compare.specs.Equal.{equal_of}
use Rattle.list_methods.specs.Search.{search_from}
use Rattle.list_methods.proofs.Searching.{search_none, search_over, search_hits, search_goes, search_sinks, search_breaks, search_ends}
use Rattle.list_methods.proofs.search.find_equal.Goals as goal

pub returns-then-budget-spent : goal.returns-then-budget-spent
returns-then-budget-spent c =
    search_none (equal_of c.args.heap.now c.args.v) 0 c.args.spent c.args.budget c.args.items.now (omega arith)

pub returns-in-Yes : goal.returns-in-Yes
returns-in-Yes c =
    search_hits (equal_of c.args.heap.now c.args.v) c.loop-i.used c.in-Yes.n c.args.budget c.args.items.now c.loop-i.i _ (search_from (equal_of c.args.heap.now c.args.v) 0 c.args.spent c.args.items.now)
    (omega arith) (omega arith) c.loop-i.invariant.rest c.in-Yes.ensures

pub returns-in-TooDeep : goal.returns-in-TooDeep
returns-in-TooDeep c =
    search_sinks (equal_of c.args.heap.now c.args.v) c.loop-i.used c.in-TooDeep.n c.args.budget c.args.items.now c.loop-i.i _ (search_from (equal_of c.args.heap.now c.args.v) 0 c.args.spent c.args.items.now)
    (omega arith) (omega arith) c.loop-i.invariant.rest c.in-TooDeep.ensures

pub returns-in-NotOrdered : goal.returns-in-NotOrdered
returns-in-NotOrdered c =
    search_breaks (equal_of c.args.heap.now c.args.v) c.loop-i.used c.in-NotOrdered.n c.args.budget c.args.items.now c.loop-i.i _ (search_from (equal_of c.args.heap.now c.args.v) 0 c.args.spent c.args.items.now)
    (omega arith) (omega arith) c.loop-i.invariant.rest c.in-NotOrdered.ensures

pub returns-in-Exhausted : goal.returns-in-Exhausted
returns-in-Exhausted c =
    search_over (equal_of c.args.heap.now c.args.v) c.loop-i.used c.args.budget c.args.items.now c.loop-i.i _ (search_from (equal_of c.args.heap.now c.args.v) 0 c.args.spent c.args.items.now)
    (omega arith) (omega arith) c.loop-i.invariant.rest c.in-Exhausted.ensures

pub loop-i-preserved : goal.loop-i-preserved
loop-i-preserved c =
    let k : ((search_from (equal_of c.args.heap.now c.args.v) 0 c.args.spent c.args.items.now) ≡ search_from (equal_of c.args.heap.now c.args.v) (c.loop-i.i + 1) (c.loop-i.used + c.in-No.n) (drop (c.loop-i.i + 1) c.args.items.now)) × (c.loop-i.used + c.in-No.n ≤ c.args.budget) =
    search_goes (equal_of c.args.heap.now c.args.v) c.loop-i.used c.in-No.n c.args.budget c.args.items.now c.loop-i.i _ (search_from (equal_of c.args.heap.now c.args.v) 0 c.args.spent c.args.items.now)
    (omega arith) (omega arith) c.loop-i.invariant.rest c.in-No.ensures in
    record { rest = k.0; within = k.1 }

pub returns : goal.returns
returns c =
    search_ends (equal_of c.args.heap.now c.args.v) c.loop-i.used c.args.budget c.loop-i.i (search_from (equal_of c.args.heap.now c.args.v) 0 c.args.spent c.args.items.now) c.loop-i.invariant.within
    (c.loop-i.invariant.rest ∙ at_drop_all (search_from (equal_of c.args.heap.now c.args.v) c.loop-i.i c.loop-i.used) c.args.items.now c.loop-i.i (omega arith))
