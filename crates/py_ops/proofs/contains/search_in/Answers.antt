use Rattle.std.proofs.Common.{arith, drop, length, ap, ◌∙◌, ◌<◌, ◌+◌, ◌≤◌, ◌≡◌}
use Rattle.py_compare.specs.Equal.{after, equal_of}
use Rattle.py_ops.specs.Compare.{search_in}
use Rattle.py_ops.proofs.Searching.{search_turn, search_cost, search_spent, search_yes, search_deep, search_unordered, search_over, search_go}
use Rattle.py_ops.proofs.contains.search_in.Goals as goal

pub returns-then-used-budget : goal.returns-then-used-budget
returns-then-used-budget c =
    search_spent c.args.budget c.loop-v.used (search_in (equal_of c.args.heap.now c.args.a) c.args.vs.now) (search_in (equal_of c.args.heap.now c.args.a) (drop c.loop-v.v-index c.args.vs.now))
    c.loop-v.invariant.rest (omega arith) (search_cost (equal_of c.args.heap.now c.args.a) c.args.vs.now c.loop-v.v-index (omega arith))

pub returns-in-Yes : goal.returns-in-Yes
returns-in-Yes c =
    let lt : c.loop-v.v-index < length c.args.vs.now = omega arith in
    search_yes c.args.budget c.loop-v.used c.in-Yes.n (search_in (equal_of c.args.heap.now c.args.a) c.args.vs.now) (search_in (equal_of c.args.heap.now c.args.a) (drop (c.loop-v.v-index + 1) c.args.vs.now)) _ _
    (c.loop-v.invariant.rest ∙ ap (after c.loop-v.used) (search_turn (equal_of c.args.heap.now c.args.a) c.args.vs.now c.loop-v.v-index _ lt)) (omega arith) c.in-Yes.ensures

pub returns-in-TooDeep : goal.returns-in-TooDeep
returns-in-TooDeep c =
    let lt : c.loop-v.v-index < length c.args.vs.now = omega arith in
    search_deep c.args.budget c.loop-v.used c.in-TooDeep.n (search_in (equal_of c.args.heap.now c.args.a) c.args.vs.now) (search_in (equal_of c.args.heap.now c.args.a) (drop (c.loop-v.v-index + 1) c.args.vs.now)) _ _
    (c.loop-v.invariant.rest ∙ ap (after c.loop-v.used) (search_turn (equal_of c.args.heap.now c.args.a) c.args.vs.now c.loop-v.v-index _ lt)) (omega arith) c.in-TooDeep.ensures

pub returns-in-NotOrdered : goal.returns-in-NotOrdered
returns-in-NotOrdered c =
    let lt : c.loop-v.v-index < length c.args.vs.now = omega arith in
    search_unordered c.args.budget c.loop-v.used c.in-NotOrdered.n (search_in (equal_of c.args.heap.now c.args.a) c.args.vs.now) (search_in (equal_of c.args.heap.now c.args.a) (drop (c.loop-v.v-index + 1) c.args.vs.now)) _ _
    (c.loop-v.invariant.rest ∙ ap (after c.loop-v.used) (search_turn (equal_of c.args.heap.now c.args.a) c.args.vs.now c.loop-v.v-index _ lt)) (omega arith) c.in-NotOrdered.ensures

pub returns-in-Exhausted : goal.returns-in-Exhausted
returns-in-Exhausted c =
    let lt : c.loop-v.v-index < length c.args.vs.now = omega arith in
    search_over c.args.budget c.loop-v.used (search_in (equal_of c.args.heap.now c.args.a) c.args.vs.now) (search_in (equal_of c.args.heap.now c.args.a) (drop (c.loop-v.v-index + 1) c.args.vs.now)) _ _
    (c.loop-v.invariant.rest ∙ ap (after c.loop-v.used) (search_turn (equal_of c.args.heap.now c.args.a) c.args.vs.now c.loop-v.v-index _ lt)) (omega arith) c.in-Exhausted.ensures

pub loop-v-preserved : goal.loop-v-preserved
loop-v-preserved c =
    let lt : c.loop-v.v-index < length c.args.vs.now = omega arith in
    let k : ((search_in (equal_of c.args.heap.now c.args.a) c.args.vs.now) ≡ after (c.loop-v.used + 1 + c.in-No.n) (search_in (equal_of c.args.heap.now c.args.a) (drop (c.loop-v.v-index + 1) c.args.vs.now))) × (c.loop-v.used + 1 + c.in-No.n ≤ c.args.budget) =
    search_go c.args.budget c.loop-v.used c.in-No.n (search_in (equal_of c.args.heap.now c.args.a) c.args.vs.now) (search_in (equal_of c.args.heap.now c.args.a) (drop (c.loop-v.v-index + 1) c.args.vs.now)) _ _
    (c.loop-v.invariant.rest ∙ ap (after c.loop-v.used) (search_turn (equal_of c.args.heap.now c.args.a) c.args.vs.now c.loop-v.v-index _ lt)) (omega arith) c.in-No.ensures in
    record { rest = k.0; within = k.1 }
