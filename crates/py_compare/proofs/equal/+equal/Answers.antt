use Rattle.std.proofs.Common.{arith, drop, ◌<◌, ◌≤◌, ◌+◌, ◌∙◌, ap, rules, ◌≡◌}
use Rattle.py_compare.proofs.Comparing.{told_spent, rows_cost, equal_ref, told_stop, told_go, pairs_step}
use Rattle.py_compare.specs.Equal.{rows_equal, pairs_equal, pair_equal, after, equal_to}
use Rattle.py_compare.proofs.equal.+equal.Goals as goal

pub equal_rows-returns-then-used-left : goal.equal_rows-returns-then-used-left
equal_rows-returns-then-used-left t c =
    told_spent c.args.left c.loop-i.used (rows_equal (equal_to c.args.depth c.args.heap.now) c.args.xs.now c.args.ys.now)
    (rows_equal (equal_to c.args.depth c.args.heap.now) (drop c.loop-i.i c.args.xs.now) (drop c.loop-i.i c.args.ys.now))
    c.loop-i.invariant.rest (omega arith) (rows_cost (equal_to c.args.depth c.args.heap.now) c.args.xs.now c.args.ys.now c.loop-i.i (omega arith) c.requires)

pub equal_values-returns-in-Ref-Ref : goal.equal_values-returns-in-Ref-Ref
equal_values-returns-in-Ref-Ref t c =
    let lt : 0 < c.args.depth = omega arith in
    rw (c.in-Ref-Ref.is-0, c.in-Ref-Ref.is-1, equal_ref c.args.depth c.args.heap.now c.in-Ref-Ref.i c.in-Ref-Ref.j lt) c.equal_objs.ensures

pub equal_pairs-returns-in_default-t : goal.equal_pairs-returns-in_default-t
equal_pairs-returns-in_default-t t c =
    c.behind.ensures ∙ told_stop c.args.left c.loop-i.used
    (pairs_equal (equal_to c.args.depth c.args.heap.now) c.args.a.now c.args.b.now)
    (pairs_equal (equal_to c.args.depth c.args.heap.now) (drop (c.loop-i.i + 1) c.args.a.now) c.args.b.now)
    (pair_equal (equal_to c.args.depth c.args.heap.now) (c.in-Some.key.now, c.in-Some.entry.now) c.args.b.now).verdict
    (pair_equal (equal_to c.args.depth c.args.heap.now) (c.in-Some.key.now, c.in-Some.entry.now) c.args.b.now).cost
    c.equal_pair-t.result
    (c.loop-i.invariant.rest ∙ ap (after c.loop-i.used) (pairs_step (equal_to c.args.depth c.args.heap.now) c.args.a.now c.args.b.now c.loop-i.i c.in-Some.key.now c.in-Some.entry.now c.in-Some.ensures))
    c.loop-i.invariant.within
    c.equal_pair-t.ensures
    (search (rules, c.in_default-t.not-Yes))

pub equal_pairs-loop-i-preserved : goal.equal_pairs-loop-i-preserved
equal_pairs-loop-i-preserved t c =
    let k : (pairs_equal (equal_to c.args.depth c.args.heap.now) c.args.a.now c.args.b.now ≡ after (c.loop-i.used + c.in-Yes.n) (pairs_equal (equal_to c.args.depth c.args.heap.now) (drop (c.loop-i.i + 1) c.args.a.now) c.args.b.now)) × (c.loop-i.used + c.in-Yes.n ≤ c.args.left) = told_go c.args.left c.loop-i.used
    (pairs_equal (equal_to c.args.depth c.args.heap.now) c.args.a.now c.args.b.now)
    (pairs_equal (equal_to c.args.depth c.args.heap.now) (drop (c.loop-i.i + 1) c.args.a.now) c.args.b.now)
    (pair_equal (equal_to c.args.depth c.args.heap.now) (c.in-Some.key.now, c.in-Some.entry.now) c.args.b.now).verdict
    (pair_equal (equal_to c.args.depth c.args.heap.now) (c.in-Some.key.now, c.in-Some.entry.now) c.args.b.now).cost
    c.in-Yes.n
    (c.loop-i.invariant.rest ∙ ap (after c.loop-i.used) (pairs_step (equal_to c.args.depth c.args.heap.now) c.args.a.now c.args.b.now c.loop-i.i c.in-Some.key.now c.in-Some.entry.now c.in-Some.ensures))
    c.loop-i.invariant.within
    c.in-Yes.ensures in
    record { rest = k.0; within = k.1 }
