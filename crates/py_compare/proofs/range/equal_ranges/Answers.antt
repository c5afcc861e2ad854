use Rattle.std.proofs.Common.{◌≡◌, ◌<◌, ◌≢◌, ◌∙◌, ap, sym, arith, rules}
use Rattle.py_compare.proofs.Progress.{steps_differ, all_alike, length_told}
use Rattle.py_compare.specs.Equal.{told, finding, Fails, Holds, of_length, numbers_equal}
use Rattle.py_values.specs.Ranges.{range_items}
use Rattle.py_compare.proofs.range.equal_ranges.Goals as goal

pub returns-then-a-b-3 : goal.returns-then-a-b-3
returns-then-a-b-3 c =
    let k : c.args.a.now.length ≡ c.args.b.now.length = omega arith in
    let lt : 1 < c.args.a.now.length = omega arith in
    let start : c.args.a.now.start ≡ c.args.b.now.start = search (rules, c.if-a-b-2.false) in
    let step : c.args.a.now.step ≢ c.args.b.now.step = search (rules, c.if-a-b-3.true) in
    c.tell-then-a-b-3.ensures ∙ length_told c.args.budget c.args.a.now.length c.args.b.now.length _ _ k (steps_differ c.args.a.now c.args.b.now k lt start step)

pub returns : goal.returns
returns c =
    let k : c.args.a.now.length ≡ c.args.b.now.length = omega arith in
    let start : c.args.a.now.start ≡ c.args.b.now.start = search (rules, c.if-a-b-2.false) in
    let step : c.args.a.now.step ≡ c.args.b.now.step = search (rules, c.if-a-b-3.false) in
    c.tell-2.ensures ∙ length_told c.args.budget c.args.a.now.length c.args.b.now.length _ _ k (all_alike c.args.a.now c.args.b.now k start step)
