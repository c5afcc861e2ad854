use Rattle.std.proofs.Common.{◌≡◌, ◌<◌, ◌≤◌, arith}
use Rattle.std.specs.Int.{w128}
use Rattle.std.proofs.lemmas.Int.{to_z-of_z}
use Rattle.py_ops.proofs.Ranging.{place_of, found, beyond}
use Rattle.py_ops.proofs.contains.has_number.Goals as goal

pub returns-then-place-range : goal.returns-then-place-range
returns-then-place-range c =
    let r = c.args.range.now in
    let p : c.place_of-place.result ≡ place_of r.start r.step c.args.n = rw (to_z-of_z w128 c.args.n c.ranges.n) at c.place_of-place.ensures in
    let lt : place_of r.start r.step c.args.n < r.length = omega arith in
    found r.start r.step c.args.n r.length c.is_at.result lt (rw (to_z-of_z w128 c.args.n c.ranges.n, p) at c.is_at.ensures)

pub returns : goal.returns
returns c =
    let r = c.args.range.now in
    let p : c.place_of-place.result ≡ place_of r.start r.step c.args.n = rw (to_z-of_z w128 c.args.n c.ranges.n) at c.place_of-place.ensures in
    let le : r.length ≤ place_of r.start r.step c.args.n = omega arith in
    beyond r.start r.step c.args.n r.length le
