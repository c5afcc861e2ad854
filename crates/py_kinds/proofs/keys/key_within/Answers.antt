use Rattle.std.proofs.Common.{◌≡◌, ap, arith, length}
use Rattle.py_kinds.specs.Keys.{keyed_by, parts_to, key_of}
use Rattle.py_kinds.specs.declared.keys.KeyResult.TheVariants as keyed
use Rattle.py_kinds.proofs.Joining.{none_before, over, key_whole, key_faulty}
use Rattle.py_kinds.proofs.keys.key_within.Goals as goal

pub returns-in-Whole : goal.returns-in-Whole
unfolding key_of
returns-in-Whole c =
    key_whole c.args.budget (parts_to 100 c.args.heap.now c.args.v) _ _ c.push_parts.new.atoms.items
    (rw c.new-atoms.ensures.items at (rw c.in-Whole.is at c.in_ok-pushed.ensures)) (ap keyed.Key c.from_vec.ensures) c.affordable.ensures

pub returns-in-Fault : goal.returns-in-Fault
unfolding key_of
returns-in-Fault c =
    let n : c.len-cost.result ≡ length c.push_parts.new.atoms.items = omega (arith, c.len-cost.ensures, c.push_parts.new.atoms.ok.0) in
    key_faulty c.args.budget (parts_to 100 c.args.heap.now c.args.v) _ c.in-Fault.fault c.len-cost.result (length c.push_parts.new.atoms.items)
    (rw c.new-atoms.ensures.items at (rw c.in-Fault.is at c.in_ok-pushed.ensures)) n c.affordable-in-Fault.ensures

pub returns-in-Exhausted : goal.returns-in-Exhausted
unfolding key_of
returns-in-Exhausted c =
    over c.args.budget (keyed_by (parts_to 100 c.args.heap.now c.args.v))
    (rw (c.new-atoms.ensures.items, none_before (parts_to 100 c.args.heap.now c.args.v)) at (rw c.in-Exhausted.is at c.in_ok-pushed.ensures))
