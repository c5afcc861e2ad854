use Rattle.std.proofs.Common.{◌≡◌, ◌∙◌, ◌<◌, ◌-◌, length, sym, arith}
use Rattle.std.proofs.lemmas.Bool.{ltb-true}
use Rattle.py_kinds.specs.Keys.{parts_to}
use Rattle.py_kinds.proofs.Joining.{row_turn, row_fault, row_beyond, parts_beyond, told_at, ref_parts}
use Rattle.py_kinds.proofs.keys.+parts.Goals as goal

pub push_row-returns-in-Fault : goal.push_row-returns-in-Fault
push_row-returns-in-Fault t c =
    let lt : c.loop-v.v-index < length c.args.vs.now = omega arith in
    c.loop-v.invariant ∙ row_fault (parts_to c.args.depth c.args.heap.now) c.args.vs.now c.loop-v.v-index _ c.loop-v.atoms.items c.in-Fault.fault (length c.push_parts.new.atoms.items) lt (rw c.in-Fault.is at c.in_ok-pushed.ensures)

pub push_row-returns-in-Exhausted : goal.push_row-returns-in-Exhausted
push_row-returns-in-Exhausted t c =
    let lt : c.loop-v.v-index < length c.args.vs.now = omega arith in
    rw c.loop-v.invariant
    (row_beyond (parts_to c.args.depth c.args.heap.now) c.args.vs.now c.loop-v.v-index _ c.loop-v.atoms.items c.args.budget lt (rw c.in-Exhausted.is at c.in_ok-pushed.ensures))

pub push_row-loop-v-preserved : goal.push_row-loop-v-preserved
push_row-loop-v-preserved t c =
    let lt : c.loop-v.v-index < length c.args.vs.now = omega arith in
    c.loop-v.invariant ∙ row_turn (parts_to c.args.depth c.args.heap.now) c.args.vs.now c.loop-v.v-index _ c.loop-v.atoms.items c.push_parts.new.atoms.items lt (rw c.in-Whole.is at c.in_ok-pushed.ensures)

pub push_parts-returns-then-is_over : goal.push_parts-returns-then-is_over
push_parts-returns-then-is_over t c =
    parts_beyond c.args.atoms.now.items (parts_to c.args.depth c.args.heap.now c.args.v) c.args.budget
    (ltb-true c.args.budget (length c.args.atoms.now.items - 1) (sym c.is_over.ensures ∙ c.if-is_over.true))

pub push_parts-returns-in-Ref : goal.push_parts-returns-in-Ref
push_parts-returns-in-Ref t c =
    rw c.in-Ref.is
    (told_at c.args.budget _ _ _ _ (ref_parts c.args.atoms.now.items c.args.depth c.args.heap.now c.in-Ref.id (omega arith)) c.in_ok-pushed-in-Ref.ensures)
