use Rattle.std.proofs.Common.{◌≡◌, ◌∙◌, ◌<◌, arith}
use Rattle.py_repr.specs.Repr.{repr_to}
use Rattle.py_repr.proofs.Making.{pairs_turn, repr_ref}
use Rattle.py_repr.proofs.shower.Shower.+show.Goals as goal

pub show_pairs-loop-i-preserved : goal.show_pairs-loop-i-preserved
show_pairs-loop-i-preserved t c = record {
  text = c.loop-i.invariant.text ∙ pairs_turn (repr_to c.args.depth c.args.heap.now c.args.around.now.items) c.loop-i.first c.args.dict.now c.loop-i.i c.in-Some.pair.now c.loop-i.self c.comma.new.self c.show_pair.new.self c.in-Some.ensures c.in_ok-comma.ensures (rw c.loop-i.invariant.same at c.in_ok-show_pair.ensures.text);
  same = c.in_ok-show_pair.ensures.same ∙ c.loop-i.invariant.same;
}

pub show-returns-in_ok-show_obj-in-Ref-clause-text : goal.show-returns-in_ok-show_obj-in-Ref-clause-text
show-returns-in_ok-show_obj-in-Ref-clause-text t c =
    let lt : 0 < c.args.depth = omega arith in
    rw (c.in-Ref.is, repr_ref c.args.depth c.args.heap.now c.args.around.now.items c.in-Ref.id lt) c.in_ok-show_obj-in-Ref.ensures.text
