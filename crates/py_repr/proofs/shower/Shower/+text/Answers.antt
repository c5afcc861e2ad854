use Rattle.std.proofs.Common.{◌<◌, arith}
use Rattle.py_repr.proofs.Making.{str_ref}
use Rattle.py_repr.proofs.shower.Shower.+text.Goals as goal

pub show_str-returns-in_ok-show_obj_str-in-Ref : goal.show_str-returns-in_ok-show_obj_str-in-Ref
show_str-returns-in_ok-show_obj_str-in-Ref t c =
    let lt : 0 < c.args.depth = omega arith in
    rw (c.in-Ref.is, str_ref c.args.depth c.args.heap.now c.in-Ref.id lt) c.in_ok-show_obj_str-in-Ref.ensures
