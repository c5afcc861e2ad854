use Rattle.std.proofs.Common.{◌∙◌, ap}
use Rattle.std.specs.List.{fold}
use Rattle.py_repr.specs.Adding.{add, shown_of}
use Rattle.py_repr.specs.Repr.{repr_of}
use Rattle.py_repr.specs.Showing.{TextBuffer}
use Rattle.py_repr.proofs.Made.{made}
use Rattle.py_repr.proofs.repr.repr.Goals as goal

pub returns : goal.returns
unfolding repr_of
returns c =
    c.in_ok-shown.ensures
    ∙ (ap (λ (s : TextBuffer). shown_of s) c.in_ok-show_alone.ensures
    ∙ (ap (λ (s : TextBuffer). shown_of (fold add s (repr_of c.args.heap.now c.args.v))) c.new-shower.ensures
    ∙ made c.args.most (repr_of c.args.heap.now c.args.v)))
