use Rattle.std.proofs.Common.{◌∙◌, ap}
use Rattle.std.specs.List.{fold}
use Rattle.py_repr.specs.Adding.{add, shown_of}
use Rattle.py_repr.specs.Repr.{str_of}
use Rattle.py_repr.specs.Showing.{TextBuffer}
use Rattle.py_repr.proofs.Made.{made}
use Rattle.py_repr.proofs.repr.str.Goals as goal

pub returns : goal.returns
unfolding str_of
returns c =
    c.in_ok-shown.ensures
    ∙ (ap (λ (s : TextBuffer). shown_of s) c.in_ok-show_str.ensures
    ∙ (ap (λ (s : TextBuffer). shown_of (fold add s (str_of c.args.heap.now c.args.v))) c.new-shower.ensures
    ∙ made c.args.most (str_of c.args.heap.now c.args.v)))
