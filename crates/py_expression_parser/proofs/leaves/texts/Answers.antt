use Rattle.std.proofs.Common.{ap, ◌++◌, ◌∙◌}
use Rattle.py_expression_parser.proofs.Texts.{texts_next}
use Rattle.py_expression_parser.proofs.leaves.texts.Goals as goal

pub loop-next-preserved : goal.loop-next-preserved
loop-next-preserved c = let g = rw c.in-Some-made-2.ensures.makes.0 at c.extend_from_slice.ensures.items in
    rw (c.in-Some-made-2.ensures.makes.1) (texts_next (c.in-Some.first.now.at, c.loop-next.chars.items) c.loop-next.p.rest.now c.in-Some-take.next.now c.take.new.self.rest.now c.extend_from_slice.new.self.items _ (g ∙ ap (λ v. c.loop-next.chars.items ++ v) c.chars_of-in-Some-take.ensures) c.in-Some-take.ensures c.loop-next.invariant)
