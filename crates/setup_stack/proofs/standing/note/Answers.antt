use Rattle.std.proofs.Common.{inl, ◌∙◌}
use Rattle.fixture_instances.specs.Items.{requests_in}
use Rattle.setup_stack.proofs.Marked.{noted_after}
use Rattle.setup_stack.proofs.standing.note.Goals as goal

pub returns-in-Refused : goal.returns-in-Refused
returns-in-Refused g c = λ e m. inl m

pub returns-then-are_marked : goal.returns-then-are_marked
returns-then-are_marked g c =
    noted_after c.mark.result (requests_in c.args.table.now c.args.item.now c.args.def) c.items.result.now c.args.def c.number.result c.args.answer.now c.as_slice.result.now c.args.marks.now.items c.mark.new.marks.items c.are_marked.result
    c.in-Given.is c.as_slice.ensures.value (c.items.ensures ∙ c.in_ok-requests-in-Given.ensures) c.are_marked.ensures c.if-are_marked.true c.number.ensures c.mark.ensures
