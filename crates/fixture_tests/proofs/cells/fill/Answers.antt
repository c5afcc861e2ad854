use Rattle.std.proofs.Common.{◌∙◌, ap, arith, refl, [], ◌∷◌, ◌++◌}
use Rattle.link_cells.specs.Arena.{list_at_head}
use Rattle.link_cells.proofs.Calls.{some_of}
use Rattle.link_cells.proofs.Walks.{list_here, list_there}
use Rattle.fixture_tests.proofs.cells.fill.Goals as goal

pub loop-value-preserved : goal.loop-value-preserved
loop-value-preserved g c =
    let o = some_of (list_at_head c.loop-value.cells c.args.head) c.loop-value.invariant.head in
    let next = c.push_back-id.ensures.pushed o.0 o.1 in
    let more = o.0 ++ (c.push_back-id.result, c.loop-value.value) ∷ [] in
    record {
      head = rw next (rw (list_here c.loop-value.cells c.args.head o.0 more o.1) refl);
      others = λ k ne. rw next (list_there c.loop-value.cells c.args.head k more ne ∙ c.loop-value.invariant.others k ne);
      spare = omega (arith, ap (λ a. a.spare) next);
    }
