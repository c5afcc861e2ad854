use Rattle.std.proofs.Common.{◌≤◌, ◌-◌, List, length, get_or, map, ap, sym, subst, ◌∙◌, arith}
use Rattle.std.specs.List.{flat_map, enumerate_from}
use Rattle.param_rows.specs.Ids.{Id}
use Rattle.param_rows.specs.Rows.{param_choice, fixture_choices, mark_choices}
use Rattle.param_rows.specs.Steps.{with_choice}
use Rattle.param_rows.specs.declared.param.ParamRow.{ParamRow}
use Rattle.param_rows.proofs.Product.{rows_in_more, length-fixture_choices}
use Rattle.param_rows.proofs.joining.RowMaker.rows_of.Goals as goal

pub with_fixture-requires : goal.with_fixture-requires
with_fixture-requires g c =
    let fixture = c.index-fixtures-at.result in
    let bound : length (fixture_choices {V = g.row.V.Denot} (get_or c.args.fixtures.now (c.loop-at.at - 1) fixture)) ≤ 65536 = c.requires (c.loop-at.at - 1) fixture (omega (arith, c.loop-at.invariant.0)) in
    let here : length (fixture_choices {V = g.row.V.Denot} fixture) ≤ 65536 = subst (λ f. length (fixture_choices {V = g.row.V.Denot} f) ≤ 65536) (sym c.index-fixtures-at.is) bound in
    omega (arith, here, length-fixture_choices g.row.V.Denot fixture, ap length c.deref.ensures.value)

pub loop-at-preserved : goal.loop-at-preserved
loop-at-preserved g c =
    let fixture = c.index-fixtures-at.result in (
      omega (arith, c.loop-at.invariant.0),
      rows_in_more c.args.self.now.named (fixture_choices {V = g.row.V.Denot}) c.args.fixtures.now c.loop-at.at (c.loop-at.at - 1) fixture (map mark_choices c.args.marks.now) c.loop-at.rows.items c.in_ok-rows-2.rows.items
          (omega (arith, c.loop-at.invariant.0)) (omega arith) c.index-fixtures-at.is c.loop-at.invariant.1
          (c.in_ok-rows-2.ensures
          ∙ ap (λ (ids : List Id). flat_map (λ choice. map (with_choice c.args.self.now.named choice) c.deref-in-loop-at.result.now) (map (param_choice fixture.0) (enumerate_from 0 ids))) c.deref.ensures.value
          ∙ ap (λ (rows : List (ParamRow _)). flat_map (λ choice. map (with_choice c.args.self.now.named choice) rows) (fixture_choices fixture)) c.deref-in-loop-at.ensures.value),
    )
