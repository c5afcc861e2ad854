use Rattle.std.proofs.Common.{◌≡◌, ◌*◌, ◌≤◌, min, map, length, drop}
use Rattle.param_rows.specs.Rows.{fixture_choices, product}
use Rattle.param_rows.proofs.counting.times_fixtures.Given as goal

abbrev pub invariant-loop-ids : goal.invariant-loop-ids
invariant-loop-ids g l =
    (l.total ≤ 65537)
    × (min (l.total * length (product (map (fixture_choices {V = g.row.V.Denot}) (drop l.ids-index l.fixtures)))) 65537
    ≡ min (l.initial.total * length (product (map (fixture_choices {V = g.row.V.Denot}) l.fixtures))) 65537)
