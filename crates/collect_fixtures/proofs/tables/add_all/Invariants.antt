use Rattle.std.proofs.Common.{◌≡◌, ◌++◌, drop, length}
use Rattle.collect_fixtures.specs.Tables.{table_defs}
use Rattle.collect_fixtures.proofs.tables.add_all.Given as goal

abbrev pub invariant-loop-one : goal.invariant-loop-one
invariant-loop-one l =
    record {
      count : length l.table.nodes ≡ l.count;
      nodes : l.table.nodes ≡ l.initial.table.nodes;
      defs : l.table.defs ++ table_defs l.names l.number (drop l.one-index l.definitions) ≡ l.initial.table.defs ++ table_defs l.names 0 l.definitions;
    }
