-- A table: its nodes and its definitions, each list in the order in which they came.
use Rattle.std.specs.Prelude.{List}
use Rattle.fixture_table.specs.declared.types.CollectionNode.{CollectionNode}
use Rattle.fixture_table.specs.declared.types.FixtureDef.{FixtureDef}

pub record TableValue : Type 0 where
  pub nodes : List CollectionNode
  pub defs : List FixtureDef
