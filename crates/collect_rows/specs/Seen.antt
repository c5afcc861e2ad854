-- Lists as `param_rows` has them.
use Rattle.std.specs.Prelude.{ℕ, List}
use Rattle.std.specs.declared.alloc.Global.{Global}
use Rattle.std.specs.declared.vec.Vec.{Vec}
use Rattle.fixture_definitions.specs.collect_params.param_rows.Ids.{Id}

-- a fixture with the ids of its parameters
abbrev pub seen_list : ℕ × Vec Id Global → ℕ × List Id
seen_list fixture = (fixture.0, fixture.1.items)
