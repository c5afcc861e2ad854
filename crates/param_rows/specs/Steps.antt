-- What a value adds to the rows of the lists behind its own.
use Rattle.std.specs.Prelude.{Bool, List, ◌++◌, None, map, if◌then◌else◌}
use Rattle.param_rows.specs.declared.param.ParamRow.{ParamRow}
use Rattle.param_rows.specs.Rows.{ParameterSet, dash_joined, chosen_row, product}

-- the row with a value chosen before it
abbrev pub with_choice : {V : Type 0} → Bool → ParameterSet V → ParamRow V → ParamRow V
with_choice named choice row = record {
  bound = choice.bound ++ row.bound;
  fixture_params = choice.fixture_params ++ row.fixture_params;
  id = if named then dash_joined choice.id row.id else None;
  marks = choice.marks ++ row.marks;
}

-- the rows of lists of values
abbrev pub rows_in : {V : Type 0} → Bool → List (List (ParameterSet V)) → List (ParamRow V)
rows_in named lists = map (chosen_row named) (product lists)
