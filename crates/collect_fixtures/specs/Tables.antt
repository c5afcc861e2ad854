-- THE TABLE OF FIXTURES: the nodes of collection and the definitions, whose names are numbers.
use Rattle.std.specs.Prelude.{ℕ, ◌+◌, List, [], ◌∷◌, ◌++◌, Option, Some, None, fold, length, map}
use Rattle.std.specs.List.{flat_map}
use Rattle.collection_nodes.specs.Texts.{number_among, with_mentions}
use Rattle.collection_nodes.specs.Tree.{tree_node}
use Rattle.fixture_definitions.specs.Arguments.{but_request}
use Rattle.fixture_definitions.specs.declared.found.Definition.{Definition}
use Rattle.fixture_definitions.specs.declared.found.FoundTest.{FoundTest}
use Rattle.fixture_definitions.specs.collect_params.declared.given.Parametrization.{Parametrization}
use Rattle.fixture_definitions.specs.collect_params.param_rows.declared.param.ParamSet.{ParamSet}
use Rattle.fixture_table.specs.Tables.{TableValue}
use Rattle.fixture_table.specs.declared.types.CollectionNode.{CollectionNode}
use Rattle.fixture_table.specs.declared.types.FixtureDef.{FixtureDef}
use Rattle.fixture_table.specs.declared.types.NodeKind.TheVariants as kind
use Rattle.py_values.specs.declared.value.Value.{Value}

-- the names that a definition mentions, and those that a test does
abbrev pub names_of_definition : Definition → List (List ℕ)
names_of_definition d = d.fixture.name ∷ but_request d.fixture.arguments

abbrev pub parametrized_names : Parametrization → List (List ℕ)
parametrized_names p = p.names

-- the names that the `parametrize` marks of a test bind
abbrev pub names_bound : FoundTest → List (List ℕ)
names_bound t = flat_map parametrized_names t.parametrized

abbrev pub names_of_test : FoundTest → List (List ℕ)
names_of_test t = t.uses ++ (but_request t.arguments ++ names_bound t)

abbrev pub with_definition : List (List ℕ) → Definition → List (List ℕ)
with_definition names d = with_mentions names (names_of_definition d)

abbrev pub with_test : List (List ℕ) → FoundTest → List (List ℕ)
with_test names t = with_mentions names (names_of_test t)

-- THE NAMES of fixtures, those of the definitions and then those of the tests, each once: a name's number is its place
unfoldable pub all_names : List Definition → List FoundTest → List (List ℕ)
all_names definitions tests = fold with_test (fold with_definition [] definitions) tests

abbrev pub all_numbers : List (List ℕ) → List (List ℕ) → List ℕ
all_numbers names some = map (number_among names) some

-- how many parameters there are
abbrev pub params_count : Option (List (ParamSet Value)) → ℕ
params_count (Some sets) = length sets
params_count None = 0

-- a definition in the table; its number is its code too
abbrev pub table_def : List (List ℕ) → ℕ → Definition → FixtureDef
table_def names number d = record {
  name = number_among names d.fixture.name;
  scope = d.fixture.scope;
  autouse = d.autouse;
  params = params_count d.params;
  args = all_numbers names (but_request d.fixture.arguments);
  node = d.node;
  code = number;
}

-- definitions numbered one behind the other
abbrev pub table_defs : List (List ℕ) → ℕ → List Definition → List FixtureDef
table_defs names number [] = []
table_defs names number (d ∷ ds) = table_def names number d ∷ table_defs names (number + 1) ds

abbrev pub item_node : ℕ → CollectionNode
item_node parent = tree_node kind.Item parent

-- THE TABLE: the nodes of items with these parents stand last
unfoldable pub table_of : List CollectionNode → List (List ℕ) → List Definition → List ℕ → TableValue
table_of outer names definitions parents = record { nodes = outer ++ map item_node parents; defs = table_defs names 0 definitions }
