-- The order of items, and those that `-k` and `-m` choose (pytest's reference, "Command-line Flags"; its fixture guide, "Automatic grouping of
-- tests by fixture instances").
use Rattle.std.specs.Prelude.{ℕ, Bool, List, [], Option, Some, None, chars, map, slice_index_or}
use Rattle.std.specs.List.{filter}
use Rattle.cli_words.specs.declared.options.Options.{Options}
use Rattle.collect_fixtures.specs.Closures.{fixture_numbered}
use Rattle.collect_marks.specs.Names.{keyword_names, mark_names}
use Rattle.collect_names.specs.declared.found.TestClass.{TestClass}
use Rattle.collect_rows.specs.declared.items.FoundItem.{FoundItem}
use Rattle.fixture_definitions.specs.collect_params.param_rows.Grouping.{regrouped}
use Rattle.fixture_definitions.specs.collect_params.param_rows.declared.keys.ItemKeys.{ItemKeys}
use Rattle.fixture_definitions.specs.declared.found.Definition.{Definition}
use Rattle.py_values.specs.declared.object.Obj.{Obj}
use Rattle.session_types.specs.declared.scope.Scope.{Scope}
use Rattle.test_suite.specs.Suites.{numbered_item}
use Rattle.test_suite.specs.declared.item.FixtureParam.{FixtureParam}
use Rattle.test_suite.specs.declared.item.Item.{Item}
use Rattle.selection.specs.Exprs.{is_selected}

-- what an item needs of a parametrised fixture: its scope, the fixture, and the number of the parameter
abbrev pub param_key : List Definition → FixtureParam → Scope × ℕ × ℕ
param_key definitions p = ((fixture_numbered definitions p.def).scope, p.def, p.number)

abbrev pub class_key : ℕ → Option TestClass → Option ℕ
class_key parent (Some class) = Some parent
class_key parent None = None

-- what the order of an item goes by: its file, its class by its node, and its parameters
abbrev pub item_keys : List Definition → FoundItem → ItemKeys
item_keys definitions i = record { file = i.place; class = class_key i.parent i.test.class; params = map (param_key definitions) i.row.params }

abbrev pub no_keys : ItemKeys
no_keys = record { file = 0; class = None; params = [] }

abbrev pub keys_numbered : List ItemKeys → ℕ → ItemKeys
keys_numbered keys number = slice_index_or keys number no_keys

abbrev pub number_at : List ℕ → ℕ → ℕ
number_at numbers place = slice_index_or numbers place 0

-- THE ORDER OF ITEMS with these numbers: those with the same parameters of a broad scope stand side by side
unfoldable pub ordered : List ItemKeys → List ℕ → List ℕ
ordered keys numbers = map (number_at numbers) (regrouped (map (keys_numbered keys) numbers))

-- by the names of an item and of its marks; its name has the id of its row
abbrev pub is_chosen : Options → List Obj → Item → Bool
is_chosen options heap i = is_selected options (keyword_names heap (chars i.file) i.test i.id i.marks) (mark_names heap i.marks)

-- of some items by number, those that are chosen
abbrev pub chosen : Options → List Obj → List Item → List ℕ → List ℕ
chosen options heap items numbers = filter (λ number. is_chosen options heap (numbered_item items number)) numbers
