-- What the code's answers tell of a collection.
use Rattle.std.specs.Prelude.{◌≡◌, ℕ, ◌+◌, ◌<◌, ◌≤◌, List, Option, Some, None, Result, Ok, Err, All, length, map}
use Rattle.collect_items.specs.Items.{Findings, fault_of_file}
use Rattle.collect_items.specs.Nodes.{item_places, nodes_by_place}
use Rattle.collect_items.specs.declared.found.FoundItems.{FoundItems}
use Rattle.collect_words.specs.Words.{fault_text}
use Rattle.collect_words.specs.declared.fault.WordFault.{WordFault}
use Rattle.collect_words.specs.declared.fault.WordFault.TheVariants as word
use Rattle.report_parts.specs.Limits.{most_items}
use Rattle.fixture_world.specs.report_rules.Collected.{Collected as Collection, ConftestFault, Refused, Whole}
use Rattle.fixture_world.specs.runtest_rules.Language.{python}
use Rattle.fixture_world.specs.tracebacks.source_meaning.Meaning.{SourceWorld}
use Rattle.test_suite.specs.declared.suite.Suite.{Suite}
use Rattle.collect_tree.specs.Collection.{End, selected_by}
use Rattle.collect_tree.specs.Loads.{LoadResults, loaded_before}
use Rattle.collect_tree.specs.Runnable.{IsRunnable}
use Rattle.collect_tree.specs.declared.collected.Collected.{Collected}
use Rattle.collect_tree.specs.declared.fault.CollectFault.{CollectFault}
use Rattle.collect_tree.specs.declared.fault.CollectFault.TheVariants.{NotFound, TooManyItems, Conftest, OutOfMemory}
use Rattle.collect_tree.specs.declared.loads.LoadedTests.{LoadedTests}

-- loaded test files, in the world behind the loads
abbrev pub loaded_told : LoadedTests → SourceWorld → LoadResults
loaded_told loaded w = record { files = loaded.files.items; ends = loaded.ends.items; world = w }

abbrev pub collected_told : Collected → SourceWorld → Collection python Suite
collected_told c w = record {
  table = c.found.suite;
  world = w;
  selected = map (selected_by c.found c.places.items) c.selected;
  deselected = c.deselected;
  errors = c.errors.items;
}

-- what the code found is this
pub record IsFound (walk : List (List ℕ)) (found : FoundItems) (f : Findings) : Type 0 where
  pub suite : found.found ≡ f.suite
  pub places : found.places.items ≡ item_places f.files
  pub keys : found.keys.items ≡ f.keys
  pub nodes : found.nodes.items ≡ nodes_by_place walk f.files
  pub faults : found.faults.items ≡ map fault_of_file f.files

-- the refusal of words
abbrev pub collect_fault : WordFault → CollectFault
collect_fault (word.NotFound name) = NotFound name
collect_fault word.TooManyItems = TooManyItems
collect_fault word.OutOfMemory = OutOfMemory

-- an answer, in the world behind it; want of memory tells nothing
abbrev pub collection_end : Result Collected CollectFault → SourceWorld → Option End
collection_end (Ok c) w = Some (Whole (collected_told c w))
collection_end (Err (NotFound name)) w = Some (Refused (fault_text (word.NotFound name)))
collection_end (Err TooManyItems) w = Some (Refused (fault_text word.TooManyItems))
collection_end (Err (Conftest path told)) w = Some (ConftestFault path told)
collection_end (Err OutOfMemory) w = None

-- what was collected can run, and its numbers are within the limits
pub record IsWithin (c : Collected) : Type 0 where
  pub numbers : All (λ number. number < length c.found.suite.items) c.selected
  pub few : length c.selected + c.deselected ≤ most_items
  pub errors : length c.errors.items ≤ most_items
  pub suite : IsRunnable c.found

-- loads behind those that are done
abbrev pub after_loads : LoadedTests → LoadResults → LoadResults
after_loads done rest = loaded_before done.files.items done.ends.items rest

-- one more load is done
abbrev pub LoadsOne : LoadedTests → LoadedTests → (LoadResults → LoadResults) → Type 0
LoadsOne old new one = (rest : LoadResults) → after_loads old (one rest) ≡ after_loads new rest

-- a refusal of words that is meant, or want of memory
abbrev pub IsWordRefusal : Result (List ℕ) WordFault → CollectFault → Type 0
IsWordRefusal meant (NotFound name) = meant ≡ Err (word.NotFound name)
IsWordRefusal meant TooManyItems = meant ≡ Err word.TooManyItems
IsWordRefusal meant (Conftest path told) = ⊥
IsWordRefusal meant OutOfMemory = Unit {0}
