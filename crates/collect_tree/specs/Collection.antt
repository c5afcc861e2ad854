-- THE COLLECTION: what the words of a command line collect from the files of a tree (pytest's how-to guide, "Specifying which tests to
-- run", and its "Conventions for Python test discovery"). The first of these refuses: a word whose path names no file or folder; a
-- conftest that fails; more items than a session may have; a word whose part behind `::` names nothing of its file.
use Rattle.std.specs.Prelude.{ℕ, ◌+◌, ◌-◌, List, [], ◌∷◌, Option, Some, None, Result, Ok, Err, ◌++◌, length, map, slice_get, slice_index_or}
use Rattle.cli_words.specs.declared.options.Options.{Options}
use Rattle.collect_ids.specs.Files.{files_asked}
use Rattle.collect_ids.specs.declared.files.AskedFile.{AskedFile}
use Rattle.collect_items.specs.Chosen.{chosen, ordered}
use Rattle.collect_items.specs.Items.{Findings, fault_of_file, findings}
use Rattle.collect_items.specs.Nodes.{item_places, nodes_by_place}
use Rattle.collect_items.specs.Reads.{files_read, findings_in}
use Rattle.collect_items.specs.declared.found.FoundFile.{FoundFile}
use Rattle.collect_items.specs.collect_rows.declared.items.RowsFault.{RowsFault}
use Rattle.collect_items.specs.declared.found.FoundSuite.{FoundSuite}
use Rattle.collect_items.specs.declared.reads.FilesRead.{FilesRead}
use Rattle.collect_words.specs.Files.{conftests, named_files, test_files, walked}
use Rattle.collect_words.specs.Nodes.{selected}
use Rattle.collect_words.specs.Walks.{path_at}
use Rattle.collect_words.specs.Words.{fault_text, named_words}
use Rattle.collect_words.specs.declared.fault.WordFault.{WordFault}
use Rattle.collect_words.specs.declared.named.NamedWord.{NamedWord}
use Rattle.collect_words.specs.declared.nodes.FileNodes.{FileNodes}
use Rattle.collection_nodes.specs.declared.test_file.TestFile.{TestFile}
use Rattle.conftest_hooks.specs.Registered.{hook_table}
use Rattle.conftest_hooks.specs.declared.looking.FoundHook.{FoundHook}
use Rattle.fixture_world.specs.Items.{selected_item}
use Rattle.py_load.specs.Prepared.{with_reads}
use Rattle.py_load.specs.Reading.{ReadFile}
use Rattle.fixture_world.specs.tracebacks.py_machine.Worlds.{empty}
use Rattle.py_values.specs.declared.value.Value.{Value}
use Rattle.report_parts.specs.Limits.{most_items}
use Rattle.report_parts.specs.declared.report.CollectReport.{CollectReport}
use Rattle.fixture_world.specs.report_rules.Collected.{Collected, Collection, ConftestFault, Refused, SelectedItem, Whole}
use Rattle.fixture_world.specs.runtest_rules.Language.{python}
use Rattle.fixture_world.specs.tracebacks.source_meaning.Meaning.{SourceWorld}
use Rattle.conftest_hooks.specs.hook_order.declared.implementation.Impl.{Impl}
use Rattle.collect_items.specs.fixture_definitions.collect_params.param_rows.declared.keys.ItemKeys.{ItemKeys}
use Rattle.test_suite.specs.Suites.{no_item}
use Rattle.test_suite.specs.declared.hook.HookTable.{HookTable}
use Rattle.test_suite.specs.declared.item.Item.{Item}
use Rattle.test_suite.specs.declared.suite.Suite.{Suite}
use Rattle.collect_tree.specs.Conftests.{ConftestsLoaded, conftests_loaded}
use Rattle.collect_tree.specs.Errors.{all_errors}
use Rattle.collect_tree.specs.Loads.{LoadResults, test_loads}
use Rattle.collect_tree.specs.declared.loads.LoadEnd.{LoadEnd}
use Rattle.collect_tree.specs.Walk.{walk_of}

abbrev pub End : Type 0
End = Collection python Suite

abbrev pub read_path : ReadFile → List ℕ
read_path file = file.0

abbrev pub paths_at : List (List ℕ) → List ℕ → List (List ℕ)
paths_at walk places = map (path_at walk) places

-- the conftests that were loaded, with their modules
abbrev pub conftest_file : ℕ → Value → TestFile
conftest_file place v = record { place = place; object = Some v }

abbrev pub conftest_files : List ℕ → List Value → List TestFile
conftest_files [] modules = []
conftest_files (place ∷ places) [] = []
conftest_files (place ∷ places) (v ∷ modules) = conftest_file place v ∷ conftest_files places modules

-- a suite whose phases run in these hooks
abbrev pub under_hooks : HookTable → FoundSuite → FoundSuite
under_hooks hooks found = record found { suite = record found.suite { hooks = hooks } }

abbrev pub findings_in_hooks : HookTable → Findings → Findings
findings_in_hooks hooks f = record f { suite = under_hooks hooks f.suite }

-- the item with a number; any other number names an item without names, at the node that it would have
abbrev pub item_or_none : ℕ → Option Item → Item
item_or_none node (Some i) = i
item_or_none node None = record no_item { node = node }

abbrev pub item_numbered : Suite → ℕ → Item
item_numbered suite number = item_or_none (suite.outer + number) (slice_get suite.items number)

-- the item with a number, selected, with the place of its file
abbrev pub selected_by : FoundSuite → List ℕ → ℕ → SelectedItem
selected_by found places number = selected_item found.table (slice_index_or places number 0) (item_numbered found.suite number)

-- the paths of the files that words name: their asserts are explained, as those of test files and conftests are
abbrev pub named_paths : List (List ℕ) → List NamedWord → List (List ℕ)
named_paths walk words = paths_at walk (named_files words)

-- what the hook that makes ids printed for each file stands behind what was printed in its load
abbrev pub with_printed : LoadEnd → List ℕ → LoadEnd
with_printed end printed = record { error = end.error; captured = end.captured ++ printed }

abbrev pub ends_with_printed : List LoadEnd → List AskedFile → List LoadEnd
ends_with_printed [] asked = []
ends_with_printed (end ∷ ends) [] = end ∷ ends
ends_with_printed (end ∷ ends) (one ∷ asked) = with_printed end one.printed ∷ ends_with_printed ends asked

abbrev pub found_of_asked : AskedFile → FoundFile
found_of_asked one = one.found

-- the loads behind the hook that makes ids
abbrev pub loads_asked : LoadResults → List AskedFile × SourceWorld → LoadResults
loads_asked loaded x = record { files = loaded.files; ends = ends_with_printed loaded.ends x.0; world = x.1 }

abbrev pub found_behind : List (List ℕ) → FilesRead → LoadResults → List AskedFile × SourceWorld → Findings × LoadResults
found_behind walk read loaded x = (findings_in x.1.heap walk read.basis (map found_of_asked x.0), loads_asked loaded x)

abbrev pub found_asked : ℕ → HookTable → List (List ℕ) → FilesRead → LoadResults → Findings × LoadResults
found_asked limit hooks walk read loaded = found_behind walk read loaded (files_asked limit hooks walk read loaded.world)

-- what is found in loaded files: where conftests have the hook that makes ids, it is asked for them first
abbrev pub found_by : ℕ → HookTable → List (List ℕ) → List TestFile → LoadResults → List Impl → Findings × LoadResults
found_by limit hooks walk above loaded [] = (findings loaded.world.heap walk above loaded.files, loaded)
found_by limit hooks walk above loaded (which ∷ others) = found_asked limit hooks walk (files_read loaded.world.heap walk above loaded.files) loaded

abbrev pub found_loaded : ℕ → HookTable → List (List ℕ) → List TestFile → LoadResults → Findings × LoadResults
found_loaded limit hooks walk above loaded = found_by limit hooks walk above loaded hooks.ids

module _ (options : Options) where
  -- of the items with these numbers, those that `-k` and `-m` accept, in the same order
  abbrev pub collected_with : FoundSuite → List ℕ → List ℕ → SourceWorld → List CollectReport → Collected python Suite
  collected_with found places numbers w errors =
      let accepted = chosen options w.heap found.suite.items numbers in
      record {
        table = found.suite;
        world = w;
        selected = map (selected_by found places) accepted;
        deselected = length numbers - length accepted;
        errors = errors;
      }

  -- what is collected: the items that the words name, those with the same parameters of a broad scope side by side
  abbrev pub collected_by : List (List ℕ) → FoundSuite → List ℕ → List ItemKeys → List (Option RowsFault) → LoadResults → List ℕ → Collected python Suite
  collected_by walk found places keys faults loaded numbers =
      collected_with found places (ordered keys numbers) loaded.world (all_errors walk loaded.world loaded.files loaded.ends faults)

  abbrev pub collected_of : List (List ℕ) → Findings → LoadResults → List ℕ → Collected python Suite
  collected_of walk f loaded numbers = collected_by walk f.suite (item_places f.files) f.keys (map fault_of_file f.files) loaded numbers

  -- the items that the words name, or why they are refused
  abbrev pub selected_or_refused : List (List ℕ) → Findings → LoadResults → Result (List ℕ) WordFault → End
  selected_or_refused walk f loaded (Err fault) = Refused (fault_text fault)
  selected_or_refused walk f loaded (Ok numbers) = Whole (collected_of walk f loaded numbers)

  -- the items that the words name, by number
  abbrev pub nodes_selected : List (List ℕ) → List FileNodes → List NamedWord → Result (List ℕ) WordFault
  nodes_selected walk nodes words = selected most_items walk (walked walk options.ignore) nodes words

  abbrev pub of_findings : List (List ℕ) → List NamedWord → LoadResults → Findings → End
  of_findings walk words loaded f = selected_or_refused walk f loaded (nodes_selected walk (nodes_by_place walk f.files) words)

  abbrev pub of_found : List (List ℕ) → List NamedWord → HookTable → Findings × LoadResults → End
  of_found walk words hooks x = of_findings walk words x.1 (findings_in_hooks hooks x.0)

  -- the items of the loaded files, selected by the words
  abbrev pub of_loaded : List (List ℕ) → List NamedWord → List FoundHook → List TestFile → LoadResults → End
  of_loaded walk words hooks above loaded = of_found walk words (hook_table hooks) (found_loaded options.step_limit (hook_table hooks) walk above loaded)

  -- conftests, then test files
  abbrev pub with_conftests : List (List ℕ) → List NamedWord → List ℕ → ConftestsLoaded × SourceWorld → End
  with_conftests walk words files (Err (path, told), w) = ConftestFault path told
  with_conftests walk words files (Ok found, w) = of_loaded walk words found.hooks (conftest_files (conftests walk files) found.modules) (test_loads options.step_limit walk files w)

  abbrev pub of_files : List (List ℕ) → List NamedWord → List ℕ → SourceWorld → End
  of_files walk words files w = with_conftests walk words files (conftests_loaded options.step_limit (paths_at walk (conftests walk files)) w)

  -- words that name files
  abbrev pub of_words : List ReadFile → List (List ℕ) → Result (List NamedWord) WordFault → End
  of_words sources walk (Err fault) = Refused (fault_text fault)
  of_words sources walk (Ok words) = of_files walk words (test_files walk (walked walk options.ignore) words) (with_reads (named_paths walk words) sources empty)

  -- THE COLLECTION
  unfoldable pub collect : List ReadFile → End
  collect sources = let walk = walk_of (map read_path sources) in of_words sources walk (named_words walk options.paths)
