-- The hooks of what is collected are those of conftests among the runner's own.
use Rattle.std.proofs.Common.{◌≡◌, ℕ, Bool, List, Ok, Err, refl, sym, ap, subst, map}
use Rattle.std.specs.Prelude.{◌||◌, Result}
use Rattle.hook_order.specs.declared.implementation.Impl.{Impl}
use Rattle.cli_words.specs.declared.options.Options.{Options}
use Rattle.collect_tree.specs.Collection.{collect, conftest_files, findings_in_hooks, named_paths, nodes_selected, found_loaded, of_files, of_loaded, of_words, paths_at, read_path, selected_or_refused, with_conftests}
use Rattle.collect_tree.specs.Conftests.{ConftestsLoaded, conftests_loaded}
use Rattle.collect_tree.specs.Loads.{LoadResults, test_loads}
use Rattle.collect_tree.specs.Walk.{walk_of}
use Rattle.collect_tree.specs.collect_items.Items.{Findings}
use Rattle.collect_tree.specs.collect_items.Nodes.{nodes_by_place}
use Rattle.collect_tree.specs.py_load.Prepared.{with_reads}
use Rattle.collect_tree.specs.py_load.Reading.{ReadFile}
use Rattle.collect_words.specs.Files.{conftests, test_files, walked}
use Rattle.collect_words.specs.Words.{named_words}
use Rattle.collect_words.specs.declared.fault.WordFault.{WordFault}
use Rattle.collect_words.specs.declared.named.NamedWord.{NamedWord}
use Rattle.collection_nodes.specs.declared.test_file.TestFile.{TestFile}
use Rattle.conftest_hooks.specs.Ordered.{HaveOwn, KeepsOwn}
use Rattle.conftest_hooks.specs.Registered.{hook_table}
use Rattle.conftest_hooks.specs.declared.looking.FoundHook.{FoundHook}
use Rattle.collect_tree.specs.runtest_rules.Language.{python}
use Rattle.collect_tree.specs.runtest_rules.Rules.{hooks_for, impls_of, is_in_folder, rules, serves}
use Rattle.collect_tree.specs.runtest_rules.report_rules.Collected.{Collected, Collection, ConftestFault, Refused, Whole}
use Rattle.collect_tree.specs.runtest_rules.test_suite.Hooks.{hook_with_code}
use Rattle.collect_tree.specs.runtest_rules.test_suite.Suites.{item_with_node}
use Rattle.collect_tree.specs.runtest_rules.test_suite.declared.hook.HookTable.{HookTable}
use Rattle.collect_tree.specs.runtest_rules.test_suite.declared.item.Item as test
use Rattle.collect_tree.specs.runtest_rules.test_suite.declared.suite.Suite.{Suite}
use Rattle.session_rules.specs.BuiltIns.{HasBuiltIns, HaveBuiltIns}
use Rattle.session_rules.specs.World.{Call, Item, Phase, SetUp, Teardown}
use Rattle.collect_tree.specs.tracebacks.py_machine.Worlds.{empty}
use Rattle.collect_tree.specs.tracebacks.source_meaning.Meaning.{SourceWorld}

-- ---- a collection has the table of hooks that were found

pub record IsHooked (suite : Suite) : Type 0 where
  pub found : List FoundHook
  pub table : suite.hooks ≡ hook_table found

abbrev HookedEnd : Collection python Suite → Type 0
HookedEnd (Refused text) = Unit {0}
HookedEnd (ConftestFault path told) = Unit {0}
HookedEnd (Whole c) = IsHooked c.table

module _ (options : Options) where
  ended : (walk : List (List ℕ)) (f : Findings) (loaded : LoadResults) (r : Result (List ℕ) WordFault) → IsHooked f.suite.suite → HookedEnd (selected_or_refused options walk f loaded r)
  ended walk f loaded (Err fault) h = tt
  ended walk f loaded (Ok numbers) h = h

  loaded_hooked : (walk : List (List ℕ)) (words : List NamedWord) (hooks : List FoundHook) (above : List TestFile) (loaded : LoadResults) → HookedEnd (of_loaded options walk words hooks above loaded)
  loaded_hooked walk words hooks above loaded =
      let x = found_loaded options.step_limit (hook_table hooks) walk above loaded in
      let f = findings_in_hooks (hook_table hooks) x.0 in
      ended walk f x.1 (nodes_selected options walk (nodes_by_place walk f.files) words) (record { found = hooks; table = refl })

  conftests_hooked : (walk : List (List ℕ)) (words : List NamedWord) (files : List ℕ) (x : ConftestsLoaded × SourceWorld) → HookedEnd (with_conftests options walk words files x)
  conftests_hooked walk words files (Err (path, told), w) = tt
  conftests_hooked walk words files (Ok found, w) = loaded_hooked walk words found.hooks (conftest_files (conftests walk files) found.modules) (test_loads options.step_limit walk files w)

  files_hooked : (walk : List (List ℕ)) (words : List NamedWord) (files : List ℕ) (w : SourceWorld) → HookedEnd (of_files options walk words files w)
  files_hooked walk words files w = conftests_hooked walk words files (conftests_loaded options.step_limit (paths_at walk (conftests walk files)) w)

  words_hooked : (sources : List ReadFile) (walk : List (List ℕ)) (r : Result (List NamedWord) WordFault) → HookedEnd (of_words options sources walk r)
  words_hooked sources walk (Err fault) = tt
  words_hooked sources walk (Ok words) = files_hooked walk words (test_files walk (walked walk options.ignore) words) (with_reads (named_paths walk words) sources empty)

  all_hooked : (sources : List ReadFile) → HookedEnd (collect options sources)
  unfolding collect
  all_hooked sources = (let walk = walk_of (map read_path sources) in words_hooked sources walk (named_words walk options.paths))

  hooked : (sources : List ReadFile) (c : Collected python Suite) → collect options sources ≡ Whole c → IsHooked c.table
  hooked sources c e = subst HookedEnd e (all_hooked sources)

-- ---- so each item has the runner's own

-- the runner's own serve each item
serve_all : (table : HookTable) (i : test.Item) → KeepsOwn (serves table i)
serve_all table i which own = ap (λ (b : Bool). b || is_in_folder i (hook_with_code table which.code)) own

in_phase : (phase : Phase) (table : HookTable) (i : test.Item) → HaveOwn (serves table i) table → HasBuiltIns phase (hooks_for table i (impls_of table phase))
in_phase SetUp table i h = h.set_up
in_phase Call table i h = h.call
in_phase Teardown table i h = h.teardown

module _ (there : (found : List FoundHook) (keep : Impl → Bool) → KeepsOwn keep → HaveOwn keep (hook_table found)) where
  pub have_built_ins : (options : Options) (sources : List ReadFile) (c : Collected python Suite) → collect options sources ≡ Whole c → (item : Item) → HaveBuiltIns (rules options c.table) item
  have_built_ins options sources c e item = λ phase. (
      let h = hooked options sources c e in
      let i = item_with_node c.table item.node in
      subst (λ (t : HookTable). HasBuiltIns phase (hooks_for t i (impls_of t phase))) (sym h.table)
      (in_phase phase (hook_table h.found) i (there h.found (serves (hook_table h.found) i) (serve_all (hook_table h.found) i)))
      )
