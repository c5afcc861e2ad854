-- Behind a collection no frame is out: loads leave the frames as they were, and the first world has none.
use Rattle.std.proofs.Common.{◌≡◌, ℕ, false, List, [], ◌∷◌, map, None, Some, Ok, Err, refl, subst, ap, ◌∙◌}
use Rattle.std.specs.Prelude.{Result, chars}
use Rattle.cli_words.specs.declared.options.Options.{Options}
use Rattle.collect_tree.specs.Collection.{collect, conftest_files, findings_in_hooks, named_paths, nodes_selected, of_files, found_by, found_loaded, of_loaded, of_words, paths_at, read_path, selected_or_refused, with_conftests}
use Rattle.collect_tree.specs.Conftests.{ConftestsLoaded, behind_hooks, behind_load, conftests_loaded, found_before, hooks_of_module}
use Rattle.collect_tree.specs.Loads.{LoadResults, ended_before, test_loads}
use Rattle.collect_tree.specs.Walk.{walk_of}
use Rattle.collect_tree.specs.collect_items.Items.{Findings}
use Rattle.collect_tree.specs.collect_items.Nodes.{nodes_by_place}
use Rattle.collect_tree.specs.collect_items.Reads.{files_read}
use Rattle.collection_nodes.specs.declared.test_file.TestFile.{TestFile}
use Rattle.collect_tree.specs.py_load.InTurn.{FileEnd, file_load}
use Rattle.collect_tree.specs.py_load.Loading.{load_unless}
use Rattle.collect_tree.specs.py_load.Prepared.{with_reads}
use Rattle.collect_tree.specs.py_load.Reading.{ReadFile}
use Rattle.collect_words.specs.Files.{conftests, test_files, walked}
use Rattle.collect_words.specs.Words.{named_words}
use Rattle.collect_words.specs.declared.fault.WordFault.{WordFault}
use Rattle.collect_words.specs.declared.named.NamedWord.{NamedWord}
use Rattle.conftest_hooks.specs.Registered.{hook_table}
use Rattle.conftest_hooks.specs.declared.looking.FoundHook.{FoundHook}
use Rattle.conftest_hooks.specs.declared.looking.HookFault.{HookFault}
use Rattle.core_rules.specs.Keeps.{IsKeptBehind, IsKeptIn}
use Rattle.core_rules.specs.source_meaning.Meaning.{SourceWorld, source_begin, source_call, source_module, source_resume}
use Rattle.hook_order.specs.declared.implementation.Impl.{Impl}
use Rattle.py_values.specs.declared.value.Value.{Value}
use Rattle.collect_tree.specs.runtest_rules.Language.{python}
use Rattle.collect_tree.specs.runtest_rules.py_world.Resuming.{Sent, abandon_of, is_out}
use Rattle.collect_tree.specs.runtest_rules.report_rules.Collected.{Collected, Collection, ConftestFault, Refused, Whole}
use Rattle.collect_tree.specs.runtest_rules.test_suite.declared.hook.HookTable.{HookTable}
use Rattle.collect_tree.specs.runtest_rules.test_suite.declared.suite.Suite.{Suite}
use Rattle.collect_tree.specs.tracebacks.py_machine.Worlds.{empty}
use Rattle.collect_tree.proofs.runtest_rules_lemmas.Worlds.{out_in}
use Rattle.session_frames.proofs.Asked.{asked_same}

-- no frame is out
abbrev NoneOut : SourceWorld → Type 0
NoneOut w = (n : ℕ) → is_out n w ≡ false

none_of : (w : SourceWorld) → w.frozen ≡ [] → NoneOut w
none_of w e = λ n. ap (λ fs. out_in fs n) e

-- what a collection leaves, where it is whole
abbrev LeavesNone : Collection python Suite → Type 0
LeavesNone (Refused text) = Unit {0}
LeavesNone (ConftestFault path told) = Unit {0}
LeavesNone (Whole c) = NoneOut c.world

of_whole : (x : Collection python Suite) (c : Collected python Suite) → x ≡ Whole c → LeavesNone x → NoneOut c.world
of_whole (Refused text) c e h = cc
of_whole (ConftestFault path told) c e h = cc
of_whole (Whole d) c e h = (let q : d ≡ c = cc in subst (λ (x : Collected python Suite). NoneOut x.world) q h)

module _ (loads : (w : SourceWorld) (path : List ℕ) (budget : ℕ) → IsKeptIn w (source_module path budget w).1) where
  unless_same : (fault : _) (path : List ℕ) (limit : ℕ) (w : SourceWorld) → (load_unless fault path limit w).1.frozen ≡ w.frozen
  unless_same (Some fault) path limit w = refl
  unless_same None path limit w = (loads w path limit).frozen

  load_same : (limit : ℕ) (path : List ℕ) (w : SourceWorld) → (file_load limit path w).1.frozen ≡ w.frozen
  load_same limit path w = unless_same _ (chars path) limit w

  found_same : (v : Value) (hooks : List FoundHook) (rest : ConftestsLoaded × SourceWorld) → (found_before v hooks rest).1.frozen ≡ rest.1.frozen
  found_same v hooks (Ok found, w) = refl
  found_same v hooks (Err failed, w) = refl

  hooks_same : (path : List ℕ) (v : Value) (r : Result (List FoundHook) HookFault) (rest : ConftestsLoaded × SourceWorld) (w : SourceWorld) → rest.1.frozen ≡ w.frozen → (behind_hooks path v r rest w).1.frozen ≡ w.frozen
  hooks_same path v (Ok hooks) rest w e = found_same v hooks rest ∙ e
  hooks_same path v (Err fault) rest w e = refl

  on_same : (limit : ℕ) (path : List ℕ) (end : FileEnd) (rest : ConftestsLoaded × SourceWorld) (w : SourceWorld) → rest.1.frozen ≡ w.frozen → (behind_load limit path end rest w).1.frozen ≡ w.frozen
  on_same limit path (Ok v, printed) rest w e = hooks_same path v (hooks_of_module path v w) rest w e
  on_same limit path (Err error, printed) rest w e = refl

  conftests_same : (limit : ℕ) (paths : List (List ℕ)) (w : SourceWorld) → (conftests_loaded limit paths w).1.frozen ≡ w.frozen
  conftests_same limit [] w = refl
  conftests_same limit (path ∷ paths) w =
      let x = file_load limit path w in
      on_same limit path x.0 (conftests_loaded limit paths x.1) x.1 (conftests_same limit paths x.1) ∙ load_same limit path w

  ended_same : (limit : ℕ) (path : List ℕ) (place : ℕ) (end : FileEnd) (w : SourceWorld) (rest : LoadResults) → (ended_before limit path place end w rest).world.frozen ≡ rest.world.frozen
  ended_same limit path place (Ok v, printed) w rest = refl
  ended_same limit path place (Err error, printed) w rest = refl

  one_more : (limit : ℕ) (walk : List (List ℕ)) (place : ℕ) (places : List ℕ) (path : List ℕ) (w : SourceWorld) (x : FileEnd × SourceWorld) → x.1.frozen ≡ w.frozen → ((v : SourceWorld) → (test_loads limit walk places v).world.frozen ≡ v.frozen)
      → (ended_before limit path place x.0 x.1 (test_loads limit walk places x.1)).world.frozen ≡ w.frozen
  one_more limit walk place places path w x e law = ended_same limit path place x.0 x.1 (test_loads limit walk places x.1) ∙ (law x.1 ∙ e)

  tests_same : (limit : ℕ) (walk : List (List ℕ)) (places : List ℕ) (w : SourceWorld) → (test_loads limit walk places w).world.frozen ≡ w.frozen
  tests_same limit walk [] w = refl
  tests_same limit walk (place ∷ places) w = one_more limit walk place places _ w _ (load_same limit _ w) (tests_same limit walk places)

  module _ (calls : (w : SourceWorld) (f : Value) (args : List Value) (budget : ℕ) → IsKeptIn w (source_call f args budget w).1)
      (begins : (w : SourceWorld) (f : Value) (args : List Value) (budget : ℕ) → IsKeptBehind w w.frozen (source_begin f args budget w))
      (resumes : (w : SourceWorld) (n : ℕ) (sent : Sent) (budget : ℕ) → IsKeptBehind w (abandon_of n w).frozen (source_resume n sent budget w)) (options : Options) where
    found_leaves : (hooks : HookTable) (walk : List (List ℕ)) (above : List TestFile) (loaded : LoadResults) (impls : List Impl) → loaded.world.frozen ≡ [] → NoneOut (found_by options.step_limit hooks walk above loaded impls).1.world
    found_leaves hooks walk above loaded [] e = none_of loaded.world e
    found_leaves hooks walk above loaded (which ∷ others) e =
        λ n. asked_same calls begins resumes options.step_limit hooks walk (files_read loaded.world.heap walk above loaded.files) loaded.world n ∙ none_of loaded.world e n

    ended : (walk : List (List ℕ)) (f : Findings) (loaded : LoadResults) (r : Result (List ℕ) WordFault) → NoneOut loaded.world → LeavesNone (selected_or_refused options walk f loaded r)
    ended walk f loaded (Err fault) e = tt
    ended walk f loaded (Ok numbers) e = e

    loaded_leaves : (walk : List (List ℕ)) (words : List NamedWord) (hooks : List FoundHook) (above : List TestFile) (loaded : LoadResults) → loaded.world.frozen ≡ [] → LeavesNone (of_loaded options walk words hooks above loaded)
    loaded_leaves walk words hooks above loaded e =
        let table = hook_table hooks in
        let x = found_loaded options.step_limit table walk above loaded in
        let f = findings_in_hooks table x.0 in
        ended walk f x.1 (nodes_selected options walk (nodes_by_place walk f.files) words) (found_leaves table walk above loaded table.ids e)

    behind_conftests : (walk : List (List ℕ)) (words : List NamedWord) (files : List ℕ) (x : ConftestsLoaded × SourceWorld) → x.1.frozen ≡ [] → LeavesNone (with_conftests options walk words files x)
    behind_conftests walk words files (Err (path, told), w) e = tt
    behind_conftests walk words files (Ok found, w) e =
        let loaded = test_loads options.step_limit walk files w in
        loaded_leaves walk words found.hooks (conftest_files (conftests walk files) found.modules) loaded (tests_same options.step_limit walk files w ∙ e)

    from_world : (walk : List (List ℕ)) (words : List NamedWord) (files : List ℕ) (w : SourceWorld) → w.frozen ≡ [] → LeavesNone (of_files options walk words files w)
    from_world walk words files w e =
        let paths = paths_at walk (conftests walk files) in
        behind_conftests walk words files (conftests_loaded options.step_limit paths w) (conftests_same options.step_limit paths w ∙ e)

    read : (sources : List ReadFile) (walk : List (List ℕ)) (r : Result (List NamedWord) WordFault) → LeavesNone (of_words options sources walk r)
    read sources walk (Err fault) = tt
    read sources walk (Ok words) = from_world walk words (test_files walk (walked walk options.ignore) words) (with_reads (named_paths walk words) sources empty) refl

    leaves_none : (sources : List ReadFile) → LeavesNone (collect options sources)
    unfolding collect
    leaves_none sources = (let walk = walk_of (map read_path sources) in read sources walk (named_words walk options.paths))

    pub none_out : (sources : List ReadFile) (c : Collected python Suite) → collect options sources ≡ Whole c → (n : ℕ) → is_out n c.world ≡ false
    none_out sources c e n = of_whole (collect options sources) c e (leaves_none sources) n
