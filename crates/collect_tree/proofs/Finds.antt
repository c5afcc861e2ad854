-- What is found in loaded files.
use Rattle.std.proofs.Common.{◌≡◌, ℕ, ◌+◌, ◌<◌, ◌≤◌, true, false, List, [], ◌∷◌, ◌++◌, Option, Some, None, Ok, Err, length, map, drop, get_or, refl, sym, subst, ap, ◌∙◌, arith}
use Rattle.std.specs.Prelude.{◌==◌, Result, remove, slice_get}
use Rattle.std.proofs.lemmas.Bool.Decides.{nat_tests}
use Rattle.std.proofs.lemmas.List.{append_assoc, append-nil, drop_all, drop_more}
use Rattle.collect_ids.specs.Files.{files_asked}
use Rattle.collect_ids.specs.declared.files.AskedFile.{AskedFile}
use Rattle.cli_words.specs.declared.options.Options.{Options}
use Rattle.collect_items.specs.Items.{Findings, fault_of_file, findings}
use Rattle.collect_items.specs.Nodes.{item_places, nodes_by_place}
use Rattle.collect_items.specs.Reads.{files_read, findings_in}
use Rattle.collect_items.specs.collect_rows.declared.items.RowsFault.{RowsFault}
use Rattle.collect_items.specs.declared.found.FoundFile.{FoundFile}
use Rattle.collect_items.specs.declared.found.FoundItems.{FoundItems}
use Rattle.collect_items.specs.declared.found.FoundSuite.{FoundSuite}
use Rattle.collect_items.specs.declared.reads.FilesRead.{FilesRead}
use Rattle.collect_items.specs.fixture_definitions.collect_params.param_rows.declared.keys.ItemKeys.{ItemKeys}
use Rattle.collect_words.specs.declared.fault.WordFault.{WordFault}
use Rattle.collect_words.specs.declared.fault.WordFault.TheVariants as word
use Rattle.collect_words.specs.declared.nodes.FileNodes.{FileNodes}
use Rattle.fixture_world.specs.report_rules.Collected.{Whole}
use Rattle.fixture_world.specs.tracebacks.source_meaning.Meaning.{SourceWorld}
use Rattle.collect_words.specs.declared.named.NamedWord.{NamedWord}
use Rattle.collection_nodes.specs.declared.test_file.TestFile.{TestFile}
use Rattle.conftest_hooks.specs.Registered.{hook_table}
use Rattle.conftest_hooks.specs.declared.looking.FoundHook.{FoundHook}
use Rattle.conftest_hooks.specs.hook_order.declared.implementation.Impl.{Impl}
use Rattle.py_values.specs.declared.object.Obj.{Obj}
use Rattle.test_suite.specs.declared.hook.HookTable.{HookTable}
use Rattle.collect_tree.proofs.Ends.{Is, is_same}
use Rattle.collect_tree.specs.Collection.{End, collected_by, collected_of, ends_with_printed, findings_in_hooks, found_asked, found_behind, found_by, found_loaded, found_of_asked, nodes_selected, of_found, of_loaded, selected_or_refused, under_hooks, with_printed}
use Rattle.collect_tree.specs.Told.{IsFound, IsWordRefusal, collected_told, collection_end}
use Rattle.collect_tree.specs.declared.collected.Collected.{Collected}
use Rattle.collect_tree.specs.declared.fault.CollectFault.{CollectFault}
use Rattle.collect_tree.specs.declared.fault.CollectFault.TheVariants as fault
use Rattle.collect_tree.specs.Loads.{LoadResults}
use Rattle.collect_tree.specs.declared.loads.LoadEnd.{LoadEnd}

abbrev pub loads_with : List TestFile → List LoadEnd → SourceWorld → LoadResults
loads_with files ends w = record { files = files; ends = ends; world = w }

none_printed : (ends : List LoadEnd) → ends_with_printed ends [] ≡ ends
none_printed [] = refl
none_printed (end ∷ ends) = refl

printed_on : (asked : List AskedFile) (i : ℕ) (one : AskedFile) (end : LoadEnd) (before after done more all : List LoadEnd)
    → i < length asked → one ≡ get_or asked i one → before ≡ end ∷ after → done ++ ends_with_printed before (drop i asked) ≡ all → more ≡ done ++ with_printed end one.printed ∷ []
    → more ++ ends_with_printed after (drop (i + 1) asked) ≡ all
printed_on asked i one end before after done more all l e b is new =
    ap (λ (xs : List LoadEnd). xs ++ ends_with_printed after (drop (i + 1) asked)) new
    ∙ (append_assoc done (with_printed end one.printed ∷ []) (ends_with_printed after (drop (i + 1) asked))
    ∙ (ap (λ (x : AskedFile). done ++ ends_with_printed (end ∷ after) (x ∷ drop (i + 1) asked)) e
    ∙ (ap (λ (xs : List AskedFile). done ++ ends_with_printed (end ∷ after) xs) (sym (drop_more asked i one l))
    ∙ (ap (λ (xs : List LoadEnd). done ++ ends_with_printed xs (drop i asked)) (sym b) ∙ is))))

-- the first of the loads that are left
pub printed_more : (asked : List AskedFile) (i n : ℕ) (one : AskedFile) (end : LoadEnd) (left after done more all : List LoadEnd)
    → i < length asked → one ≡ get_or asked i one → n ≡ length left → false ≡ (n == 0) → end ≡ get_or left 0 end → after ≡ remove left 0
    → done ++ ends_with_printed left (drop i asked) ≡ all → more ≡ done ++ with_printed end one.printed ∷ [] → more ++ ends_with_printed after (drop (i + 1) asked) ≡ all
printed_more asked i n one end [] after done more all l e many some first rest is new = absurd (grind (arith, nat_tests))
printed_more asked i n one end (x ∷ xs) after done more all l e many some first rest is new =
    printed_on asked i one end (x ∷ xs) after done more all l e (ap (λ (y : LoadEnd). y ∷ xs) (sym first) ∙ ap (λ (ys : List LoadEnd). end ∷ ys) (sym rest)) is new

-- no load is left
pub printed_none : (asked : List AskedFile) (i n : ℕ) (left done all : List LoadEnd) → n ≡ length left → true ≡ (n == 0) → done ++ ends_with_printed left (drop i asked) ≡ all → done ≡ all
printed_none asked i n [] done all m e is = sym (append-nil done) ∙ is
printed_none asked i n (end ∷ left) done all m e is = absurd (grind (arith, nat_tests))

-- no file is left
pub printed_done : (asked : List AskedFile) (i : ℕ) (left done all : List LoadEnd) → length asked ≤ i → done ++ ends_with_printed left (drop i asked) ≡ all → done ++ left ≡ all
printed_done asked i left done all l is =
    ap (λ (xs : List LoadEnd). done ++ xs) (sym (none_printed left)) ∙ (ap (λ (xs : List AskedFile). done ++ ends_with_printed left xs) (sym (drop_all i asked l)) ∙ is)

-- what the code found, of what was read
pub is_found : (walk : List (List ℕ)) (found : FoundItems) (f g : Findings) → f ≡ g → found.found ≡ f.suite → found.places.items ≡ item_places f.files → found.keys.items ≡ f.keys
    → found.nodes.items ≡ nodes_by_place walk f.files → found.faults.items ≡ map fault_of_file f.files → IsFound walk found g
is_found walk found f g e suite places keys nodes faults = subst (IsFound walk found) e (record { suite = suite; places = places; keys = keys; nodes = nodes; faults = faults })

module _ (limit : ℕ) (hooks : HookTable) (walk : List (List ℕ)) (above : List TestFile) (loaded : LoadResults) where
  pub asked_found : (read : FilesRead) (asked : List AskedFile) (u : SourceWorld) (came : List FoundFile) (heap : List Obj)
      → read ≡ files_read loaded.world.heap walk above loaded.files → (asked, u) ≡ files_asked limit hooks walk read loaded.world → came ≡ map found_of_asked asked → heap ≡ u.heap
      → findings_in heap walk read.basis came ≡ (found_asked limit hooks walk (files_read loaded.world.heap walk above loaded.files) loaded).0
  asked_found read asked u came heap r a c h =
      ap (λ (x : List Obj). findings_in x walk read.basis came) h
      ∙ (ap (λ (fs : List FoundFile). findings_in u.heap walk read.basis fs) c
      ∙ (ap (λ (x : List AskedFile × SourceWorld). (found_behind walk read loaded x).0) a
      ∙ ap (λ (y : FilesRead). (found_asked limit hooks walk y loaded).0) r))

  pub asked_loaded : (read : FilesRead) (asked : List AskedFile) (u : SourceWorld) (ends : List LoadEnd)
      → read ≡ files_read loaded.world.heap walk above loaded.files → (asked, u) ≡ files_asked limit hooks walk read loaded.world → ends ≡ ends_with_printed loaded.ends asked
      → loads_with loaded.files ends u ≡ (found_asked limit hooks walk (files_read loaded.world.heap walk above loaded.files) loaded).1
  asked_loaded read asked u ends r a e =
      ap (λ (x : List LoadEnd). loads_with loaded.files x u) e
      ∙ (ap (λ (x : List AskedFile × SourceWorld). (found_behind walk read loaded x).1) a
      ∙ ap (λ (y : FilesRead). (found_asked limit hooks walk y loaded).1) r)

  -- with the hook, and without
  pub found_by_hook : (impls : List Impl) (which : Impl) → Some which ≡ slice_get impls 0 → found_by limit hooks walk above loaded impls ≡ found_asked limit hooks walk (files_read loaded.world.heap walk above loaded.files) loaded
  found_by_hook [] which e = cc
  found_by_hook (x ∷ xs) which e = refl

  pub found_without : (impls : List Impl) → None ≡ slice_get impls 0 → found_by limit hooks walk above loaded impls ≡ (findings loaded.world.heap walk above loaded.files, loaded)
  found_without [] e = refl
  found_without (x ∷ xs) e = cc

-- what is told of what was found is told of the loads
pub found_told : (options : Options) (walk : List (List ℕ)) (words : List NamedWord) (hooks : List FoundHook) (above : List TestFile) (loaded behind : LoadResults) (table : HookTable) (told : Option End) → table ≡ hook_table hooks
    → behind ≡ (found_loaded options.step_limit table walk above loaded).1 → Is told (of_found options walk words table ((found_loaded options.step_limit table walk above loaded).0, behind)) → Is told (of_loaded options walk words hooks above loaded)
found_told options walk words hooks above loaded behind table told e same h =
    let x = found_loaded options.step_limit table walk above loaded in
    is_same told _ _ h
    (ap (λ (l : LoadResults). of_found options walk words table (x.0, l)) same ∙ ap (λ (t : HookTable). of_found options walk words t (found_loaded options.step_limit t walk above loaded)) e)

-- ---- the items of what was found

found_same : (options : Options) (walk : List (List ℕ)) (hooks : HookTable) (found : FoundItems) (f : Findings) (loaded : LoadResults) (numbers : List ℕ) → IsFound walk found f
    → collected_by options walk (under_hooks hooks found.found) found.places.items found.keys.items found.faults.items loaded numbers ≡ collected_of options walk (findings_in_hooks hooks f) loaded numbers
found_same options walk hooks found f loaded numbers i =
    ap (λ (x : FoundSuite). collected_by options walk (under_hooks hooks x) found.places.items found.keys.items found.faults.items loaded numbers) i.suite
    ∙ (ap (λ (x : List ℕ). collected_by options walk (under_hooks hooks f.suite) x found.keys.items found.faults.items loaded numbers) i.places
    ∙ (ap (λ (x : List ItemKeys). collected_by options walk (under_hooks hooks f.suite) (item_places f.files) x found.faults.items loaded numbers) i.keys
    ∙ ap (λ (x : List (Option RowsFault)). collected_by options walk (under_hooks hooks f.suite) (item_places f.files) f.keys x loaded numbers) i.faults))

selected_so : (options : Options) (walk : List (List ℕ)) (words : List NamedWord) (found : FoundItems) (f : Findings) (r : Result (List ℕ) WordFault) → IsFound walk found f → nodes_selected options walk found.nodes.items words ≡ r
    → nodes_selected options walk (nodes_by_place walk f.files) words ≡ r
selected_so options walk words found f r i e = ap (λ (x : List FileNodes). nodes_selected options walk x words) (sym i.nodes) ∙ e

pub found_whole : (options : Options) (walk : List (List ℕ)) (words : List NamedWord) (hooks : HookTable) (found : FoundItems) (f : Findings) (loaded : LoadResults) (ns numbers : List ℕ) (c : Collected) (w : SourceWorld) → IsFound walk found f
    → nodes_selected options walk found.nodes.items words ≡ Ok numbers → ns ≡ numbers → collected_told c w ≡ collected_by options walk (under_hooks hooks found.found) found.places.items found.keys.items found.faults.items loaded ns
    → Is (collection_end (Ok c) w) (of_found options walk words hooks (f, loaded))
found_whole options walk words hooks found f loaded ns numbers c w i selected same told =
    ap Whole (told ∙ (ap (λ (x : List ℕ). collected_by options walk (under_hooks hooks found.found) found.places.items found.keys.items found.faults.items loaded x) same ∙ found_same options walk hooks found f loaded numbers i))
    ∙ ap (selected_or_refused options walk (findings_in_hooks hooks f) loaded) (sym (selected_so options walk words found f (Ok numbers) i selected))

pub found_refused : (options : Options) (walk : List (List ℕ)) (words : List NamedWord) (hooks : HookTable) (found : FoundItems) (f : Findings) (loaded : LoadResults) (fault : CollectFault) (w : SourceWorld) → IsFound walk found f
    → IsWordRefusal (nodes_selected options walk found.nodes.items words) fault → Is (collection_end (Err fault) w) (of_found options walk words hooks (f, loaded))
found_refused options walk words hooks found f loaded (fault.NotFound name) w i h =
    ap (selected_or_refused options walk (findings_in_hooks hooks f) loaded) (sym (selected_so options walk words found f (Err (word.NotFound name)) i h))
found_refused options walk words hooks found f loaded fault.TooManyItems w i h =
    ap (selected_or_refused options walk (findings_in_hooks hooks f) loaded) (sym (selected_so options walk words found f (Err word.TooManyItems) i h))
found_refused options walk words hooks found f loaded (fault.Conftest path told) w i h = absurd h
found_refused options walk words hooks found f loaded fault.OutOfMemory w i h = tt
