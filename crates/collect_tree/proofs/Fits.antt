-- What is collected fits the rules of its fixtures.
use Rattle.std.proofs.Common.{◌≡◌, ◌+◌, ℕ, Bool, true, false, List, [], ◌∷◌, inl, inr, map, length, Option, Some, None, Result, Ok, Err, refl, sym, ap, ◌∙◌, subst, eq-eqb, arith}
use Rattle.std.specs.Prelude.{◌==◌, nat_lt, slice_get, if◌then◌else◌}
use Rattle.std.specs.List.{filter, flat_map}
use Rattle.cli_words.specs.declared.options.Options.{Options}
use Rattle.collect_items.specs.Chosen.{is_chosen, ordered}
use Rattle.collect_items.specs.Items.{Findings}
use Rattle.collect_items.specs.Nodes.{item_places, nodes_by_place}
use Rattle.collect_items.specs.declared.found.FoundSuite.{FoundSuite}
use Rattle.collect_words.specs.Files.{conftests, includes_number, walked}
use Rattle.collect_words.specs.Nodes.{first_missing, items_named, item_numbers, or_missing, reached, selected}
use Rattle.collect_words.specs.Words.{named_words}
use Rattle.collect_words.specs.declared.fault.WordFault.{WordFault}
use Rattle.collect_words.specs.declared.named.NamedWord.{NamedWord}
use Rattle.collect_words.specs.declared.nodes.FileNodes.{FileNodes}
use Rattle.conftest_hooks.specs.Registered.{hook_table}
use Rattle.conftest_hooks.specs.declared.looking.FoundHook.{FoundHook}
use Rattle.collection_nodes.specs.declared.test_file.TestFile.{TestFile}
use Rattle.fixture_world.specs.Items.{item_in_session}
use Rattle.py_load.specs.Reading.{ReadFile}
use Rattle.report_parts.specs.Limits.{most_items}
use Rattle.fixture_world.specs.report_rules.Collected.{Collected, ConftestFault, Refused, SelectedItem, Whole}
use Rattle.fixture_world.specs.report_rules.Fits.{IsFit, chosen_item}
use Rattle.fixture_world.specs.runtest_rules.Language.{python}
use Rattle.session_rules.specs.Fits.{Distinct, HasFixtureClosure}
use Rattle.session_rules.specs.World as session
use Rattle.session_types.specs.Members.{IsMember}
use Rattle.fixture_world.specs.tracebacks.source_meaning.Meaning.{SourceWorld}
use Rattle.test_suite.specs.Suites.{fixture_at, numbered_item}
use Rattle.test_suite.specs.declared.item.Item.{Item}
use Rattle.test_suite.specs.declared.suite.Suite.{Suite}
use Rattle.collect_tree.specs.Collection as collection
use Rattle.collect_tree.specs.Collection.{End, collect, conftest_files, item_numbered, item_or_none, found_loaded, of_loaded, of_words, read_path, findings_in_hooks, selected_by, with_conftests}
use Rattle.collect_tree.specs.Conftests.{ConftestsLoaded}
use Rattle.collect_tree.specs.Loads.{LoadResults, test_loads}
use Rattle.collect_tree.specs.Walk.{walk_of}
use Rattle.collect_tree.proofs.Made as made
use Rattle.collect_tree.proofs.Made.{IsMade, fits_made, item_made}
use Rattle.collect_tree.proofs.Once.{Once, or_none, once_each, once_filter}
use Rattle.collect_tree.proofs.Ordered.{once_ordered}

-- ---- closures

module _ (rules : session.Rules python) (found : FoundSuite) (m : IsMade found) (depth : rules.depth ≡ length found.suite.fixtures) (scopes : (d : ℕ) → rules.scope d ≡ (fixture_at found.suite d).scope) where
  none_fits : (node : ℕ) → HasFixtureClosure rules (item_in_session found.table (item_or_none node None))
  none_fits node = record { known = λ d i. absurd i; whole = λ d e i. absurd i; scopes = λ d e i. absurd i; acyclic = λ d i. absurd i }

  fits_or : (number : ℕ) (o : Option Item) → slice_get found.suite.items number ≡ o → HasFixtureClosure rules (item_in_session found.table (item_or_none (found.suite.outer + number) o))
  fits_or number None e = none_fits (found.suite.outer + number)
  fits_or number (Some i) e = fits_made rules found m depth scopes (length m.outer + number) i (item_made found m number i e)

  fits : (places ns : List ℕ) (c : SelectedItem) → IsMember c (map (selected_by found places) ns) → HasFixtureClosure rules c.item
  fits places [] c i = absurd i
  fits places (n ∷ ns) c (inl same) = subst (λ (x : SelectedItem). HasFixtureClosure rules x.item) (sym same) (fits_or n (slice_get found.suite.items n) refl)
  fits places (n ∷ ns) c (inr i) = fits places ns c i

-- ---- nodes

node_or : (found : FoundSuite) (m : IsMade found) (number : ℕ) (o : Option Item) → slice_get found.suite.items number ≡ o → (item_or_none (found.suite.outer + number) o).node ≡ found.suite.outer + number
node_or found m number None e = refl
node_or found m number (Some i) e = made.node_is found m number i e

node_is : (found : FoundSuite) (m : IsMade found) (number : ℕ) → (item_numbered found.suite number).node ≡ found.suite.outer + number
node_is found m number = node_or found m number (slice_get found.suite.items number) refl

two : {A : Type 0} (b : Bool) → b ≡ true → b ≡ false → A
two true e f = cc
two false e f = cc

same_number : (o a b : ℕ) → o + a ≡ o + b → a ≡ b
same_number o a b e = omega (arith, e)

apart : (found : FoundSuite) (m : IsMade found) (places : List ℕ) (n : ℕ) (ns : List ℕ) → includes_number n ns ≡ false
    → (other : session.Item) → IsMember other (map chosen_item (map (selected_by found places) ns)) → other.node ≡ found.suite.outer + n → ⊥
apart found m places n [] h other i e = i
apart found m places n (k ∷ ns) h other (inl same) e =
    two (k == n) (eq-eqb k n (same_number found.suite.outer k n (sym (node_is found m k) ∙ (sym (ap (λ (item : session.Item). item.node) same) ∙ e)))) (or_none (k == n) (includes_number n ns) h).0
apart found m places n (k ∷ ns) h other (inr i) e = apart found m places n ns (or_none (k == n) (includes_number n ns) h).1 other i e

distinct : (found : FoundSuite) (m : IsMade found) (places ns : List ℕ) → Once ns → Distinct (map chosen_item (map (selected_by found places) ns))
distinct found m places [] o = tt
distinct found m places (n ∷ ns) o = (λ other i e. apart found m places n ns o.0 other i (e ∙ node_is found m n), distinct found m places ns o.1)

-- ---- layer by layer

abbrev FitsAll : Collected python Suite → Type 0
FitsAll c = (rules : session.Rules python) → rules.depth ≡ length c.table.fixtures → ((d : ℕ) → rules.scope d ≡ (fixture_at c.table d).scope) → IsFit rules c.selected

abbrev FitsEnd : End → Type 0
FitsEnd (Refused text) = Unit {0}
FitsEnd (ConftestFault path told) = Unit {0}
FitsEnd (Whole c) = FitsAll c

abbrev OnceIn : Result (List ℕ) WordFault → Type 0
OnceIn (Ok numbers) = Once numbers
OnceIn (Err fault) = Unit {0}

or_missing_once : (word : Option NamedWord) (numbers : List ℕ) → Once numbers → OnceIn (or_missing word numbers)
or_missing_once None numbers o = o
or_missing_once (Some word) numbers o = tt

once_or : (b : Bool) (fault : WordFault) (r : Result (List ℕ) WordFault) → OnceIn r → OnceIn (if b then Err fault else r)
once_or true fault r o = tt
once_or false fault r o = o

once_selected : (most : ℕ) (walk : List (List ℕ)) (tests : List ℕ) (files : List FileNodes) (words : List NamedWord) → OnceIn (selected most walk tests files words)
unfolding selected reached
once_selected most walk tests files words =
    once_or (nat_lt most (length (reached walk tests files words))) _ _
    (or_missing_once (first_missing files words) (reached walk tests files words) (once_each [] (flat_map (λ (w : NamedWord). item_numbers (items_named walk tests files w.named)) words) tt))

module _ (options : Options) where
  ended : (walk : List (List ℕ)) (f : Findings) (m : IsMade f.suite) (loaded : LoadResults) (r : Result (List ℕ) WordFault) → OnceIn r
      → FitsEnd (collection.selected_or_refused options walk f loaded r)
  ended walk f m loaded (Err fault) o = tt
  ended walk f m loaded (Ok numbers) o =
      let places = item_places f.files in
      let order = ordered f.keys numbers in
      let ns = filter (λ number. is_chosen options loaded.world.heap (numbered_item f.suite.suite.items number)) order in
      let one : Once ns = once_filter (λ number. is_chosen options loaded.world.heap (numbered_item f.suite.suite.items number)) order (once_ordered f.keys numbers o) in
      λ rules depth scopes. record { fits = fits rules f.suite m depth scopes places ns; distinct = distinct f.suite m places ns one }

  loaded_fits : (walk : List (List ℕ)) (words : List NamedWord) (hooks : List FoundHook) (above : List TestFile) (loaded : LoadResults) → FitsEnd (of_loaded options walk words hooks above loaded)
  loaded_fits walk words hooks above loaded =
      let table = hook_table hooks in
      let x = found_loaded options.step_limit table walk above loaded in
      let f = findings_in_hooks table x.0 in
      ended walk f (made.under table _ (made.found_made options.step_limit table walk above loaded table.ids)) x.1 _ (once_selected most_items walk (walked walk options.ignore) (nodes_by_place walk f.files) words)

  conftests_fit : (walk : List (List ℕ)) (words : List NamedWord) (files : List ℕ) (x : ConftestsLoaded × SourceWorld) → FitsEnd (with_conftests options walk words files x)
  conftests_fit walk words files (Err (path, told), w) = tt
  conftests_fit walk words files (Ok found, w) = loaded_fits walk words found.hooks (conftest_files (conftests walk files) found.modules) (test_loads options.step_limit walk files w)

  words_fit : (sources : List ReadFile) (walk : List (List ℕ)) (r : Result (List NamedWord) WordFault) → FitsEnd (of_words options sources walk r)
  words_fit sources walk (Err fault) = tt
  words_fit sources walk (Ok words) = conftests_fit walk words _ _

  all_fit : (sources : List ReadFile) → FitsEnd (collect options sources)
  unfolding collect
  all_fit sources = words_fit sources (walk_of (map read_path sources)) (named_words (walk_of (map read_path sources)) options.paths)

  pub collected_fits : (sources : List ReadFile) (c : Collected python Suite) → collect options sources ≡ Whole c → FitsAll c
  collected_fits sources c e = subst FitsEnd e (all_fit sources)
