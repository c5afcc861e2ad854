-- What is reported of collected items, from what their run gave.
use Rattle.std.proofs.Common.{◌≡◌, ◌<◌, ◌+◌, ℕ, List, [], ◌∷◌, All, Bool, true, false, Option, None, Some, length, map, refl, sym, ap, ap₂, subst, ◌∙◌}
use Rattle.std.specs.Prelude.{IfSome, IsSomeAnd, option_map, slice_get, slice_index_or}
use Rattle.cli_words.specs.declared.options.Options.{Options}
use Rattle.worker_sessions.specs.collect_tree.collect_items.declared.found.FoundSuite.{FoundSuite}
use Rattle.worker_sessions.specs.collect_tree.Collection.{collect, item_numbered, item_or_none, selected_by}
use Rattle.worker_sessions.specs.collect_tree.Told.{collected_told}
use Rattle.worker_sessions.specs.collect_tree.declared.collected.Collected.{Collected}
use Rattle.edge_io.specs.Files.{File, tree_limit}
use Rattle.worker_sessions.specs.collect_tree.file_source.Sources.{HoldsSource}
use Rattle.worker_sessions.specs.run_items.fixture_world.Items.{item_in_session, selected_item}
use Rattle.worker_sessions.specs.collect_tree.py_load.Reading.{AreRead, ReadFile}
use Rattle.report_parts.specs.Outcomes.{not_empty}
use Rattle.report_parts.specs.declared.report.CollectReport.{CollectReport}
use Rattle.report_parts.specs.declared.report.ItemReport.{ItemReport}
use Rattle.worker_sessions.specs.run_items.report_rules.Answer as answers
use Rattle.worker_sessions.specs.run_items.report_rules.Collected.{Collected as Found, Collection, ConftestFault, Refused, SelectedItem, Whole}
use Rattle.worker_sessions.specs.run_items.report_rules.Fits.{IsFit, chosen_item}
use Rattle.worker_sessions.specs.run_items.report_rules.Report as rules
use Rattle.worker_sessions.specs.run_items.report_rules.Rows.{report_row, task}
use Rattle.worker_sessions.specs.run_items.NotRun.{AreNotRun, selected_items}
use Rattle.worker_sessions.specs.run_items.Texts.{fixture_texts}
use Rattle.worker_sessions.specs.run_items.runtest_rules.Language.{python}
use Rattle.worker_sessions.specs.run_items.runtest_rules.Rules.{rules as tests}
use Rattle.session_rules.specs.Fits.{Distinct}
use Rattle.session_rules.specs.World.{Item as SessionItem}
use Rattle.share_files.specs.Deal.{Every}
use Rattle.worker_sessions.specs.run_items.source_meaning.Meaning.{SourceWorld}
use Rattle.worker_sessions.specs.run_items.test_suite.Suites.{item_or}
use Rattle.worker_sessions.specs.run_items.test_suite.declared.item.Item.{Item}
use Rattle.worker_sessions.specs.run_items.test_suite.declared.suite.Suite.{Suite}
use Rattle.pytest_core.specs.Profile.{profile}
use Rattle.pytest_core.specs.Report.{AreDistinct, end_answer}
use Rattle.pytest_core.specs.Run.{AreApart, IsRunAnswer, collected_of, items_known}
use Rattle.pytest_core.specs.Written.{IsResponseBy, Response, response_of}
use Rattle.worker_sessions.proofs.Plans.{below_none, every}
use Rattle.pytest_core.proofs.NoWorkers.{rows_failed, rows_listed, stopped_failed, stopped_listed}
use Rattle.pytest_core.proofs.Said.{response_as, says_collected}

-- what a session knows of items does not depend on the places of their files
pub apart_as : (found : FoundSuite) (places ns : List ℕ) → map chosen_item (map (selected_by found places) ns) ≡ items_known found ns
apart_as found places [] = refl
apart_as found places (n ∷ ns) = ap (λ (is : List SessionItem). item_in_session found.table (item_numbered found.suite n) ∷ is) (apart_as found places ns)

pub are_apart : (x : Collected) (w : SourceWorld) → AreDistinct (collected_told x w) → AreApart x.found x.selected
are_apart x w d = subst (λ (is : List SessionItem). Distinct is) (apart_as x.found x.places.items x.selected) d

-- items that do not run
there_as : (node : ℕ) (o : Option Item) → (o ≡ None → ⊥) → item_or_none node o ≡ item_or o
there_as node None some = absurd (some refl)
there_as node (Some i) some = refl

numbered_as : (found : FoundSuite) (places ns : List ℕ) → Every (λ n. n < length found.suite.items) ns → map (selected_by found places) ns ≡ selected_items found.table (λ n. slice_index_or places n 0) found.suite.items ns
numbered_as found places [] h = refl
numbered_as found places (n ∷ ns) (l, h) =
    ap₂ (λ (c : SelectedItem) cs. c ∷ cs)
    (ap (selected_item found.table (slice_index_or places n 0)) (there_as (found.suite.outer + n) (slice_get found.suite.items n) (below_none found.suite.items n l)))
    (numbered_as found places ns h)

pub answer_listed : (options : Options) (found : FoundSuite) (ns : List ℕ) (errors : List CollectReport) (w : SourceWorld) (told : List ItemReport) (early : Bool) → options.collect_only ≡ true
    → All (λ n. n < length found.suite.items) ns → AreNotRun found.suite.items ns told → early ≡ false → IsRunAnswer options found ns errors w told early
unfolding AreNotRun
answer_listed options found ns errors w told early listing within h quiet =
    record {
      reports = λ places deselected.
          let c = collected_of found places ns deselected errors w in
          sym (ap (map (rules.report_of HoldsSource profile options found.suite)) (rows_listed options c listing)
          ∙ (ap (λ cs. map (rules.report_of HoldsSource profile options found.suite) (map (λ t. report_row t [] []) (map (task None) cs))) (numbered_as found places ns (every _ ns within))
          ∙ h found.table (λ n. slice_index_or places n 0) options (tests options found.suite).scope (fixture_texts found.suite)));
      stopped = λ places deselected. quiet ∙ sym (stopped_listed options (collected_of found places ns deselected errors w) listing);
    }

-- where a file could not be collected
pub answer_failed : (options : Options) (found : FoundSuite) (ns : List ℕ) (errors : List CollectReport) (w : SourceWorld) (told : List ItemReport) (early : Bool) → options.collect_only ≡ false
    → not_empty errors ≡ true → told ≡ [] → early ≡ false → IsRunAnswer options found ns errors w told early
answer_failed options found ns errors w told early running failed none quiet =
    record {
      reports = λ places deselected. none ∙ sym (ap (map (rules.report_of HoldsSource profile options found.suite)) (rows_failed options (collected_of found places ns deselected errors w) running failed));
      stopped = λ places deselected. quiet ∙ sym (stopped_failed options (collected_of found places ns deselected errors w) running failed);
    }

-- WHERE COLLECTION ENDED
some_same : {X : Type 0} (a b : X) → Some a ≡ Some b → a ≡ b
some_same a b e = cc

abbrev End : Type 0
End = Collection python Suite

pub says_end : (options : Options) (end : End) (r : Response) → option_map response_of (end_answer end) ≡ Some r → IsResponseBy (rules.SaysOfCollection HoldsSource profile options [] end) r
says_end options (Refused text) r e = record { answer = answers.refusal text; is = (refl, refl); same = sym (some_same (response_of (answers.refusal text)) r e) }
says_end options (ConftestFault path told) r e = record { answer = answers.conftest_fault path told; is = (refl, refl); same = sym (some_same (response_of (answers.conftest_fault path told)) r e) }
says_end options (Whole c) r e = absurd (cc)

-- from what the files' sources collect
pub of_collected : (options : Options) (files : List File) (reads : List ReadFile) (end : End) (r : Response) → tree_limit files ≡ None → AreRead files reads → end ≡ collect options reads
    → IsResponseBy (rules.SaysOfCollection HoldsSource profile options [] end) r → IsResponseBy (rules.SaysOfFiles HoldsSource profile options [] files) r
of_collected options files reads end r fits read is h =
    response_as (rules.SaysOfCollection HoldsSource profile options [] end) (rules.SaysOfFiles HoldsSource profile options [] files) r
    (λ answer said. says_collected options [] files reads answer fits read (subst (λ e. rules.SaysOfCollection HoldsSource profile options [] e answer) is said)) h

pub faulty_said : (options : Options) (files : List File) (reads : List ReadFile) (end : Option End) (r : Response) → tree_limit files ≡ None → AreRead files reads
    → IfSome end (λ e. e ≡ collect options reads) → IsSomeAnd end (λ e. option_map response_of (end_answer e) ≡ Some r) → IsResponseBy (rules.SaysOfFiles HoldsSource profile options [] files) r
faulty_said options files reads None r fits read is said = absurd said
faulty_said options files reads (Some end) r fits read is said = of_collected options files reads end r fits read is (says_end options end r said)

pub are_distinct : (options : Options) (reads : List ReadFile) (x : Collected) (w : SourceWorld) → Whole (collected_told x w) ≡ collect options reads
    → ((o : Options) (sources : List ReadFile) (c : Found python Suite) → collect o sources ≡ Whole c → IsFit (tests o c.table) c.selected) → AreDistinct (collected_told x w)
are_distinct options reads x w e fits = (fits options reads (collected_told x w) (sym e)).distinct
