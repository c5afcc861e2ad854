-- A language of tests that print their names: four files with two tests each, `a1`, `a2`, `b1` and so on.
use Rattle.std.specs.Prelude.{ℕ, ◌+◌, ◌*◌, ◌/◌, ◌%◌, false, List, [], ◌∷◌, ◌++◌, None, Some}
use Rattle.hook_order.specs.declared.implementation.Impl.{Impl}
use Rattle.report_parts.specs.declared.report.ItemReport.{ItemReport}
use Rattle.report_parts.specs.declared.report.PhaseEnd.TheVariants as end
use Rattle.report_rules.specs.Collected.{Collected, FixtureTexts, SelectedItem, report_language}
use Rattle.session_rules.specs.Hooks.{HookGave}
use Rattle.session_rules.specs.Session.{built_in}
use Rattle.session_rules.specs.World.{Phase, Returned, Rules}
use Rattle.session_types.specs.declared.scope.Scope.TheVariants.{Function}
use Rattle.worker_tests.specs.declared.letters.Printed.{Printed}

-- the letter of a test's file, by the test's node
abbrev pub file_letter : ℕ → List ℕ
file_letter node = (97 + node / 2) ∷ []

-- the name of a test: its file's letter, and its number in it
abbrev pub letter_name : ℕ → List ℕ
letter_name node = (97 + node / 2) ∷ (49 + node % 2) ∷ []

-- what a test leaves printed
abbrev pub with_printed_name : ℕ → Printed → Printed
with_printed_name node w = record { text = w.text ++ letter_name node }

-- the implementation of a phase that does what the phase is for
abbrev pub built_in_impl : Phase → Impl
built_in_impl phase = record { registered = built_in phase; wrapper = false; first = false; last = false; node = 0; code = 0 }

-- no fixtures and no hooks of its own; each phase tells all that was printed in its world
abbrev pub letters_rules : Rules (report_language Printed ℕ ℕ ℕ)
letters_rules =
    record {
      depth = 0;
      scope = λ d. Function;
      yields = λ d. false;
      make_instance = λ item w. record { answer = None; world = w };
      make_item = λ item w. record { answer = item; world = w };
      ask = λ item d param w. record { request = None; world = w };
      begin = λ item d param own values request w. record { how = Returned 0; world = w };
      did_not_yield = λ d w. record { thrown = 0; world = w };
      resume = λ rest w. record { how = Returned 0; world = w };
      abandon = λ rest w. w;
      yielded_again = λ d w. record { thrown = 0; world = w };
      close = λ request w. record { finalizers = []; world = w };
      finalize = λ f w. record { raised = None; world = w };
      fault = λ item w. record { thrown = 0; world = w };
      ask_test = λ item w. record { request = None; world = w };
      test = λ item own values request w. record { raised = None; world = with_printed_name item w };
      wrong_arguments = λ item w. record { thrown = 0; world = w };
      hooks = λ phase item. built_in_impl phase ∷ [];
      implement = λ phase item arguments which w. record { answer = HookGave None; world = w };
      open_wrapper = λ phase item arguments which w. record { how = Returned 0; world = w };
      wrapper_did_not_yield = λ which w. record { thrown = 0; world = w };
      resume_wrapper = λ phase item rest sent w. record { how = Returned 0; world = w };
      wrapper_yielded_again = λ which w. record { thrown = 0; world = w };
      unless_none = λ v. None;
      is_same_object = λ e f. false;
      end_phase = λ phase item raised w. record { told = record { end = end.Passed; captured = w.text }; world = w };
    }

abbrev pub letters_fixture : ℕ → FixtureTexts
letters_fixture d = record { name = []; arguments = [] }

-- the test with a node
abbrev pub letter_test : ℕ → SelectedItem
letter_test node =
    record {
      item = record { node = node; chain = node ∷ []; requests = λ d. []; parameter = λ d. None; place = λ d. node; closure = Some []; arguments = [] };
      file = node / 2;
      texts = record { node_id = letter_name node; title = letter_name node; file = file_letter node };
      ids = λ d. None;
    }

-- what is collected
abbrev pub letters : Collected (report_language Printed ℕ ℕ ℕ) ℕ
letters =
    record {
      table = 0;
      world = record { text = [] };
      selected = letter_test 0 ∷ letter_test 1 ∷ letter_test 2 ∷ letter_test 3 ∷ letter_test 4 ∷ letter_test 5 ∷ letter_test 6 ∷ letter_test 7 ∷ [];
      deselected = 0;
      errors = [];
    }

-- the report of a test in a world in which this was printed before
abbrev pub letter_report : ℕ → List ℕ → ItemReport
letter_report node before =
    record {
      node_id = letter_name node;
      title = letter_name node;
      file = file_letter node;
      setup = end.Passed;
      call = end.Passed;
      teardown = end.Passed;
      shown_lines = [];
      captured = (before, before ++ letter_name node, before ++ letter_name node);
    }

-- what the tests of a file leave printed
abbrev pub file_printed : List ℕ → ℕ → List ℕ
file_printed printed file = (printed ++ letter_name (2 * file)) ++ letter_name (2 * file + 1)

abbrev pub file_reports : List ℕ → ℕ → List ItemReport
file_reports printed file = letter_report (2 * file) printed ∷ letter_report (2 * file + 1) (printed ++ letter_name (2 * file)) ∷ []

-- the reports of the tests of files in one world, which had printed this
abbrev pub letters_reports : List ℕ → List ℕ → List ItemReport
letters_reports printed [] = []
letters_reports printed (file ∷ files) = file_reports printed file ++ letters_reports (file_printed printed file) files

-- what they leave printed
abbrev pub letters_printed : List ℕ → List ℕ → List ℕ
letters_printed printed [] = printed
letters_printed printed (file ∷ files) = letters_printed (file_printed printed file) files
