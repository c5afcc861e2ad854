-- The definitions, computed on a small world.
use Rattle.std.specs.Prelude.{◌≡◌, ℕ, ◌==◌, ◌+◌, Bool, true, false, List, [], ◌∷◌, ◌++◌, Option, None, Some, refl, map, length, codes, flat_map, if◌then◌else◌}
use Rattle.cli_words.specs.Options.{defaults}
use Rattle.cli_words.specs.declared.options.Options.{Options}
use Rattle.report_parts.specs.declared.report.Place.{Place}
use Rattle.report_rules.specs.Collected.{Collected, FixtureTexts, ItemTexts, SelectedItem, report_language}
use Rattle.report_rules.specs.Groups.{groups}
use Rattle.report_rules.specs.Report.{rows_reported, sessions, reached_maxfail, workers_of}
use Rattle.report_rules.specs.Rows.{ReportRow, session_rows, task}
use Rattle.report_rules.specs.Shown.{shown_lines}
use Rattle.report_parts.specs.declared.report.PhaseEnd.TheVariants as end
use Rattle.session_rules.proofs.Small.{Log, blank, built_ins, plain, small, write}
use Rattle.session_rules.specs.Hooks.{HookGave}
use Rattle.session_rules.specs.World.{Returned, Rules, Yielded}
use Rattle.session_types.specs.declared.scope.Scope.{Scope}
use Rattle.session_types.specs.declared.scope.Scope.TheVariants.{Class, Function, Module, Session}

-- the names of an item
abbrev texts_of : List ℕ → ItemTexts
texts_of node_id = record { node_id = node_id; title = codes "title"; file = codes "file" }

-- a test without fixtures
abbrev bare : ℕ → ℕ → SelectedItem
bare file n =
    record {
      item = record { node = n; chain = 0 ∷ file ∷ n ∷ []; requests = λ d. []; parameter = λ d. None; place = λ d. n; closure = Some []; arguments = [] };
      file = file;
      texts = texts_of [];
      ids = λ d. None;
    }

abbrev four : Collected small (Unit {0})
four = record { table = tt; world = blank; selected = bare 1 10 ∷ bare 2 11 ∷ bare 1 12 ∷ bare 3 13 ∷ []; deselected = 0; errors = [] }

-- the test of item 11 raises
abbrev failing : Rules small
failing = record plain { test = λ item own values request w. record { raised = if item == 11 then Some 5 else None; world = w } }

abbrev node_of : SelectedItem → ℕ
node_of c = c.item.node

groups_row : map (map node_of) (groups four.selected) ≡ (10 ∷ 12 ∷ []) ∷ (11 ∷ []) ∷ (13 ∷ []) ∷ []
groups_row = refl

-- a row: its item, its place, and how many phases it has
abbrev brief : ReportRow small → ℕ × Option Place × ℕ
brief r = (r.task.chosen.item.node, r.task.place, length r.ends)

abbrev briefs : Options → List (List ℕ) → List (ℕ × Option Place × ℕ)
briefs options taken = map brief (rows_reported failing options four taken)

abbrev at : ℕ → ℕ → Option Place
at group worker = Some (record { group = group; worker = worker })

-- one thread: all, and up to the one that fails with `-x`
all_row : briefs defaults [] ≡ (10, None, 3) ∷ (11, None, 3) ∷ (12, None, 3) ∷ (13, None, 3) ∷ []
all_row = refl

first_row : briefs (record defaults { maxfail = 1 }) [] ≡ (10, None, 3) ∷ (11, None, 3) ∷ []
first_row = refl

stop_row : reached_maxfail failing (record defaults { maxfail = 1 }) four ≡ true
stop_row = refl

-- nothing runs
only_row : briefs (record defaults { collect_only = true }) [] ≡ (10, None, 0) ∷ (11, None, 0) ∷ (12, None, 0) ∷ (13, None, 0) ∷ []
only_row = refl

-- two workers: the second group fell to worker 1, the third to worker 0; and four workers are three
two_row : briefs (record defaults { workers = 2 }) ((0 ∷ 2 ∷ []) ∷ (1 ∷ []) ∷ []) ≡ (10, at 0 0, 3) ∷ (12, at 0 0, 3) ∷ (11, at 1 1, 3) ∷ (13, at 2 0, 3) ∷ []
two_row = refl

three_row : workers_of (record defaults { workers = 4 }) four ≡ 3
three_row = refl

two_sessions : length (sessions failing (record defaults { workers = 2 }) four ((0 ∷ 2 ∷ []) ∷ (1 ∷ []) ∷ [])) ≡ 2
two_sessions = refl

-- `--setup-show`: s (session), m(s) (module), c(m) (class), f(c) (function); two tests of a class, and one of another module

abbrev four_scopes : ℕ → Scope
four_scopes d = if d == 0 then Session else (if d == 1 then Module else (if d == 2 then Class else Function))

abbrev four_fixtures : ℕ → FixtureTexts
four_fixtures d =
    if d == 0 then record { name = codes "s"; arguments = [] }
    else (if d == 1 then record { name = codes "m"; arguments = codes "s" ∷ [] }
    else (if d == 2 then record { name = codes "c"; arguments = codes "m" ∷ [] }
    else record { name = codes "f"; arguments = codes "c" ∷ [] }))

abbrev in_four : Rules (report_language Log ℕ ℕ ℕ)
in_four =
    record {
      depth = 4;
      scope = four_scopes;
      yields = λ d. true;
      make_instance = λ item w. record { answer = None; world = w };
      make_item = λ item w. record { answer = item; world = w };
      ask = λ item d param w. record { request = None; world = w };
      begin = λ item d param own values request w. record { how = Yielded d (100 + d); world = w };
      did_not_yield = λ d w. record { thrown = 0; world = w };
      resume = λ rest w. record { how = Returned 0; world = w };
      abandon = λ rest w. w;
      yielded_again = λ d w. record { thrown = 0; world = w };
      close = λ request w. record { finalizers = []; world = w };
      finalize = λ f w. record { raised = None; world = w };
      fault = λ item w. record { thrown = 0; world = w };
      ask_test = λ item w. record { request = None; world = w };
      test = λ item own values request w. record { raised = None; world = w };
      wrong_arguments = λ item w. record { thrown = 0; world = w };
      hooks = built_ins;
      implement = λ phase item arguments which w. record { answer = HookGave None; world = w };
      open_wrapper = λ phase item arguments which w. record { how = Yielded 0 0; world = w };
      wrapper_did_not_yield = λ which w. record { thrown = 0; world = w };
      resume_wrapper = λ phase item rest sent w. record { how = Returned 0; world = w };
      wrapper_yielded_again = λ which w. record { thrown = 0; world = w };
      unless_none = λ v. None;
      is_same_object = λ e f. false;
      end_phase = λ phase item raised w. record { told = record { end = end.Passed; captured = [] }; world = w };
    }

abbrev one_below : ℕ → List ℕ
one_below d = if d == 0 then [] else (if d == 1 then 0 ∷ [] else (if d == 2 then 1 ∷ [] else 2 ∷ []))

abbrev placed : ℕ → ℕ → ℕ → ℕ → ℕ
placed file class item d = if d == 0 then 0 else (if d == 1 then file else (if d == 2 then class else item))

abbrev test_in : ℕ → ℕ → ℕ → List ℕ → SelectedItem
test_in file class item node_id =
    record {
      item =
          record {
            node = item;
            chain = 0 ∷ file ∷ class ∷ item ∷ [];
            requests = one_below;
            parameter = λ d. None;
            place = placed file class item;
            closure = Some (0 ∷ 1 ∷ 2 ∷ 3 ∷ []);
            arguments = Some 3 ∷ [];
          };
      file = file;
      texts = texts_of node_id;
      ids = λ d. None;
    }

abbrev three_tests : List SelectedItem
three_tests = test_in 1 2 10 (codes "test_a.py::TestA::test_1") ∷ test_in 1 2 11 (codes "test_a.py::TestA::test_2") ∷ test_in 3 12 12 (codes "test_b.py::test_3") ∷ []

abbrev shown_of : List SelectedItem → List (List ℕ)
shown_of items = flat_map (shown_lines four_scopes four_fixtures) (session_rows in_four blank 0 (map (task None) items))

four_scopes_row : shown_of three_tests
    ≡ codes "SETUP    S s"
    ∷ codes "    SETUP    M m (fixtures used: s)"
    ∷ codes "      SETUP    C c (fixtures used: m)"
    ∷ codes "        SETUP    F f (fixtures used: c)"
    ∷ codes "        test_a.py::TestA::test_1 (fixtures used: c, f, m, s) ."
    ∷ codes "        TEARDOWN F f"
    ∷ codes "        SETUP    F f (fixtures used: c)"
    ∷ codes "        test_a.py::TestA::test_2 (fixtures used: c, f, m, s) ."
    ∷ codes "        TEARDOWN F f"
    ∷ codes "      TEARDOWN C c"
    ∷ codes "    TEARDOWN M m"
    ∷ codes "    SETUP    M m (fixtures used: s)"
    ∷ codes "      SETUP    C c (fixtures used: m)"
    ∷ codes "        SETUP    F f (fixtures used: c)"
    ∷ codes "        test_b.py::test_3 (fixtures used: c, f, m, s) ."
    ∷ codes "        TEARDOWN F f"
    ∷ codes "      TEARDOWN C c"
    ∷ codes "    TEARDOWN M m"
    ∷ codes "TEARDOWN S s"
    ∷ []
four_scopes_row = refl
