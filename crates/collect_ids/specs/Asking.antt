-- FOR WHICH VALUES IDS ARE ASKED, in order: of a test, the lists in the order of its rows (each parametrised fixture of its closure, then its
-- `parametrize` marks, the nearest first), set by set and value by value, each value of a set without an id once. A value for which no id is made has
-- the id that it has by itself. An exception, or something other than a text, is the fault of the file. What the hook makes stands where a given
-- id does: it is escaped, and told apart from others, as that.
use Rattle.std.specs.Prelude.{ℕ, ◌+◌, List, [], ◌∷◌, ◌++◌, Option, Some, None, Result, Ok, Err, codes, length, map, option_map, replicate, slice_get}
use Rattle.collect_fixtures.specs.Closures.{closure_if, item_needs}
use Rattle.collect_fixtures.specs.Tables.{all_numbers, names_bound}
use Rattle.collect_params.specs.Values.{dashed, param_ids, value_id}
use Rattle.collect_params.specs.declared.given.Parametrization.{Parametrization}
use Rattle.collect_rows.specs.FileItems.{fault_at}
use Rattle.collect_rows.specs.Rows.{closure_or_none, fault_text, mark_of, names_known, rows_of_lists, with_ids}
use Rattle.collect_rows.specs.declared.items.RowsFault.{RowsFault}
use Rattle.collect_rows.specs.declared.row.TestRows.{TestRows}
use Rattle.collect_rows.specs.declared.row.TestRows.TheVariants as rows
use Rattle.runtest_rules.specs.fixture_calls.Failing.{exception_of, failure_trace}
use Rattle.runtest_rules.specs.fixture_calls.declared.failure.Failure.{Failure}
use Rattle.fixture_definitions.specs.Arguments.{defined_at}
use Rattle.fixture_definitions.specs.declared.found.Definition.{Definition}
use Rattle.fixture_definitions.specs.declared.found.FoundTest.{FoundTest}
use Rattle.fixture_table.specs.Tables.{TableValue}
use Rattle.hook_order.specs.declared.implementation.Impl.{Impl}
use Rattle.param_rows.specs.Faults.{marks_fault}
use Rattle.param_rows.specs.Ids.{Id}
use Rattle.param_rows.specs.declared.param.ParamMark.{ParamMark}
use Rattle.param_rows.specs.declared.param.ParamSet.{ParamSet}
use Rattle.py_operands.specs.Texts.{text_of}
use Rattle.py_values.specs.declared.value.Value.{Value}
use Rattle.runtest_rules.specs.collect_names.Objects.{function_at, object_in}
use Rattle.test_suite.specs.declared.hook.HookTable.{HookTable}
use Rattle.runtest_rules.specs.tracebacks.Texts.{exception_text}
use Rattle.runtest_rules.specs.tracebacks.source_meaning.Meaning.{SourceWorld}
use Rattle.collect_ids.specs.Hook.{id_hook_call}

-- what is made while ids are asked for, or the fault that ended it, and the world behind it
abbrev pub Asked : Type 0 → Type 0
Asked A = Result A RowsFault × SourceWorld

abbrev pub go_on : {A B : Type 0} → (A → SourceWorld → Asked B) → Asked A → Asked B
go_on next (Ok a, w) = next a w
go_on next (Err fault, w) = (Err fault, w)

-- these before others
abbrev pub asked_behind : {A : Type 0} → List A → Asked (List A) → Asked (List A)
asked_behind made (Ok others, w) = (Ok (made ++ others), w)
asked_behind made (Err fault, w) = (Err fault, w)

-- what comes first, and then the others
abbrev pub asked_then : {A : Type 0} → Asked (List A) → (SourceWorld → Asked (List A)) → Asked (List A)
asked_then (Ok made, w) next = asked_behind made (next w)
asked_then (Err fault, w) next = (Err fault, w)

abbrev pub one_asked : {A : Type 0} → Asked A → Asked (List A)
one_asked (Ok a, w) = (Ok (a ∷ []), w)
one_asked (Err fault, w) = (Err fault, w)

-- THE FAULTS
abbrev pub id_exception : Failure → SourceWorld → RowsFault
id_exception f w = record { trace = failure_trace f; text = exception_text w.heap (exception_of f) }

abbrev pub fault_of_test : FoundTest → List ℕ → SourceWorld → RowsFault
fault_of_test t text w = fault_at (defined_at (function_at (object_in w.heap t.test.function))) text

-- THE ID of a value: what the hook made, which is a text, or else its own
abbrev pub id_of_text : FoundTest → Option Id → SourceWorld → Asked Id
id_of_text t (Some text) w = (Ok text, w)
id_of_text t None w = (Err (fault_of_test t (codes "TypeError: id is not a text") w), w)

abbrev pub id_of : FoundTest → Id → ℕ → Value → Result (Option Value) Failure × SourceWorld → Asked Id
id_of t name number v (Ok None, w) = (Ok (value_id w.heap name number v), w)
id_of t name number v (Ok (Some made), w) = id_of_text t (text_of w.heap made) w
id_of t name number v (Err f, w) = (Err (id_exception f w), w)

-- the id of a set: those of its values side by side
abbrev pub dashed_asked : Asked (List Id) → Asked Id
dashed_asked (Ok ids, w) = (Ok (dashed ids), w)
dashed_asked (Err fault, w) = (Err fault, w)

module _ (limit : ℕ) (hooks : HookTable) (impls : List Impl) (t : FoundTest) where
  abbrev pub value_asked : Id → ℕ → Value → SourceWorld → Asked Id
  value_asked name number v w = id_of t name number v (id_hook_call limit hooks impls v name w)

  -- the values of a set, each with the name of its argument
  abbrev pub values_asked : ℕ → List Id → List Value → SourceWorld → Asked (List Id)
  values_asked number [] vs w = (Ok [], w)
  values_asked number (name ∷ names) [] w = (Ok [], w)
  values_asked number (name ∷ names) (v ∷ vs) w = asked_then (one_asked (value_asked name number v w)) (values_asked number names vs)

  -- a set that has an id keeps it
  abbrev pub set_asked : ℕ → List Id → List Value → Option Id → SourceWorld → Asked Id
  set_asked number names vs (Some id) w = (Ok id, w)
  set_asked number names vs None w = dashed_asked (values_asked number names vs w)

  -- the sets of a `parametrize` with these names
  abbrev pub sets_asked : ℕ → List Id → List (ParamSet Value) → SourceWorld → Asked (List Id)
  sets_asked number names [] w = (Ok [], w)
  sets_asked number names (set ∷ sets) w = asked_then (one_asked (set_asked number names set.values set.id w)) (sets_asked (number + 1) names sets)

  -- the parameters of a fixture, whose name serves for each value
  abbrev pub params_asked : ℕ → Id → List (ParamSet Value) → SourceWorld → Asked (List Id)
  params_asked number name [] w = (Ok [], w)
  params_asked number name (set ∷ sets) w =
      asked_then (one_asked (set_asked number (replicate (length set.values) name) set.values set.id w)) (params_asked (number + 1) name sets)

  -- THE `parametrize` MARKS, with the ids of their sets
  abbrev pub mark_with : List (List ℕ) → Parametrization → List Id → SourceWorld → Asked (ParamMark Value)
  mark_with names p ids w = (Ok (mark_of w.heap names (record { names = p.names; sets = with_ids p.sets ids })), w)

  abbrev pub mark_asked : List (List ℕ) → Parametrization → SourceWorld → Asked (ParamMark Value)
  mark_asked names p w = go_on (mark_with names p) (sets_asked 0 p.names p.sets w)

  abbrev pub marks_asked : List (List ℕ) → List Parametrization → SourceWorld → Asked (List (ParamMark Value))
  marks_asked names [] w = (Ok [], w)
  marks_asked names (p ∷ ps) w = asked_then (one_asked (mark_asked names p w)) (marks_asked names ps)

  -- THE PARAMETRISED FIXTURES of a closure, with the ids of their parameters
  abbrev pub list_with : ℕ → Id → List (ParamSet Value) → List Id → SourceWorld → Asked (List (ℕ × List Id))
  list_with d name sets ids w = (Ok ((d, param_ids w.heap name (with_ids sets ids)) ∷ []), w)

  abbrev pub list_if : ℕ → Id → Option (List (ParamSet Value)) → SourceWorld → Asked (List (ℕ × List Id))
  list_if d name None w = (Ok [], w)
  list_if d name (Some sets) w = go_on (list_with d name sets) (params_asked 0 name sets w)

  abbrev pub list_of : ℕ → Option Definition → SourceWorld → Asked (List (ℕ × List Id))
  list_of d None w = (Ok [], w)
  list_of d (Some one) w = list_if d one.fixture.name one.params w

  abbrev pub lists_asked : List Definition → List ℕ → SourceWorld → Asked (List (ℕ × List Id))
  lists_asked definitions [] w = (Ok [], w)
  lists_asked definitions (d ∷ ds) w = asked_then (list_of d (slice_get definitions d) w) (lists_asked definitions ds)

-- THE ROWS OF A TEST: a fault of its marks comes before the hook is asked, that there are too many rows behind it
module _ (limit : ℕ) (hooks : HookTable) (impls : List Impl) (table : TableValue) (names : List (List ℕ)) (definitions : List Definition) where
  -- the rows of lists whose ids were made; the names that they bind are given by number
  abbrev pub rows_made : List ℕ → List ℕ → List (ℕ × List Id) → List (ParamMark Value) → SourceWorld → Asked TestRows
  rows_made bound known fixtures marks w = (Ok (rows_of_lists w.heap table names definitions bound known fixtures marks), w)

  abbrev pub marks_then_rows : FoundTest → List ℕ → List ℕ → List (ℕ × List Id) → SourceWorld → Asked TestRows
  marks_then_rows t bound known fixtures w = go_on (rows_made bound known fixtures) (marks_asked limit hooks impls t names t.parametrized w)

  abbrev pub rows_unless_faulty : FoundTest → List ℕ → List ℕ → Option (List ℕ) → Option (List ℕ) → SourceWorld → Asked TestRows
  rows_unless_faulty t bound known closure None w = go_on (marks_then_rows t bound known) (lists_asked limit hooks impls t definitions (closure_or_none closure) w)
  rows_unless_faulty t bound known closure (Some text) w = (Ok (rows.Fault text), w)

  -- the text of the first fault of its marks
  abbrev pub fault_of_marks : List ℕ → FoundTest → SourceWorld → Option (List ℕ)
  fault_of_marks known t w = option_map (fault_text names) (marks_fault known [] (map (mark_of w.heap names) t.parametrized))

  abbrev pub rows_under : ℕ → FoundTest → List ℕ → Option (List ℕ) → SourceWorld → Asked TestRows
  rows_under node t bound closure w =
      let known = names_known table names node t closure in
      rows_unless_faulty t bound known closure (fault_of_marks known t w) w

  abbrev pub rows_binding : ℕ → FoundTest → List ℕ → SourceWorld → Asked TestRows
  rows_binding node t bound w = rows_under node t bound (closure_if (item_needs table names node bound t.uses t.arguments)) w

  unfoldable pub rows_asked : ℕ → FoundTest → SourceWorld → Asked TestRows
  rows_asked node t w = rows_binding node t (all_numbers names (names_bound t)) w
