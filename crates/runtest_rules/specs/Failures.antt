-- Why a phase of an item did not pass.
use Rattle.std.specs.Prelude.{ℕ, List, [], ◌++◌, Option, Some, None, codes, if◌then◌else◌}
use Rattle.collect_marks.specs.Names.{marks_in}
use Rattle.collect_marks.specs.Says.{skipped_by}
use Rattle.py_values.specs.declared.class.ExcClass.TheVariants as class
use Rattle.py_values.specs.declared.object.Obj.{Obj}
use Rattle.py_world.specs.declared.ended.Thrown.{Thrown}
use Rattle.report_parts.specs.declared.report.Told.{Told}
use Rattle.tracebacks.specs.source_meaning.Meaning.{SourceWorld}
use Rattle.tracebacks.specs.Frames.{told}
use Rattle.tracebacks.specs.Texts.{exception_text}
use Rattle.fixture_calls.specs.Failing.{as_failure, failure_trace, some_failure, made_for}
use Rattle.fixture_calls.specs.declared.failure.Failure.{Failure}
use Rattle.fixture_calls.specs.declared.failure.Failure.TheVariants.{Exception, FixtureFault}
use Rattle.test_suite.specs.declared.item.Item.{Item}
use Rattle.test_suite.specs.declared.item.ItemClosure.{ItemClosure}
use Rattle.test_suite.specs.declared.item.ItemClosure.TheVariants.{Whole, Fault}

-- the text of a failure: of an exception its class and message, of a fixture fault its own text alone
abbrev pub failure_text : List Obj → Failure → List ℕ
failure_text heap (Exception t) = exception_text heap t.exc
failure_text heap (FixtureFault t text) = text

-- what a report tells of a failure
abbrev pub failure_told : SourceWorld → Failure → Told
failure_told w f = told w.sources (failure_trace f) (failure_text w.heap f)

abbrev pub skip_made : Item → Option (List ℕ) → SourceWorld → Option Failure × SourceWorld
skip_made i (Some reason) w = some_failure (as_failure (made_for i.defined class.Skipped reason w))
skip_made i None w = (None, w)

-- why an item is skipped, where it is: one of an empty list of rows without a reason, another for that of its marks
abbrev pub skip_reason : Item → List Obj → Option (List ℕ)
skip_reason i heap = if i.empty then Some [] else skipped_by heap (marks_in heap i.marks)

-- A SKIP: where an item stands for an empty list of rows or its marks say so, `Skipped` is raised with the reason (pytest's reference,
-- `pytest.mark.parametrize`; "Skipping test functions")
unfoldable pub skipped : Item → SourceWorld → Option Failure × SourceWorld
skipped i w = skip_made i (skip_reason i w.heap) w

-- the text of the fault of an item's fixtures
abbrev pub fault_text_of : ItemClosure → List ℕ
fault_text_of (Fault text) = text
fault_text_of (Whole ds) = []

abbrev pub as_fault : List ℕ → Thrown × SourceWorld → Failure × SourceWorld
as_fault text made = (FixtureFault made.0 text, made.1)

-- THE FAULT of an item's fixtures: `Failed` is raised with its text, at the test's `def`
unfoldable pub fixture_fault : Item → SourceWorld → Failure × SourceWorld
fixture_fault i w = as_fault (fault_text_of i.closure) (made_for i.defined class.Failed (fault_text_of i.closure) w)

abbrev pub wrong_arguments_text : List ℕ → List ℕ
wrong_arguments_text name = codes "wrong arguments for " ++ name

-- A TEST WITHOUT A VALUE for one of its arguments: `TypeError` is raised, at its `def`
unfoldable pub wrong_arguments : Item → SourceWorld → Failure × SourceWorld
wrong_arguments i w = as_failure (made_for i.defined class.TypeError (wrong_arguments_text i.defined.name) w)
