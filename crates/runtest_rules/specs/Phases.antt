-- How the phases of an item end (pytest's "How to use skip and xfail to deal with tests that cannot succeed").
use Rattle.std.specs.Prelude.{ℕ, Bool, true, false, List, [], map, Option, Some, None}
use Rattle.std.specs.Str.Lossy.{utf8_lossy}
use Rattle.collect_marks.specs.Names.{marks_in}
use Rattle.collect_marks.specs.Says.{xfail_of}
use Rattle.collect_marks.specs.Verdicts.{set_up_verdict, call_verdict, teardown_verdict}
use Rattle.collect_marks.specs.declared.verdict.Verdict.{Verdict}
use Rattle.collect_marks.specs.declared.verdict.Verdict.TheVariants as verdict
use Rattle.collect_marks.specs.declared.xfail.Xfail.{Xfail}
use Rattle.py_values.specs.declared.object.Obj.{Obj}
use Rattle.py_values.specs.declared.value.Value.{Value}
use Rattle.py_world.specs.World.{world_with_printed}
use Rattle.report_parts.specs.declared.outcome.Phase.{Phase as ShownPhase}
use Rattle.report_parts.specs.declared.outcome.Phase.TheVariants as shown
use Rattle.report_parts.specs.declared.report.PhaseEnd.{PhaseEnd}
use Rattle.report_parts.specs.declared.report.PhaseEnd.TheVariants as end
use Rattle.report_rules.specs.Collected.{CapturedEnd}
use Rattle.session_rules.specs.World.{Phase, SetUp, Call, Teardown}
use Rattle.tracebacks.specs.source_meaning.Meaning.{SourceWorld}
use Rattle.tracebacks.specs.Frames.{frame_told}
use Rattle.fixture_calls.specs.Failing.{exception_of}
use Rattle.fixture_calls.specs.declared.failure.Failure.{Failure}
use Rattle.runtest_rules.specs.Failures.{failure_told}
use Rattle.test_suite.specs.declared.item.Item.{Item}

-- the phase of a session that a report names so
abbrev pub phase_of : ShownPhase → Phase
phase_of shown.Setup = SetUp
phase_of shown.Call = Call
phase_of shown.Teardown = Teardown

abbrev pub verdict_of : Phase → List Obj → Option Xfail → List Value → Verdict
verdict_of SetUp heap xfail raised = set_up_verdict heap xfail raised
verdict_of Call heap xfail raised = call_verdict heap xfail raised
verdict_of Teardown heap xfail raised = teardown_verdict heap raised

abbrev pub reason_of : Option Xfail → List ℕ
reason_of (Some xfail) = xfail.reason
reason_of None = []

-- the end of a phase with this verdict: of a strict xfail the place of the test's `def` and the reason, of a failure its exceptions
abbrev pub end_by : Verdict → Option Xfail → Item → List Failure → SourceWorld → PhaseEnd
end_by verdict.Passed xfail i raised w = end.Passed
end_by verdict.Skipped xfail i raised w = end.Skipped
end_by verdict.Xfailed xfail i raised w = end.Xfailed
end_by verdict.Xpassed xfail i raised w = end.Xpassed
end_by verdict.StrictXpassed xfail i raised w = end.StrictXpassed (frame_told w.sources i.defined) (reason_of xfail)
end_by verdict.Raised xfail i raised w = end.Raised (map (failure_told w) raised)

abbrev pub end_under : Option Xfail → Phase → Item → List Failure → SourceWorld → PhaseEnd
end_under xfail phase i raised w = end_by (verdict_of phase w.heap xfail (map exception_of raised)) xfail i raised w

abbrev pub end_of_phase : Phase → Item → List Failure → SourceWorld → PhaseEnd
end_of_phase phase i raised w = end_under (xfail_of w.heap (marks_in w.heap i.marks)) phase i raised w

-- whether a phase with this verdict is told with its exceptions
abbrev pub verdict_raises : Verdict → Bool
verdict_raises verdict.Passed = false
verdict_raises verdict.Skipped = false
verdict_raises verdict.Xfailed = false
verdict_raises verdict.Xpassed = false
verdict_raises verdict.StrictXpassed = false
verdict_raises verdict.Raised = true

abbrev pub ending_with : PhaseEnd → List ℕ → CapturedEnd
ending_with end captured = record { end = end; captured = captured }

-- THE END OF A PHASE that raised these: its outcome, and what was printed in it, which is taken
unfoldable pub phase_ended : Phase → Item → List Failure → SourceWorld → CapturedEnd × SourceWorld
phase_ended phase i raised w = (ending_with (end_of_phase phase i raised w) (utf8_lossy w.printed), world_with_printed [] w)
