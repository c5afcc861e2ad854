-- Whether a teardown is told with its exceptions.
use Rattle.std.proofs.Common.{◌≡◌, ◌∙◌, List, map, Option, Bool, refl, ap}
use Rattle.collect_marks.specs.Names.{marks_in}
use Rattle.collect_marks.specs.Says.{xfail_of}
use Rattle.collect_marks.specs.Verdicts.{teardown_verdict}
use Rattle.collect_marks.specs.declared.verdict.Verdict.{Verdict}
use Rattle.collect_marks.specs.declared.verdict.Verdict.TheVariants as verdict
use Rattle.collect_marks.specs.declared.xfail.Xfail.{Xfail}
use Rattle.py_values.specs.declared.object.Obj.{Obj}
use Rattle.py_values.specs.declared.value.Value.{Value}
use Rattle.report_parts.specs.Outcomes.{is_raised}
use Rattle.report_rules.specs.Collected.{ends_badly}
use Rattle.session_rules.specs.World.{Teardown}
use Rattle.tracebacks.specs.source_meaning.Meaning.{SourceWorld}
use Rattle.fixture_calls.specs.Failing.{exception_of}
use Rattle.fixture_calls.specs.declared.failure.Failure.{Failure}
use Rattle.runtest_rules.specs.Phases.{end_by, phase_ended, verdict_raises}
use Rattle.test_suite.specs.declared.item.Item.{Item}

raises : (v : Verdict) (x : Option Xfail) (i : Item) (raised : List Failure) (w : SourceWorld) → verdict_raises v ≡ is_raised (end_by v x i raised w)
raises verdict.Passed x i raised w = refl
raises verdict.Skipped x i raised w = refl
raises verdict.Xfailed x i raised w = refl
raises verdict.Xpassed x i raised w = refl
raises verdict.StrictXpassed x i raised w = refl
raises verdict.Raised x i raised w = refl

fails : (i : Item) (raised : List Failure) (w : SourceWorld) → verdict_raises (teardown_verdict w.heap (map exception_of raised)) ≡ ends_badly Teardown (phase_ended Teardown i raised w).0
unfolding phase_ended
fails i raised w = raises (teardown_verdict w.heap (map exception_of raised)) (xfail_of w.heap (marks_in w.heap i.marks)) i raised w

-- by the verdict over the exceptions of what was raised
pub fails_by : (b : Bool) (v : Verdict) (heap : List Obj) (values : List Value) (i : Item) (raised : List Failure) (w : SourceWorld)
    → b ≡ verdict_raises v → v ≡ teardown_verdict heap values → heap ≡ w.heap → values ≡ map exception_of raised → b ≡ ends_badly Teardown (phase_ended Teardown i raised w).0
fails_by b v heap values i raised w told said same are =
    told ∙ ap verdict_raises said ∙ ap (λ (h : List Obj). verdict_raises (teardown_verdict h values)) same
    ∙ ap (λ (vs : List Value). verdict_raises (teardown_verdict w.heap vs)) are ∙ fails i raised w
