-- The hook call of a run is that of its world.
use Rattle.std.proofs.Common.{◌≡◌, ℕ, Bool, true, false, List, [], ◌∷◌, inl, inr, refl, ap, ap₂, ◌∙◌, Option, None, Some, subst, sym}
use Rattle.std.specs.Prelude.{MatchBool, Result}
use Rattle.runtest_rules.specs.fixture_calls.declared.hooks.CallEnd.{CallEnd}
use Rattle.runtest_rules.specs.fixture_calls.declared.yields.FixtureEnd.{FixtureEnd}
use Rattle.runtest_rules.specs.fixture_calls.declared.yields.FixtureEnd.TheVariants as end
use Rattle.runtest_rules.specs.fixture_calls.declared.failure.Failure.{Failure}
use Rattle.hook_order.specs.HookCall.{AnswersFirst, AroundAfter, FindsFirst, FirstAfter, HookCall, first_of}
use Rattle.hook_order.specs.declared.answers.Inner.{Inner}
use Rattle.hook_order.specs.declared.answers.Inner.TheVariants as inner
use Rattle.hook_order.specs.declared.answers.Opened.{Opened}
use Rattle.hook_order.specs.declared.answers.Opened.TheVariants as opened
use Rattle.hook_order.specs.declared.answers.Ran.{Ran}
use Rattle.hook_order.specs.declared.answers.Ran.TheVariants as ran
use Rattle.hook_order.specs.declared.implementation.Impl.{Impl}
use Rattle.py_values.specs.declared.value.Value.{Value}
use Rattle.py_values.specs.declared.value.Value.TheVariants as val
use Rattle.runtest_rules.specs.Rules.{call_answer, not_none}
use Rattle.test_suite.specs.declared.hook.HookTable.{HookTable}
use Rattle.session_rules.proofs.HookCalls.{first_call_agrees}
use Rattle.session_rules.specs.HookFollows.{OpenedAs, RanAs, RunnerFollows, inner_of}
use Rattle.session_rules.specs.Hooks.{HookAnswer, HookBeginning, HookGave, HookInner, HookStep, AllValues, InnerGave, InnerRaised, first_call}
use Rattle.runtest_rules.specs.tracebacks.source_meaning.Meaning.{SourceWorld}
use Rattle.collect_ids.specs.Hook.{hook_step, id_called, id_opened, id_raised, id_resumed, made_by, made_of, open_raised}
use Rattle.collect_ids.specs.Runs.{IdSite, IsValue, RunBegins, RunCalls, RunResumes, made_told, ran_told, run_view, site_of, site_runner, world_view}
use Rattle.collect_ids.specs.declared.hook.IdFrame.{IdFrame}
use Rattle.collect_ids.specs.declared.hook.IdRun.{IdRun}

some_is : {A : Type 0} (a b : A) → Some a ≡ Some b → a ≡ b
some_is a b e = cc

-- what a wrapper gets is read so by both
pub run_given : (given : Inner Value Failure) (inside : HookInner Value Failure) → inner_of run_view given ≡ Some inside → inner_of world_view given ≡ Some inside
run_given inner.List inside e = e
run_given (inner.Gave value) inside e = e
run_given (inner.Raised x) inside e = e
run_given inner.OutOfMemory inside e = e

pub given_value : (value : Option Value) → inner_of world_view (inner.Gave value) ≡ Some (InnerGave value)
given_value None = refl
given_value (Some v) = refl

-- a world that is read as it is, and a run that stays where it stands
pub run_ran : (d : HookStep SourceWorld (HookAnswer Value Failure)) (before : IdRun) (answer : Ran Value Failure) (now : IdRun)
    → RanAs world_view d before.world.now answer now.world.now → site_of now ≡ site_of before → RanAs run_view d before answer now
run_ran d before (ran.Gave value) now (inl o) e = inl o
run_ran d before (ran.Gave value) now (inr a) e = inr (a.0, a.1, e)
run_ran d before (ran.Raised x) now (inl o) e = inl o
run_ran d before (ran.Raised x) now (inr a) e = inr (a.0, a.1, e)
run_ran d before ran.OutOfMemory now a e = inl refl

pub run_opened : (d : HookStep SourceWorld (HookBeginning IdFrame Failure)) (before : IdRun) (answer : Opened IdFrame Failure) (now : IdRun)
    → OpenedAs world_view d before.world.now answer now.world.now → site_of now ≡ site_of before → OpenedAs run_view d before answer now
run_opened d before (opened.Yielded frame) now (inl o) e = inl o
run_opened d before (opened.Yielded frame) now (inr a) e = inr (a.0, a.1, e)
run_opened d before (opened.Raised x) now (inl o) e = inl o
run_opened d before (opened.Raised x) now (inr a) e = inr (a.0, a.1, e)
run_opened d before opened.OutOfMemory now a e = inl refl

follows : RunnerFollows run_view RunCalls RunBegins RunResumes site_runner
follows = record {
  call = λ before which answer now c. c.0;
  begin = λ before which answer now c. c.0;
  resume = λ before frame given inside answer now i c. c.0 inside i;
}

-- where a run stands stays, also where memory is wanted
abbrev Stays : IdSite → IdRun → Type 0
Stays site r = site_of r ≡ site

still : (site : IdSite) (before after : IdRun) → after ≡ before → Stays site before → Stays site after
still site before after e s = ap site_of e ∙ s

found_stays : (site : IdSite) (next : Inner Value Failure → List Value → IdRun → Type 0) → ((end : Inner Value Failure) (values : List Value) (after : IdRun) → next end values after → Stays site after) → (answer : Ran Value Failure) (now : IdRun) → Stays site now
    → (end : Inner Value Failure) (values : List Value) (after : IdRun) → FirstAfter RunCalls next answer now end values after → Stays site after
found_stays site next k (ran.Gave None) now s end values after h = k end values after h
found_stays site next k (ran.Gave (Some value)) now s end values after h = still site now after h.2 s
found_stays site next k (ran.Raised x) now s end values after h = still site now after h.2 s
found_stays site next k ran.OutOfMemory now s end values after h = still site now after h.2 s

first_stays : (site : IdSite) (impls : List Impl) (before : IdRun) → Stays site before → (end : Inner Value Failure) (values : List Value) (after : IdRun) → FindsFirst RunCalls impls before end values after → Stays site after
first_stays site [] before s end values after h = still site before after h.2 s
first_stays site (which ∷ rest) before s end values after h =
    let n = h.2.1 ∙ s in found_stays site (FindsFirst RunCalls rest h.1) (first_stays site rest h.1 n) h.0 h.1 n end values after h.3

around_stays : (site : IdSite) (rest : Inner Value Failure → List Value → IdRun → Type 0) → ((end : Inner Value Failure) (values : List Value) (after : IdRun) → rest end values after → Stays site after) → (answer : Opened IdFrame Failure) (now : IdRun) → Stays site now
    → (end : Inner Value Failure) (values : List Value) (after : IdRun) → AroundAfter (FindsFirst RunCalls) RunBegins RunResumes rest answer now end values after → Stays site after
around_stays site rest k (opened.Yielded frame) now s end values after h = h.4.1 ∙ k h.0 values h.1 h.3
around_stays site rest k (opened.Raised x) now s end values after h = still site now after h.2 s
around_stays site rest k opened.OutOfMemory now s end values after h = still site now after h.2 s

call_stays : (site : IdSite) (impls : List Impl) (before : IdRun) → Stays site before → (end : Inner Value Failure) (values : List Value) (after : IdRun) → HookCall (FindsFirst RunCalls) RunBegins RunResumes impls before end values after → Stays site after
call_stays site [] before s end values after h = first_stays site [] before s end values after h
call_stays site (which ∷ rest) before s end values after h =
    let Q : Type 0 = (answer : Opened IdFrame Failure) × (now : IdRun) × RunBegins before which answer now × AroundAfter (FindsFirst RunCalls) RunBegins RunResumes (HookCall (FindsFirst RunCalls) RunBegins RunResumes rest now) answer now end values after in
    elim which.wrapper as (λ (b : Bool). MatchBool b Q (FindsFirst RunCalls (which ∷ rest) before end values after) → Stays site after) [
      | true ↦ λ q. (let n = q.2.1 ∙ s in around_stays site (HookCall (FindsFirst RunCalls) RunBegins RunResumes rest q.1) (call_stays site rest q.1 n) q.0 q.1 n end values after q.3)
      | false ↦ λ q. first_stays site (which ∷ rest) before s end values after q
    ] h

pub site_kept : (impls : List Impl) (before after : IdRun) (answer : Ran Value Failure) → AnswersFirst RunCalls RunBegins RunResumes impls before answer after → site_of after ≡ site_of before
site_kept impls before after answer (inl o) = ap site_of o.1
site_kept impls before after answer (inr h) = call_stays (site_of before) impls before refl h.0 h.1 after h.2

-- what such an outcome makes
made_end : (end : Inner Value Failure) (inside : HookInner Value Failure) → inner_of run_view end ≡ Some inside → made_told (first_of end) ≡ Some (made_of inside)
made_end inner.List inside o = ap (λ (x : HookInner Value Failure). Some (made_of x)) (some_is AllValues inside o)
made_end (inner.Gave None) inside o = ap (λ (x : HookInner Value Failure). Some (made_of x)) (some_is (InnerGave None) inside o)
made_end (inner.Gave (Some v)) inside o = ap (λ (x : HookInner Value Failure). Some (made_of x)) (some_is (InnerGave (Some v)) inside o)
made_end (inner.Raised x) inside o = ap (λ (y : HookInner Value Failure). Some (made_of y)) (some_is (InnerRaised x) inside o)
made_end inner.OutOfMemory inside o = absurd cc

pub first_ran : (impls : List Impl) (before after : IdRun) (answer : Ran Value Failure) (made : Result (Option Value) Failure)
    → AnswersFirst RunCalls RunBegins RunResumes impls before answer after → Some made ≡ made_told answer
    → (made, after.world.now) ≡ made_by (first_call (site_runner (site_of before)) impls before.world.now)
first_ran impls before after answer made (inl o) e = absurd (let z : Some made ≡ None = e ∙ ap made_told o.0 in cc)
first_ran impls before after answer made (inr h) e =
    let w = first_call (site_runner (site_of before)) impls before.world.now in
    let same : Some made ≡ made_told (first_of h.0) = e ∙ ap made_told h.3 in
    elim (first_call_agrees run_view RunCalls RunBegins RunResumes site_runner follows impls before after h.0 h.1 h.2) [
      | inl o ↦ absurd (let z : Some made ≡ None = same ∙ ap (λ (x : Inner Value Failure). made_told (first_of x)) o in cc)
      | inr a ↦ ap₂ (λ (x : Result (Option Value) Failure) (u : SourceWorld). (x, u)) (some_is made (made_of w.outcome) (same ∙ made_end h.0 w.outcome a.0)) a.2
    ]

-- a wrapper that is resumed with what is read as this
pub resumed_as : (d : HookInner Value Failure → HookStep SourceWorld (HookAnswer Value Failure)) (w u : SourceWorld) (answer : Ran Value Failure) (given : Inner Value Failure) (a : HookInner Value Failure) → inner_of world_view given ≡ Some a
    → RanAs world_view (d a) w answer u → (inside : HookInner Value Failure) → inner_of world_view given ≡ Some inside → RanAs world_view (d inside) w answer u
resumed_as d w u answer given a g r inside e = subst (λ (x : HookInner Value Failure). RanAs world_view (d x) w answer u) (some_is a inside (sym g ∙ e)) r

-- ---- what the code's answers are for the steps

pub call_ran : (end : CallEnd) (answer : Ran Value Failure) (w u : SourceWorld) (x : CallEnd × SourceWorld) → (end, u) ≡ x → ran_told answer ≡ Some (call_answer end) → RanAs world_view (hook_step (id_called x)) w answer u
call_ran end answer w u x e a = subst (λ (y : CallEnd × SourceWorld). RanAs world_view (hook_step (id_called y)) w answer u) e (inr (a, refl, refl))

pub failure_ran : (f : Failure) (w u : SourceWorld) (x : Failure × SourceWorld) → (f, u) ≡ x → RanAs world_view (hook_step (id_raised x)) w (ran.Raised f) u
failure_ran f w u x e = subst (λ (y : Failure × SourceWorld). RanAs world_view (hook_step (id_raised y)) w (ran.Raised f) u) e (inr (refl, refl, refl))

pub failure_opened : (f : Failure) (w u : SourceWorld) (x : Failure × SourceWorld) → (f, u) ≡ x → OpenedAs world_view (hook_step (open_raised x)) w (opened.Raised f) u
failure_opened f w u x e = subst (λ (y : Failure × SourceWorld). OpenedAs world_view (hook_step (open_raised y)) w (opened.Raised f) u) e (inr (refl, refl, refl))

pub end_opened : (limit : ℕ) (table : HookTable) (which : Impl) (end : FixtureEnd) (answer : Opened IdFrame Failure) (w v u : SourceWorld) (x : FixtureEnd × SourceWorld) → (end, v) ≡ x
    → OpenedAs world_view (hook_step (id_opened limit table which (end, v))) v answer u → OpenedAs world_view (hook_step (id_opened limit table which x)) w answer u
end_opened limit table which end answer w v u x e h = subst (λ (y : FixtureEnd × SourceWorld). OpenedAs world_view (hook_step (id_opened limit table which y)) w answer u) e h

pub end_resumed : (limit : ℕ) (table : HookTable) (which : Impl) (inside : HookInner Value Failure) (end : FixtureEnd) (answer : Ran Value Failure) (w v u : SourceWorld) (x : FixtureEnd × SourceWorld) → (end, v) ≡ x
    → RanAs world_view (hook_step (id_resumed limit table which inside (end, v))) v answer u → RanAs world_view (hook_step (id_resumed limit table which inside x)) w answer u
end_resumed limit table which inside end answer w v u x e h = subst (λ (y : FixtureEnd × SourceWorld). RanAs world_view (hook_step (id_resumed limit table which inside y)) w answer u) e h

pub gave_so : (v : Value) → ran_told (ran.Gave (not_none v)) ≡ Some (HookGave (not_none v))
gave_so val.None = refl
gave_so (val.Bool b) = refl
gave_so (val.Int n) = refl
gave_so (val.Ref id) = refl

-- one that got no exception gave, or raised
pub value_ran : (limit : ℕ) (table : HookTable) (which : Impl) (v : Value) (w : SourceWorld) (inside : HookInner Value Failure) → IsValue inside → RanAs world_view (hook_step (id_resumed limit table which inside (end.Returned v, w))) w (ran.Gave (not_none v)) w
value_ran limit table which v w AllValues i = inr (gave_so v, refl, refl)
value_ran limit table which v w (InnerGave value) i = inr (gave_so v, refl, refl)
value_ran limit table which v w (InnerRaised f) i = absurd i

pub raise_ran : (limit : ℕ) (table : HookTable) (which : Impl) (f : Failure) (w : SourceWorld) (inside : HookInner Value Failure) → IsValue inside → RanAs world_view (hook_step (id_resumed limit table which inside (end.Raised f, w))) w (ran.Raised f) w
raise_ran limit table which f w AllValues i = inr (refl, refl, refl)
raise_ran limit table which f w (InnerGave value) i = inr (refl, refl, refl)
raise_ran limit table which f w (InnerRaised g) i = absurd i
