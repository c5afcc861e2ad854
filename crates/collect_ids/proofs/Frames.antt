-- The wrappers that stand at their `yield` while the hook is called: their frames are out.
use Rattle.std.proofs.Common.{◌≡◌, ℕ, Bool, true, false, List, [], ◌∷◌, inl, inr, refl, sym, subst, ◌∙◌, None, Some}
use Rattle.std.specs.Prelude.{codes}
use Rattle.runtest_rules.specs.fixture_calls.Hooks.{hook_begun, hook_called}
use Rattle.runtest_rules.specs.fixture_calls.Yields.{fixture_abandoned}
use Rattle.runtest_rules.specs.fixture_calls.declared.failure.Failure.{Failure}
use Rattle.runtest_rules.specs.fixture_calls.declared.yields.FixtureEnd.{FixtureEnd}
use Rattle.runtest_rules.specs.fixture_calls.declared.yields.FixtureEnd.TheVariants as end
use Rattle.hook_order.specs.Answers.{IfEnded, IfInner, WaitsBesides}
use Rattle.hook_order.specs.declared.answers.Inner.{Inner}
use Rattle.hook_order.specs.declared.answers.Inner.TheVariants as inner
use Rattle.hook_order.specs.declared.answers.Opened.{Opened}
use Rattle.hook_order.specs.declared.answers.Opened.TheVariants as opened
use Rattle.hook_order.specs.declared.answers.Ran.{Ran}
use Rattle.hook_order.specs.declared.answers.Ran.TheVariants as ran
use Rattle.hook_order.specs.declared.implementation.Impl.{Impl}
use Rattle.py_values.specs.declared.value.Value.{Value}
use Rattle.py_world.specs.Resuming.{is_out}
use Rattle.runtest_rules.proofs.Kept.{keeps_within}
use Rattle.runtest_rules.specs.Language.{python}
use Rattle.runtest_rules.specs.Rules.{body_outcome, rules_within, wrapper_fault}
use Rattle.session_rules.specs.Frames.{AddsFrame, BeginsFrame, KeepsFrames, ReplacesFrame, ResumesFrame, SameFrames, TakesFrame, Waits}
use Rattle.session_rules.specs.HookFollows.{OpenedAs, RanAs, inner_of}
use Rattle.session_rules.specs.Hooks.{HookAnswer, HookBeginning, HookInner, HookStep, AllValues, AtYield, InnerGave, InnerRaised, OpenRaised}
use Rattle.session_rules.specs.Hooks as message
use Rattle.session_rules.specs.World.{HookArguments, SetUp}
use Rattle.test_suite.specs.Hooks.{hook_at}
use Rattle.test_suite.specs.declared.hook.HookTable.{HookTable}
use Rattle.test_suite.specs.declared.suite.Suite.{Suite}
use Rattle.runtest_rules.specs.tracebacks.source_meaning.Meaning.{SourceWorld}
use Rattle.collect_ids.proofs.Called.{given_value}
use Rattle.collect_ids.specs.Hook.{id_frame, id_opened, id_resumed, id_runner, id_sent}
use Rattle.collect_ids.specs.Runs.{AreOut, AreWaiting, IsOutBehind, rests, world_view}
use Rattle.collect_ids.specs.declared.hook.IdFrame.{IdFrame}

two : {A : Type 0} (b : Bool) → b ≡ true → b ≡ false → A
two true e f = cc
two false e f = cc

some_is : {A : Type 0} (a b : A) → Some a ≡ Some b → a ≡ b
some_is a b e = cc

-- ---- frames that are out, behind what comes and goes

out_still : (frames : List IdFrame) (w v : SourceWorld) → SameFrames is_out w v → AreOut frames w → AreOut frames v
out_still [] w v s o = tt
out_still (frame ∷ frames) w v s o = (s frame.rest ∙ o.0, out_still frames w v s o.1)

out_besides : (frames : List IdFrame) (n : ℕ) (w v : SourceWorld) → AddsFrame is_out n w v → AreOut frames w → AreOut frames v
out_besides [] n w v a o = tt
out_besides (frame ∷ frames) n w v a o = (a.kept frame.rest o.0, out_besides frames n w v a o.1)

-- a frame that wasn't out is none of these
apart_from : (frames : List IdFrame) (n : ℕ) (w : SourceWorld) → AreOut frames w → is_out n w ≡ false → Waits (rests frames) n → ⊥
apart_from [] n w o none h = absurd h
apart_from (frame ∷ frames) n w o none (inl h) = apart_from frames n w o.1 none h
apart_from (frame ∷ frames) n w o none (inr e) = two (is_out n w) (subst (λ (k : ℕ). is_out k w ≡ true) e o.0) none

out_behind : (frames : List IdFrame) (n : ℕ) (w v : SourceWorld) → TakesFrame is_out n w v → (Waits (rests frames) n → ⊥) → AreOut frames w → AreOut frames v
out_behind [] n w v t apart o = tt
out_behind (frame ∷ frames) n w v t apart o = (elim (t.kept frame.rest o.0) [ inl k ↦ k | inr e ↦ absurd (apart (inr (sym e))) ], out_behind frames n w v t (λ h. apart (inl h)) o.1)

pub still_waiting : (frames : List IdFrame) (w v : SourceWorld) → SameFrames is_out w v → AreWaiting frames w → AreWaiting frames v
still_waiting frames w v s h = (out_still frames w v s h.0, h.1)

pub waiting_besides : (frames : List IdFrame) (frame : IdFrame) (w v : SourceWorld) → AddsFrame is_out frame.rest w v → AreWaiting frames w → AreWaiting (frame ∷ frames) v
waiting_besides frames frame w v a h = ((a.is, out_besides frames frame.rest w v a h.0), (apart_from frames frame.rest w h.0 a.was, h.1))

pub waiting_behind : (frames : List IdFrame) (frame : IdFrame) (w v : SourceWorld) → TakesFrame is_out frame.rest w v → AreWaiting (frame ∷ frames) w → AreWaiting frames v
waiting_behind frames frame w v t h = (out_behind frames frame.rest w v t h.1.0 h.0.1, h.1.1)

-- ---- what a hook does to the frames

taken_still : (n : ℕ) (u v w : SourceWorld) → TakesFrame is_out n u v → SameFrames is_out v w → TakesFrame is_out n u w
taken_still n u v w t s = record {
  gone = s n ∙ t.gone;
  kept = λ r o. elim (t.kept r o) [ inl k ↦ inl (s r ∙ k) | inr e ↦ inr e ];
  only = λ r o. t.only r (sym (s r) ∙ o);
}

not_true : (b : Bool) → (b ≡ true → b ≡ false) → b ≡ false
not_true true f = f refl
not_true false f = refl

at_other : (n r : ℕ) (w : SourceWorld) (b : Bool) → n ≡ r → is_out n w ≡ b → is_out r w ≡ b
at_other n r w b e o = subst (λ (k : ℕ). is_out k w ≡ b) e o

replaced_taken : (n m : ℕ) (u v w : SourceWorld) → ReplacesFrame is_out n m u v → TakesFrame is_out m v w → TakesFrame is_out n u w
replaced_taken n m u v w a t = record {
  gone = not_true (is_out n w) (λ o. two (is_out n v) (t.only n o) a.gone);
  kept = λ r o. elim (a.kept r o) [
    | inl k ↦ elim (t.kept r k) [ inl l ↦ inl l | inr e ↦ two (is_out r u) o (at_other m r u false e a.was) ]
    | inr e ↦ inr e
  ];
  only = λ r o. elim (a.only r (t.only r o)) [ inl k ↦ k | inr e ↦ two (is_out r w) o (at_other m r w false e t.gone) ];
}

-- the rules of a suite with these hooks alone
abbrev of_hooks : HookTable → Suite
of_hooks table = record { items = []; fixtures = []; outer = 0; hooks = table }

abbrev given : Value → Value → HookArguments python
given v name = record { item = Some v; next = Some name }

module _ (limit : ℕ) (table : HookTable) where
  kept : KeepsFrames (rules_within limit (of_hooks table)) is_out
  kept = keeps_within limit (of_hooks table)

  pub did_not_same : (which : Impl) (w : SourceWorld) → SameFrames is_out w (wrapper_fault (hook_at table which.code) (codes "hook wrapper did not yield") w).1
  did_not_same which w = kept.wrapper_did_not_yield which w

  pub again_same : (which : Impl) (w : SourceWorld) → SameFrames is_out w (wrapper_fault (hook_at table which.code) (codes "hook wrapper yielded twice") w).1
  again_same which w = kept.wrapper_yielded_again which w

  pub gone_taken : (n : ℕ) (w : SourceWorld) → is_out n w ≡ true → TakesFrame is_out n w (fixture_abandoned n w)
  gone_taken n w o = kept.abandon n w o

  module _ (v name : Value) where
    -- any number but that of the one that skips
    pub called_same : (which : Impl) (w : SourceWorld) → SameFrames is_out w (hook_called limit (hook_at table which.code) (Some v) (Some name) w).1
    called_same which w = kept.implement SetUp 0 (given v name) (record which { registered = 1 }) w

    pub begun_frames : (which : Impl) (w : SourceWorld) → BeginsFrame {L = python} is_out w (body_outcome (hook_begun limit (hook_at table which.code) (Some v) (Some name) w))
    begun_frames which w = kept.open_wrapper SetUp 0 (given v name) which w

  pub sent_frames : (n : ℕ) (got : HookInner Value Failure) (w : SourceWorld) → is_out n w ≡ true → ResumesFrame {L = python} is_out n w (body_outcome (id_sent limit table n got w))
  sent_frames n AllValues w o = kept.resume_wrapper SetUp 0 n (message.SentValue None) w o
  sent_frames n (InnerGave value) w o = kept.resume_wrapper SetUp 0 n (message.SentValue value) w o
  sent_frames n (InnerRaised f) w o = kept.resume_wrapper SetUp 0 n (message.SentRaise f) w o

  -- a wrapper that went on and yielded again is out
  pub out_again : (n : ℕ) (x : FixtureEnd × SourceWorld) (w : SourceWorld) → ResumesFrame {L = python} is_out n w (body_outcome x) → IsOutBehind x.0 x.1
  out_again n (end.Returned v, u) w h = tt
  out_again n (end.Yielded v m, u) w h = h.is
  out_again n (end.Raised f, u) w h = tt

  pub sent_out : (n : ℕ) (got : HookInner Value Failure) (w u : SourceWorld) (end : FixtureEnd) → (end, u) ≡ id_sent limit table n got w → is_out n w ≡ true → IsOutBehind end u
  sent_out n got w u end e o = subst (λ (x : FixtureEnd × SourceWorld). IsOutBehind x.0 x.1) (sym e) (out_again n (id_sent limit table n got w) w (sent_frames n got w o))

  -- how one went on
  pub takes : (which : Impl) (got : HookInner Value Failure) (n : ℕ) (w : SourceWorld) (x : FixtureEnd × SourceWorld) → ResumesFrame {L = python} is_out n w (body_outcome x) → TakesFrame is_out n w (id_resumed limit table which got x).1
  takes which got n w (end.Returned v, u) h = h
  takes which got n w (end.Raised f, u) h = h
  takes which got n w (end.Yielded v m, u) h =
      let given_up = fixture_abandoned m u in
      taken_still n w given_up (wrapper_fault (hook_at table which.code) (codes "hook wrapper yielded twice") given_up).1 (replaced_taken n m w u given_up h (gone_taken m u h.is)) (again_same which given_up)

-- ---- what the code's answers leave

pub ran_if : (d : HookStep SourceWorld (HookAnswer Value Failure)) (w u : SourceWorld) (answer : Ran Value Failure) (X : SourceWorld → Type 0) → RanAs world_view d w answer u → X d.state → IfEnded answer (X u)
ran_if d w u (ran.Gave value) X (inl o) x = absurd cc
ran_if d w u (ran.Gave value) X (inr a) x = subst X (sym a.1) x
ran_if d w u (ran.Raised e) X (inl o) x = absurd cc
ran_if d w u (ran.Raised e) X (inr a) x = subst X (sym a.1) x
ran_if d w u ran.OutOfMemory X a x = tt

pub went_if : (step : HookInner Value Failure → HookStep SourceWorld (HookAnswer Value Failure)) (w u : SourceWorld) (got : Inner Value Failure) (answer : Ran Value Failure) (X : SourceWorld → Type 0)
    → ((inside : HookInner Value Failure) → inner_of world_view got ≡ Some inside → RanAs world_view (step inside) w answer u) → ((inside : HookInner Value Failure) → X (step inside).state) → IfInner got (IfEnded answer (X u))
went_if step w u inner.List answer X r x = ran_if (step AllValues) w u answer X (r AllValues refl) (x AllValues)
went_if step w u (inner.Gave value) answer X r x = ran_if (step (InnerGave value)) w u answer X (r (InnerGave value) (given_value value)) (x (InnerGave value))
went_if step w u (inner.Raised e) answer X r x = ran_if (step (InnerRaised e)) w u answer X (r (InnerRaised e) refl) (x (InnerRaised e))
went_if step w u inner.OutOfMemory answer X r x = tt

-- a wrapper that stands at its `yield` waits besides
abbrev pub Besides : List IdFrame → HookBeginning IdFrame Failure → SourceWorld → Type 0
Besides frames (AtYield frame) u = AreWaiting (frame ∷ frames) u
Besides frames (OpenRaised f) u = AreWaiting frames u

pub opened_waiting : (d : HookStep SourceWorld (HookBeginning IdFrame Failure)) (w u : SourceWorld) (answer : Opened IdFrame Failure) (frames : List IdFrame) → OpenedAs world_view d w answer u → Besides frames d.answer d.state → WaitsBesides (λ fs. AreWaiting fs u) frames answer
opened_waiting d w u (opened.Yielded frame) frames (inl o) x = absurd cc
opened_waiting d w u (opened.Yielded frame) frames (inr a) x =
    subst (λ (v : SourceWorld). Besides frames (AtYield frame) v) (sym a.1) (subst (λ (b : HookBeginning IdFrame Failure). Besides frames b d.state) (sym (some_is (AtYield frame) d.answer a.0)) x)
opened_waiting d w u (opened.Raised f) frames (inl o) x = absurd cc
opened_waiting d w u (opened.Raised f) frames (inr a) x =
    subst (λ (v : SourceWorld). Besides frames (OpenRaised f) v) (sym a.1) (subst (λ (b : HookBeginning IdFrame Failure). Besides frames b d.state) (sym (some_is (OpenRaised f) d.answer a.0)) x)
opened_waiting d w u opened.OutOfMemory frames a x = tt

module _ (limit : ℕ) (table : HookTable) (v name : Value) (frames : List IdFrame) where
  pub call_waiting : (which : Impl) (w : SourceWorld) → AreWaiting frames w → AreWaiting frames ((id_runner limit table v name).call which w).state
  call_waiting which w h = still_waiting frames w (hook_called limit (hook_at table which.code) (Some v) (Some name) w).1 (called_same limit table v name which w) h

  opens : (which : Impl) (w : SourceWorld) (x : FixtureEnd × SourceWorld) → BeginsFrame {L = python} is_out w (body_outcome x) → AreWaiting frames w → Besides frames (id_opened limit table which x).0 (id_opened limit table which x).1
  opens which w (end.Yielded y n, u) h s = waiting_besides frames (id_frame which n) w u h s
  opens which w (end.Returned y, u) h s =
      still_waiting frames u (wrapper_fault (hook_at table which.code) (codes "hook wrapper did not yield") u).1 (did_not_same limit table which u) (still_waiting frames w u h s)
  opens which w (end.Raised f, u) h s = still_waiting frames w u h s

  pub begin_waiting : (which : Impl) (w : SourceWorld) → AreWaiting frames w → Besides frames ((id_runner limit table v name).begin which w).answer ((id_runner limit table v name).begin which w).state
  begin_waiting which w h = opens which w (hook_begun limit (hook_at table which.code) (Some v) (Some name) w) (begun_frames limit table v name which w) h

  pub resume_waiting : (frame : IdFrame) (inside : HookInner Value Failure) (w : SourceWorld) → AreWaiting (frame ∷ frames) w → AreWaiting frames ((id_runner limit table v name).resume frame inside w).state
  resume_waiting frame inside w h =
      waiting_behind frames frame w ((id_runner limit table v name).resume frame inside w).state
      (takes limit table frame.which inside frame.rest w (id_sent limit table frame.rest inside w) (sent_frames limit table frame.rest inside w h.0.0)) h
