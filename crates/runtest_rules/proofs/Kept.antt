-- What fixtures, tests and hooks of sources do keeps the frames that are out.
use Rattle.std.proofs.Common.{◌≡◌, ℕ, true, false, cond, List, [], Option, None, refl, subst, ◌∙◌}
use Rattle.std.specs.Prelude.{◌==◌, codes, slice_set}
use Rattle.core_rules.proofs.SourceResumes.{begins_keep, resumes_keep}
use Rattle.core_rules.proofs.SourceRuns.{calls_keep}
use Rattle.core_rules.specs.Keeps.{FramesBehind, IsKeptBehind, IsKeptIn}
use Rattle.fixture_calls.specs.Arguments.{asks_request, positional}
use Rattle.fixture_calls.specs.Asking.{finalizers_taken, fixture_request, scope_text, test_request}
use Rattle.fixture_calls.specs.Calls.{finalizer_called, test_called}
use Rattle.fixture_calls.specs.Failing.{in_heap}
use Rattle.fixture_calls.specs.Hooks.{failure_thrown, hook_begun, hook_called, hook_resumed, hook_values, or_none}
use Rattle.fixture_calls.specs.Yields.{did_not_yield, fixture_abandoned, fixture_begun, fixture_resumed, own_if, yielded_again}
use Rattle.fixture_calls.specs.declared.failure.Failure.{Failure}
use Rattle.hook_order.specs.declared.implementation.Impl.{Impl}
use Rattle.py_values.specs.declared.object.Obj.TheVariants as obj
use Rattle.py_values.specs.declared.value.Value.{Value}
use Rattle.py_values.specs.declared.value.Value.TheVariants as val
use Rattle.py_world.specs.Resuming.{Sent, SentThrow, SentValue, abandon_of, is_out}
use Rattle.py_world.specs.World.{Frozen}
use Rattle.runtest_rules.specs.Failures.{fixture_fault, skip_reason, skipped, wrong_arguments}
use Rattle.runtest_rules.specs.Language.{python}
use Rattle.runtest_rules.specs.Objects.{instance_of_item, item_object}
use Rattle.runtest_rules.specs.Phases.{phase_ended}
use Rattle.runtest_rules.specs.Rules.{body_outcome, call_end_of, hook_end_of, implemented_for, param_value, rules_within, wrapper_fault, wrapper_resumed}
use Rattle.session_rules.specs.Frames.{BeginsFrame, KeepsFrames, ResumesFrame, SameFrames, TakesFrame}
use Rattle.session_rules.specs.Hooks as message
use Rattle.session_rules.specs.Hooks.{HookMessage}
use Rattle.session_rules.specs.World.{HookArguments, Phase}
use Rattle.core_rules.specs.source_meaning.Meaning.{SourceWorld, source_begin, source_call, source_resume}
use Rattle.core_rules.specs.source_meaning.Requests.{source_kinds}
use Rattle.test_suite.specs.Hooks.{hook_at}
use Rattle.test_suite.specs.Suites.{fixture_at, item_with_node}
use Rattle.test_suite.specs.declared.fixture.Fixture.{Fixture}
use Rattle.test_suite.specs.declared.hook.Hook.{Hook}
use Rattle.test_suite.specs.declared.hook.HookTable.{HookTable}
use Rattle.test_suite.specs.declared.item.BoundArgument.{BoundArgument}
use Rattle.test_suite.specs.declared.item.Item.{Item}
use Rattle.test_suite.specs.declared.suite.Suite.{Suite}
use Rattle.tracebacks.specs.runner_values.Given.{added_object}
use Rattle.runtest_rules.proofs.Worlds.{body_begun_frames, body_resumed_frames, call_end_frames, call_frames, instance_frames, request_frames, same_frames, skip_frames, taken}

-- what the runner makes
made_instance : (i : Item) (w : SourceWorld) → SameFrames is_out w (instance_of_item i w).1
unfolding instance_of_item
made_instance i w = same_frames w (instance_of_item i w).1 (instance_frames i.test.class w)

made_object : (i : Item) (w : SourceWorld) → SameFrames is_out w (item_object i w).1
unfolding item_object
made_object i w = same_frames w (item_object i w).1 refl

asked : (f : Fixture) (param : Option Value) (w : SourceWorld) → SameFrames is_out w (fixture_request f param w).1
unfolding fixture_request
asked f param w = same_frames w (fixture_request f param w).1 (request_frames (asks_request f.arguments) _ (scope_text f.scope) param w)

test_asked : (i : Item) (w : SourceWorld) → SameFrames is_out w (test_request i w).1
unfolding test_request
test_asked i w = same_frames w (test_request i w).1 (request_frames (asks_request i.arguments) None _ None w)

not_yielded : (f : Fixture) (w : SourceWorld) → SameFrames is_out w (did_not_yield f w).1
unfolding did_not_yield
not_yielded f w = same_frames w (did_not_yield f w).1 refl

again : (f : Fixture) (w : SourceWorld) → SameFrames is_out w (yielded_again f w).1
unfolding yielded_again
again f w = same_frames w (yielded_again f w).1 refl

closed : (request : Value) (w : SourceWorld) → SameFrames is_out w (finalizers_taken request w).1
unfolding finalizers_taken
closed request w = same_frames w (finalizers_taken request w).1 refl

faulty : (i : Item) (w : SourceWorld) → SameFrames is_out w (fixture_fault i w).1
unfolding fixture_fault
faulty i w = same_frames w (fixture_fault i w).1 refl

pub hook_faulty : (h : Hook) (text : List ℕ) (w : SourceWorld) → SameFrames is_out w (wrapper_fault h text w).1
hook_faulty h text w = same_frames w (wrapper_fault h text w).1 refl

wrong : (i : Item) (w : SourceWorld) → SameFrames is_out w (wrong_arguments i w).1
unfolding wrong_arguments
wrong i w = same_frames w (wrong_arguments i w).1 refl

skips : (i : Item) (w : SourceWorld) → SameFrames is_out w (skipped i w).1
unfolding skipped
skips i w = same_frames w (skipped i w).1 (skip_frames i (skip_reason i w.heap) w)

ended : (phase : Phase) (i : Item) (raised : List Failure) (w : SourceWorld) → SameFrames is_out w (phase_ended phase i raised w).1
unfolding phase_ended
ended phase i raised w = same_frames w (phase_ended phase i raised w).1 refl

pub gone : (n : ℕ) (w : SourceWorld) → TakesFrame is_out n w (fixture_abandoned n w)
unfolding fixture_abandoned
gone n w = taken w (fixture_abandoned n w) n refl

-- what source code does
module _ (calls : (w : SourceWorld) (f : Value) (args : List Value) (budget : ℕ) → IsKeptIn w (source_call f args budget w).1)
    (begins : (w : SourceWorld) (f : Value) (args : List Value) (budget : ℕ) → IsKeptBehind w w.frozen (source_begin f args budget w))
    (resumes : (w : SourceWorld) (n : ℕ) (sent : Sent) (budget : ℕ) → IsKeptBehind w (abandon_of n w).frozen (source_resume n sent budget w)) where
  tested : (limit : ℕ) (i : Item) (own : Option Value) (values : List Value) (request : Option Value) (w : SourceWorld) → SameFrames is_out w (test_called limit i own values request w).1
  unfolding test_called
  tested limit i own values request w =
      let called = source_call i.test.function (positional own i.bound i.arguments request values) limit w in
      same_frames w (test_called limit i own values request w).1
      (call_frames limit called.0.out called.1 ∙ (calls w i.test.function (positional own i.bound i.arguments request values) limit).frozen)

  finalized : (limit : ℕ) (f : Value) (w : SourceWorld) → SameFrames is_out w (finalizer_called limit f w).1
  unfolding finalizer_called
  finalized limit f w =
      let called = source_call f [] limit w in
      same_frames w (finalizer_called limit f w).1 (call_frames limit called.0.out called.1 ∙ (calls w f [] limit).frozen)

  begun : (limit : ℕ) (f : Fixture) (bound : List BoundArgument) (own : Option Value) (values : List Value) (request : Option Value) (w : SourceWorld) → BeginsFrame {L = python} is_out w (body_outcome (fixture_begun limit f bound own values request w))
  unfolding fixture_begun
  begun limit f bound own values request w =
      let args = positional (own_if f.in_class own) bound f.arguments request values in
      let t = source_begin f.function args limit w in
      body_begun_frames limit t.0.out w t.1 (begins w f.function args limit).frames

  went_on : (limit n : ℕ) (w : SourceWorld) → is_out n w ≡ true → ResumesFrame {L = python} is_out n w (body_outcome (fixture_resumed limit n w))
  unfolding fixture_resumed
  went_on limit n w out =
      let t = source_resume n (SentValue val.None) limit w in
      body_resumed_frames limit t.0.out n w t.1 out (resumes w n (SentValue val.None) limit).frames

  -- what hooks do

  pub hooked : (limit : ℕ) (h : Hook) (item next : Option Value) (w : SourceWorld) → SameFrames is_out w (hook_called limit h item next w).1
  unfolding hook_called
  hooked limit h item next w =
      let args = hook_values item next h in
      let called = source_call h.function args limit w in
      same_frames w (hook_called limit h item next w).1 (call_end_frames limit called.0.out called.1 ∙ (calls w h.function args limit).frozen)

  implemented : (limit : ℕ) (table : HookTable) (i : Item) (arguments : HookArguments python) (which : Impl) (w : SourceWorld) → SameFrames is_out w (implemented_for limit table i arguments which w).world
  implemented limit table i arguments which w =
      elim (which.registered == 0) as (λ b. SameFrames is_out w (cond b (hook_end_of (skipped i w)) (call_end_of (hook_called limit (hook_at table which.code) arguments.item arguments.next w))).world) [
        | true ↦ skips i w
        | false ↦ hooked limit (hook_at table which.code) arguments.item arguments.next w
      ]

  pub opened : (limit : ℕ) (h : Hook) (item next : Option Value) (w : SourceWorld) → BeginsFrame {L = python} is_out w (body_outcome (hook_begun limit h item next w))
  unfolding hook_begun
  opened limit h item next w =
      let args = hook_values item next h in
      let t = source_begin h.function args limit w in
      body_begun_frames limit t.0.out w t.1 (begins w h.function args limit).frames

  -- in a world with the same frames
  sent_on : (limit n : ℕ) (sent : Sent) (w v : SourceWorld) → v.frozen ≡ w.frozen → is_out n w ≡ true → ResumesFrame {L = python} is_out n w (body_outcome (hook_resumed limit n sent v))
  unfolding hook_resumed
  sent_on limit n sent w v same out =
      let t = source_resume n sent limit v in
      body_resumed_frames limit t.0.out n w t.1 out
      (subst (λ (fs : List (Option (Frozen source_kinds.rest))). FramesBehind t.0.out (slice_set fs n None) t.1.frozen) same (resumes v n sent limit).frames)

  pub wrapper_on : (limit n : ℕ) (sent : HookMessage Value Failure) (w : SourceWorld) → is_out n w ≡ true → ResumesFrame {L = python} is_out n w (body_outcome (wrapper_resumed limit n sent w))
  wrapper_on limit n (message.SentValues values) w out =
      let made = in_heap (added_object (obj.List values) w.heap) w in
      sent_on limit n (SentValue made.0) w made.1 refl out
  wrapper_on limit n (message.SentValue value) w out = sent_on limit n (SentValue (or_none value)) w w refl out
  wrapper_on limit n (message.SentRaise failure) w out = sent_on limit n (SentThrow (failure_thrown failure)) w w refl out

  kept : (limit : ℕ) (suite : Suite) → KeepsFrames (rules_within limit suite) is_out
  kept limit suite =
      record {
        make_instance = λ n w. made_instance (item_with_node suite n) w;
        make_item = λ n w. made_object (item_with_node suite n) w;
        ask = λ n d param w. asked (fixture_at suite d) (param_value (item_with_node suite n).params d) w;
        begin = λ n d param own values request w. begun limit (fixture_at suite d) (item_with_node suite n).bound own values request w;
        did_not_yield = λ d w. not_yielded (fixture_at suite d) w;
        resume = λ rest w out. went_on limit rest w out;
        abandon = λ rest w out. gone rest w;
        yielded_again = λ d w. again (fixture_at suite d) w;
        close = λ request w. closed request w;
        finalize = λ f w. finalized limit f w;
        fault = λ n w. faulty (item_with_node suite n) w;
        ask_test = λ n w. test_asked (item_with_node suite n) w;
        test = λ n own values request w. tested limit (item_with_node suite n) own values request w;
        wrong_arguments = λ n w. wrong (item_with_node suite n) w;
        implement = λ phase n arguments which w. implemented limit suite.hooks (item_with_node suite n) arguments which w;
        open_wrapper = λ phase n arguments which w. opened limit (hook_at suite.hooks which.code) arguments.item arguments.next w;
        wrapper_did_not_yield = λ which w. hook_faulty (hook_at suite.hooks which.code) (codes "hook wrapper did not yield") w;
        resume_wrapper = λ phase n rest sent w out. wrapper_on limit rest sent w out;
        wrapper_yielded_again = λ which w. hook_faulty (hook_at suite.hooks which.code) (codes "hook wrapper yielded twice") w;
        end_phase = λ phase n raised w. ended phase (item_with_node suite n) raised w;
      }

-- THE RULES OF A SUITE, within a step limit, keep the frames that are out
pub keeps_within : (limit : ℕ) (suite : Suite) → KeepsFrames (rules_within limit suite) is_out
keeps_within limit suite = kept calls_keep begins_keep resumes_keep limit suite
