-- Whole calls and loads of modules under two choices.
use Rattle.std.proofs.Common.{◌≡◌, ℕ, ◌-◌, List, [], ◌∷◌, Option, Some, None, Bool, true, false, refl, subst}
use Rattle.std.specs.Prelude.{slice_get, cond, Result, Ok, Err}
use Rattle.std.specs.List.{list_any}
use Rattle.run_tree.specs.Todo as tree
use Rattle.run_tree.specs.Todo.{Done}
use Rattle.run_tree.specs.Same.{SameEnding}
use Rattle.py_values.specs.declared.end.Raise.{Raise}
use Rattle.py_values.specs.declared.object.FunctionObj.{FunctionObj}
use Rattle.py_values.specs.declared.value.Value.{Value}
use Rattle.py_values.specs.declared.value.Value.TheVariants as val
use Rattle.source_meaning.specs.py_world.declared.trace.TraceFrame.{TraceFrame}
use Rattle.source_meaning.specs.py_world.World.{World, Locals, FunctionCode}
use Rattle.source_meaning.specs.py_world.Site.{no_call, frame}
use Rattle.source_meaning.specs.py_world.Arguments.{positional_arguments}
use Rattle.source_meaning.specs.py_world.Outcome.{Outcome, Rest, Exhaustion, Suspension, call_end}
use Rattle.source_meaning.specs.py_world.Calls.{arguments_for, invoke}
use Rattle.source_meaning.specs.py_world.Runs.{ended_value, ended_spent, is_running, out_of_steps, ended_by, told_by, start, function_and, fitting_begun, function_begun, object_begun, begun_by_runner, loading}
use Rattle.source_meaning.specs.Requests.{Script, Function}
use Rattle.source_meaning.specs.Meaning.{SourceWorld, source_semantics}
use Rattle.explain_law.proofs.Until as until
use Rattle.explain_law.specs.Choices as alike
use Rattle.explain_law.specs.Choices.{Choices, K, J, WorldsByChoice, worlds, states, EndsByChoice, gave, next, returned, broke, continued, ScriptsAt}
use Rattle.explain_law.proofs.Following.{Apart, Follow, SpentByChoice, out, PausedByChoice, stops, RequestsByChoice}
use Rattle.explain_law.specs.Law.{SourceEnding, ToldByChoice}
use Rattle.explain_law.proofs.Parts as part
use Rattle.explain_law.proofs.Blocks as block
use Rattle.explain_law.proofs.Loads as loads
use Rattle.explain_law.proofs.Forms.{entries_same, bodies_same}

module _ (R : Choices) (P : Apart) where
  ended_with : {o : Outcome K} {q : Outcome J} → EndsByChoice R false o q → (n : ℕ) → ToldByChoice R (ended_by o n) (ended_by q n)
  ended_with (gave v (states a t ws)) n = (refl, ws)
  ended_with (next (states a t ws)) n = (refl, ws)
  ended_with (returned v (states a t ws)) n = (refl, ws)
  ended_with (broke (states a t ws)) n = (refl, ws)
  ended_with (continued (states a t ws)) n = (refl, ws)
  ended_with (alike.raised e trace (states a t ws)) n = (refl, ws)

  pub ended_same : {o : Outcome K} {q : Outcome J} → EndsByChoice R false o q → (budget m n : ℕ) → m ≡ n → ToldByChoice R (ended_by o (budget - m)) (ended_by q (budget - n))
  ended_same {o = o} {q = q} e budget m n is = subst (λ k. ToldByChoice R (ended_by o (budget - m)) (ended_by q (budget - k))) is (ended_with e (budget - m))

  world_cond : (b : Bool) (w w' : World K) (z z' : World J) → WorldsByChoice R w z → WorldsByChoice R w' z' → WorldsByChoice R (cond b w w') (cond b z z')
  world_cond true w w' z z' h g = h
  world_cond false w w' z z' h g = g

  spent_world : (budget : ℕ) (trace : List TraceFrame) {w : World K} {z : World J} → WorldsByChoice R w z → WorldsByChoice R (out_of_steps budget trace w) (out_of_steps budget trace z)
  spent_world budget trace (worlds xs ys zs modules heap printed traces) = world_cond (list_any is_running modules) _ _ _ _ (worlds xs ys zs _ _ printed traces) (worlds xs ys zs modules heap printed traces)

  pub spent_told : (budget : ℕ) {x : Exhaustion K} {y : Exhaustion J} → SpentByChoice R x y → ToldByChoice R (ended_spent budget x) (ended_spent budget y)
  spent_told budget (out trace (states a t ws)) = (refl, spent_world budget trace ws)

  stopped_with : {f : Suspension K} {g : Suspension J} → PausedByChoice R f g → (n : ℕ) → ToldByChoice R (ended_value f.value n f.state.world) (ended_value g.value n g.state.world)
  stopped_with (stops v u p rest (states a t ws)) n = (refl, ws)

  stopped_same : {f : Suspension K} {g : Suspension J} → PausedByChoice R f g → (budget m n : ℕ) → m ≡ n → ToldByChoice R (ended_value f.value (budget - m) f.state.world) (ended_value g.value (budget - n) g.state.world)
  stopped_same {f = f} {g = g} e budget m n is = subst (λ k. ToldByChoice R (ended_value f.value (budget - m) f.state.world) (ended_value g.value (budget - k) g.state.world)) is (stopped_with e (budget - m))

  pub told_same : (budget : ℕ) (a b : SourceEnding) → SameEnding (SpentByChoice R) (RequestsByChoice R) (EndsByChoice R false) (PausedByChoice R) a b → ToldByChoice R (told_by budget a) (told_by budget b)
  told_same budget (tree.Ended o m) (tree.Ended q n) h = ended_same h.0 budget m n h.1
  told_same budget (tree.Spent x) (tree.Spent y) h = spent_told budget h
  told_same budget (tree.Frozen f m) (tree.Frozen g n) h = stopped_same h.0 budget m n h.1
  told_same budget (tree.Ended o m) (tree.Spent y) h = elim h [ ]
  told_same budget (tree.Ended o m) (tree.Frozen q n) h = elim h [ ]
  told_same budget (tree.Spent x) (tree.Ended q n) h = elim h [ ]
  told_same budget (tree.Spent x) (tree.Frozen q n) h = elim h [ ]
  told_same budget (tree.Frozen o m) (tree.Ended q n) h = elim h [ ]
  told_same budget (tree.Frozen o m) (tree.Spent y) h = elim h [ ]

  abbrev begun_plain : Value → List Value → SourceWorld → Rest K
  begun_plain f args w = invoke source_semantics.entry f (positional_arguments args) no_call (start w) (λ o. Done (call_end (start w) o))

  invoked : (f : Value) (args : List Value) (w z : SourceWorld) → WorldsByChoice R w z → Follow R P (begun_plain f args w) (begun_plain f args z)
  invoked f args w z ws =
      (block.invoke_same R P source_semantics.entry source_semantics.entry (entries_same R P) f (positional_arguments args) no_call).does (states [] (part.none_kept false) ws) _ _ (λ o q n. until.done (part.call_end_same R P false (states [] (part.none_kept false) ws) n))

  fitting_begun_same : (r : Result Locals Raise) (at : List TraceFrame) (f : Value) (args : List Value) (w z : SourceWorld) → WorldsByChoice R w z → Follow R P (fitting_begun source_semantics r at f args (start w)) (fitting_begun source_semantics r at f args (start z))
  fitting_begun_same (Ok names) at f args w z ws = invoked f args w z ws
  fitting_begun_same (Err r) at f args w z ws = until.done (part.raised_same R P false r at (states [] (part.none_kept false) ws))

  function_begun_same : {x y : Option (FunctionCode Function)} → block.FoundAlike R P x y → (g : FunctionObj) (all : List Value) (f : Value) (args : List Value) (w z : SourceWorld) → WorldsByChoice R w z → Follow R P (function_begun source_semantics x g all f args (start w)) (function_begun source_semantics y g all f args (start z))
  function_begun_same block.absent g all f args w z ws = invoked f args w z ws
  function_begun_same (block.present path home h) g all f args w z ws = fitting_begun_same (arguments_for g (positional_arguments all)) (frame g.path g.line g.name ∷ []) f args w z ws

  object_begun_same : (o : Option (FunctionObj × List Value)) (f : Value) (args : List Value) {w z : SourceWorld} → WorldsByChoice R w z → Follow R P (object_begun source_semantics o f args (start w)) (object_begun source_semantics o f args (start z))
  object_begun_same (Some x) f args (worlds xs ys zs modules heap printed traces) = function_begun_same (block.found R P ys x.0.code) x.0 x.1 f args _ _ (worlds xs ys zs modules heap printed traces)
  object_begun_same None f args ws = invoked f args _ _ ws

  pub begun_by_runner_same : (f : Value) (args : List Value) {w z : SourceWorld} → WorldsByChoice R w z → Follow R P (begun_by_runner source_semantics f args (start w)) (begun_by_runner source_semantics f args (start z))
  begun_by_runner_same (val.Ref id) args (worlds xs ys zs modules heap printed traces) = object_begun_same (function_and heap args (slice_get heap id.at)) (val.Ref id) args (worlds xs ys zs modules heap printed traces)
  begun_by_runner_same val.None args ws = invoked val.None args _ _ ws
  begun_by_runner_same (val.Bool b) args ws = invoked (val.Bool b) args _ _ ws
  begun_by_runner_same (val.Int n) args ws = invoked (val.Int n) args _ _ ws

  pub loading_same : (path : List ℕ) (b code : Script) → ScriptsAt R path b code → {w z : SourceWorld} → WorldsByChoice R w z → Follow R P (loading source_semantics path b w) (loading source_semantics path code z)
  loading_same path b code h ws = loads.executed_same R P source_semantics.body source_semantics.body (bodies_same R P) path b code h no_call ws (λ o. Done o) (λ o. Done o) (λ o q n. until.done n)
