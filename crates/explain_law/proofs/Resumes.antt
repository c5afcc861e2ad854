-- Begins and resumptions of bodies that yield under two choices.
use Rattle.std.proofs.Common.{◌≡◌, ℕ, zero, suc, ◌-◌, List, [], ◌∷◌, ◌++◌, length, Option, Some, None, false, refl, ap, subst}
use Rattle.std.specs.Prelude.{slice_get, slice_set, Result, Ok, Err}
use Rattle.run_tree.specs.Todo as tree
use Rattle.run_tree.specs.Todo.{Done}
use Rattle.run_tree.specs.Same.{SameEnding}
use Rattle.py_values.specs.declared.end.Raise.{Raise}
use Rattle.py_values.specs.declared.object.FunctionObj.{FunctionObj}
use Rattle.py_values.specs.declared.value.Value.{Value}
use Rattle.py_values.specs.declared.value.Value.TheVariants as val
use Rattle.source_meaning.specs.py_world.declared.ended.Ended.{Ended}
use Rattle.source_meaning.specs.py_world.declared.trace.TraceFrame.{TraceFrame}
use Rattle.source_meaning.specs.py_world.World.{Frozen, Locals, FunctionCode, state}
use Rattle.source_meaning.specs.py_world.Site.{Site, no_call, frame}
use Rattle.source_meaning.specs.py_world.Outcome.{Suspension}
use Rattle.source_meaning.specs.py_world.Runs.{Told, start, function_and}
use Rattle.source_meaning.specs.py_world.Resuming.{Sent, SentValue, SentThrow, Yielded, Over, begun_with, frame_at, bare, abandon_of, begun_over, begun_yielded, begun_by, sent_end, begin_arguments, body_begun, function_opened, object_opened, opened_by_runner, resumed}
use Rattle.source_meaning.specs.Requests.{SourceLayer, Function}
use Rattle.source_meaning.specs.Meaning.{SourceWorld, source_semantics}
use Rattle.explain_law.proofs.Until as until
use Rattle.explain_law.specs.Choices as alike
use Rattle.explain_law.specs.Choices.{Choices, K, J, WorldsByChoice, worlds, states, EndsByChoice, gave, FrozenByChoice, LayersAt, receives_at, CodesAt, frozen_with, stored_with}
use Rattle.explain_law.proofs.Following.{Apart, Follow, SpentByChoice, PausedByChoice, stops, RequestsByChoice}
use Rattle.explain_law.specs.Law.{SourceEnding, ToldByChoice, BegunByChoice}
use Rattle.explain_law.proofs.Parts as part
use Rattle.explain_law.proofs.Blocks as block
use Rattle.explain_law.proofs.Forms.{entries_same, remains_same}
use Rattle.explain_law.proofs.Whole.{ended_same, spent_told, begun_by_runner_same}

abbrev Frames : Type 0
Frames = List (Option (Frozen (List SourceLayer)))

module _ (R : Choices) (P : Apart) where
  -- frozen frames
  frozen_length : {fs gs : Frames} → FrozenByChoice R fs gs → length fs ≡ length gs
  frozen_length alike.FrozenByChoice.none = refl
  frozen_length (alike.FrozenByChoice.taken hs) = ap suc (frozen_length hs)
  frozen_length (alike.FrozenByChoice.more p a h hs) = ap suc (frozen_length hs)

  frozen_more : {fs gs : Frames} → FrozenByChoice R fs gs → (p : Site) (a : Locals) {l m : List SourceLayer} → LayersAt R p.scene.path l m → FrozenByChoice R (fs ++ Some (frozen_with l p a) ∷ []) (gs ++ Some (frozen_with m p a) ∷ [])
  frozen_more alike.FrozenByChoice.none p a h = alike.FrozenByChoice.more p a h alike.FrozenByChoice.none
  frozen_more (alike.FrozenByChoice.taken hs) p a h = alike.FrozenByChoice.taken (frozen_more hs p a h)
  frozen_more (alike.FrozenByChoice.more q b g hs) p a h = alike.FrozenByChoice.more q b g (frozen_more hs p a h)

  frozen_taken : {fs gs : Frames} → FrozenByChoice R fs gs → (n : ℕ) → FrozenByChoice R (slice_set fs n None) (slice_set gs n None)
  frozen_taken alike.FrozenByChoice.none n = alike.FrozenByChoice.none
  frozen_taken (alike.FrozenByChoice.taken hs) zero = alike.FrozenByChoice.taken hs
  frozen_taken (alike.FrozenByChoice.taken hs) (suc n) = alike.FrozenByChoice.taken (frozen_taken hs n)
  frozen_taken (alike.FrozenByChoice.more p a h hs) zero = alike.FrozenByChoice.taken hs
  frozen_taken (alike.FrozenByChoice.more p a h hs) (suc n) = alike.FrozenByChoice.more p a h (frozen_taken hs n)

  pub data FrameAlike : Option (Frozen (List SourceLayer)) → Option (Frozen (List SourceLayer)) → Type 0 where
    absent : FrameAlike None None
    present : (p : Site) (a : Locals) {l m : List SourceLayer} → LayersAt R p.scene.path l m → FrameAlike (Some (frozen_with l p a)) (Some (frozen_with m p a))

  pub frame_found : {fs gs : Frames} → FrozenByChoice R fs gs → (n : ℕ) → FrameAlike (frame_at (slice_get fs n)) (frame_at (slice_get gs n))
  frame_found alike.FrozenByChoice.none n = absent
  frame_found (alike.FrozenByChoice.taken hs) zero = absent
  frame_found (alike.FrozenByChoice.taken hs) (suc n) = frame_found hs n
  frame_found (alike.FrozenByChoice.more p a h hs) zero = present p a h
  frame_found (alike.FrozenByChoice.more p a h hs) (suc n) = frame_found hs n

  pub abandoned : (n : ℕ) {w z : SourceWorld} → WorldsByChoice R w z → WorldsByChoice R (abandon_of n w) (abandon_of n z)
  abandoned n (worlds xs ys zs modules heap printed traces) = worlds xs ys (frozen_taken zs n) modules heap printed traces

  -- what is told
  pub over_same : (a : Told K) (b : Told J) → ToldByChoice R a b → BegunByChoice R (begun_over a) (begun_over b)
  over_same a b h = (ap (λ (e : Ended). begun_with (Over e.out) e.steps) h.0, h.1)

  yielded_with : {f : Suspension K} {g : Suspension J} → PausedByChoice R f g → (n : ℕ) → BegunByChoice R (begun_yielded f n) (begun_yielded g n)
  yielded_with (stops v u p rest (states a t (worlds xs ys zs modules heap printed traces))) n = (ap (λ k. begun_with (Yielded v k) n) (frozen_length zs), worlds xs ys (frozen_more zs (bare p) a (receives_at u rest)) modules heap printed traces)

  yielded_same : {f : Suspension K} {g : Suspension J} → PausedByChoice R f g → (budget m n : ℕ) → m ≡ n → BegunByChoice R (begun_yielded f (budget - m)) (begun_yielded g (budget - n))
  yielded_same {f = f} {g = g} e budget m n is = subst (λ k. BegunByChoice R (begun_yielded f (budget - m)) (begun_yielded g (budget - k))) is (yielded_with e (budget - m))

  pub begun_same : (budget : ℕ) (a b : SourceEnding) → SameEnding (SpentByChoice R) (RequestsByChoice R) (EndsByChoice R false) (PausedByChoice R) a b → BegunByChoice R (begun_by budget a) (begun_by budget b)
  begun_same budget (tree.Ended o m) (tree.Ended q n) h = over_same _ _ (ended_same R P h.0 budget m n h.1)
  begun_same budget (tree.Spent x) (tree.Spent y) h = over_same _ _ (spent_told R P budget h)
  begun_same budget (tree.Frozen f m) (tree.Frozen g n) h = yielded_same h.0 budget m n h.1
  begun_same budget (tree.Ended o m) (tree.Spent y) h = elim h [ ]
  begun_same budget (tree.Ended o m) (tree.Frozen q n) h = elim h [ ]
  begun_same budget (tree.Spent x) (tree.Ended q n) h = elim h [ ]
  begun_same budget (tree.Spent x) (tree.Frozen q n) h = elim h [ ]
  begun_same budget (tree.Frozen o m) (tree.Ended q n) h = elim h [ ]
  begun_same budget (tree.Frozen o m) (tree.Spent y) h = elim h [ ]

  -- BEGINS
  body_begun_same : (path : List ℕ) (home : ℕ) {c d : Function} → CodesAt R path c d → (r : Result Locals Raise) (at : List TraceFrame) {w z : SourceWorld} → WorldsByChoice R w z → Follow R P (body_begun source_semantics (stored_with path home c) r at (start w)) (body_begun source_semantics (stored_with path home d) r at (start z))
  body_begun_same path home h (Ok names) at ws =
      (block.entered_by R P source_semantics.entry source_semantics.entry (entries_same R P) path h home (Ok names) no_call).does (states [] (part.none_kept false) ws) _ _ (λ o q n. until.done (part.call_end_same R P false (states [] (part.none_kept false) ws) n))
  body_begun_same path home h (Err r) at ws = until.done (part.raised_same R P false r at (states [] (part.none_kept false) ws))

  function_opened_same : {x y : Option (FunctionCode Function)} → block.FoundAlike R P x y → (g : FunctionObj) (all : List Value) (f : Value) (args : List Value) {w z : SourceWorld} → WorldsByChoice R w z → Follow R P (function_opened source_semantics x g all f args (start w)) (function_opened source_semantics y g all f args (start z))
  function_opened_same block.absent g all f args ws = begun_by_runner_same R P f args ws
  function_opened_same (block.present path home h) g all f args ws =
      part.follow_cond R P false g.yields _ _ _ _ (body_begun_same path home h (begin_arguments g all) (frame g.path g.line g.name ∷ []) ws) (begun_by_runner_same R P f args ws)

  object_opened_same : (o : Option (FunctionObj × List Value)) (f : Value) (args : List Value) {w z : SourceWorld} → WorldsByChoice R w z → Follow R P (object_opened source_semantics o f args (start w)) (object_opened source_semantics o f args (start z))
  object_opened_same (Some x) f args (worlds xs ys zs modules heap printed traces) = function_opened_same (block.found R P ys x.0.code) x.0 x.1 f args (worlds xs ys zs modules heap printed traces)
  object_opened_same None f args ws = begun_by_runner_same R P f args ws

  pub opened_same : (f : Value) (args : List Value) {w z : SourceWorld} → WorldsByChoice R w z → Follow R P (opened_by_runner source_semantics f args (start w)) (opened_by_runner source_semantics f args (start z))
  opened_same (val.Ref id) args (worlds xs ys zs modules heap printed traces) = object_opened_same (function_and heap args (slice_get heap id.at)) (val.Ref id) args (worlds xs ys zs modules heap printed traces)
  opened_same val.None args ws = begun_by_runner_same R P val.None args ws
  opened_same (val.Bool b) args ws = begun_by_runner_same R P (val.Bool b) args ws
  opened_same (val.Int n) args ws = begun_by_runner_same R P (val.Int n) args ws

  -- RESUMPTIONS
  sent_same : (sent : Sent) (a : Locals) {w z : SourceWorld} → WorldsByChoice R w z → EndsByChoice R false (sent_end sent (state a [] w)) (sent_end sent (state a [] z))
  sent_same (SentValue v) a ws = gave v (states a (part.none_kept false) ws)
  sent_same (SentThrow t) a ws = alike.raised t.exc t.trace (states a (part.none_kept false) ws)

  pub resumed_same : (p : Site) (a : Locals) {l m : List SourceLayer} → LayersAt R p.scene.path l m → (sent : Sent) {w z : SourceWorld} → WorldsByChoice R w z → Follow R P (resumed source_semantics (frozen_with l p a) sent w) (resumed source_semantics (frozen_with m p a) sent z)
  resumed_same p a h sent ws = (remains_same R P h).does p refl (sent_same sent a ws) _ _ (λ o q n. until.done (part.call_end_same R P false (states [] (part.none_kept false) ws) n))
