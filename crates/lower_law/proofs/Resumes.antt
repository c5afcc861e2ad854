-- The same of bodies that begin and go on.
use Rattle.std.proofs.Common.{◌≡◌, ℕ, zero, suc, ◌-◌, List, [], ◌∷◌, ◌++◌, length, Option, Some, None, refl, ap, subst}
use Rattle.std.specs.Prelude.{slice_get, slice_set, Result, Ok, Err}
use Rattle.run_tree.specs.Todo as tree
use Rattle.run_tree.specs.Todo.{Done}
use Rattle.core_meaning.specs.py_core.declared.stmt.CoreFn.{CoreFn}
use Rattle.py_values.specs.declared.end.Raise.{Raise}
use Rattle.py_values.specs.declared.object.FunctionObj.{FunctionObj}
use Rattle.py_values.specs.declared.value.Value.{Value}
use Rattle.py_values.specs.declared.value.Value.TheVariants as val
use Rattle.source_meaning.specs.py_world.declared.ended.Ended.{Ended}
use Rattle.source_meaning.specs.py_world.declared.trace.TraceFrame.{TraceFrame}
use Rattle.source_meaning.specs.py_world.World.{Frozen, Locals, FunctionCode, state}
use Rattle.source_meaning.specs.py_world.Site.{Site, no_call, frame}
use Rattle.source_meaning.specs.py_world.Outcome.{Rest, Suspension, call_end}
use Rattle.source_meaning.specs.py_world.Runs.{Told, start, function_and}
use Rattle.source_meaning.specs.py_world.Resuming.{Sent, SentValue, SentThrow, Yielded, Over, ToldBegun, begun_with, frame_at, bare, abandon_of, begun_over, begun_yielded, begun_by, sent_end, begin_arguments, begun_of, body_begun, function_opened, object_opened, opened_by_runner, resumed, resumed_by}
use Rattle.source_meaning.specs.Requests as s
use Rattle.source_meaning.specs.Requests.{source_kinds, Function}
use Rattle.source_meaning.specs.Meaning.{SourceWorld, source_semantics, source_begin, source_resume}
use Rattle.core_meaning.specs.Requests as c
use Rattle.core_meaning.specs.Requests.{core_kinds}
use Rattle.core_meaning.specs.Meaning.{CoreWorld, core, core_begin, core_resume}
use Rattle.lower_law.specs.Alike as alike
use Rattle.lower_law.specs.Alike.{states, gave, PausedAlike, stops, FrozenAlike, frozen_from, stored_from, worlds}
use Rattle.lower_law.specs.Law.{LoweredCode, Lowering, LoweredWorld, SameTold}
use Rattle.lower_law.specs.Lowered.{LoweredRest}
use Rattle.lower_law.proofs.Parts as part
use Rattle.lower_law.proofs.Blocks as block
use Rattle.lower_law.proofs.Forms.{Follow, meanings_same}
use Rattle.lower_law.proofs.Keeps.{Ends, SourceEnding, CoreEnding, SameEnd, ended_same, spent_told, runs_same, follow_cond, begun_by_runner_same}

-- the same is told, and the worlds behind it are alike
abbrev pub SameBegun : ToldBegun source_kinds → ToldBegun core_kinds → Type 0
SameBegun a b = (a.0 ≡ b.0) × LoweredWorld a.1 b.1

abbrev SourceFrames : Type 0
SourceFrames = List (Option (Frozen (List s.SourceLayer)))

abbrev CoreFrames : Type 0
CoreFrames = List (Option (Frozen (List c.Layer)))

-- frozen frames
frozen_length : {fs : SourceFrames} {gs : CoreFrames} → FrozenAlike Lowering fs gs → length fs ≡ length gs
frozen_length alike.none = refl
frozen_length (alike.taken hs) = ap suc (frozen_length hs)
frozen_length (alike.more p a h hs) = ap suc (frozen_length hs)

frozen_more : {fs : SourceFrames} {gs : CoreFrames} → FrozenAlike Lowering fs gs → (p : Site) (a : Locals) {l : List s.SourceLayer} {m : List c.Layer} → LoweredRest l m → FrozenAlike Lowering (fs ++ Some (frozen_from l p a) ∷ []) (gs ++ Some (frozen_from m p a) ∷ [])
frozen_more alike.none p a h = alike.more p a h alike.none
frozen_more (alike.taken hs) p a h = alike.taken (frozen_more hs p a h)
frozen_more (alike.more q b g hs) p a h = alike.more q b g (frozen_more hs p a h)

frozen_taken : {fs : SourceFrames} {gs : CoreFrames} → FrozenAlike Lowering fs gs → (n : ℕ) → FrozenAlike Lowering (slice_set fs n None) (slice_set gs n None)
frozen_taken alike.none n = alike.none
frozen_taken (alike.taken hs) zero = alike.taken hs
frozen_taken (alike.taken hs) (suc n) = alike.taken (frozen_taken hs n)
frozen_taken (alike.more p a h hs) zero = alike.taken hs
frozen_taken (alike.more p a h hs) (suc n) = alike.more p a h (frozen_taken hs n)

pub data FrameAlike : Option (Frozen (List s.SourceLayer)) → Option (Frozen (List c.Layer)) → Type 0 where
  absent : FrameAlike None None
  present : (p : Site) (a : Locals) {l : List s.SourceLayer} {m : List c.Layer} → LoweredRest l m → FrameAlike (Some (frozen_from l p a)) (Some (frozen_from m p a))

frame_found : {fs : SourceFrames} {gs : CoreFrames} → FrozenAlike Lowering fs gs → (n : ℕ) → FrameAlike (frame_at (slice_get fs n)) (frame_at (slice_get gs n))
frame_found alike.none n = absent
frame_found (alike.taken hs) zero = absent
frame_found (alike.taken hs) (suc n) = frame_found hs n
frame_found (alike.more p a h hs) zero = present p a h
frame_found (alike.more p a h hs) (suc n) = frame_found hs n

pub abandoned : (n : ℕ) {w : SourceWorld} {z : CoreWorld} → LoweredWorld w z → LoweredWorld (abandon_of n w) (abandon_of n z)
abandoned n (worlds xs ys zs modules heap printed traces) = worlds xs ys (frozen_taken zs n) modules heap printed traces

-- what is told
over_same : (a : Told source_kinds) (b : Told core_kinds) → SameTold a b → SameBegun (begun_over a) (begun_over b)
over_same a b h = (ap (λ (e : Ended). begun_with (Over e.out) e.steps) h.0, h.1)

yielded_with : {f : Suspension source_kinds} {g : Suspension core_kinds} → PausedAlike Lowering f g → (n : ℕ) → SameBegun (begun_yielded f n) (begun_yielded g n)
yielded_with (stops v p rest (states a t (worlds xs ys zs modules heap printed traces))) n = (ap (λ k. begun_with (Yielded v k) n) (frozen_length zs), worlds xs ys (frozen_more zs (bare p) a rest) modules heap printed traces)

yielded_same : {f : Suspension source_kinds} {g : Suspension core_kinds} → PausedAlike Lowering f g → (budget m n : ℕ) → m ≡ n → SameBegun (begun_yielded f (budget - m)) (begun_yielded g (budget - n))
yielded_same {f = f} {g = g} e budget m n is = subst (λ k. SameBegun (begun_yielded f (budget - m)) (begun_yielded g (budget - k))) is (yielded_with e (budget - m))

begun_same : (budget : ℕ) (a : SourceEnding) (b : CoreEnding) → SameEnd a b → SameBegun (begun_by budget a) (begun_by budget b)
begun_same budget (tree.Ended o m) (tree.Ended q n) h = over_same _ _ (ended_same h.0 budget m n h.1)
begun_same budget (tree.Spent x) (tree.Spent y) h = over_same _ _ (spent_told budget h)
begun_same budget (tree.Frozen f m) (tree.Frozen g n) h = yielded_same h.0 budget m n h.1
begun_same budget (tree.Ended o m) (tree.Spent y) h = elim h [ ]
begun_same budget (tree.Ended o m) (tree.Frozen q n) h = elim h [ ]
begun_same budget (tree.Spent x) (tree.Ended q n) h = elim h [ ]
begun_same budget (tree.Spent x) (tree.Frozen q n) h = elim h [ ]
begun_same budget (tree.Frozen o m) (tree.Ended q n) h = elim h [ ]
begun_same budget (tree.Frozen o m) (tree.Spent y) h = elim h [ ]

run_begun : (budget : ℕ) (x : Rest source_kinds) (y : Rest core_kinds) → Follow x y → SameBegun (begun_of source_semantics budget x) (begun_of core budget y)
run_begun budget x y h = begun_same budget _ _ (runs_same budget x y h).1

-- BEGINS
body_begun_same : (path : List ℕ) (home : ℕ) {f : Function} {x : CoreFn} → LoweredCode f x → (r : Result Locals Raise) (at : List TraceFrame) {w : SourceWorld} {z : CoreWorld} → LoweredWorld w z → Follow (body_begun source_semantics (stored_from path home f) r at (start w)) (body_begun core (stored_from path home x) r at (start z))
body_begun_same path home h (Ok names) at ws = (block.entered_by _ source_semantics.entry core.entry meanings_same.entries h path home (Ok names) no_call).does (states [] [] ws) _ _ (λ o q n. part.call_end_same Lowering (states [] [] ws) n)
body_begun_same path home h (Err r) at ws = part.raised_same Lowering r at (states [] [] ws)

function_opened_same : {x : Option (FunctionCode Function)} {y : Option (FunctionCode CoreFn)} → block.FoundAlike Lowering x y → (g : FunctionObj) (all : List Value) (f : Value) (args : List Value) {w : SourceWorld} {z : CoreWorld} → LoweredWorld w z → Follow (function_opened source_semantics x g all f args (start w)) (function_opened core y g all f args (start z))
function_opened_same block.absent g all f args ws = begun_by_runner_same f args ws
function_opened_same (block.present path home h) g all f args ws = follow_cond g.yields _ _ _ _ (body_begun_same path home h (begin_arguments g all) (frame g.path g.line g.name ∷ []) ws) (begun_by_runner_same f args ws)

object_opened_same : (o : Option (FunctionObj × List Value)) (f : Value) (args : List Value) {w : SourceWorld} {z : CoreWorld} → LoweredWorld w z → Follow (object_opened source_semantics o f args (start w)) (object_opened core o f args (start z))
object_opened_same (Some x) f args (worlds xs ys zs modules heap printed traces) = function_opened_same (block.found _ ys x.0.code) x.0 x.1 f args (worlds xs ys zs modules heap printed traces)
object_opened_same None f args ws = begun_by_runner_same f args ws

opened_same : (f : Value) (args : List Value) {w : SourceWorld} {z : CoreWorld} → LoweredWorld w z → Follow (opened_by_runner source_semantics f args (start w)) (opened_by_runner core f args (start z))
opened_same (val.Ref id) args (worlds xs ys zs modules heap printed traces) = object_opened_same (function_and heap args (slice_get heap id.at)) (val.Ref id) args (worlds xs ys zs modules heap printed traces)
opened_same val.None args ws = begun_by_runner_same val.None args ws
opened_same (val.Bool b) args ws = begun_by_runner_same (val.Bool b) args ws
opened_same (val.Int n) args ws = begun_by_runner_same (val.Int n) args ws

pub begins_same : (w : SourceWorld) (z : CoreWorld) → LoweredWorld w z → (f : Value) (args : List Value) (budget : ℕ) → SameBegun (source_begin f args budget w) (core_begin f args budget z)
begins_same w z ws f args budget = run_begun budget _ _ (opened_same f args ws)

-- RESUMPTIONS
sent_same : (sent : Sent) (a : Locals) {w : SourceWorld} {z : CoreWorld} → LoweredWorld w z → Ends (sent_end sent (state a [] w)) (sent_end sent (state a [] z))
sent_same (SentValue v) a ws = gave v (states a [] ws)
sent_same (SentThrow t) a ws = alike.raised t.exc t.trace (states a [] ws)

resumed_same : (p : Site) (a : Locals) {l : List s.SourceLayer} {m : List c.Layer} → LoweredRest l m → (sent : Sent) {w : SourceWorld} {z : CoreWorld} → LoweredWorld w z → Follow (resumed source_semantics (frozen_from l p a) sent w) (resumed core (frozen_from m p a) sent z)
resumed_same p a h sent ws = (meanings_same.remains _ _ h).does p (sent_same sent a ws) _ _ (λ o q n. part.call_end_same Lowering (states [] [] ws) n)

resumed_by_same : {x : Option (Frozen (List s.SourceLayer))} {y : Option (Frozen (List c.Layer))} → FrameAlike x y → (n : ℕ) (sent : Sent) (budget : ℕ) {w : SourceWorld} {z : CoreWorld} → LoweredWorld w z → SameBegun (resumed_by source_semantics x n sent budget w) (resumed_by core y n sent budget z)
resumed_by_same absent n sent budget ws = over_same _ _ (refl, ws)
resumed_by_same (present p a h) n sent budget ws = run_begun budget _ _ (resumed_same p a h sent (abandoned n ws))

resumes_from : (n : ℕ) (sent : Sent) (budget : ℕ) {w : SourceWorld} {z : CoreWorld} → LoweredWorld w z → SameBegun (source_resume n sent budget w) (core_resume n sent budget z)
resumes_from n sent budget (worlds xs ys zs modules heap printed traces) = resumed_by_same (frame_found zs n) n sent budget (worlds xs ys zs modules heap printed traces)

pub resumes_same : (w : SourceWorld) (z : CoreWorld) → LoweredWorld w z → (n : ℕ) (sent : Sent) (budget : ℕ) → SameBegun (source_resume n sent budget w) (core_resume n sent budget z)
resumes_same w z ws n sent budget = resumes_from n sent budget ws
