-- Tapes of sources and of core code are the same.
use Rattle.std.proofs.Common.{◌≡◌, ℕ, zero, suc, List, [], ◌∷◌, Option, Some, None, refl, sym}
use Rattle.std.specs.Prelude.{slice_get, Result, Ok, Err}
use Rattle.std.proofs.Math.Logic.{∥∥₁_elim}
use Rattle.run_tree.specs.Todo.{Done}
use Rattle.py_values.specs.declared.end.Raise.{Raise}
use Rattle.py_values.specs.declared.object.FunctionObj.{FunctionObj}
use Rattle.py_values.specs.declared.value.Value.{Value}
use Rattle.py_values.specs.declared.value.Value.TheVariants as val
use Rattle.lower_law.specs.core_meaning.py_core.declared.stmt.Core.{Core}
use Rattle.lower_law.specs.core_meaning.py_core.declared.stmt.CoreFn.{CoreFn}
use Rattle.lower_law.specs.py_world.declared.load.Load.{Load}
use Rattle.lower_law.specs.py_world.declared.trace.TraceFrame.{TraceFrame}
use Rattle.lower_law.specs.py_world.World.{Frozen, Locals, FunctionCode, state}
use Rattle.lower_law.specs.py_world.Site.{Site, no_call, frame}
use Rattle.lower_law.specs.py_world.Outcome.{Rest}
use Rattle.lower_law.specs.py_world.Runs.{start, function_and, load_at, loading}
use Rattle.lower_law.specs.py_world.Resuming.{Sent, SentValue, SentThrow, begin_arguments, body_begun, frame_at, function_opened, object_opened, opened_by_runner, resumed, sent_end}
use Rattle.lower_law.specs.source_meaning.Requests as s
use Rattle.lower_law.specs.source_meaning.Requests.{source_kinds, Function, Script}
use Rattle.lower_law.specs.source_meaning.Meaning.{SourceWorld, source_semantics}
use Rattle.lower_law.specs.core_meaning.Requests as c
use Rattle.lower_law.specs.core_meaning.Requests.{core_kinds}
use Rattle.lower_law.specs.core_meaning.Meaning.{CoreWorld, core}
use Rattle.lower_law.specs.Alike as alike
use Rattle.lower_law.specs.Alike.{FrozenAlike, frozen_from, gave, states, stored_from, worlds}
use Rattle.lower_law.specs.Law.{LoweredCode, LoweredWorld, Lowering}
use Rattle.lower_law.specs.Lowered.{LoweredModule, LoweredRest}
use Rattle.lower_law.specs.View.{Sound, source_view}
use Rattle.lower_law.proofs.Parts as part
use Rattle.lower_law.proofs.Blocks as block
use Rattle.lower_law.proofs.Loads as load
use Rattle.lower_law.proofs.Forms.{Follow, meanings_same}
use Rattle.lower_law.proofs.Keeps.{Ends, begun_by_runner_same, follow_cond, runs_same}
use Rattle.lower_law.proofs.Resumes.{FrameAlike, absent, abandoned, present}
use Rattle.lower_law.proofs.Sets.{tape-set}
use Rattle.tape_law.specs.Tapes.{begin_tape, first_tape, frame_tape, load_tape, resume_tape, tape_by, tape_of}

-- what is left to do alike begins the same
tape_same : (budget : ℕ) (x : Rest source_kinds) (y : Rest core_kinds) → Follow x y → tape_of source_semantics budget x ≡ tape_of core budget y
tape_same budget x y h = (runs_same budget x y h).0

-- LOADS
loading_alike : (path : List ℕ) (b : Script) (code : Core) → LoweredModule b code → {w : SourceWorld} {z : CoreWorld} → LoweredWorld w z → Follow (loading source_semantics path b w) (loading core path code z)
loading_alike path b code h ws = load.executed_same Lowering source_semantics.body core.body meanings_same.bodies path b code h no_call ws (λ o. Done o) (λ o. Done o) (λ o q n. n)

first_same : {b : Option Script} {code : Option Core} → load.CodeFound Lowering b code → (path : List ℕ) (budget : ℕ) {w : SourceWorld} {z : CoreWorld} → LoweredWorld w z → first_tape source_semantics b path budget w ≡ first_tape core code path budget z
first_same load.none path budget ws = refl
first_same (load.some {b = b} {code = code} h) path budget ws = tape_same budget _ _ (loading_alike path b code h ws)

load_same_by : (l : Option Load) (path : List ℕ) (budget : ℕ) {w : SourceWorld} {z : CoreWorld} → LoweredWorld w z → tape_by source_semantics l path budget w ≡ tape_by core l path budget z
load_same_by (Some l) path budget ws = refl
load_same_by None path budget (worlds xs ys zs modules heap printed traces) = first_same (load.code_found Lowering path xs) path budget (worlds xs ys zs modules heap printed traces)

load_same : (path : List ℕ) (budget : ℕ) {w : SourceWorld} {z : CoreWorld} → LoweredWorld w z → load_tape source_semantics path budget w ≡ load_tape core path budget z
load_same path budget (worlds xs ys zs modules heap printed traces) = load_same_by (load_at path modules) path budget (worlds xs ys zs modules heap printed traces)

pub loads : (w : CoreWorld) → Sound w → (path : List ℕ) (budget : ℕ) → load_tape core path budget w ≡ load_tape source_semantics path budget (source_view w)
loads w sound path budget = ∥∥₁_elim sound (tape-set _ _) (λ h. sym (load_same path budget h))

-- BEGINS
body_alike : (path : List ℕ) (home : ℕ) {f : Function} {x : CoreFn} → LoweredCode f x → (r : Result Locals Raise) (at : List TraceFrame) {w : SourceWorld} {z : CoreWorld} → LoweredWorld w z → Follow (body_begun source_semantics (stored_from path home f) r at (start w)) (body_begun core (stored_from path home x) r at (start z))
body_alike path home h (Ok names) at ws = (block.entered_by _ source_semantics.entry core.entry meanings_same.entries h path home (Ok names) no_call).does (states [] [] ws) _ _ (λ o q n. part.call_end_same Lowering (states [] [] ws) n)
body_alike path home h (Err r) at ws = part.raised_same Lowering r at (states [] [] ws)

function_alike : {x : Option (FunctionCode Function)} {y : Option (FunctionCode CoreFn)} → block.FoundAlike Lowering x y → (g : FunctionObj) (all : List Value) (f : Value) (args : List Value) {w : SourceWorld} {z : CoreWorld} → LoweredWorld w z → Follow (function_opened source_semantics x g all f args (start w)) (function_opened core y g all f args (start z))
function_alike block.absent g all f args ws = begun_by_runner_same f args ws
function_alike (block.present path home h) g all f args ws = follow_cond g.yields _ _ _ _ (body_alike path home h (begin_arguments g all) (frame g.path g.line g.name ∷ []) ws) (begun_by_runner_same f args ws)

object_alike : (o : Option (FunctionObj × List Value)) (f : Value) (args : List Value) {w : SourceWorld} {z : CoreWorld} → LoweredWorld w z → Follow (object_opened source_semantics o f args (start w)) (object_opened core o f args (start z))
object_alike (Some x) f args (worlds xs ys zs modules heap printed traces) = function_alike (block.found _ ys x.0.code) x.0 x.1 f args (worlds xs ys zs modules heap printed traces)
object_alike None f args ws = begun_by_runner_same f args ws

opened_alike : (f : Value) (args : List Value) {w : SourceWorld} {z : CoreWorld} → LoweredWorld w z → Follow (opened_by_runner source_semantics f args (start w)) (opened_by_runner core f args (start z))
opened_alike (val.Ref id) args (worlds xs ys zs modules heap printed traces) = object_alike (function_and heap args (slice_get heap id.at)) (val.Ref id) args (worlds xs ys zs modules heap printed traces)
opened_alike val.None args ws = begun_by_runner_same val.None args ws
opened_alike (val.Bool b) args ws = begun_by_runner_same (val.Bool b) args ws
opened_alike (val.Int n) args ws = begun_by_runner_same (val.Int n) args ws

pub begins : (w : CoreWorld) → Sound w → (f : Value) (args : List Value) (budget : ℕ) → begin_tape core f args budget w ≡ begin_tape source_semantics f args budget (source_view w)
begins w sound f args budget = ∥∥₁_elim sound (tape-set _ _) (λ h. sym (tape_same budget _ _ (opened_alike f args h)))

-- RESUMPTIONS
frame_alike : {fs : List (Option (Frozen (List s.SourceLayer)))} {gs : List (Option (Frozen (List c.Layer)))} → FrozenAlike Lowering fs gs → (n : ℕ) → FrameAlike (frame_at (slice_get fs n)) (frame_at (slice_get gs n))
frame_alike alike.none n = absent
frame_alike (alike.taken hs) zero = absent
frame_alike (alike.taken hs) (suc n) = frame_alike hs n
frame_alike (alike.more p a h hs) zero = present p a h
frame_alike (alike.more p a h hs) (suc n) = frame_alike hs n

sent_alike : (sent : Sent) (a : Locals) {w : SourceWorld} {z : CoreWorld} → LoweredWorld w z → Ends (sent_end sent (state a [] w)) (sent_end sent (state a [] z))
sent_alike (SentValue v) a ws = gave v (states a [] ws)
sent_alike (SentThrow t) a ws = alike.raised t.exc t.trace (states a [] ws)

resumed_alike : (p : Site) (a : Locals) {l : List s.SourceLayer} {m : List c.Layer} → LoweredRest l m → (sent : Sent) {w : SourceWorld} {z : CoreWorld} → LoweredWorld w z → Follow (resumed source_semantics (frozen_from l p a) sent w) (resumed core (frozen_from m p a) sent z)
resumed_alike p a h sent ws = (meanings_same.remains _ _ h).does p (sent_alike sent a ws) _ _ (λ o q n. part.call_end_same Lowering (states [] [] ws) n)

frame_same : {x : Option (Frozen (List s.SourceLayer))} {y : Option (Frozen (List c.Layer))} → FrameAlike x y → (n : ℕ) (sent : Sent) (budget : ℕ) {w : SourceWorld} {z : CoreWorld} → LoweredWorld w z → frame_tape source_semantics x n sent budget w ≡ frame_tape core y n sent budget z
frame_same absent n sent budget ws = refl
frame_same (present p a h) n sent budget ws = tape_same budget _ _ (resumed_alike p a h sent (abandoned n ws))

resume_same : (n : ℕ) (sent : Sent) (budget : ℕ) {w : SourceWorld} {z : CoreWorld} → LoweredWorld w z → resume_tape source_semantics n sent budget w ≡ resume_tape core n sent budget z
resume_same n sent budget (worlds xs ys zs modules heap printed traces) = frame_same (frame_alike zs n) n sent budget (worlds xs ys zs modules heap printed traces)

pub resumes : (w : CoreWorld) → Sound w → (n : ℕ) (sent : Sent) (budget : ℕ) → resume_tape core n sent budget w ≡ resume_tape source_semantics n sent budget (source_view w)
resumes w sound n sent budget = ∥∥₁_elim sound (tape-set _ _) (λ h. sym (resume_same n sent budget h))
