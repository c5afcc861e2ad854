-- The begin of a body that yields, and its resumption, keep their world.
use Rattle.std.proofs.Common.{◌≡◌, ℕ, zero, suc, ◌-◌, List, [], ◌∷◌, ◌++◌, length, Option, Some, None, Bool, true, false, refl, sym, ap}
use Rattle.std.specs.Prelude.{slice_get, slice_set, cond, Result, Ok, Err}
use Rattle.run_tree.specs.Todo.{Done}
use Rattle.run_tree.specs.Todo as tree
use Rattle.run_tree.specs.Kept as kept
use Rattle.run_tree.proofs.KeptRuns.{run_kept}
use Rattle.py_values.specs.declared.end.Raise.{Raise}
use Rattle.py_values.specs.declared.object.FunctionObj.{FunctionObj}
use Rattle.py_values.specs.declared.value.Value.{Value}
use Rattle.py_values.specs.declared.value.Value.TheVariants as val
use Rattle.source_meaning.specs.py_world.declared.trace.TraceFrame.{TraceFrame}
use Rattle.source_meaning.specs.py_world.World.{Locals, FunctionCode, Frozen, state, world_with_frozen}
use Rattle.source_meaning.specs.py_world.Site.{no_call, frame}
use Rattle.source_meaning.specs.py_world.Outcome.{Outcome, Exhaustion, Suspension, Rest, call_end}
use Rattle.source_meaning.specs.py_world.Calls.{body_of}
use Rattle.source_meaning.specs.py_world.Runs.{Told, told_by, ended_by, ended_spent, start, function_and, begun_by_runner}
use Rattle.source_meaning.specs.py_world.Resuming.{Sent, SentValue, SentThrow, ToldBegun, frame_at, frozen_at, frozen_body, abandon_of, begun_over, begun_yielded, begun_by, sent_end, begin_arguments, begun_of, body_begun, function_opened, object_opened, opened_by_runner, resumed, resumed_by}
use Rattle.source_meaning.specs.Requests.{source_kinds, SourceLayer, Function}
use Rattle.source_meaning.specs.Statements.{source_entry}
use Rattle.source_meaning.specs.Meaning.{SourceWorld, source_semantics, source_begin, source_resume}
use Rattle.core_rules.specs.Keeps.{IsKeptIn, IsKeptBehind}
use Rattle.core_rules.proofs.Keeping as keep
use Rattle.core_rules.proofs.SourceKeeping.{entry_kept as source_entries, source_kept}
use Rattle.core_rules.proofs.SourceRuns as runs
use Rattle.core_rules.proofs.SourceRuns.{SourceEnding}
use Rattle.core_rules.proofs.Worlds.{IsRunFrom, Fresh, run_from, run_from-refl, run_kept_in, spent_kept_in}

-- whatever frozen frames are out
refrozen : (w x : SourceWorld) → IsKeptIn w x → IsKeptIn w (world_with_frozen w.frozen x)
refrozen w x h = record { sources = h.sources; frozen = refl; objects = h.objects; codes = h.codes; printed = h.printed; loaded = h.loaded; failed = h.failed; known = h.known }

-- a run from a world
module _ (w : SourceWorld) where
  abbrev Kept : Rest source_kinds → Type 0
  Kept = keep.Kept (IsRunFrom w) (Fresh w) (run_from w)

  spent_told : (budget : ℕ) (x : Exhaustion source_kinds) → IsRunFrom w x.state.world → IsKeptIn w (told_by budget (tree.Spent x)).1
  spent_told budget x g = spent_kept_in budget x.trace w x.state.world (run_kept_in w x.state.world g)

  ended_told : (o : Outcome source_kinds) (steps : ℕ) → keep.GoodEnd (IsRunFrom w) (Fresh w) (run_from w) o → IsKeptIn w (ended_by o steps).1
  ended_told o steps g = runs.ended_kept (IsRunFrom w) (IsKeptIn w) (Fresh w) (run_from w) (run_kept_in w) spent_told o steps g

  over_behind : (t : Told source_kinds) → IsKeptIn w t.1 → IsKeptBehind w w.frozen (begun_over t)
  over_behind t h = record { kept = refrozen w t.1 h; frames = h.frozen }

  yielded_behind : (f : Suspension source_kinds) (steps : ℕ) → IsRunFrom w f.state.world → IsKeptBehind w w.frozen (begun_yielded f steps)
  yielded_behind f steps g =
      let h : IsKeptIn w f.state.world = run_kept_in w f.state.world g in
      record {
        kept = record { sources = h.sources; frozen = refl; objects = h.objects; codes = h.codes; printed = h.printed; loaded = h.loaded; failed = h.failed; known = h.known };
        frames = (frozen_body f, ap length h.frozen, ap (λ (fs : List (Option (Frozen (List SourceLayer)))). fs ++ Some (frozen_body f) ∷ []) h.frozen);
      }

  behind : (budget : ℕ) (e : SourceEnding) → kept.KeptEnding (keep.GoodSpent (IsRunFrom w) (Fresh w) (run_from w)) (keep.GoodRequest (IsRunFrom w) (Fresh w) (run_from w)) (keep.GoodEnd (IsRunFrom w) (Fresh w) (run_from w)) (keep.GoodPaused (IsRunFrom w) (Fresh w) (run_from w)) e → IsKeptBehind w w.frozen (begun_by budget e)
  behind budget (tree.Ended o left) g = over_behind (ended_by o (budget - left)) (ended_told o (budget - left) g)
  behind budget (tree.Spent x) g = over_behind (ended_spent budget x) (spent_told budget x g)
  behind budget (tree.Frozen f left) g = yielded_behind f (budget - left) g

  run_behind : (budget : ℕ) (t : Rest source_kinds) → Kept t → IsKeptBehind w w.frozen (begun_of source_semantics budget t)
  run_behind budget t h = behind budget _ (run_kept _ _ _ _ (body_of source_semantics) (keep.requests_kept (IsRunFrom w) (Fresh w) (run_from w) source_semantics (source_kept (IsRunFrom w) (Fresh w) (run_from w))) budget t h)

  -- a begin
  called_kept : (f : Value) (args : List Value) → Kept (begun_by_runner source_semantics f args (start w))
  called_kept f args = runs.begun_kept (IsRunFrom w) (IsKeptIn w) (Fresh w) (run_from w) (run_kept_in w) spent_told f args w (run_from-refl w)

  body_kept : (st : FunctionCode Function) (r : Result Locals Raise) (at : List TraceFrame) → Kept (body_begun source_semantics st r at (start w))
  body_kept st (Ok names) at = keep.entered_kept (IsRunFrom w) (Fresh w) (run_from w) source_entry (source_entries (IsRunFrom w) (Fresh w) (run_from w)) st (Ok names) no_call (start w) (run_from-refl w) (λ o. Done (call_end (start w) o)) (λ o d. keep.call_end_kept (IsRunFrom w) (Fresh w) (run_from w) (start w) o d)
  body_kept st (Err r) at = keep.raised_kept (IsRunFrom w) (Fresh w) (run_from w) r at (start w) (run_from-refl w)

  kept_cond : (b : Bool) (t u : Rest source_kinds) → Kept t → Kept u → Kept (cond b t u)
  kept_cond true t u h g = h
  kept_cond false t u h g = g

  function_kept : (c : Option (FunctionCode Function)) (x : FunctionObj) (all : List Value) (f : Value) (args : List Value) → Kept (function_opened source_semantics c x all f args (start w))
  function_kept None x all f args = called_kept f args
  function_kept (Some st) x all f args = kept_cond x.yields _ _ (body_kept st (begin_arguments x all) (frame x.path x.line x.name ∷ [])) (called_kept f args)

  object_kept : (o : Option (FunctionObj × List Value)) (f : Value) (args : List Value) → Kept (object_opened source_semantics o f args (start w))
  object_kept (Some x) f args = function_kept (slice_get w.codes x.0.code) x.0 x.1 f args
  object_kept None f args = called_kept f args

  opened_kept : (f : Value) (args : List Value) → Kept (opened_by_runner source_semantics f args (start w))
  opened_kept (val.Ref id) args = object_kept (function_and w.heap args (slice_get w.heap id.at)) (val.Ref id) args
  opened_kept val.None args = called_kept val.None args
  opened_kept (val.Bool b) args = called_kept (val.Bool b) args
  opened_kept (val.Int n) args = called_kept (val.Int n) args

  -- a resumption
  sent_good : (sent : Sent) (locals : Locals) → keep.GoodEnd (IsRunFrom w) (Fresh w) (run_from w) (sent_end sent (state locals [] w))
  sent_good (SentValue v) locals = run_from-refl w
  sent_good (SentThrow t) locals = run_from-refl w

  remains_kept : (rest : List SourceLayer) → keep.AfterKept (IsRunFrom w) (Fresh w) (run_from w) (source_semantics.remains rest)
  remains_kept rest = let m : keep.MeaningKept (IsRunFrom w) (Fresh w) (run_from w) source_semantics = source_kept (IsRunFrom w) (Fresh w) (run_from w) in m.remains rest

  resumed_kept : (f : Frozen (List SourceLayer)) (sent : Sent) → Kept (resumed source_semantics f sent w)
  resumed_kept f sent = (remains_kept f.rest).does f.site (sent_end sent (state f.locals [] w)) (sent_good sent f.locals) (λ o. Done (call_end (start w) o)) (λ o d. keep.call_end_kept (IsRunFrom w) (Fresh w) (run_from w) (start w) o d)

-- BEGINS
pub begins_keep : (w : SourceWorld) (f : Value) (args : List Value) (budget : ℕ) → IsKeptBehind w w.frozen (source_begin f args budget w)
begins_keep w f args budget = run_behind w budget _ (opened_kept w f args)

-- RESUMPTIONS
set_absent : (fs : List (Option (Frozen (List SourceLayer)))) (n : ℕ) → frame_at (slice_get fs n) ≡ None → slice_set fs n None ≡ fs
set_absent [] n h = refl
set_absent (None ∷ fs) zero h = refl
set_absent (Some f ∷ fs) zero h = absurd cc
set_absent (f ∷ fs) (suc n) h = ap (λ (gs : List (Option (Frozen (List SourceLayer)))). f ∷ gs) (set_absent fs n h)

-- the frame that goes on isn't out any more
from_abandoned : (w : SourceWorld) (n : ℕ) (t : ToldBegun source_kinds) → IsKeptBehind (abandon_of n w) (abandon_of n w).frozen t → IsKeptBehind w (abandon_of n w).frozen t
from_abandoned w n t h =
    let k : IsKeptIn (abandon_of n w) (world_with_frozen (abandon_of n w).frozen t.1) = h.kept in
    record { kept = record { sources = k.sources; frozen = refl; objects = k.objects; codes = k.codes; printed = k.printed; loaded = k.loaded; failed = k.failed; known = k.known }; frames = h.frames }

resumes_by : (w : SourceWorld) (f : Option (Frozen (List SourceLayer))) (n : ℕ) (sent : Sent) (budget : ℕ) → frozen_at n w ≡ f → IsKeptBehind w (abandon_of n w).frozen (resumed_by source_semantics f n sent budget w)
resumes_by w None n sent budget is = record { kept = refrozen w w (run_kept_in w w (run_from-refl w)); frames = sym (set_absent w.frozen n is) }
resumes_by w (Some f) n sent budget is = from_abandoned w n _ (run_behind (abandon_of n w) budget _ (resumed_kept (abandon_of n w) f sent))

pub resumes_keep : (w : SourceWorld) (n : ℕ) (sent : Sent) (budget : ℕ) → IsKeptBehind w (abandon_of n w).frozen (source_resume n sent budget w)
resumes_keep w n sent budget = resumes_by w (frozen_at n w) n sent budget refl
