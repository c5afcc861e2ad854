-- What holds of exceptions above their definitions.
use Rattle.std.proofs.Common.{◌≡◌, ◌∙◌, ℕ, List, [], ◌∷◌, Bool, true, false, Some, nat_eq, refl, sym, ap}
use Rattle.std.specs.Prelude.{cond}
use Rattle.std.proofs.lemmas.Bool.{eq-eqb}
use Rattle.py_values.specs.declared.value.ObjId.{ObjId}
use Rattle.py_values.specs.declared.value.Value.TheVariants as val
use Rattle.source_meaning.specs.py_world.declared.trace.TraceFrame.{TraceFrame}
use Rattle.source_meaning.specs.py_world.World.{Kinds, CallState, Traces, trace_at, put_trace, with_trace}
use Rattle.source_meaning.specs.py_world.Site.{Site, trace_of}
use Rattle.source_meaning.specs.py_world.Outcome.{Outcome, Gave, Next, Returned, Broke, Continued, Raised, Continuation, Body, on_next}
use Rattle.source_meaning.specs.py_world.Exceptions.{Exception_of, raised_by, first_trace, finally_on}
use Rattle.source_meaning.specs.py_world.Contexts.{info_taken}
use Rattle.core_rules.specs.Exceptions.{state_behind, end_in, scene_behind, trace_told}

-- a trace that is put is found
found_alone : (b : Bool) (at : ℕ) (t : List TraceFrame) → nat_eq at at ≡ b → trace_at at ((at, t) ∷ []) ≡ Some t
found_alone true at t e = rw e refl
found_alone false at t e = absurd (let h : nat_eq at at ≡ true = eq-eqb at at refl in let c : true ≡ false = sym h ∙ e in cc)

found_by : (b : Bool) (at : ℕ) (t : List TraceFrame) (x : ℕ × List TraceFrame) (ts : Traces) → nat_eq at x.0 ≡ b → trace_at at (put_trace at t ts) ≡ Some t → trace_at at (cond b ((x.0, t) ∷ ts) (x ∷ put_trace at t ts)) ≡ Some t
found_by true at t x ts e h = rw e refl
found_by false at t x ts e h = rw e h

pub trace_found : (at : ℕ) (t : List TraceFrame) (ts : Traces) → trace_at at (put_trace at t ts) ≡ Some t
trace_found at t [] = found_alone (nat_eq at at) at t refl
trace_found at t (x ∷ ts) = found_by (nat_eq at x.0) at t x ts refl (trace_found at t ts)

module _ {K : Kinds} where
  -- an exception that is raised again keeps the trace of its first raise
  pub raised_twice : (id : ObjId) (p q : Site) (s : CallState K) → trace_told (raised_by (Exception_of id) q (state_behind (raised_by (Exception_of id) p s))) ≡ trace_told (raised_by (Exception_of id) p s)
  raised_twice id p q s = ap (λ o. Some (first_trace o (trace_of q))) (trace_found id.at (first_trace (trace_at id.at s.world.traces) (trace_of p)) s.world.traces)

  -- and the one with which it was bound
  pub raised_bound : (id : ObjId) (t : List TraceFrame) (p : Site) (s : CallState K) → trace_told (raised_by (Exception_of id) p (with_trace (val.Ref id) t s)) ≡ Some t
  raised_bound id t p s = ap (λ o. Some (first_trace o (trace_of p))) (trace_found id.at t s.world.traces)

  -- and the one with which a `with` took it
  pub raised_taken : (id info : ObjId) (t : List TraceFrame) (p : Site) (s : CallState K) → trace_told (raised_by (Exception_of id) p (info_taken info (val.Ref id) (with_trace (val.Ref id) t s))) ≡ Some t
  raised_taken id info t p s = ap (λ o. Some (first_trace o (trace_of p))) (trace_found id.at t s.world.traces)

  -- the block behind `finally` runs on every way out, and the end before it comes again, unless the block has one of its own
  pub finally_runs : (last : Body K) (p : Site) (o : Outcome K) (k : Continuation K) → finally_on last p o k ≡ last (scene_behind o p.scene) (state_behind o) (λ f. on_next f k (λ s. k (end_in o s)))
  finally_runs last p (Gave v s) k = refl
  finally_runs last p (Next s) k = refl
  finally_runs last p (Returned v s) k = refl
  finally_runs last p (Broke s) k = refl
  finally_runs last p (Continued s) k = refl
  finally_runs last p (Raised e trace s) k = refl
