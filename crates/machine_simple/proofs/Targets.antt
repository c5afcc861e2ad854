-- Targets from a place on.
use Rattle.std.proofs.Common.{◌≡◌, ◌∙◌, ◌+◌, ◌<◌, ◌≤◌, ℕ, List, ◌∷◌, ap, sym, refl, drop, get_or, length}
use Rattle.std.proofs.Math.ListN.{drop_of_length-le}
use Rattle.std.specs.declared.alloc.Global.{Global}
use Rattle.std.specs.declared.rc.Rc.{Rc}
use Rattle.std.specs.declared.vec.Vec.{Vec}
use Rattle.std.specs.List.{sum_by}
use Rattle.std.proofs.lemmas.List.Sums.{sum_by-cons}
use mathlib.Core.Path.{fun_ext}
use Rattle.py_core.specs.declared.stmt.CoreTarget.{CoreTarget}
use Rattle.py_values.specs.declared.value.Value.{Value}
use Rattle.assert_explain.specs.py_world.Outcome.{Gave, Next, Returned, Broke, Continued, Raised, on_next}
use Rattle.assert_explain.specs.py_world.Site.{Site}
use Rattle.assert_explain.specs.py_world.Targets.{store_all}
use Rattle.machine_unwind.specs.core_meaning.Statements.{store, stores}
use Rattle.machine_unwind.specs.machine_state.declared.place.Location.{Location}
use Rattle.machine_unwind.specs.machine_state.declared.frame.Frame.{Frame}
use Rattle.machine_unwind.specs.machine_state.declared.frame.Frame.TheVariants.{Simple}
use Rattle.machine_unwind.specs.machine_state.declared.frame.SimpleFrame.TheVariants.{Targets}
use Rattle.machine_unwind.specs.machine_state.Places.{CoreOutcome, CoreState, CoreThen, site_of}
use Rattle.machine_unwind.specs.machine_state.Frames.{after_stack, handled_exception, outer_of}
use Rattle.machine_unwind.specs.machine_state.Work.{taker_work}
use Rattle.machine_store.proofs.machine_turns_lemmas.Lists.{drop_some}

-- behind the last target nothing is left
handed_on : (k : CoreThen) (o : CoreOutcome) → on_next o k (λ s. k (Next s)) ≡ k o
handed_on k (Gave v s) = refl
handed_on k (Next s) = refl
handed_on k (Returned v s) = refl
handed_on k (Broke s) = refl
handed_on k (Continued s) = refl
handed_on k (Raised e trace s) = refl

stores_some : (ts : List CoreTarget) (at : ℕ) (t : CoreTarget) (v : Value) (p : Site) (s : CoreState) (k : CoreThen) → at < length ts → t ≡ get_or ts at t
    → store t v p s (λ o. on_next o k (λ s. store_all (stores (drop (at + 1) ts)) v p s k)) ≡ store_all (stores (drop at ts)) v p s k
stores_some ts at t v p s k w h = sym (ap (λ (xs : List CoreTarget). store_all (stores xs) v p s k) (drop_some ts at t w h))

-- a target begins, with those behind it
pub next_turns : (h : Location) (fs fs' : List Frame) (ts again : Rc (Vec CoreTarget Global) Global) (at : ℕ) (t : CoreTarget) (v : Value) (s : CoreState)
    → at < length ts.value.items → t ≡ get_or ts.value.items at t → fs' ≡ Simple (Targets again (at + 1) v) ∷ fs → again.value ≡ ts.value
    → store t v (site_of h (outer_of fs') (handled_exception fs')) s (after_stack fs' h) ≡ store_all (stores (drop at ts.value.items)) v (site_of h (outer_of fs) (handled_exception fs)) s (after_stack fs h)
next_turns h fs fs' ts again at t v s w is pushed same =
    rw (pushed, same) (stores_some ts.value.items at t v (site_of h (outer_of fs) (handled_exception fs)) s (after_stack fs h) w is)

pub stores_last : (ts : List CoreTarget) (at : ℕ) (t : CoreTarget) (v : Value) (p : Site) (s : CoreState) (k : CoreThen) → at < length ts → t ≡ get_or ts at t → length ts ≤ at + 1
    → store t v p s k ≡ store_all (stores (drop at ts)) v p s k
stores_last ts at t v p s k w h l =
    ap (store t v p s) (sym (fun_ext (handed_on k)))
    ∙ ap (λ (xs : List CoreTarget). store t v p s (λ o. on_next o k (λ s. store_all (stores xs) v p s k))) (sym (drop_of_length-le ts l))
    ∙ stores_some ts at t v p s k w h

pub stores_none : (ts : List CoreTarget) (at : ℕ) (v : Value) (p : Site) (s : CoreState) (k : CoreThen) → length ts ≤ at → k (Next s) ≡ store_all (stores (drop at ts)) v p s k
stores_none ts at v p s k h = sym (ap (λ (xs : List CoreTarget). store_all (stores xs) v p s k) (drop_of_length-le ts h))

pub takers_weigh : (ts : List CoreTarget) (at : ℕ) (t : CoreTarget) → at < length ts → t ≡ get_or ts at t → sum_by taker_work (drop at ts) ≡ taker_work t + sum_by taker_work (drop (at + 1) ts)
takers_weigh ts at t w h = ap (sum_by taker_work) (drop_some ts at t w h) ∙ sum_by-cons {X = CoreTarget} taker_work t (drop (at + 1) ts)
