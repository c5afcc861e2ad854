-- The frames of a body that has stopped, one after another.
use Rattle.std.proofs.Common.{◌≡◌, ◌∙◌, ℕ, zero, suc, List, [], ◌∷◌, ◌++◌, refl, ap, sym, subst, get_or, set, Option, Some, None}
use Rattle.frame_stacks.specs.Stacked.{ThawedFrom}
use Rattle.std.specs.Prelude.{Result, Ok, Err, OnOk, OnErr}
use Rattle.std.proofs.lemmas.List.{append_assoc}
use Rattle.core_meaning.specs.Requests.{Layer}
use Rattle.machine_state.specs.declared.frame.FlowFrame.{FlowFrame}
use Rattle.machine_state.specs.declared.frame.FlowFrame.TheVariants as flow
use Rattle.machine_state.specs.declared.frame.Frame.{Frame}
use Rattle.machine_state.specs.declared.frame.Frame.TheVariants as on
use Rattle.machine_state.specs.declared.frame.ModuleFrame.{ModuleFrame}
use Rattle.machine_state.specs.declared.frame.ModuleFrame.TheVariants as loads
use Rattle.machine_state.specs.declared.frame.SimpleFrame.{SimpleFrame}
use Rattle.machine_state.specs.declared.frame.SimpleFrame.TheVariants as simple
use Rattle.machine_state.specs.declared.frame.UnwindFrame.{UnwindFrame}
use Rattle.machine_state.specs.declared.frame.UnwindFrame.TheVariants as unwind
use Rattle.machine_state.specs.declared.parts.Part.TheVariants.{Kept, Passed, Ended}
use Rattle.machine_state.specs.Frames.{layers_flow, layers_in, layers_module, layers_of, layers_simple, layers_unwind}
use Rattle.machine_state.specs.Kept.{flow_part, frames_kept, kept_in, module_part, part_of, received_on, simple_part, unwind_part, AreKept, IsKept}
use Rattle.machine_state.specs.Stacks.{FrozenFrame, StackView}
use Rattle.machine_state.specs.declared.frozen.FrozenBody.{FrozenBody}

module _ (xs : List Frame) (n : ℕ) (f : Frame) where
  pub keeps : part_of f ≡ Kept → (below : List Frame) → (xs ++ received_on n f ∷ []) ++ frames_kept n below ≡ xs ++ frames_kept n (f ∷ below)
  keeps h below = rw h (append_assoc xs (received_on n f ∷ []) (frames_kept n below))

  pub passes : part_of f ≡ Passed → (below : List Frame) → xs ++ frames_kept n below ≡ xs ++ frames_kept n (f ∷ below)
  passes h below = rw h refl

  pub ends : part_of f ≡ Ended → (below : List Frame) → xs ++ [] ≡ xs ++ frames_kept n (f ∷ below)
  ends h below = rw h refl

-- THE FRAMES THAT ARE KEPT are kept again, and have the layers of all
record Again (n : ℕ) (gs : List Frame) (ls : List Layer) : Type 0 where
  same : frames_kept n gs ≡ gs
  layers : layers_of gs ≡ ls

none : (n : ℕ) → Again n [] []
none n = record { same = refl; layers = refl }

module _ (n : ℕ) (gs : List Frame) (ls : List Layer) (h : Again n gs ls) where
  again_simple : (f : SimpleFrame) → Again n (kept_in (simple_part f) n (on.Simple f) gs) (layers_simple f ls)
  again_simple simple.Forget = h
  again_simple (simple.Assign ts) = h
  again_simple (simple.Targets ts i v) = h
  again_simple (simple.Augment x op place) = h
  again_simple (simple.Store place) = h
  again_simple simple.Raise = h
  again_simple simple.Throw = h
  again_simple simple.Return = h
  again_simple simple.Fail = h
  again_simple (simple.Explain e) = h
  again_simple (simple.Yield u) = h
  again_simple (simple.Receive u line) = record { same = ap (λ fs. on.Simple (simple.Receive u n) ∷ fs) h.same; layers = ap (layers_simple (simple.Receive u line)) h.layers }

  again_flow : (f : FlowFrame) → Again n (kept_in (flow_part f) n (on.Flow f) gs) (layers_flow f ls)
  again_flow (flow.Branch body branches i other line) = h
  again_flow (flow.Block b i line) = record { same = ap (λ fs. on.Flow (flow.Block b i line) ∷ fs) h.same; layers = ap (layers_flow (flow.Block b i line)) h.layers }
  again_flow (flow.Test test body) = h
  again_flow (flow.Turn test body line) = none n
  again_flow (flow.Iterable x body) = h
  again_flow (flow.Taken x body next) = h
  again_flow (flow.ForTurn x body next line) = none n
  again_flow (flow.Context name body) = h
  again_flow (flow.Raises r info line) = none n

  again_unwind : (f : UnwindFrame) → Again n (kept_in (unwind_part f) n (on.Unwind f) gs) (layers_unwind f ls)
  again_unwind (unwind.Guarded g line) = record { same = ap (λ fs. on.Unwind (unwind.Guarded g line) ∷ fs) h.same; layers = ap (layers_unwind (unwind.Guarded g line)) h.layers }
  again_unwind (unwind.Catch g i) = h
  again_unwind (unwind.Handling e trace) = h
  again_unwind (unwind.Named name) = h
  again_unwind (unwind.Last g) = h
  again_unwind (unwind.Again e) = h

  again_module : (f : ModuleFrame) → Again n (kept_in (module_part f) n (on.Module f) gs) (layers_module f ls)
  again_module (loads.Load path i) = none n
  again_module (loads.Import dotted k name) = h
  again_module (loads.From dotted k all) = h
  again_module (loads.Each m dotted all i k) = h

  again_frame : (f : Frame) → Again n (kept_in (part_of f) n f gs) (layers_in f ls)
  again_frame (on.Operand f) = h
  again_frame (on.Chain f) = h
  again_frame (on.Call f) = h
  again_frame (on.Item f) = h
  again_frame (on.Simple f) = again_simple f
  again_frame (on.Target f) = h
  again_frame (on.Flow f) = again_flow f
  again_frame (on.Unwind f) = again_unwind f
  again_frame (on.Define f) = h
  again_frame (on.Module f) = again_module f
  again_frame (on.Caller c) = none n
  again_frame (on.New v) = none n

again : (n : ℕ) (fs : List Frame) → Again n (frames_kept n fs) (layers_of fs)
again n [] = none n
again n (f ∷ fs) = again_frame n (frames_kept n fs) (layers_of fs) (again n fs) f

pub kept_again : (n : ℕ) (fs : List Frame) → frames_kept n (frames_kept n fs) ≡ frames_kept n fs
kept_again n fs = (again n fs).same

pub layers_kept : (n : ℕ) (fs : List Frame) → layers_of (frames_kept n fs) ≡ layers_of fs
layers_kept n fs = (again n fs).layers

-- frozen frames of which those alone are there
pub kept_more : (fs : List (Option FrozenFrame)) (f : FrozenFrame) → AreKept fs → IsKept (Some f) → AreKept (fs ++ Some f ∷ [])
kept_more [] f k h = (h, tt)
kept_more (g ∷ fs) f k h = (k.0, kept_more fs f k.1 h)

pub kept_set : (fs : List (Option FrozenFrame)) (n : ℕ) → AreKept fs → AreKept (set fs n None)
kept_set [] n k = tt
kept_set (g ∷ fs) zero k = (tt, k.1)
kept_set (g ∷ fs) (suc n) k = (k.0, kept_set fs n k.1)

pub kept_at : (fs : List (Option FrozenFrame)) (n : ℕ) → AreKept fs → IsKept (get_or fs n None)
kept_at [] n k = tt
kept_at (g ∷ fs) zero k = k.0
kept_at (g ∷ fs) (suc n) k = kept_at fs n k.1

pub kept_thawed : (old new : StackView) (n : ℕ) (result : Option FrozenBody) → AreKept old.frozen → (f : Option FrozenFrame) → ThawedFrom f result n old new → AreKept new.frozen
kept_thawed old new n result k (Some f) t = subst (λ (s : StackView). AreKept s.frozen) (sym t.1) (kept_set old.frozen n k)
kept_thawed old new n result k None t = subst (λ (s : StackView). AreKept s.frozen) (sym t.1) k

-- one more, whose frames are those that are kept of all
pub kept_frozen : (old : List (Option FrozenFrame)) (fs : List Frame) (body : FrozenBody) → AreKept old → AreKept (old ++ Some (record { stack = frames_kept body.here.line fs; body = body }) ∷ [])
kept_frozen old fs body k = kept_more old (record { stack = frames_kept body.here.line fs; body = body }) k (kept_again body.here.line fs)

-- where the last frames are kept frames
pub kept_after : {E : Type 0} (r : Result ℕ E) (mid new : StackView) (fs : List Frame) (body : FrozenBody) → AreKept mid.frozen → mid.own ≡ frames_kept body.here.line fs
    → OnOk r (new ≡ record { own = []; frozen = mid.frozen ++ Some (record { stack = mid.own; body = body }) ∷ [] }) → OnErr r (new ≡ mid) → AreKept new.frozen
kept_after (Ok n) mid new fs body k own ok err =
    subst (λ (s : StackView). AreKept s.frozen) (sym (ok ∙ ap (λ (xs : List Frame). record { own = []; frozen = mid.frozen ++ Some (record { stack = xs; body = body }) ∷ [] }) own)) (kept_frozen mid.frozen fs body k)
kept_after (Err e) mid new fs body k own ok err = subst (λ (s : StackView). AreKept s.frozen) (sym err) k
