-- What follows the frames that go on.
use Rattle.std.proofs.Common.{◌≡◌, ◌∙◌, ℕ, List, [], ◌∷◌, ◌++◌, None, refl, sym, ap, drop}
use mathlib.Core.Path.{fun_ext}
use Rattle.std.specs.declared.alloc.Global.{Global}
use Rattle.std.specs.declared.rc.Rc.{Rc}
use Rattle.run_tree.specs.Todo.{Done}
use Rattle.machine_state.specs.py_core.Blocks.{stmts_in}
use Rattle.machine_state.specs.py_core.declared.stmt.CoreBlock.{CoreBlock}
use Rattle.machine_state.specs.py_core.declared.stmt.CoreGuard.{CoreGuard}
use Rattle.machine_state.specs.py_core.declared.stmt.CoreUse.{CoreUse}
use Rattle.machine_state.specs.py_world.Outcome.{Gave, Next, Returned, Broke, Continued, Raised, call_end, on_next}
use Rattle.machine_state.specs.py_world.Runs.{start}
use Rattle.machine_state.specs.py_world.Site.{Site, site}
use Rattle.machine_state.specs.py_world.Statements.{received}
use Rattle.machine_state.specs.py_world.World.{state}
use Rattle.machine_state.specs.core_meaning.Meaning.{CoreWorld}
use Rattle.machine_state.specs.core_meaning.Requests.{Layer, Statements, Guard, Receives}
use Rattle.machine_state.specs.core_meaning.Statements.{block_from, guard, remains, use_of}
use Rattle.machine_state.specs.declared.place.Location.{Location}
use Rattle.machine_state.specs.declared.place.Place.{Place}
use Rattle.machine_state.specs.declared.frame.CallerFrame.{CallerFrame}
use Rattle.machine_state.specs.declared.frame.FlowFrame.{FlowFrame}
use Rattle.machine_state.specs.declared.frame.FlowFrame.TheVariants as flow
use Rattle.machine_state.specs.declared.frame.Frame.{Frame}
use Rattle.machine_state.specs.declared.frame.Frame.TheVariants as on
use Rattle.machine_state.specs.declared.frame.ModuleFrame.{ModuleFrame}
use Rattle.machine_state.specs.declared.frame.ModuleFrame.TheVariants as loads
use Rattle.machine_state.specs.declared.frame.SimpleFrame.{SimpleFrame}
use Rattle.machine_state.specs.declared.frame.SimpleFrame.TheVariants as simple
use Rattle.machine_state.specs.declared.frame.UnwindFrame.{UnwindFrame}
use Rattle.machine_state.specs.declared.frame.UnwindFrame.TheVariants as unwind
use Rattle.machine_state.specs.Places.{CoreOutcome, CoreThen, no_world, scene_in, site_of}
use Rattle.machine_state.specs.Frames.{after_stack, handled_exception, layers_flow, layers_in, layers_module, layers_of, layers_simple, layers_unwind, outer_of}
use Rattle.machine_state.specs.Kept.{flow_part, frames_kept, kept_in, module_part, part_of, simple_part, unwind_part}
use Rattle.machine_frames.specs.Remaining.{IsRemainder}

-- the end of a call by the runner, whatever the world is
ends_so : (w : CoreWorld) (o : CoreOutcome) → call_end (state [] [] no_world) o ≡ call_end (start w) o
ends_so w (Gave v s) = refl
ends_so w (Next s) = refl
ends_so w (Returned v s) = refl
ends_so w (Broke s) = refl
ends_so w (Continued s) = refl
ends_so w (Raised e trace s) = refl

module _ (at : Place) (around line : ℕ) (k : CoreThen) where
  abbrev here : ℕ → Location
  here n = record { place = at; around = around; line = n }

  abbrev p : Site
  p = site (scene_in at around [] None) line

  -- what follows these frames is what remains of a body; they have nothing around them, and nothing is handled there
  record Below (below : List Frame) (ls : List Layer) : Type 0 where
    layers : layers_of below ≡ ls
    outer : outer_of below ≡ []
    handling : handled_exception below ≡ None
    goes : (n : ℕ) (o : CoreOutcome) → after_stack below (here n) o ≡ remains ls p o k

  follows : {below : List Frame} {ls : List Layer} → Below below ls → (n : ℕ) → after_stack below (here n) ≡ (λ o. remains ls p o k)
  follows h n = fun_ext (h.goes n)

  -- frames that are kept
  block_below : {below : List Frame} {ls : List Layer} → Below below ls → (b : Rc CoreBlock Global) (i n : ℕ) → Below (on.Flow (flow.Block b i n) ∷ below) (Statements b.value i ∷ ls)
  block_below h b i n = record {
    layers = ap (λ ls. Statements b.value i ∷ ls) h.layers;
    outer = h.outer;
    handling = h.handling;
    goes = λ m o j. on_next o (follows h n j) (λ s. block_from (h.layers j) b.value i (drop i (stmts_in b.value)) (site_of (here n) (h.outer j) (h.handling j)).scene s (follows h n j));
  }

  guard_below : {below : List Frame} {ls : List Layer} → Below below ls → (g : Rc CoreGuard Global) (n : ℕ) → Below (on.Unwind (unwind.Guarded g n) ∷ below) (Guard g.value n ∷ ls)
  guard_below h g n = record {
    layers = ap (λ ls. Guard g.value n ∷ ls) h.layers;
    outer = h.outer;
    handling = h.handling;
    goes = λ m o j. guard (h.layers j) g.value (site_of (here n) (h.outer j) (h.handling j)) o (follows h n j);
  }

  receive_below : {below : List Frame} {ls : List Layer} → Below below ls → (u : Rc CoreUse Global) → Below (on.Simple (simple.Receive u line) ∷ below) (Receives u.value ∷ ls)
  receive_below h u = record {
    layers = ap (λ ls. Receives u.value ∷ ls) h.layers;
    outer = h.outer;
    handling = h.handling;
    goes = λ m o j. received (use_of u.value) (site_of (here line) (h.outer j) (h.handling j)) o (follows h line j);
  }

  -- each frame, over others and the last ones
  module _ (tail : List Frame) (t : Below tail []) (gs : List Frame) (ls : List Layer) (h : Below (gs ++ tail) ls) where
    simple_below : (f : SimpleFrame) → Below (kept_in (simple_part f) line (on.Simple f) gs ++ tail) (layers_simple f ls)
    simple_below simple.Forget = h
    simple_below (simple.Assign ts) = h
    simple_below (simple.Targets ts i v) = h
    simple_below (simple.Augment x op place) = h
    simple_below (simple.Store place) = h
    simple_below simple.Raise = h
    simple_below simple.Throw = h
    simple_below simple.Return = h
    simple_below simple.Fail = h
    simple_below (simple.Explain e) = h
    simple_below (simple.Yield u) = h
    simple_below (simple.Receive u n) = receive_below h u

    flow_below : (f : FlowFrame) → Below (kept_in (flow_part f) line (on.Flow f) gs ++ tail) (layers_flow f ls)
    flow_below (flow.Branch body branches i other n) = h
    flow_below (flow.Block b i n) = block_below h b i n
    flow_below (flow.Test test body) = h
    flow_below (flow.Turn test body n) = t
    flow_below (flow.Iterable x body) = h
    flow_below (flow.Taken x body next) = h
    flow_below (flow.ForTurn x body next n) = t
    flow_below (flow.Context name body) = h
    flow_below (flow.Raises r info n) = t

    unwind_below : (f : UnwindFrame) → Below (kept_in (unwind_part f) line (on.Unwind f) gs ++ tail) (layers_unwind f ls)
    unwind_below (unwind.Guarded g n) = guard_below h g n
    unwind_below (unwind.Catch g i) = h
    unwind_below (unwind.Handling e trace) = h
    unwind_below (unwind.Named name) = h
    unwind_below (unwind.Last g) = h
    unwind_below (unwind.Again e) = h

    module_below : (f : ModuleFrame) → Below (kept_in (module_part f) line (on.Module f) gs ++ tail) (layers_module f ls)
    module_below (loads.Load path i) = t
    module_below (loads.Import dotted n name) = h
    module_below (loads.From dotted n all) = h
    module_below (loads.Each m dotted all i n) = h

    frame_below : (f : Frame) → Below (kept_in (part_of f) line f gs ++ tail) (layers_in f ls)
    frame_below (on.Operand f) = h
    frame_below (on.Chain f) = h
    frame_below (on.Call f) = h
    frame_below (on.Item f) = h
    frame_below (on.Simple f) = simple_below f
    frame_below (on.Target f) = h
    frame_below (on.Flow f) = flow_below f
    frame_below (on.Unwind f) = unwind_below f
    frame_below (on.Define f) = h
    frame_below (on.Module f) = module_below f
    frame_below (on.Caller c) = t
    frame_below (on.New v) = t

  all_below : (tail : List Frame) → Below tail [] → (fs : List Frame) → Below (frames_kept line fs ++ tail) (layers_of fs)
  all_below tail t [] = t
  all_below tail t (f ∷ fs) = frame_below tail t (frames_kept line fs) (layers_of fs) (all_below tail t fs) f

-- the end of a call by the runner, which has nothing below it
last_below : (at : Place) (around line : ℕ) (w : CoreWorld) (c : CallerFrame) → c.from ≡ None → c.locals ≡ [] → c.temps.items ≡ [] → Below at around line (λ o. Done (call_end (start w) o)) (on.Caller c ∷ []) []
last_below at around line w c none locals temps = record {
  layers = refl;
  outer = rw none refl;
  handling = refl;
  goes = λ n o. rw (locals, temps) (ap Done (ends_so w o));
}

-- THE FRAMES THAT GO ON, over that end
pub go_on : (own fs : List Frame) (line : ℕ) (c : CallerFrame) → own ≡ fs ++ on.Caller c ∷ [] → frames_kept line fs ≡ fs → c.from ≡ None → c.locals ≡ [] → c.temps.items ≡ [] → IsRemainder own line (layers_of fs)
go_on own fs line c is kept none locals temps h o w =
    ap (λ (xs : List Frame). after_stack xs h o) (is ∙ ap (λ (xs : List Frame). xs ++ on.Caller c ∷ []) (sym kept))
    ∙ (all_below h.place h.around line (λ o. Done (call_end (start w) o)) (on.Caller c ∷ []) (last_below h.place h.around line w c none locals temps) fs).goes h.line o
