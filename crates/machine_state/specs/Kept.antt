-- Which frames of a body that has stopped go on.
use Rattle.std.specs.Prelude.{◌≡◌, ℕ, List, [], ◌∷◌, Option, Some, None, ⊤}
use Rattle.machine_state.specs.declared.frame.FlowFrame.{FlowFrame}
use Rattle.machine_state.specs.declared.frame.FlowFrame.TheVariants as flow
use Rattle.machine_state.specs.declared.frame.Frame.{Frame}
use Rattle.machine_state.specs.declared.frame.Frame.TheVariants as on
use Rattle.machine_state.specs.declared.frame.ModuleFrame.{ModuleFrame}
use Rattle.machine_state.specs.declared.frame.ModuleFrame.TheVariants as loads
use Rattle.machine_state.specs.declared.frame.SimpleFrame.{SimpleFrame}
use Rattle.machine_state.specs.declared.frame.SimpleFrame.TheVariants as simple
use Rattle.machine_state.specs.declared.frame.UnwindFrame.{UnwindFrame}
use Rattle.machine_state.specs.declared.frame.UnwindFrame.TheVariants as unwind
use Rattle.machine_state.specs.declared.parts.Part.{Part}
use Rattle.machine_state.specs.declared.parts.Part.TheVariants.{Kept, Passed, Ended}
use Rattle.machine_state.specs.Stacks.{FrozenFrame}

-- what stands behind a statement in one of the blocks around it is kept, and what has nothing around it ends the body
abbrev pub simple_part : SimpleFrame → Part
simple_part simple.Forget = Passed
simple_part (simple.Assign ts) = Passed
simple_part (simple.Targets ts at v) = Passed
simple_part (simple.Augment x op place) = Passed
simple_part (simple.Store place) = Passed
simple_part simple.Raise = Passed
simple_part simple.Throw = Passed
simple_part simple.Return = Passed
simple_part simple.Fail = Passed
simple_part (simple.Explain e) = Passed
simple_part (simple.Yield u) = Passed
simple_part (simple.Receive u line) = Kept

abbrev pub flow_part : FlowFrame → Part
flow_part (flow.Branch body branches at other line) = Passed
flow_part (flow.Block b at line) = Kept
flow_part (flow.Test test body) = Passed
flow_part (flow.Turn test body line) = Ended
flow_part (flow.Iterable t body) = Passed
flow_part (flow.Taken t body next) = Passed
flow_part (flow.ForTurn t body next line) = Ended
flow_part (flow.Context name body) = Passed
flow_part (flow.Raises r info line) = Ended

abbrev pub unwind_part : UnwindFrame → Part
unwind_part (unwind.Guarded g line) = Kept
unwind_part (unwind.Catch g at) = Passed
unwind_part (unwind.Handling e trace) = Passed
unwind_part (unwind.Named name) = Passed
unwind_part (unwind.Last g) = Passed
unwind_part (unwind.Again e) = Passed

abbrev pub module_part : ModuleFrame → Part
module_part (loads.Load path at) = Ended
module_part (loads.Import dotted n name) = Passed
module_part (loads.From dotted n all) = Passed
module_part (loads.Each m dotted all i n) = Passed

abbrev pub part_of : Frame → Part
part_of (on.Operand f) = Passed
part_of (on.Chain f) = Passed
part_of (on.Call f) = Passed
part_of (on.Item f) = Passed
part_of (on.Simple f) = simple_part f
part_of (on.Target f) = Passed
part_of (on.Flow f) = flow_part f
part_of (on.Unwind f) = unwind_part f
part_of (on.Define f) = Passed
part_of (on.Module f) = module_part f
part_of (on.Caller c) = Ended
part_of (on.New v) = Ended

-- what a `yield` is given is used on the line on which the body stopped
abbrev pub received_on : ℕ → Frame → Frame
received_on n (on.Simple (simple.Receive u line)) = on.Simple (simple.Receive u n)
received_on n (on.Simple simple.Forget) = on.Simple simple.Forget
received_on n (on.Simple (simple.Assign ts)) = on.Simple (simple.Assign ts)
received_on n (on.Simple (simple.Targets ts at v)) = on.Simple (simple.Targets ts at v)
received_on n (on.Simple (simple.Augment x op place)) = on.Simple (simple.Augment x op place)
received_on n (on.Simple (simple.Store place)) = on.Simple (simple.Store place)
received_on n (on.Simple simple.Raise) = on.Simple simple.Raise
received_on n (on.Simple simple.Throw) = on.Simple simple.Throw
received_on n (on.Simple simple.Return) = on.Simple simple.Return
received_on n (on.Simple simple.Fail) = on.Simple simple.Fail
received_on n (on.Simple (simple.Explain e)) = on.Simple (simple.Explain e)
received_on n (on.Simple (simple.Yield u)) = on.Simple (simple.Yield u)
received_on n (on.Operand f) = on.Operand f
received_on n (on.Chain f) = on.Chain f
received_on n (on.Call f) = on.Call f
received_on n (on.Item f) = on.Item f
received_on n (on.Target f) = on.Target f
received_on n (on.Flow f) = on.Flow f
received_on n (on.Unwind f) = on.Unwind f
received_on n (on.Define f) = on.Define f
received_on n (on.Module f) = on.Module f
received_on n (on.Caller c) = on.Caller c
received_on n (on.New v) = on.New v

abbrev pub kept_in : Part → ℕ → Frame → List Frame → List Frame
kept_in Kept n f below = received_on n f ∷ below
kept_in Passed n f below = below
kept_in Ended n f below = []

-- THE FRAMES THAT GO ON of a body that stopped on a line, the innermost first
abbrev pub frames_kept : ℕ → List Frame → List Frame
frames_kept n [] = []
frames_kept n (f ∷ fs) = kept_in (part_of f) n f (frames_kept n fs)

-- of a frozen frame those frames alone are there
abbrev pub IsKept : Option FrozenFrame → Type 0
IsKept (Some f) = frames_kept f.body.here.line f.stack ≡ f.stack
IsKept None = ⊤

abbrev pub AreKept : List (Option FrozenFrame) → Type 0
AreKept [] = ⊤
AreKept (f ∷ fs) = IsKept f × AreKept fs
