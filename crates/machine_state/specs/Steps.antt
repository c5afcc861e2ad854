-- A block goes one statement on.
use Rattle.std.specs.Prelude.{◌≡◌, ◌+◌, ◌<◌, List, [], ◌∷◌, length}
use Rattle.py_core.specs.Blocks.{stmts_in}
use Rattle.machine_state.specs.declared.frame.Frame.{Frame}
use Rattle.machine_state.specs.declared.frame.Frame.TheVariants as on
use Rattle.machine_state.specs.declared.frame.FlowFrame.TheVariants as flow
use Rattle.machine_state.specs.declared.stack.NextStatement.{NextStatement}

-- the frame behind the next statement
abbrev pub stepped : Frame → Frame
stepped (on.Flow (flow.Block b at line)) = on.Flow (flow.Block b (at + 1) line)
stepped (on.Flow (flow.Branch body branches at other line)) = on.Flow (flow.Branch body branches at other line)
stepped (on.Flow (flow.Test test body)) = on.Flow (flow.Test test body)
stepped (on.Flow (flow.Turn test body line)) = on.Flow (flow.Turn test body line)
stepped (on.Flow (flow.Iterable t body)) = on.Flow (flow.Iterable t body)
stepped (on.Flow (flow.Taken t body next)) = on.Flow (flow.Taken t body next)
stepped (on.Flow (flow.ForTurn t body next line)) = on.Flow (flow.ForTurn t body next line)
stepped (on.Flow (flow.Context name body)) = on.Flow (flow.Context name body)
stepped (on.Flow (flow.Raises r info line)) = on.Flow (flow.Raises r info line)
stepped (on.Operand f) = on.Operand f
stepped (on.Chain f) = on.Chain f
stepped (on.Call f) = on.Call f
stepped (on.Item f) = on.Item f
stepped (on.Simple f) = on.Simple f
stepped (on.Target f) = on.Target f
stepped (on.Unwind f) = on.Unwind f
stepped (on.Define f) = on.Define f
stepped (on.Module f) = on.Module f
stepped (on.Caller c) = on.Caller c
stepped (on.New v) = on.New v

-- the next statement of a frame
abbrev pub IsNextOf : NextStatement → Frame → Type 0
IsNextOf n (on.Flow (flow.Block b at line)) = (n.block.value ≡ b.value) × ((n.at ≡ at) × ((n.line ≡ line) × (at < length (stmts_in b.value))))
IsNextOf n (on.Flow (flow.Branch body branches at other line)) = ⊥
IsNextOf n (on.Flow (flow.Test test body)) = ⊥
IsNextOf n (on.Flow (flow.Turn test body line)) = ⊥
IsNextOf n (on.Flow (flow.Iterable t body)) = ⊥
IsNextOf n (on.Flow (flow.Taken t body next)) = ⊥
IsNextOf n (on.Flow (flow.ForTurn t body next line)) = ⊥
IsNextOf n (on.Flow (flow.Context name body)) = ⊥
IsNextOf n (on.Flow (flow.Raises r info line)) = ⊥
IsNextOf n (on.Operand f) = ⊥
IsNextOf n (on.Chain f) = ⊥
IsNextOf n (on.Call f) = ⊥
IsNextOf n (on.Item f) = ⊥
IsNextOf n (on.Simple f) = ⊥
IsNextOf n (on.Target f) = ⊥
IsNextOf n (on.Unwind f) = ⊥
IsNextOf n (on.Define f) = ⊥
IsNextOf n (on.Module f) = ⊥
IsNextOf n (on.Caller c) = ⊥
IsNextOf n (on.New v) = ⊥

-- that of the innermost frame
abbrev pub IsStepped : NextStatement → List Frame → List Frame → Type 0
IsStepped n (f ∷ fs) new = (new ≡ stepped f ∷ fs) × IsNextOf n f
IsStepped n [] new = ⊥
