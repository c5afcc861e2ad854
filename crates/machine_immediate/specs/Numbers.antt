-- What comparisons tell of whole numbers.
use Rattle.std.specs.Prelude.{Bool, not, ◌||◌, Option, Some, None}
use Rattle.py_tree.specs.declared.op.CmpOp.{CmpOp}
use Rattle.py_tree.specs.declared.op.CmpOp.TheVariants as op

-- by whether the first is less, and whether they are the same
abbrev pub told_by : CmpOp → Bool → Bool → Option Bool
told_by op.Equal less same = Some same
told_by op.NotEqual less same = Some (not same)
told_by op.Less less same = Some less
told_by op.LessEqual less same = Some (less || same)
told_by op.Greater less same = Some (not (less || same))
told_by op.GreaterEqual less same = Some (not less)
told_by op.In less same = None
told_by op.NotIn less same = None
told_by op.Is less same = None
told_by op.IsNot less same = None
