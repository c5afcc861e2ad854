-- Ends that frames hand on.
use Rattle.std.proofs.Common.{◌≡◌, List, refl}
use Rattle.py_values.specs.declared.value.Value.{Value}
use Rattle.machine_assign.specs.py_world.declared.trace.TraceFrame.{TraceFrame}
use Rattle.machine_assign.specs.py_world.Site.{Site}
use Rattle.machine_assign.specs.py_world.Outcome.{Returned, Broke, Continued, Raised}
use Rattle.machine_assign.specs.machine_state.declared.frame.TargetFrame.{TargetFrame}
use Rattle.machine_assign.specs.machine_state.declared.frame.TargetFrame.TheVariants.{Attribute, Item, At, Each, AugmentAttribute, AugmentItem, AugmentAt, Old, DeleteAttribute, DeleteItem, DeleteAt}
use Rattle.machine_assign.specs.machine_state.Places.{CoreState, CoreThen}
use Rattle.machine_assign.specs.machine_state.Frames.{on_target}

pub target_returned : (f : TargetFrame) (p : Site) (r : Value) (s : CoreState) (k : CoreThen) → on_target f p (Returned r s) k ≡ k (Returned r s)
target_returned (Attribute name v) p r s k = refl
target_returned (Item i v) p r s k = refl
target_returned (At x v) p r s k = refl
target_returned (Each ss vs at) p r s k = refl
target_returned (AugmentAttribute name op e) p r s k = refl
target_returned (AugmentItem i op e) p r s k = refl
target_returned (AugmentAt x op e) p r s k = refl
target_returned (Old place op e) p r s k = refl
target_returned (DeleteAttribute name) p r s k = refl
target_returned (DeleteItem i) p r s k = refl
target_returned (DeleteAt x) p r s k = refl

pub target_broke : (f : TargetFrame) (p : Site) (s : CoreState) (k : CoreThen) → on_target f p (Broke s) k ≡ k (Broke s)
target_broke (Attribute name v) p s k = refl
target_broke (Item i v) p s k = refl
target_broke (At x v) p s k = refl
target_broke (Each ss vs at) p s k = refl
target_broke (AugmentAttribute name op e) p s k = refl
target_broke (AugmentItem i op e) p s k = refl
target_broke (AugmentAt x op e) p s k = refl
target_broke (Old place op e) p s k = refl
target_broke (DeleteAttribute name) p s k = refl
target_broke (DeleteItem i) p s k = refl
target_broke (DeleteAt x) p s k = refl

pub target_continued : (f : TargetFrame) (p : Site) (s : CoreState) (k : CoreThen) → on_target f p (Continued s) k ≡ k (Continued s)
target_continued (Attribute name v) p s k = refl
target_continued (Item i v) p s k = refl
target_continued (At x v) p s k = refl
target_continued (Each ss vs at) p s k = refl
target_continued (AugmentAttribute name op e) p s k = refl
target_continued (AugmentItem i op e) p s k = refl
target_continued (AugmentAt x op e) p s k = refl
target_continued (Old place op e) p s k = refl
target_continued (DeleteAttribute name) p s k = refl
target_continued (DeleteItem i) p s k = refl
target_continued (DeleteAt x) p s k = refl

pub target_raised : (f : TargetFrame) (p : Site) (exc : Value) (trace : List TraceFrame) (s : CoreState) (k : CoreThen) → on_target f p (Raised exc trace s) k ≡ k (Raised exc trace s)
target_raised (Attribute name v) p exc trace s k = refl
target_raised (Item i v) p exc trace s k = refl
target_raised (At x v) p exc trace s k = refl
target_raised (Each ss vs at) p exc trace s k = refl
target_raised (AugmentAttribute name op e) p exc trace s k = refl
target_raised (AugmentItem i op e) p exc trace s k = refl
target_raised (AugmentAt x op e) p exc trace s k = refl
target_raised (Old place op e) p exc trace s k = refl
target_raised (DeleteAttribute name) p exc trace s k = refl
target_raised (DeleteItem i) p exc trace s k = refl
target_raised (DeleteAt x) p exc trace s k = refl
