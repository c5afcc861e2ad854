-- Ends that frames hand on.
use Rattle.std.proofs.Common.{◌≡◌, List, refl}
use Rattle.py_values.specs.declared.value.Value.{Value}
use Rattle.assert_explain.specs.py_world.declared.trace.TraceFrame.{TraceFrame}
use Rattle.assert_explain.specs.py_world.Site.{Site}
use Rattle.assert_explain.specs.py_world.Outcome.{Returned, Broke, Continued, Raised}
use Rattle.machine_unwind.specs.core_meaning.Requests.{Layer}
use Rattle.machine_unwind.specs.machine_state.declared.frame.SimpleFrame.{SimpleFrame}
use Rattle.machine_unwind.specs.machine_state.declared.frame.SimpleFrame.TheVariants.{Forget, Assign, Targets, Augment, Store, Raise, Throw, Return, Fail, Explain, Yield, Receive}
use Rattle.machine_unwind.specs.machine_state.Places.{CoreState, CoreThen}
use Rattle.machine_unwind.specs.machine_state.Frames.{on_simple}

pub simple_returned : (f : SimpleFrame) (ls : List Layer) (p : Site) (r : Value) (s : CoreState) (k : CoreThen) → on_simple f ls p (Returned r s) k ≡ k (Returned r s)
simple_returned Forget ls p r s k = refl
simple_returned (Assign ts) ls p r s k = refl
simple_returned (Targets ts at w) ls p r s k = refl
simple_returned (Augment x op place) ls p r s k = refl
simple_returned (Store place) ls p r s k = refl
simple_returned Raise ls p r s k = refl
simple_returned Throw ls p r s k = refl
simple_returned Return ls p r s k = refl
simple_returned Fail ls p r s k = refl
simple_returned (Explain shown) ls p r s k = refl
simple_returned (Yield given) ls p r s k = refl
simple_returned (Receive given line) ls p r s k = refl

pub simple_broke : (f : SimpleFrame) (ls : List Layer) (p : Site) (s : CoreState) (k : CoreThen) → on_simple f ls p (Broke s) k ≡ k (Broke s)
simple_broke Forget ls p s k = refl
simple_broke (Assign ts) ls p s k = refl
simple_broke (Targets ts at w) ls p s k = refl
simple_broke (Augment x op place) ls p s k = refl
simple_broke (Store place) ls p s k = refl
simple_broke Raise ls p s k = refl
simple_broke Throw ls p s k = refl
simple_broke Return ls p s k = refl
simple_broke Fail ls p s k = refl
simple_broke (Explain shown) ls p s k = refl
simple_broke (Yield given) ls p s k = refl
simple_broke (Receive given line) ls p s k = refl

pub simple_continued : (f : SimpleFrame) (ls : List Layer) (p : Site) (s : CoreState) (k : CoreThen) → on_simple f ls p (Continued s) k ≡ k (Continued s)
simple_continued Forget ls p s k = refl
simple_continued (Assign ts) ls p s k = refl
simple_continued (Targets ts at w) ls p s k = refl
simple_continued (Augment x op place) ls p s k = refl
simple_continued (Store place) ls p s k = refl
simple_continued Raise ls p s k = refl
simple_continued Throw ls p s k = refl
simple_continued Return ls p s k = refl
simple_continued Fail ls p s k = refl
simple_continued (Explain shown) ls p s k = refl
simple_continued (Yield given) ls p s k = refl
simple_continued (Receive given line) ls p s k = refl

pub simple_raised : (f : SimpleFrame) (ls : List Layer) (p : Site) (e : Value) (trace : List TraceFrame) (s : CoreState) (k : CoreThen) → on_simple f ls p (Raised e trace s) k ≡ k (Raised e trace s)
simple_raised Forget ls p e trace s k = refl
simple_raised (Assign ts) ls p e trace s k = refl
simple_raised (Targets ts at w) ls p e trace s k = refl
simple_raised (Augment x op place) ls p e trace s k = refl
simple_raised (Store place) ls p e trace s k = refl
simple_raised Raise ls p e trace s k = refl
simple_raised Throw ls p e trace s k = refl
simple_raised Return ls p e trace s k = refl
simple_raised Fail ls p e trace s k = refl
simple_raised (Explain shown) ls p e trace s k = refl
simple_raised (Yield given) ls p e trace s k = refl
simple_raised (Receive given line) ls p e trace s k = refl
