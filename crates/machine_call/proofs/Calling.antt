-- How a built-in call ends for its caller.
use Rattle.std.proofs.Common.{◌≡◌, ◌-◌, ◌∙◌, ℕ, List, [], ◌++◌, Bool, true, false, Option, Some, None, refl, sym, ap, nat_lt, if◌then◌else◌}
use Rattle.std.proofs.lemmas.List.{append-nil}
use Rattle.run_tree.specs.Todo as tree
use Rattle.py_values.specs.declared.end.Effect.{Effect}
use Rattle.py_values.specs.declared.end.Effect.TheVariants.{Give, New, Put, Fail}
use Rattle.py_values.specs.Ends.{cost_of}
use Rattle.call_products.specs.Products.{product_within}
use Rattle.call_products.specs.declared.product.Product.{Product}
use Rattle.py_calls.specs.Called.{CallEffect}
use Rattle.py_calls.specs.Calls.{printed_within}
use Rattle.machine_state.specs.py_world.declared.trace.TraceFrame.{TraceFrame}
use Rattle.machine_state.specs.py_world.World.{heap_of, with_objects, with_print, with_world, world_with_printed}
use Rattle.machine_state.specs.py_world.Outcome.{call_end, made, product_end, raised, spent}
use Rattle.py_values.specs.declared.end.Raise.{Raise}
use Rattle.py_values.specs.declared.value.ObjId.{ObjId}
use Rattle.py_values.specs.declared.value.Value.{Value}
use Rattle.py_values.specs.declared.value.Value.TheVariants as val
use Rattle.py_kinds.specs.Kinds.{kind_name}
use Rattle.machine_state.specs.py_core.declared.stmt.CoreFn.{CoreFn}
use Rattle.py_values.specs.declared.object.ClassObj.{ClassObj}
use Rattle.py_values.specs.declared.object.FunctionObj.{FunctionObj}
use Rattle.py_values.specs.declared.object.Obj.{Obj}
use Rattle.py_values.specs.declared.object.Obj.TheVariants as obj
use Rattle.machine_state.specs.py_world.World.{FunctionCode, Locals}
use Rattle.machine_state.specs.py_world.Calls.{arguments_for, builtin_called, called_or, class_called, entered, function_called, function_of_object, function_with, invoke, mark_or, not_callable}
use Rattle.std.specs.Prelude.{Result, is_some, slice_get}
use Rattle.machine_call.specs.Depth.{code_called}
use Rattle.machine_call.specs.Products.{product_called, uncalled, uncalled_or}
use Rattle.machine_call.specs.declared.objects.CodeCall.{CodeCall}
use Rattle.machine_call.specs.Called.{call_by, code_call, function_or}
use Rattle.machine_state.specs.core_meaning.Meaning.{CoreWorld}
use Rattle.machine_state.specs.core_meaning.Statements.{entry}
use Rattle.machine_state.specs.py_world.Arguments.{Arguments, with_plain}
use Rattle.machine_state.specs.py_world.Site.{Around}
use Rattle.machine_state.specs.declared.machine.Machine.{Machine}
use Rattle.machine_state.specs.declared.machine.Origin.{Origin}
use Rattle.machine_state.specs.declared.machine.Origin.TheVariants as origin
use Rattle.machine_state.specs.Places.{CoreEnding, CoreState, CoreOutcome, CoreRest, CoreThen, ends}
use Rattle.machine_state.specs.Frames.{around_by, opened, machine_rest, state_of}
use Rattle.machine_state.proofs.Costs.{paid, unpaid}

abbrev pub printing : List ℕ → CoreState → CoreState
printing p s = with_world (world_with_printed p s.world) s

-- an end that keeps the caller's names
call_made : (m : Effect) (outer : List TraceFrame) (w : CoreWorld) (s : CoreState) → call_end s (made m outer (with_world w s)) ≡ made m outer (with_world w s)
call_made (Give v n) outer w s = refl
call_made (New o n) outer w s = refl
call_made (Put id c v n) outer w s = refl
call_made (Fail r n) outer w s = refl

call_product : (x : Product) (outer : List TraceFrame) (p : List ℕ) (s : CoreState) → call_end s (product_end x outer (printing p s)) ≡ product_end x outer (printing p s)
call_product x outer p s = call_made x.made outer (with_objects x.objects (printing p s)).world s

call_quiet : (x : Product) (outer : List TraceFrame) (s : CoreState) → call_end s (product_end x outer s) ≡ product_end x outer s
call_quiet x outer s = call_made x.made outer (with_objects x.objects s).world s

within_is : (b : Bool) (x x' : Product) (printed : List ℕ) → Some x' ≡ (if b then None else Some x) → (x ≡ x') × ((if b then [] else printed) ≡ printed)
within_is true x x' printed e = absurd cc
within_is false x x' printed e = (cc, refl)

made_is : (b : Bool) (x x' : Product) → Some x' ≡ (if b then None else Some x) → Some x'.made ≡ (if b then None else Some x.made)
made_is true x x' e = absurd cc
made_is false x x' e = let same : x' ≡ x = cc in ap (λ (y : Product). Some y.made) same

unmade_is : (b : Bool) (x : Product) → None ≡ (if b then None else Some x) → None ≡ (if b then None else Some x.made)
unmade_is true x e = refl
unmade_is false x e = absurd cc

short_is : (b : Bool) (x : Product) (printed : List ℕ) → None ≡ (if b then None else Some x) → (if b then [] else printed) ≡ []
short_is true x printed e = refl
short_is false x printed e = absurd cc

-- a built-in call whose cost is paid
pub builtin_paid : (n : ℕ) (c : CallEffect) (a : Around) (s : CoreState) (k : CoreThen) (x : Product) (p : List ℕ)
    → Some x ≡ product_within n c.product → p ≡ s.world.printed ++ printed_within n c
    → ends n (builtin_called entry c a s (λ o. k (call_end s o))) ≡ ends (n - cost_of x.made) (k (product_end x a.trace (printing p s)))
builtin_paid n c a s k x p e q =
    let f : (c.product ≡ x) × (printed_within n c ≡ c.printed) = within_is (nat_lt n (cost_of c.product.made)) c.product x c.printed e in
    let all : s.world.printed ++ c.printed ≡ p = ap (λ (y : List ℕ). s.world.printed ++ y) (sym f.1) ∙ sym q in
    paid n c.product.made x.made a.trace s (λ (o : CoreOutcome). k (call_end s (product_end c.product a.trace (with_print c.printed s)))) (made_is (nat_lt n (cost_of c.product.made)) c.product x e)
    ∙ ap (λ (o : CoreOutcome). ends (n - cost_of x.made) (k o)) (call_product c.product a.trace (s.world.printed ++ c.printed) s)
    ∙ ap (λ (y : List ℕ). ends (n - cost_of x.made) (k (product_end c.product a.trace (printing y s)))) all
    ∙ ap (λ (y : Product). ends (n - cost_of x.made) (k (product_end y a.trace (printing p s)))) f.0

-- one whose cost is too much
pub builtin_unpaid : (n : ℕ) (c : CallEffect) (a : Around) (s : CoreState) (k : CoreThen) (p : List ℕ)
    → None ≡ product_within n c.product → p ≡ s.world.printed ++ printed_within n c
    → ends n (builtin_called entry c a s (λ o. k (call_end s o))) ≡ tree.Spent (spent a.trace (printing p s))
builtin_unpaid n c a s k p e q =
    let f : printed_within n c ≡ [] = short_is (nat_lt n (cost_of c.product.made)) c.product c.printed e in
    let same : s.world.printed ≡ p = sym (q ∙ ap (λ (y : List ℕ). s.world.printed ++ y) f ∙ append-nil s.world.printed) in
    unpaid n c.product.made a.trace s (λ (o : CoreOutcome). k (call_end s (product_end c.product a.trace (with_print c.printed s)))) (unmade_is (nat_lt n (cost_of c.product.made)) c.product e)
    ∙ ap (λ (y : List ℕ). tree.Spent (spent a.trace (printing y s))) same

-- a call that prints nothing and whose cost is paid, and one whose cost is too much
pub product_paid : (n : ℕ) (x x' : Product) (a : Around) (s : CoreState) (k : CoreThen) → Some x' ≡ product_within n x
    → ends n (product_called x a s (λ o. k (call_end s o))) ≡ ends (n - cost_of x'.made) (k (product_end x' a.trace s))
product_paid n x x' a s k e =
    let same : x ≡ x' = (within_is (nat_lt n (cost_of x.made)) x x' [] e).0 in
    paid n x.made x'.made a.trace s (λ (o : CoreOutcome). k (call_end s (product_end x a.trace s))) (made_is (nat_lt n (cost_of x.made)) x x' e)
    ∙ ap (λ (o : CoreOutcome). ends (n - cost_of x'.made) (k o)) (call_quiet x a.trace s)
    ∙ ap (λ (y : Product). ends (n - cost_of x'.made) (k (product_end y a.trace s))) same

pub product_unpaid : (n : ℕ) (x : Product) (a : Around) (s : CoreState) (k : CoreThen) → None ≡ product_within n x
    → ends n (product_called x a s (λ o. k (call_end s o))) ≡ tree.Spent (spent a.trace s)
product_unpaid n x a s k e =
    unpaid n x.made a.trace s (λ (o : CoreOutcome). k (call_end s (product_end x a.trace s))) (unmade_is (nat_lt n (cost_of x.made)) x e)

-- a mark by whether it was called
pub uncalled_goes : (b : Bool) (x : Product) (p : Option Product) (none : Raise) (a : Around) (s : CoreState) (k : CoreThen) → p ≡ uncalled b x
    → uncalled_or p none a s k ≡ mark_or entry b x none a s k
uncalled_goes true x p none a s k e = rw e refl
uncalled_goes false x p none a s k e = rw e refl

-- what is open around a call has the trace of the open calls
pub around_trace : (o : Origin) (m : Machine) → (around_by o m).trace ≡ opened o m
around_trace origin.Code m = refl
around_trace origin.Runner m = refl

-- the open calls are those of the place and the stack
pub opened_same : (o : Origin) (m m' : Machine) → m'.here ≡ m.here → m'.stack ≡ m.stack → opened o m' ≡ opened o m
opened_same origin.Code m m' h s = rw (h, s) refl
opened_same origin.Runner m m' h s = rw s refl

-- the end of a product, in a machine with the same open calls and the same rest
arrives : (o : Origin) (m m2 : Machine) (x : Product) (n l : ℕ) (t : CoreRest) (s : CoreState) → m2.here ≡ m.here → m2.stack ≡ m.stack → machine_rest m2 ≡ machine_rest m
    → l ≡ n → t ≡ machine_rest m2 (product_end x (opened o m2) s) → ends n (machine_rest m (product_end x (around_by o m).trace s)) ≡ ends l t
arrives o m m2 x n l t s here stack rest less is =
    ap (λ (tr : List TraceFrame). ends n (machine_rest m (product_end x tr s))) (around_trace o m ∙ sym (opened_same o m m2 here stack))
    ∙ ap (λ (k : CoreThen). ends n (k (product_end x (opened o m2) s))) (sym rest) ∙ ap (ends n) (sym is) ∙ ap (λ (i : ℕ). ends i t) (sym less)

module _ (o : Origin) (m m2 : Machine) (c : CallEffect) where
  -- a built-in call goes on with what it makes
  pub builtin_goes : (x : Product) (l : ℕ) (t : CoreRest) → Some x ≡ product_within m.left c.product → m2.printed.items ≡ m.printed.items ++ printed_within m.left c
      → m2.here ≡ m.here → m2.stack ≡ m.stack → state_of m2 ≡ printing m2.printed.items (state_of m) → machine_rest m2 ≡ machine_rest m
      → l ≡ m.left - cost_of x.made → t ≡ machine_rest m2 (product_end x (opened o m2) (state_of m2))
      → ends m.left (builtin_called entry c (around_by o m) (state_of m) (λ (o : CoreOutcome). machine_rest m (call_end (state_of m) o))) ≡ ends l t
  builtin_goes x l t e q here stack same rest less is =
      let n = m.left - cost_of x.made in
      builtin_paid m.left c (around_by o m) (state_of m) (machine_rest m) x m2.printed.items e q
      ∙ ap (λ (s : CoreState). ends n (machine_rest m (product_end x (around_by o m).trace s))) (sym same)
      ∙ arrives o m m2 x n l t (state_of m2) here stack rest less is

  -- a built-in call for which the steps are too few
  pub builtin_stops : (trace : List TraceFrame) → None ≡ product_within m.left c.product → m2.printed.items ≡ m.printed.items ++ printed_within m.left c
      → m2.here ≡ m.here → m2.stack ≡ m.stack → state_of m2 ≡ printing m2.printed.items (state_of m) → trace ≡ opened o m2
      → ends m.left (builtin_called entry c (around_by o m) (state_of m) (λ (o : CoreOutcome). machine_rest m (call_end (state_of m) o))) ≡ tree.Spent (spent trace (state_of m2))
  builtin_stops trace e q here stack same is =
      builtin_unpaid m.left c (around_by o m) (state_of m) (machine_rest m) m2.printed.items e q
      ∙ sym (rw (is, same, opened_same o m m2 here stack, around_trace o m) refl)

module _ (o : Origin) (m m2 : Machine) (x : Product) where
  -- a call goes on with its product
  pub product_goes : (x' : Product) (l : ℕ) (t : CoreRest) → Some x' ≡ product_within m.left x
      → m2.here ≡ m.here → m2.stack ≡ m.stack → state_of m2 ≡ state_of m → machine_rest m2 ≡ machine_rest m
      → l ≡ m.left - cost_of x'.made → t ≡ machine_rest m2 (product_end x' (opened o m2) (state_of m2))
      → ends m.left (product_called x (around_by o m) (state_of m) (λ (o : CoreOutcome). machine_rest m (call_end (state_of m) o))) ≡ ends l t
  product_goes x' l t e here stack same rest less is =
      let n = m.left - cost_of x'.made in
      product_paid m.left x x' (around_by o m) (state_of m) (machine_rest m) e
      ∙ ap (λ (s : CoreState). ends n (machine_rest m (product_end x' (around_by o m).trace s))) (sym same)
      ∙ arrives o m m2 x' n l t (state_of m2) here stack rest less is

  -- a call for which the steps are too few
  pub product_stops : (trace : List TraceFrame) → None ≡ product_within m.left x → trace ≡ opened o m
      → ends m.left (product_called x (around_by o m) (state_of m) (λ (o : CoreOutcome). machine_rest m (call_end (state_of m) o))) ≡ tree.Spent (spent trace (state_of m))
  product_stops trace e is =
      product_unpaid m.left x (around_by o m) (state_of m) (machine_rest m) e ∙ sym (rw (is, around_trace o m) refl)

-- a function's call is by its code, with its local names
called_by_code : (st : Option (FunctionCode CoreFn)) (f : FunctionObj) (none : Raise) (args : Arguments) (a : Around) (s : CoreState) (k : CoreThen)
    → function_called entry st f none args a s k ≡ code_called st (arguments_for f args) none a s k
called_by_code None f none args a s k = refl
called_by_code (Some st) f none args a s k = refl

-- a function that is there with its arguments
pub function_goes : (n : ℕ) (e : CoreEnding) (fo : Option FunctionObj) (call : CodeCall) (none : Raise) (args : Arguments) (a : Around) (s : CoreState) (k : CoreThen)
    → Some call ≡ call_by fo args → ends n (code_called (slice_get s.world.codes call.at) call.names none a s k) ≡ e → ends n (function_or fo none args a s k) ≡ e
function_goes n e None call none args a s k is goes = absurd cc
function_goes n e (Some f) call none args a s k is goes =
    let same : call ≡ code_call f args = cc in
    ap (ends n) (called_by_code (slice_get s.world.codes f.code) f none args a s k)
    ∙ ap (λ (c : CodeCall). ends n (code_called (slice_get s.world.codes c.at) c.names none a s k)) (sym same) ∙ goes

pub no_function_goes : (fo : Option FunctionObj) (none : Raise) (args : Arguments) (a : Around) (s : CoreState) (k : CoreThen) → None ≡ call_by fo args
    → function_or fo none args a s k ≡ k (raised none a.trace s)
no_function_goes None none args a s k is = refl
no_function_goes (Some f) none args a s k is = absurd cc

-- a function with a value before the arguments
pub with_goes : (fo : Option FunctionObj) (v : Value) (none : Raise) (args : Arguments) (a : Around) (s : CoreState) (k : CoreThen)
    → function_with entry fo v none args a s k ≡ function_or fo none (with_plain v args) a s k
with_goes None v none args a s k = refl
with_goes (Some f) v none args a s k = refl

-- a function whose code is there, and one whose code is not
module _ (n l : ℕ) (st : Option (FunctionCode CoreFn)) (none : Raise) (names : Result Locals Raise) (a : Around) (s : CoreState) (k : CoreThen) (t : CoreRest) where
  pub code_there : (code : FunctionCode CoreFn) → st ≡ Some code → l ≡ n → t ≡ entered entry code names a s k → ends n (code_called st names none a s k) ≡ ends l t
  code_there code there less is = rw (there, less, is) refl

  pub code_missing : st ≡ None → l ≡ n → t ≡ k (raised none a.trace s) → ends n (code_called st names none a s k) ≡ ends l t
  code_missing there less is = rw (there, less, is) refl

-- a call of a function
pub function_called_at_once : (o : Option Obj) (none : Raise) (args : Arguments) (a : Around) (s : CoreState) (k : CoreThen) (class : ClassObj → CoreRest)
    → is_some (function_of_object o) ≡ true → called_or entry o none args a s k class ≡ function_or (function_of_object o) none args a s k
function_called_at_once (Some (obj.Function f)) none args a s k class is = refl
function_called_at_once (Some (obj.Text x)) none args a s k class is = absurd cc
function_called_at_once (Some (obj.List x)) none args a s k class is = absurd cc
function_called_at_once (Some (obj.Tuple x)) none args a s k class is = absurd cc
function_called_at_once (Some (obj.Dict x)) none args a s k class is = absurd cc
function_called_at_once (Some (obj.Range x)) none args a s k class is = absurd cc
function_called_at_once (Some (obj.Method x)) none args a s k class is = absurd cc
function_called_at_once (Some (obj.Builtin x)) none args a s k class is = absurd cc
function_called_at_once (Some (obj.Class x)) none args a s k class is = absurd cc
function_called_at_once (Some (obj.Instance x)) none args a s k class is = absurd cc
function_called_at_once (Some (obj.Exception x)) none args a s k class is = absurd cc
function_called_at_once (Some (obj.Module x)) none args a s k class is = absurd cc
function_called_at_once (Some (obj.Fixture x)) none args a s k class is = absurd cc
function_called_at_once (Some obj.MarkMaker) none args a s k class is = absurd cc
function_called_at_once (Some (obj.Mark x)) none args a s k class is = absurd cc
function_called_at_once (Some (obj.Hook x)) none args a s k class is = absurd cc
function_called_at_once (Some (obj.Param x)) none args a s k class is = absurd cc
function_called_at_once (Some (obj.Request x)) none args a s k class is = absurd cc
function_called_at_once (Some (obj.Raises x)) none args a s k class is = absurd cc
function_called_at_once (Some (obj.Info x)) none args a s k class is = absurd cc
function_called_at_once (Some (obj.Item x)) none args a s k class is = absurd cc
function_called_at_once None none args a s k class is = absurd cc

pub called_at_once : (callee : Value) (id : ObjId) (args : Arguments) (a : Around) (s : CoreState) (k : CoreThen) → callee ≡ val.Ref id → is_some (function_of_object (slice_get (heap_of s) id.at)) ≡ true
    → invoke entry callee args a s k ≡ function_or (function_of_object (slice_get (heap_of s) id.at)) (not_callable (kind_name (heap_of s) callee)) args a s k
called_at_once callee id args a s k is found =
    rw is (function_called_at_once (slice_get (heap_of s) id.at) (not_callable (kind_name (heap_of s) (val.Ref id))) args a s k (λ (c : ClassObj). class_called entry id c args a s k) found)
