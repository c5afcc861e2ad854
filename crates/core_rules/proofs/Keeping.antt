-- What all forms keep: what holds of a world, and still holds of it with an object more or changed, with a name of a module bound,
-- with text printed, with a function more, and with the trace of an exception.
use Rattle.std.proofs.Common.{◌≡◌, ℕ, zero, suc, List, [], ◌∷◌, ◌++◌, Bool, true, false, Option, Some, None, refl, sym, ap, subst, append_assoc}
use Rattle.std.specs.Prelude.{cond, slice_get, length, nat_lt, codes, Result, Ok, Err}
use Rattle.run_tree.specs.Todo.{spend_all}
use Rattle.run_tree.specs.Kept as tree
use Rattle.py_source.specs.declared.pos.Pos.{Pos}
use Rattle.py_tree.specs.Names.{is_among}
use Rattle.py_tree.specs.Trees.{Tree}
use Rattle.py_tree.specs.declared.op.BinOp.{BinOp}
use Rattle.py_tree.specs.declared.op.UnOp.{UnOp}
use Rattle.py_tree.specs.declared.op.CmpOp.{CmpOp}
use Rattle.source_meaning.specs.py_kinds.Builtins.{with_receiver}
use Rattle.py_values.specs.Changes.{changed, object_after}
use Rattle.py_values.specs.declared.class.ClassRef.{ClassRef}
use Rattle.py_values.specs.declared.class.ClassRef.TheVariants as ref
use Rattle.py_values.specs.declared.class.ClassForm.{ClassForm}
use Rattle.py_values.specs.declared.class.ClassForm.TheVariants.{Source, Exception, Kind}
use Rattle.py_values.specs.declared.object.ClassObj.{ClassObj}
use Rattle.py_values.specs.declared.object.FunctionObj.{FunctionObj}
use Rattle.py_values.specs.declared.class.ExcClass.TheVariants.{MemoryError}
use Rattle.py_values.specs.declared.end.Effect.{Effect}
use Rattle.py_values.specs.declared.end.Effect.TheVariants.{Give, New, Put, Fail}
use Rattle.py_values.specs.declared.end.Raise.{Raise}
use Rattle.py_values.specs.declared.object.Obj.{Obj}
use Rattle.py_values.specs.declared.object.Obj.TheVariants as obj
use Rattle.py_values.specs.declared.value.ObjId.{ObjId}
use Rattle.py_values.specs.declared.value.Value.{Value}
use Rattle.py_values.specs.declared.value.Value.TheVariants as val
use Rattle.py_values.specs.Ends.{cost_of, id_at}
use Rattle.source_meaning.specs.py_kinds.Classes.{is_exc_class}
use Rattle.source_meaning.specs.py_kinds.Kinds.{kind_name}
use Rattle.source_meaning.specs.call_products.declared.product.Product.{Product}
use Rattle.source_meaning.specs.pytest_calls.Marks.{mark_called}
use Rattle.py_values.specs.Limits.{most_elements}
use Rattle.py_values.specs.Raises.{text_raise, exception, thrown_by, thrown_with}
use Rattle.source_meaning.specs.py_kinds.Truth.{truth}
use Rattle.source_meaning.specs.py_ops.Binary.{binary_of}
use Rattle.source_meaning.specs.py_ops.Unary.{unary_of}
use Rattle.source_meaning.specs.py_ops.Compare.{compare_of}
use Rattle.source_meaning.specs.py_calls.Called.{CallEffect}
use Rattle.source_meaning.specs.py_calls.Calls.{called_of}
use Rattle.source_meaning.specs.py_world.declared.trace.TraceFrame.{TraceFrame}
use Rattle.source_meaning.specs.py_world.declared.load.Load.{Load}
use Rattle.source_meaning.specs.py_world.Arguments.{Arguments, with_plain}
use Rattle.source_meaning.specs.py_world.World.{Kinds, World, CallState, Locals, FunctionCode, heap_of, unset, with_heap, with_object, with_objects, world_with_heap, world_with_printed, world_with_code, world_with_modules, world_with_traces, put_trace}
use Rattle.source_meaning.specs.py_world.Site.{Around, around_of, Own, InModule, InFunction, InClass, Scene, Site, site, trace_of}
use Rattle.source_meaning.specs.py_world.Outcome.{Outcome, Gave, Next, Returned, Broke, Continued, Raised, Exhaustion, Suspension, Rest, Continuation, Denotation, After, Body, Request, CallOf, DoOf, Ways, route, onward, gave_in, raised, made, product_end, call_end, on_value, on_next, on_turn, if_true, costing, operated}
use Rattle.source_meaning.specs.py_world.Names.{with_bound_name, name_end, value_of_name, bound, bound_by, bound_global}
use Rattle.source_meaning.specs.py_world.Expressions.{noted, constant, name_part, text_part, unary_part, binary_part, compared, compare_on, compare_part, not_part, and_on, and_part, or_on, or_part, choice_part, called, call_on, call_part, kept_part}
use Rattle.source_meaning.specs.py_world.Statements.{IfClause, asked, expression_statement, return_value, yield_value, pass_statement, leave_loop, next_turn, assertion, fail, failed_with, fail_explained, branches_on, choose, loop, while_turn}
use Rattle.source_meaning.specs.py_world.ModuleNames.{module_name, module_object}
use Rattle.source_meaning.specs.py_world.Runs.{load_at, with_load, naming_heap, module_place, with_module, module_end, module_scene, start, executed, first_load}
use Rattle.source_meaning.specs.py_world.Attributes.{with_attribute}
use Rattle.source_meaning.specs.py_world.Exceptions.{class_by}
use Rattle.source_meaning.specs.py_world.Calls.{Entry, Meaning, most_open, argument_error, not_callable, too_deep, arguments_for, function_of_object, class_takes, new_instance, init_of, init_end, entered, function_called, function_with, builtin_called, mark_or, class_or, called_or, init_object, init_called, instance_made, class_called, value_called, invoke, body_of}

-- what the forms do to a world; a module is loaded only where its path is fresh
pub record Closed {K : Kinds} (Good : World K → Type 0) (Fresh : List ℕ → Type 0) : Type 0 where
  pub object : (w : World K) (o : Obj) → Good w → Good (world_with_heap (w.heap ++ o ∷ []) w)
  pub change : (w : World K) (f : Obj → Obj) (at : ℕ) → Good w → Good (world_with_heap (changed f at w.heap (slice_get w.heap at)) w)
  pub print : (w : World K) (bytes : List ℕ) → Good w → Good (world_with_printed (w.printed ++ bytes) w)
  pub code : (w : World K) (c : FunctionCode K.code) → Good w → Good (world_with_code c w)
  pub trace : (w : World K) (at : ℕ) (t : List TraceFrame) → Good w → Good (world_with_traces (put_trace at t w.traces) w)
  pub fresh : (w : World K) (path : List ℕ) → load_at path w.modules ≡ None → Good w → Fresh path
  pub load : (w : World K) (path : List ℕ) (l : Load) → Fresh path → Good w → Good (world_with_modules (with_load path l w.modules) w)

abbrev pub state_in : {K : Kinds} → Outcome K → CallState K
state_in (Gave v s) = s
state_in (Next s) = s
state_in (Returned v s) = s
state_in (Broke s) = s
state_in (Continued s) = s
state_in (Raised e trace s) = s

abbrev pub request_state : {K : Kinds} → Request K → CallState K
request_state (CallOf callee args a s) = s
request_state (DoOf what p s) = s

pub append-empty : {A : Type 0} (xs : List A) → xs ++ [] ≡ xs
append-empty [] = refl
append-empty (x ∷ xs) = ap (λ ys. x ∷ ys) (append-empty xs)

module _ {K : Kinds} (Good : World K → Type 0) (Fresh : List ℕ → Type 0) (closed : Closed Good Fresh) where
  abbrev pub GoodState : CallState K → Type 0
  GoodState s = Good s.world

  abbrev pub GoodSpent : Exhaustion K → Type 0
  GoodSpent x = Good x.state.world

  abbrev pub GoodRequest : Request K → Type 0
  GoodRequest r = Good (request_state r).world

  abbrev pub GoodEnd : Outcome K → Type 0
  GoodEnd o = Good (state_in o).world

  abbrev pub GoodPaused : Suspension K → Type 0
  GoodPaused f = Good f.state.world

  abbrev pub Kept : Rest K → Type 0
  Kept = tree.Kept GoodSpent GoodRequest GoodEnd GoodPaused

  abbrev pub Behind : Continuation K → Type 0
  Behind k = (o : Outcome K) → GoodEnd o → Kept (k o)

  pub record PartKept (e : Denotation K) : Type 0 where
    pub does : (p : Site) (s : CallState K) → GoodState s → (k : Continuation K) → Behind k → Kept (e p s k)

  pub record BodyKept (b : Body K) : Type 0 where
    pub does : (scene : Scene) (s : CallState K) → GoodState s → (k : Continuation K) → Behind k → Kept (b scene s k)

  pub record AfterKept (f : After K) : Type 0 where
    pub does : (p : Site) (o : Outcome K) → GoodEnd o → (k : Continuation K) → Behind k → Kept (f p o k)

  pub data PartsKept : List (Denotation K) → Type 0 where
    nil : PartsKept []
    cons : {e : Denotation K} {es : List (Denotation K)} → PartKept e → PartsKept es → PartsKept (e ∷ es)

  -- what follows in each way
  pub record WaysKept (w : Ways K) : Type 0 where
    pub gave : (v : Value) (s : CallState K) → GoodState s → Kept (w.gave v s)
    pub next : (s : CallState K) → GoodState s → Kept (w.next s)
    pub returned : (v : Value) (s : CallState K) → GoodState s → Kept (w.returned v s)
    pub broke : (s : CallState K) → GoodState s → Kept (w.broke s)
    pub continued : (s : CallState K) → GoodState s → Kept (w.continued s)
    pub raised : (e : Value) (trace : List TraceFrame) (s : CallState K) → GoodState s → Kept (w.raised e trace s)

  pub route_kept : {w : Ways K} → WaysKept w → (o : Outcome K) → GoodEnd o → Kept (route w o)
  route_kept w (Gave v s) g = w.gave v s g
  route_kept w (Next s) g = w.next s g
  route_kept w (Returned v s) g = w.returned v s g
  route_kept w (Broke s) g = w.broke s g
  route_kept w (Continued s) g = w.continued s g
  route_kept w (Raised e trace s) g = w.raised e trace s g

  pub onward_kept : (k : Continuation K) → Behind k → WaysKept (onward k)
  onward_kept k h =
      record { gave = λ v s g. h (Gave v s) g; next = λ s g. h (Next s) g; returned = λ v s g. h (Returned v s) g; broke = λ s g. h (Broke s) g; continued = λ s g. h (Continued s) g; raised = λ e trace s g. h (Raised e trace s) g }

  pub value_kept : (k : Continuation K) → Behind k → (go : Value → CallState K → Rest K) → ((v : Value) (s : CallState K) → GoodState s → Kept (go v s)) → (o : Outcome K) → GoodEnd o → Kept (on_value o k go)
  value_kept k h go go_kept o g =
      let w : WaysKept (onward k) = onward_kept k h in
      route_kept (record { gave = go_kept; next = w.next; returned = w.returned; broke = w.broke; continued = w.continued; raised = w.raised }) o g

  pub next_kept : (k : Continuation K) → Behind k → (go : CallState K → Rest K) → ((s : CallState K) → GoodState s → Kept (go s)) → (o : Outcome K) → GoodEnd o → Kept (on_next o k go)
  next_kept k h go go_kept o g =
      let w : WaysKept (onward k) = onward_kept k h in
      route_kept (record { gave = w.gave; next = go_kept; returned = w.returned; broke = w.broke; continued = w.continued; raised = w.raised }) o g

  pub turn_kept : (k : Continuation K) → Behind k → (go : CallState K → Rest K) → ((s : CallState K) → GoodState s → Kept (go s)) → (o : Outcome K) → GoodEnd o → Kept (on_turn o k go)
  turn_kept k h go go_kept o g =
      let w : WaysKept (onward k) = onward_kept k h in
      route_kept (record { gave = w.gave; next = go_kept; returned = w.returned; broke = w.next; continued = go_kept; raised = w.raised }) o g

  pub if_kept : (b : Bool) (x y : Rest K) → Kept x → Kept y → Kept (if_true b x y)
  if_kept true x y h g = h
  if_kept false x y h g = g

  pub cond_kept : (b : Bool) (x y : Rest K) → Kept x → Kept y → Kept (cond b x y)
  cond_kept true x y h g = h
  cond_kept false x y h g = g

  spend_kept : (n : ℕ) (x : Exhaustion K) (t : Rest K) → GoodSpent x → Kept t → Kept (spend_all n x t)
  spend_kept zero x t g h = h
  spend_kept (suc n) x t g h = (g, spend_kept n x t g h)

  -- an exception with its tuple of arguments
  pub thrown_with_kept : (class : ClassRef) (args : List Value) (w : World K) → Good w → Good (world_with_heap (thrown_with class args w.heap).1 w)
  thrown_with_kept class args w g = closed.object (world_with_heap (w.heap ++ obj.Tuple args ∷ []) w) (exception class (id_at (length w.heap))) (closed.object w (obj.Tuple args) g)

  thrown_kept : (class : ClassRef) (text : List ℕ) (arg : Option Value) (w : World K) → Good w → Good (world_with_heap (thrown_by class text arg w.heap).1 w)
  thrown_kept class text (Some v) w g = thrown_with_kept class (v ∷ []) w g
  thrown_kept class [] None w g = thrown_with_kept class [] w g
  thrown_kept class (c ∷ cs) None w g = thrown_with_kept class (val.Ref (id_at (length w.heap)) ∷ []) (world_with_heap (w.heap ++ obj.Text (c ∷ cs) ∷ []) w) (closed.object w (obj.Text (c ∷ cs)) g)

  pub raised_kept : (r : Raise) (trace : List TraceFrame) (s : CallState K) → GoodState s → GoodEnd (raised r trace s)
  raised_kept r trace s g = thrown_kept (ref.Builtin r.class) r.text r.arg s.world g

  pub made_kept : (m : Effect) (trace : List TraceFrame) (s : CallState K) → GoodState s → GoodEnd (made m trace s)
  made_kept (Give v n) trace s g = g
  made_kept (New o n) trace s g = closed.object s.world o g
  made_kept (Put id c v n) trace s g = closed.change s.world (object_after c) id.at g
  made_kept (Fail r n) trace s g = raised_kept r trace s g

  -- objects more
  objects_kept : (all : List Obj) (w : World K) → Good w → Good (world_with_heap (w.heap ++ all) w)
  objects_kept [] w g = subst (λ heap. Good (world_with_heap heap w)) (sym (append-empty w.heap)) g
  objects_kept (o ∷ rest) w g =
      subst (λ heap. Good (world_with_heap heap w)) (append_assoc w.heap (o ∷ []) rest) (objects_kept rest (world_with_heap (w.heap ++ o ∷ []) w) (closed.object w o g))

  product_kept : (x : Product) (trace : List TraceFrame) (s : CallState K) → GoodState s → GoodEnd (product_end x trace s)
  product_kept x trace s g = made_kept x.made trace (with_objects x.objects s) (objects_kept x.objects s.world g)

  pub costing_kept : (m : Effect) (trace : List TraceFrame) (s : CallState K) → GoodState s → (k : Continuation K) → Behind k → Kept (costing m trace s k)
  costing_kept m trace s g k h = spend_kept (cost_of m) _ _ g (h (made m trace s) (made_kept m trace s g))

  pub operated_kept : (m : Effect) (p : Site) (s : CallState K) → GoodState s → (k : Continuation K) → Behind k → Kept (operated m p s k)
  operated_kept m p s g k h = (g, costing_kept m (trace_of p) s g k h)

  pub call_end_kept : (caller : CallState K) (o : Outcome K) → GoodEnd o → GoodEnd (call_end caller o)
  call_end_kept caller (Gave v s) g = g
  call_end_kept caller (Next s) g = g
  call_end_kept caller (Returned v s) g = g
  call_end_kept caller (Broke s) g = g
  call_end_kept caller (Continued s) g = g
  call_end_kept caller (Raised e trace s) g = g

  pub noted_kept : (at : Pos) {e : Denotation K} → PartKept e → PartKept (noted at e)
  noted_kept at x = record { does = λ p s g k h. x.does p s g k h }

  pub constant_kept : (v : Value) → PartKept (constant v)
  constant_kept v = record { does = λ p s g k h. h (Gave v s) g }

  pub name_end_kept : (name : List ℕ) (p : Site) (s : CallState K) → GoodState s → GoodEnd (name_end name p s)
  name_end_kept name p s g = made_kept (value_of_name name p.scene s.locals (heap_of s)) (trace_of p) s g

  pub name_kept : (name : List ℕ) → PartKept (name_part name)
  name_kept name = record { does = λ p s g k h. h (name_end name p s) (name_end_kept name p s g) }

  pub text_kept : (text : List ℕ) → PartKept (text_part text)
  text_kept text = record { does = λ p s g k h. cond_kept (nat_lt most_elements (length text)) _ _ (h _ (raised_kept (text_raise MemoryError (codes "sequence too long")) (trace_of p) s g)) (h _ (closed.object s.world (obj.Text text) g)) }

  pub unary_kept : (op : UnOp) {e : Denotation K} → PartKept e → PartKept (unary_part op e)
  unary_kept op x = record { does = λ p s g k h. x.does p s g _ (value_kept k h _ (λ v s g. operated_kept (unary_of op (heap_of s) v) p s g k h)) }

  pub binary_kept : (op : BinOp) {a b : Denotation K} → PartKept a → PartKept b → PartKept (binary_part a op b)
  binary_kept op a b = record { does = λ p s g k h. a.does p s g _ (value_kept k h _ (λ x s g. b.does p s g _ (value_kept k h _ (λ y s g. operated_kept (binary_of op (heap_of s) x y) p s g k h)))) }

  pub not_kept : {a : Denotation K} → PartKept a → PartKept (not_part a)
  not_kept a = record { does = λ p s g k h. a.does p s g _ (value_kept k h _ (λ x s g. h _ g)) }

  pub choice_kept : {a c b : Denotation K} → PartKept a → PartKept c → PartKept b → PartKept (choice_part a c b)
  choice_kept a c b = record { does = λ p s g k h. c.does p s g _ (value_kept k h _ (λ v s g. if_kept (truth (heap_of s) v) _ _ (a.does p s g k h) (b.does p s g k h))) }

  and_on_kept : {es : List (Denotation K)} → PartsKept es → (p : Site) (k : Continuation K) → Behind k → (o : Outcome K) → GoodEnd o → Kept (and_on es p o k)
  and_on_kept nil p k h o g = h o g
  and_on_kept (cons e es) p k h o g = value_kept k h _ (λ v s g. if_kept (truth (heap_of s) v) _ _ (e.does p s g _ (and_on_kept es p k h)) (h _ g)) o g

  or_on_kept : {es : List (Denotation K)} → PartsKept es → (p : Site) (k : Continuation K) → Behind k → (o : Outcome K) → GoodEnd o → Kept (or_on es p o k)
  or_on_kept nil p k h o g = h o g
  or_on_kept (cons e es) p k h o g = value_kept k h _ (λ v s g. if_kept (truth (heap_of s) v) _ _ (h _ g) (e.does p s g _ (or_on_kept es p k h))) o g

  pub and_kept : {a : Denotation K} {es : List (Denotation K)} → PartKept a → PartsKept es → PartKept (and_part a es)
  and_kept a es = record { does = λ p s g k h. a.does p s g _ (and_on_kept es p k h) }

  pub or_kept : {a : Denotation K} {es : List (Denotation K)} → PartKept a → PartsKept es → PartKept (or_part a es)
  or_kept a es = record { does = λ p s g k h. a.does p s g _ (or_on_kept es p k h) }

  compared_kept : {es : List (Denotation K)} → PartsKept es → {e : Denotation K} → PartKept e → (p : Site) (k : Continuation K) → Behind k → (o : Outcome K) → GoodEnd o → Kept (compared es e p o k)
  compared_kept nil e p k h o g = h o g
  compared_kept (cons x xs) e p k h o g = value_kept k h _ (λ v s g. if_kept (truth (heap_of s) v) _ _ (e.does p s g k h) (h _ g)) o g

  compare_on_kept : (ops : List CmpOp) {es : List (Denotation K)} → PartsKept es → (x : Value) → PartKept (compare_on ops es x)
  compare_on_kept [] es x = record { does = λ p s g k h. h _ g }
  compare_on_kept (op ∷ ops) nil x = record { does = λ p s g k h. h _ g }
  compare_on_kept (op ∷ ops) (cons {es = rest} e es) x = record { does = λ p s g k h. e.does p s g _ (value_kept k h _ (λ y s g. operated_kept (compare_of op (heap_of s) x y) p s g (λ o. compared rest (compare_on ops rest y) p o k) (compared_kept es (compare_on_kept ops es y) p k h))) }

  pub compare_kept : {a : Denotation K} (ops : List CmpOp) {es : List (Denotation K)} → PartKept a → PartsKept es → PartKept (compare_part a ops es)
  compare_kept ops a es = record { does = λ p s g k h. a.does p s g _ (value_kept k h _ (λ x s g. (compare_on_kept ops es x).does p s g k h)) }

  called_kept : (c : Value) (args : Arguments) → PartKept (called c args)
  called_kept c args = record { does = λ p s g k h. (g, g, λ o d. h (call_end s o) (call_end_kept s o d)) }

  call_on_kept : (c : Value) (shape : List Value → Arguments) {es : List (Denotation K)} → PartsKept es → (vs : List Value) → PartKept (call_on c shape es vs)
  call_on_kept c shape nil vs = record { does = λ p s g k h. (called_kept c (shape vs)).does p s g k h }
  call_on_kept c shape (cons e es) vs = record { does = λ p s g k h. e.does p s g _ (value_kept k h _ (λ v s g. (call_on_kept c shape es (vs ++ v ∷ [])).does p s g k h)) }

  pub call_kept : (shape : List Value → Arguments) {f : Denotation K} {es : List (Denotation K)} → PartKept f → PartsKept es → PartKept (call_part f shape es)
  call_kept shape f es = record { does = λ p s g k h. f.does p s g _ (value_kept k h _ (λ c s g. (call_on_kept c shape es []).does p s g k h)) }

  pub temporary_kept : (t : ℕ) {a : Denotation K} → PartKept a → PartKept (kept_part t a)
  temporary_kept t a = record { does = λ p s g k h. a.does p s g _ (value_kept k h _ (λ v s g. h _ g)) }

  pub asked_kept : (what : K.turn) → PartKept (asked what)
  asked_kept what = record { does = λ p s g k h. (g, g, h) }

  pub expression_kept : {e : Denotation K} → PartKept e → PartKept (expression_statement e)
  expression_kept e = record { does = λ p s g k h. e.does p s g _ (value_kept k h _ (λ v s g. h _ g)) }

  global_kept : (name : List ℕ) (v : Value) (scene : Scene) (s : CallState K) → GoodState s → GoodState (bound_global name v scene s)
  global_kept name v scene s g = closed.change s.world (with_bound_name name v) scene.home g

  pub state_cond : (b : Bool) (s r : CallState K) → GoodState s → GoodState r → GoodState (cond b s r)
  state_cond true s r g h = g
  state_cond false s r g h = h

  bound_by_kept : (own : Own) (name : List ℕ) (v : Value) (scene : Scene) (s : CallState K) → GoodState s → GoodState (bound_by own name v scene s)
  bound_by_kept InModule name v scene s g = global_kept name v scene s g
  bound_by_kept (InFunction own) name v scene s g = state_cond (is_among own name) _ _ g (global_kept name v scene s g)
  bound_by_kept (InClass at) name v scene s g = closed.change s.world (with_attribute name v) at g

  pub bound_kept : (name : List ℕ) (v : Value) (scene : Scene) (s : CallState K) → GoodState s → GoodState (bound name v scene s)
  bound_kept name v scene s g = bound_by_kept scene.own name v scene s g

  pub data SomeKept : Option (Denotation K) → Type 0 where
    none : SomeKept None
    some : {e : Denotation K} → PartKept e → SomeKept (Some e)

  pub return_kept : {e : Option (Denotation K)} → SomeKept e → PartKept (return_value e)
  return_kept none = record { does = λ p s g k h. h _ g }
  return_kept (some e) = record { does = λ p s g k h. e.does p s g _ (value_kept k h _ (λ v s g. h _ g)) }

  pub yield_kept : {e : Option (Denotation K)} → SomeKept e → (rest : K.rest) → PartKept (yield_value e rest)
  yield_kept none rest = record { does = λ p s g k h. g }
  yield_kept (some e) rest = record { does = λ p s g k h. e.does p s g _ (value_kept k h _ (λ v s g. g)) }

  pub pass_kept : PartKept pass_statement
  pass_kept = record { does = λ p s g k h. h _ g }

  pub leave_kept : PartKept leave_loop
  leave_kept = record { does = λ p s g k h. h _ g }

  pub again_kept : PartKept next_turn
  again_kept = record { does = λ p s g k h. h _ g }

  pub fail_kept : {e : Option (Denotation K)} → SomeKept e → PartKept (fail e)
  fail_kept none = record { does = λ p s g k h. h _ (raised_kept (assertion None) (trace_of p) s g) }
  fail_kept (some e) = record { does = λ p s g k h. e.does p s g _ (value_kept k h _ (λ v s g. h _ (raised_kept (assertion (Some v)) (trace_of p) s g))) }

  failed_kept : (text : List ℕ) (p : Site) (s : CallState K) → GoodState s → GoodEnd (failed_with text p s)
  failed_kept text p s g = raised_kept (assertion (Some (val.Ref (id_at (length (heap_of s)))))) (trace_of p) (with_object (obj.Text text) s) (closed.object s.world (obj.Text text) g)

  pub explained_kept : (c : Tree) {e : Option (Denotation K)} → SomeKept e → PartKept (fail_explained c e)
  explained_kept c none = record { does = λ p s g k h. h _ (failed_kept _ p s g) }
  explained_kept c (some e) = record { does = λ p s g k h. e.does p s g _ (value_kept k h _ (λ v s g. h _ (failed_kept _ p s g))) }

  pub data ChoicesKept : List (IfClause K) → Type 0 where
    nil : ChoicesKept []
    cons : (line : ℕ) {e : Denotation K} {b : Body K} {es : List (IfClause K)} → PartKept e → BodyKept b → ChoicesKept es → ChoicesKept ((line, (e, b)) ∷ es)

  branches_kept : {es : List (IfClause K)} {b : Body K} → ChoicesKept es → BodyKept b → BodyKept (branches_on es b)
  branches_kept nil b = b
  branches_kept (cons line e x es) b = record { does = λ scene s g k h. e.does (site scene line) s g _ (value_kept k h _ (λ v s g. if_kept (truth (heap_of s) v) _ _ (x.does scene s g k h) ((branches_kept es b).does scene s g k h))) }

  pub choose_kept : {es : List (IfClause K)} {b : Body K} → ChoicesKept es → BodyKept b → PartKept (choose es b)
  choose_kept es b = record { does = λ p s g k h. (branches_kept es b).does p.scene (unset s) g k h }

  pub loop_kept : (turn : K.turn) {e : Denotation K} → PartKept e → PartKept (loop turn e)
  loop_kept turn e = record { does = λ p s g k h. e.does p s g _ (value_kept k h _ (λ v s g. if_kept (truth (heap_of s) v) _ _ (g, g, h) (h _ g))) }

  pub turn_of_kept : (turn : K.turn) {e : Denotation K} {b : Body K} → PartKept e → BodyKept b → PartKept (while_turn turn e b)
  turn_of_kept turn e b = record { does = λ p s g k h. b.does p.scene s g _ (turn_kept k h _ (λ s g. (loop_kept turn e).does p s g k h)) }

  -- a meaning whose parts keep what is good
  pub record MeaningKept (m : Meaning K) : Type 0 where
    pub entries : (c : K.code) → BodyKept (m.entry c).body
    pub acts : (what : K.turn) → PartKept (m.act what)
    pub bodies : (c : K.script) → BodyKept (m.body c)
    pub remains : (rest : K.rest) → AfterKept (m.remains rest)

  -- calls of functions whose bodies keep what is good
  module _ (entry : K.code → Entry K) (bodies : (c : K.code) → BodyKept (entry c).body) where
    pub entered_kept : (st : FunctionCode K.code) (names : Result Locals Raise) (a : Around) (s : CallState K) → GoodState s → (k : Continuation K) → Behind k → Kept (entered entry st names a s k)
    entered_kept st (Ok names) a s g k h = cond_kept (nat_lt a.depth most_open) _ _ ((bodies st.code).does _ _ g k h) (h _ (raised_kept too_deep a.trace s g))
    entered_kept st (Err r) a s g k h = h _ (raised_kept r a.trace s g)

    function_kept : (c : Option (FunctionCode K.code)) (f : FunctionObj) (r : Raise) (args : Arguments) (a : Around) (s : CallState K) → GoodState s → (k : Continuation K) → Behind k → Kept (function_called entry c f r args a s k)
    function_kept None f r args a s g k h = h _ (raised_kept r a.trace s g)
    function_kept (Some st) f r args a s g k h = entered_kept st (arguments_for f args) a s g k h

    with_kept : (f : Option FunctionObj) (v : Value) (r : Raise) (args : Arguments) (a : Around) (s : CallState K) → GoodState s → (k : Continuation K) → Behind k → Kept (function_with entry f v r args a s k)
    with_kept None v r args a s g k h = h _ (raised_kept r a.trace s g)
    with_kept (Some f) v r args a s g k h = function_kept (slice_get s.world.codes f.code) f r (with_plain v args) a s g k h

    builtin_kept : (c : CallEffect) (a : Around) (s : CallState K) → GoodState s → (k : Continuation K) → Behind k → Kept (builtin_called entry c a s k)
    builtin_kept c a s g k h = spend_kept (cost_of c.product.made) _ _ g (h _ (product_kept c.product a.trace _ (closed.print s.world c.printed g)))

    mark_kept : (called : Bool) (x : Product) (r : Raise) (a : Around) (s : CallState K) → GoodState s → (k : Continuation K) → Behind k → Kept (mark_or entry called x r a s k)
    mark_kept true x r a s g k h = h _ (raised_kept r a.trace s g)
    mark_kept false x r a s g k h = spend_kept (cost_of x.made) _ _ g (h _ (product_kept x a.trace s g))

    class_or_kept : (c : ClassForm) (args : Arguments) (a : Around) (s : CallState K) → GoodState s → (k : Continuation K) → Behind k → (other : Rest K) → Kept other → Kept (class_or entry c args a s k other)
    class_or_kept (Kind b) args a s g k h other x = builtin_kept (called_of b (heap_of s) args.plain args.named) a s g k h
    class_or_kept Source args a s g k h other x = x
    class_or_kept (Exception c) args a s g k h other x = x

    called_or_kept : (o : Option Obj) (r : Raise) (args : Arguments) (a : Around) (s : CallState K) → GoodState s → (k : Continuation K) → Behind k → (class : ClassObj → Rest K) → ((c : ClassObj) → Kept (class c)) → Kept (called_or entry o r args a s k class)
    called_or_kept (Some (obj.Function f)) r args a s g k h class x = function_kept (slice_get s.world.codes f.code) f r args a s g k h
    called_or_kept (Some (obj.Method m)) r args a s g k h class x = with_kept (function_of_object (slice_get (heap_of s) m.function.at)) m.receiver r args a s g k h
    called_or_kept (Some (obj.Builtin b)) r args a s g k h class x = builtin_kept (called_of b.which (heap_of s) (with_receiver b.receiver args.plain) args.named) a s g k h
    called_or_kept (Some (obj.Class c)) r args a s g k h class x = class_or_kept c.form args a s g k h (class c) (x c)
    called_or_kept (Some (obj.Text y)) r args a s g k h class x = h _ (raised_kept r a.trace s g)
    called_or_kept (Some (obj.List y)) r args a s g k h class x = h _ (raised_kept r a.trace s g)
    called_or_kept (Some (obj.Tuple y)) r args a s g k h class x = h _ (raised_kept r a.trace s g)
    called_or_kept (Some (obj.Dict y)) r args a s g k h class x = h _ (raised_kept r a.trace s g)
    called_or_kept (Some (obj.Range y)) r args a s g k h class x = h _ (raised_kept r a.trace s g)
    called_or_kept (Some (obj.Instance y)) r args a s g k h class x = h _ (raised_kept r a.trace s g)
    called_or_kept (Some (obj.Exception y)) r args a s g k h class x = h _ (raised_kept r a.trace s g)
    called_or_kept (Some (obj.Module y)) r args a s g k h class x = h _ (raised_kept r a.trace s g)
    called_or_kept (Some (obj.Fixture y)) r args a s g k h class x = h _ (raised_kept r a.trace s g)
    called_or_kept (Some obj.MarkMaker) r args a s g k h class x = h _ (raised_kept r a.trace s g)
    called_or_kept (Some (obj.Mark y)) r args a s g k h class x = mark_kept y.called (mark_called y (heap_of s) args.plain args.named) r a s g k h
    called_or_kept (Some (obj.Hook y)) r args a s g k h class x = h _ (raised_kept r a.trace s g)
    called_or_kept (Some (obj.Param y)) r args a s g k h class x = h _ (raised_kept r a.trace s g)
    called_or_kept (Some (obj.Request y)) r args a s g k h class x = h _ (raised_kept r a.trace s g)
    called_or_kept (Some (obj.Raises y)) r args a s g k h class x = h _ (raised_kept r a.trace s g)
    called_or_kept (Some (obj.Info y)) r args a s g k h class x = h _ (raised_kept r a.trace s g)
    called_or_kept (Some (obj.Item y)) r args a s g k h class x = h _ (raised_kept r a.trace s g)
    called_or_kept None r args a s g k h class x = h _ (raised_kept r a.trace s g)

    init_object_kept : (f : Option FunctionObj) (id : ObjId) (v : Value) (r : Raise) (args : Arguments) (a : Around) (s : CallState K) → GoodState s → (k : Continuation K) → Behind k → Kept (init_object entry f id v r args a s k)
    init_object_kept (Some f) id v r args a s g k h = with_kept (Some f) v r args a s g k h
    init_object_kept None id v r args a s g k h = called_or_kept (slice_get (heap_of s) id.at) r args a s g k h _ (λ c. (g, g, h))

    init_kept : (init v : Value) (r : Raise) (args : Arguments) (a : Around) (s : CallState K) → GoodState s → (k : Continuation K) → Behind k → Kept (init_called entry init v r args a s k)
    init_kept (val.Ref id) v r args a s g k h = init_object_kept (function_of_object (slice_get (heap_of s) id.at)) id v r args a s g k h
    init_kept val.None v r args a s g k h = h _ (raised_kept r a.trace s g)
    init_kept (val.Bool b) v r args a s g k h = h _ (raised_kept r a.trace s g)
    init_kept (val.Int n) v r args a s g k h = h _ (raised_kept r a.trace s g)

    init_end_kept : (v : Value) (o : Outcome K) → GoodEnd o → GoodEnd (init_end v o)
    init_end_kept v (Gave w s) g = g
    init_end_kept v (Next s) g = g
    init_end_kept v (Returned w s) g = g
    init_end_kept v (Broke s) g = g
    init_end_kept v (Continued s) g = g
    init_end_kept v (Raised e trace s) g = g

    instance_kept : (init : Option Value) (exc : Bool) (name : List ℕ) (x : Value × List Obj) (args : Arguments) (a : Around) (s : CallState K) → GoodState s → Good (world_with_heap x.1 s.world) → (k : Continuation K) → Behind k → Kept (instance_made entry init exc name x args a s k)
    instance_kept None exc name x args a s g n k h = cond_kept (class_takes exc args) _ _ (h (gave_in x s) n) (h _ (raised_kept (argument_error name) a.trace s g))
    instance_kept (Some init) exc name x args a s g n k h =
        init_kept init x.0 (not_callable (kind_name x.1 init)) args a (with_heap x.1 s) n (λ o. k (init_end x.0 o)) (λ o d. h (init_end x.0 o) (init_end_kept x.0 o d))

    new_kept : (exc : Bool) (id : ObjId) (form : ClassForm) (vs : List Value) (w : World K) → Good w → Good (world_with_heap (new_instance exc id form vs w.heap).1 w)
    new_kept true id form vs w g = thrown_with_kept (class_by id form) vs w g
    new_kept false id form vs w g = closed.object w (obj.Instance (record { class = id; names = [] })) g

    class_kept : (id : ObjId) (c : ClassObj) (args : Arguments) (a : Around) (s : CallState K) → GoodState s → (k : Continuation K) → Behind k → Kept (class_called entry id c args a s k)
    class_kept id c args a s g k h =
        instance_kept (init_of (heap_of s) id) (is_exc_class (heap_of s) (val.Ref id)) c.name (new_instance (is_exc_class (heap_of s) (val.Ref id)) id c.form args.plain (heap_of s)) args a s g (new_kept (is_exc_class (heap_of s) (val.Ref id)) id c.form args.plain s.world g) k h

    value_kept_by : (callee : Value) (r : Raise) (args : Arguments) (a : Around) (s : CallState K) → GoodState s → (k : Continuation K) → Behind k → Kept (value_called entry callee r args a s k)
    value_kept_by (val.Ref id) r args a s g k h = called_or_kept (slice_get (heap_of s) id.at) r args a s g k h _ (λ c. class_kept id c args a s g k h)
    value_kept_by val.None r args a s g k h = h _ (raised_kept r a.trace s g)
    value_kept_by (val.Bool b) r args a s g k h = h _ (raised_kept r a.trace s g)
    value_kept_by (val.Int n) r args a s g k h = h _ (raised_kept r a.trace s g)

    pub invoke_kept : (callee : Value) (args : Arguments) (a : Around) (s : CallState K) → GoodState s → (k : Continuation K) → Behind k → Kept (invoke entry callee args a s k)
    invoke_kept callee args a s g k h = value_kept_by callee (not_callable (kind_name (heap_of s) callee)) args a s g k h

  module _ (m : Meaning K) (kept : MeaningKept m) where
    pub requests_kept : tree.Keeping GoodSpent GoodRequest GoodEnd GoodPaused (body_of m)
    requests_kept (CallOf callee args a s) g k h = invoke_kept m.entry kept.entries callee args a s g k h
    requests_kept (DoOf what p s) g k h = (kept.acts what).does p s g k h

  -- the load of a module, whose path is fresh
  module _ (body : K.script → Body K) (bodies : (c : K.script) → BodyKept (body c)) where
    module_end_kept : (path : List ℕ) (id : ℕ) → Fresh path → (o : Outcome K) → GoodEnd o → GoodEnd (module_end path id o)
    module_end_kept path id f (Gave v s) g = closed.load s.world path _ f g
    module_end_kept path id f (Next s) g = closed.load s.world path _ f g
    module_end_kept path id f (Returned v s) g = closed.load s.world path _ f g
    module_end_kept path id f (Broke s) g = closed.load s.world path _ f g
    module_end_kept path id f (Continued s) g = closed.load s.world path _ f g
    module_end_kept path id f (Raised e trace s) g = closed.load s.world path _ f g

    pub begins_kept : (path : List ℕ) (w : World K) → Fresh path → Good w → Good (with_module path w)
    begins_kept path w f g = closed.load _ path _ f (closed.object (world_with_heap (naming_heap path w.heap) w) (module_object path (length w.heap)) (closed.object w (obj.Text (module_name path)) g))

    -- from the world in which the module begins
    pub begun_kept : (path : List ℕ) (code : K.script) (a : Around) (w : World K) → Fresh path → Good (with_module path w) → (k : Continuation K) → Behind k → Kept (executed body path code a w k)
    begun_kept path code a w f g k h =
        (bodies code).does (module_scene path (module_place path w) a) (start (with_module path w)) g (λ o. k (module_end path (module_place path w) o)) (λ o d. h (module_end path (module_place path w) o) (module_end_kept path (module_place path w) f o d))

    pub executed_kept : (path : List ℕ) (code : K.script) (a : Around) (w : World K) → load_at path w.modules ≡ None → Good w → (k : Continuation K) → Behind k → Kept (executed body path code a w k)
    executed_kept path code a w absent g k h =
        let f : Fresh path = closed.fresh w path absent g in begun_kept path code a w f (begins_kept path w f g) k h

    -- a load in mid-run; missing is what a path without code does
    pub first_load_kept : (code : Option K.script) (path : List ℕ) (missing : Denotation K) (p : Site) (s : CallState K) → load_at path s.world.modules ≡ None → GoodState s → (k : Continuation K) → Behind k → Kept (missing p s k) → Kept (first_load body code path missing p s k)
    first_load_kept None path missing p s absent g k h x = x
    first_load_kept (Some code) path missing p s absent g k h x = executed_kept path code (around_of p) s.world absent g (λ o. k (call_end s o)) (λ o d. h (call_end s o) (call_end_kept s o d))
