-- The same of statements, blocks and calls.
use Rattle.std.proofs.Common.{◌≡◌, ℕ, zero, suc, List, [], ◌∷◌, ◌++◌, Option, Some, None, Bool, true, false, refl, sym, ap, subst}
use Rattle.std.specs.Prelude.{slice_get, cond, nat_lt, length, Result, Ok, Err}
use Rattle.explain_law.proofs.Until as until
use Rattle.explain_law.proofs.Runs.{spend_all_same}
use Rattle.py_tree.specs.Names.{is_among}
use Rattle.py_values.specs.declared.end.Raise.{Raise}
use Rattle.source_meaning.specs.py_kinds.Builtins.{with_receiver}
use Rattle.py_values.specs.declared.class.ClassForm.{ClassForm}
use Rattle.py_values.specs.declared.class.ClassForm.TheVariants.{Source, Exception, Kind}
use Rattle.py_values.specs.declared.object.ClassObj.{ClassObj}
use Rattle.py_values.specs.declared.object.FunctionObj.{FunctionObj}
use Rattle.py_values.specs.declared.object.MethodObj.{MethodObj}
use Rattle.py_values.specs.declared.object.Obj.{Obj}
use Rattle.py_values.specs.declared.object.Obj.TheVariants as obj
use Rattle.py_values.specs.declared.value.ObjId.{ObjId}
use Rattle.py_values.specs.declared.value.Value.{Value}
use Rattle.py_values.specs.declared.value.Value.TheVariants as val
use Rattle.py_values.specs.Ends.{cost_of}
use Rattle.source_meaning.specs.py_kinds.Classes.{is_exc_class}
use Rattle.source_meaning.specs.py_kinds.Kinds.{kind_name}
use Rattle.source_meaning.specs.call_products.declared.product.Product.{Product}
use Rattle.source_meaning.specs.pytest_calls.Marks.{mark_called}
use Rattle.py_values.specs.Names.{bind_name}
use Rattle.source_meaning.specs.py_calls.Called.{CallEffect}
use Rattle.source_meaning.specs.py_calls.Calls.{called_of}
use Rattle.source_meaning.specs.py_world.declared.trace.TraceFrame.{TraceFrame}
use Rattle.source_meaning.specs.py_world.World.{CallState, FunctionCode, Locals, state, heap_of, unset, with_heap, with_objects, with_print}
use Rattle.source_meaning.specs.py_world.Site.{Around, Own, InModule, InFunction, InClass, Scene, Site, site, trace_of}
use Rattle.source_meaning.specs.py_world.Arguments.{Arguments, with_plain}
use Rattle.source_meaning.specs.py_world.Names.{bound, bound_by, bound_global, bound_local, bound_class}
use Rattle.source_meaning.specs.py_world.Outcome.{Outcome, Rest, Continuation, Denotation, After, Body, Request, onward, gave_in, raised, product_end, on_next, on_turn}
use Rattle.source_meaning.specs.py_world.Statements.{IfClause, asked, expression_statement, return_value, yield_value, pass_statement, leave_loop, next_turn, assertion, fail, branches_on, choose, loop, while_turn}
use Rattle.source_meaning.specs.py_world.Calls.{Meaning, Entry, most_open, argument_error, not_callable, too_deep, arguments_for, function_of_object, class_takes, new_instance, init_of, init_end, scene_of, entered, function_called, function_with, builtin_called, mark_or, class_or, called_or, init_object, init_called, instance_made, class_called, value_called, invoke, body_of}
use Rattle.source_meaning.specs.Requests.{Function, Script, Use, SourceLayer, Receives, SourceTurn}
use Rattle.explain_law.specs.Choices as alike
use Rattle.explain_law.specs.Choices.{Choices, K, J, worlds, StatesByChoice, states, EndsByChoice, gave, next, returned, broke, continued, CodesByChoice, CodesAt, ScriptsAt, LayersAt, stored_with}
use Rattle.explain_law.proofs.Following.{Apart, SpentByChoice, out, PausedByChoice, stops, RequestsByChoice, calls, does, TurnsAt}
use Rattle.explain_law.proofs.Parts as part

module _ (R : Choices) (P : Apart) where
  -- one more code
  pub codes_more : {cs : List (FunctionCode K.code)} {ds : List (FunctionCode J.code)} → CodesByChoice R cs ds → (path : List ℕ) (home : ℕ) (c : K.code) (d : J.code) → CodesAt R path c d → CodesByChoice R (cs ++ stored_with path home c ∷ []) (ds ++ stored_with path home d ∷ [])
  codes_more alike.none path home c d h = alike.more path home h alike.none
  codes_more (alike.more p i x xs) path home c d h = alike.more p i x (codes_more xs path home c d h)

  pub codes_length : {cs : List (FunctionCode K.code)} {ds : List (FunctionCode J.code)} → CodesByChoice R cs ds → length cs ≡ length ds
  codes_length alike.none = refl
  codes_length (alike.more p i x xs) = ap suc (codes_length xs)

  -- the same code, or none
  pub data FoundAlike : Option (FunctionCode K.code) → Option (FunctionCode J.code) → Type 0 where
    absent : FoundAlike None None
    present : (path : List ℕ) (home : ℕ) {c : K.code} {d : J.code} → CodesAt R path c d → FoundAlike (Some (stored_with path home c)) (Some (stored_with path home d))

  pub found : {cs : List (FunctionCode K.code)} {ds : List (FunctionCode J.code)} → CodesByChoice R cs ds → (n : ℕ) → FoundAlike (slice_get cs n) (slice_get ds n)
  found alike.none n = absent
  found (alike.more p i x xs) zero = present p i x
  found (alike.more p i x xs) (suc n) = found xs n

  abbrev States : CallState K → CallState J → Type 0
  States = StatesByChoice R false

  abbrev Ends : Outcome K → Outcome J → Type 0
  Ends = EndsByChoice R false

  abbrev Follow : Rest K → Rest J → Type 0
  Follow = part.Follow R P false

  abbrev Behind : Continuation K → Continuation J → Type 0
  Behind = part.Behind R P false

  abbrev PartSame : Denotation K → Denotation J → Type 0
  PartSame = part.PartSame R P false

  -- two statements that do the same at the places of a module, and two blocks likewise
  pub record PartAt (path : List ℕ) (e : Denotation K) (f : Denotation J) : Type 0 where
    pub does : (p : Site) → p.scene.path ≡ path → {s : CallState K} {r : CallState J} → States s r → (k : Continuation K) (l : Continuation J) → Behind k l → Follow (e p s k) (f p r l)

  pub at_each : {path : List ℕ} {e : Denotation K} {f : Denotation J} → PartSame e f → PartAt path e f
  at_each x = record { does = λ p is ss k l h. x.does p ss k l h }

  pub record BodySame (path : List ℕ) (b : Body K) (c : Body J) : Type 0 where
    pub does : (scene : Scene) → scene.path ≡ path → {s : CallState K} {r : CallState J} → States s r → (k : Continuation K) (l : Continuation J) → Behind k l → Follow (b scene s k) (c scene r l)

  -- what is done with ends that are alike
  pub record AfterSame (path : List ℕ) (f : After K) (g : After J) : Type 0 where
    pub does : (p : Site) → p.scene.path ≡ path → {o : Outcome K} {q : Outcome J} → Ends o q → (k : Continuation K) (l : Continuation J) → Behind k l → Follow (f p o k) (g p q l)

  pub next_same : {o : Outcome K} {q : Outcome J} → Ends o q → (k : Continuation K) (l : Continuation J) → Behind k l → (go : CallState K → Rest K) (go' : CallState J → Rest J) → ((s : CallState K) (r : CallState J) → States s r → Follow (go s) (go' r)) → Follow (on_next o k go) (on_next q l go')
  next_same n k l h go go' g =
      let w : part.WaysSame R P false (onward k) (onward l) = part.onward_same R P false k l h in
      part.route_same R P false (record { gave = w.gave; next = g; returned = w.returned; broke = w.broke; continued = w.continued; raised = w.raised }) n

  pub turn_same : {o : Outcome K} {q : Outcome J} → Ends o q → (k : Continuation K) (l : Continuation J) → Behind k l → (go : CallState K → Rest K) (go' : CallState J → Rest J) → ((s : CallState K) (r : CallState J) → States s r → Follow (go s) (go' r)) → Follow (on_turn o k go) (on_turn q l go')
  turn_same n k l h go go' g =
      let w : part.WaysSame R P false (onward k) (onward l) = part.onward_same R P false k l h in
      part.route_same R P false (record { gave = w.gave; next = g; returned = w.returned; broke = w.next; continued = g; raised = w.raised }) n

  pub unset_same : {s : CallState K} {r : CallState J} → States s r → States (unset s) (unset r)
  unset_same (states a t ws) = states a (part.none_kept false) ws

  pub state_cond : (b : Bool) (s s' : CallState K) (r r' : CallState J) → States s r → States s' r' → States (cond b s s') (cond b r r')
  state_cond true s s' r r' h g = h
  state_cond false s s' r r' h g = g

  global_bound : (name : List ℕ) (v : Value) (scene : Scene) {s : CallState K} {r : CallState J} → States s r → States (bound_global name v scene s) (bound_global name v scene r)
  global_bound name v scene (states a t (worlds ss cs fs modules heap printed traces)) = states a t (worlds ss cs fs modules _ printed traces)

  local_bound : (name : List ℕ) (v : Value) {s : CallState K} {r : CallState J} → States s r → States (bound_local name v s) (bound_local name v r)
  local_bound name v (states a t ws) = states (bind_name name v a) t ws

  class_bound : (name : List ℕ) (v : Value) (at : ℕ) {s : CallState K} {r : CallState J} → States s r → States (bound_class name v at s) (bound_class name v at r)
  class_bound name v at (states a t (worlds ss cs fs modules heap printed traces)) = states a t (worlds ss cs fs modules _ printed traces)

  bound_by_same : (own : Own) (name : List ℕ) (v : Value) (scene : Scene) {s : CallState K} {r : CallState J} → States s r → States (bound_by own name v scene s) (bound_by own name v scene r)
  bound_by_same InModule name v scene ss = global_bound name v scene ss
  bound_by_same (InFunction own) name v scene ss = state_cond (is_among own name) _ _ _ _ (local_bound name v ss) (global_bound name v scene ss)
  bound_by_same (InClass at) name v scene ss = class_bound name v at ss

  pub bound_same : (name : List ℕ) (v : Value) (scene : Scene) {s : CallState K} {r : CallState J} → States s r → States (bound name v scene s) (bound name v scene r)
  bound_same name v scene ss = bound_by_same scene.own name v scene ss

  pub expression_same : {e : Denotation K} {f : Denotation J} → PartSame e f → PartSame (expression_statement e) (expression_statement f)
  expression_same x = record { does = λ p ss k l h. x.does p ss _ _ (λ o q n. part.value_same R P false n k l h _ _ (λ v s r ss. h _ _ (next ss))) }

  abbrev SomeSame : Option (Denotation K) → Option (Denotation J) → Type 0
  SomeSame = part.SomeSame R P false

  pub return_same : {e : Option (Denotation K)} {f : Option (Denotation J)} → SomeSame e f → PartSame (return_value e) (return_value f)
  return_same part.absent = record { does = λ p ss k l h. h _ _ (returned val.None ss) }
  return_same (part.present x) = record { does = λ p ss k l h. x.does p ss _ _ (λ o q n. part.value_same R P false n k l h _ _ (λ v s r ss. h _ _ (returned v ss))) }

  -- a body that stops
  rest_here : {path other : List ℕ} → other ≡ path → {ls ks : List SourceLayer} → LayersAt R path ls ks → LayersAt R other ls ks
  rest_here is {ls = ls} {ks = ks} rest = subst (λ at. LayersAt R at ls ks) (sym is) rest

  pub yield_same : {path : List ℕ} {e : Option (Denotation K)} {f : Option (Denotation J)} → SomeSame e f → (u : Use) {ls ks : List SourceLayer} → LayersAt R path ls ks → PartAt path (yield_value e (Receives u ∷ ls)) (yield_value f (Receives u ∷ ks))
  yield_same part.absent u rest = record { does = λ p is ss k l h. until.freeze (stops val.None u p (rest_here is rest) ss) }
  yield_same (part.present x) u rest = record { does = λ p is ss k l h. x.does p ss _ _ (λ o q n. part.value_same R P false n k l h _ _ (λ v s r ss. until.freeze (stops v u p (rest_here is rest) ss))) }

  pub pass_same : PartSame pass_statement pass_statement
  pass_same = record { does = λ p ss k l h. h _ _ (next ss) }

  pub leave_same : PartSame leave_loop leave_loop
  leave_same = record { does = λ p ss k l h. h _ _ (broke ss) }

  pub again_same : PartSame next_turn next_turn
  again_same = record { does = λ p ss k l h. h _ _ (continued ss) }

  pub fail_same : {e : Option (Denotation K)} {f : Option (Denotation J)} → SomeSame e f → PartSame (fail e) (fail f)
  fail_same part.absent = record { does = λ p ss k l h. h _ _ (part.raised_same R P false (assertion None) (trace_of p) ss) }
  fail_same (part.present x) = record { does = λ p ss k l h. x.does p ss _ _ (λ o q n. part.value_same R P false n k l h _ _ (λ v s r ss. h _ _ (part.raised_same R P false (assertion (Some v)) (trace_of p) ss))) }

  pub asked_same : {what other : SourceTurn} (p : Site) → TurnsAt R p.scene.path what other → {s : CallState K} {r : CallState J} → States s r → (k : Continuation K) (l : Continuation J) → Behind k l → Follow (asked what p s k) (asked other p r l)
  asked_same p turn ss k l h = until.ask (out (trace_of p) ss) (does p turn ss) h

  pub turn_here : {path other : List ℕ} → other ≡ path → {what turn : SourceTurn} → TurnsAt R path what turn → TurnsAt R other what turn
  turn_here is {what = what} {turn = turn} h = subst (λ at. TurnsAt R at what turn) (sym is) h

  pub loop_same : {path : List ℕ} {what other : SourceTurn} → TurnsAt R path what other → {e : Denotation K} {f : Denotation J} → PartSame e f → PartAt path (loop what e) (loop other f)
  loop_same turn x = record { does = λ p is ss k l h. x.does p ss _ _ (λ o q n. part.value_same R P false n k l h _ _ (λ v s r ss. part.truth_same R P false v ss _ _ _ _ (asked_same p (turn_here is turn) ss k l h) (h _ _ (next ss)))) }

  pub turn_of_same : {path : List ℕ} {what other : SourceTurn} → TurnsAt R path what other → {e : Denotation K} {f : Denotation J} {b : Body K} {c : Body J} → PartSame e f → BodySame path b c → PartAt path (while_turn what e b) (while_turn other f c)
  turn_of_same turn x b = record { does = λ p is ss k l h. b.does p.scene is ss _ _ (λ o q n. turn_same n k l h _ _ (λ s r ss. (loop_same turn x).does p is ss k l h)) }

  pub data ChoicesSame (path : List ℕ) : List (IfClause K) → List (IfClause J) → Type 0 where
    none : ChoicesSame path [] []
    more : (line : ℕ) {e : Denotation K} {f : Denotation J} {b : Body K} {c : Body J} {es : List (IfClause K)} {fs : List (IfClause J)} → PartSame e f → BodySame path b c → ChoicesSame path es fs → ChoicesSame path ((line, (e, b)) ∷ es) ((line, (f, c)) ∷ fs)

  pub choices_push : {path : List ℕ} {es : List (IfClause K)} {fs : List (IfClause J)} → ChoicesSame path es fs → (line : ℕ) {e : Denotation K} {f : Denotation J} {b : Body K} {c : Body J} → PartSame e f → BodySame path b c → ChoicesSame path (es ++ (line, (e, b)) ∷ []) (fs ++ (line, (f, c)) ∷ [])
  choices_push none line x y = more line x y none
  choices_push (more at z w xs) line x y = more at z w (choices_push xs line x y)

  branches_same : {path : List ℕ} {es : List (IfClause K)} {fs : List (IfClause J)} → ChoicesSame path es fs → {b : Body K} {c : Body J} → BodySame path b c → BodySame path (branches_on es b) (branches_on fs c)
  branches_same none b = b
  branches_same (more line x y xs) b = record { does = λ scene is ss k l h. x.does (site scene line) ss _ _ (λ o q n. part.value_same R P false n k l h _ _ (λ v s r ss. part.truth_same R P false v ss _ _ _ _ (y.does scene is ss k l h) ((branches_same xs b).does scene is ss k l h))) }

  pub choose_same : {path : List ℕ} {es : List (IfClause K)} {fs : List (IfClause J)} → ChoicesSame path es fs → {b : Body K} {c : Body J} → BodySame path b c → PartAt path (choose es b) (choose fs c)
  choose_same xs b = record { does = λ p is ss k l h. (branches_same xs b).does p.scene is (unset_same ss) k l h }

  pub record EntrySame (path : List ℕ) (e : Entry K) (f : Entry J) : Type 0 where
    pub name : f.name ≡ e.name
    pub own : f.own ≡ e.own
    pub body : BodySame path e.body f.body

  -- two meanings that do the same
  pub record MeaningsSame (m : Meaning K) (n : Meaning J) : Type 0 where
    pub entries : (path : List ℕ) (c d : Function) → CodesAt R path c d → EntrySame path (m.entry c) (n.entry d)
    pub acts : (what turn : SourceTurn) (p : Site) → TurnsAt R p.scene.path what turn → (s : CallState K) (r : CallState J) → States s r → (k : Continuation K) (l : Continuation J) → Behind k l → Follow (m.act what p s k) (n.act turn p r l)
    pub bodies : (path : List ℕ) (c d : Script) → ScriptsAt R path c d → BodySame path (m.body c) (n.body d)

  entered_same : (names : Locals) {s : CallState K} {r : CallState J} → States s r → States (state names [] s.world) (state names [] r.world)
  entered_same names (states a t ws) = states names (part.none_kept false) ws

  printed_same : (bytes : List ℕ) {s : CallState K} {r : CallState J} → States s r → States (with_print bytes s) (with_print bytes r)
  printed_same bytes (states a t (worlds xs ys zs modules heap printed traces)) = states a t (worlds xs ys zs modules heap (printed ++ bytes) traces)

  objects_same : (all : List Obj) {s : CallState K} {r : CallState J} → States s r → States (with_objects all s) (with_objects all r)
  objects_same all (states a t (worlds xs ys zs modules heap printed traces)) = states a t (worlds xs ys zs modules (heap ++ all) printed traces)

  product_same : (x : Product) (trace : List TraceFrame) {s : CallState K} {r : CallState J} → States s r → Ends (product_end x trace s) (product_end x trace r)
  product_same x trace ss = part.made_same R P false x.made trace (objects_same x.objects ss)

  with_heap_same : (heap : List Obj) {s : CallState K} {r : CallState J} → States s r → States (with_heap heap s) (with_heap heap r)
  with_heap_same heap (states a t (worlds xs ys zs modules old printed traces)) = states a t (worlds xs ys zs modules heap printed traces)

  -- two calls that do the same
  pub record CallSame (e : CallState K → Continuation K → Rest K) (f : CallState J → Continuation J → Rest J) : Type 0 where
    pub does : {s : CallState K} {r : CallState J} → States s r → (k : Continuation K) (l : Continuation J) → Behind k l → Follow (e s k) (f r l)

  raise_same : (e : Raise) (trace : List TraceFrame) → CallSame (λ s k. k (raised e trace s)) (λ s k. k (raised e trace s))
  raise_same e trace = record { does = λ ss k l h. h _ _ (part.raised_same R P false e trace ss) }

  call_cond : (b : Bool) {e e' : CallState K → Continuation K → Rest K} {f f' : CallState J → Continuation J → Rest J} → CallSame e f → CallSame e' f' → CallSame (λ s k. cond b (e s k) (e' s k)) (λ s k. cond b (f s k) (f' s k))
  call_cond true h g = record { does = λ ss k l b. h.does ss k l b }
  call_cond false h g = record { does = λ ss k l b. g.does ss k l b }

  init_end_same : (v : Value) {o : Outcome K} {q : Outcome J} → Ends o q → Ends (init_end v o) (init_end v q)
  init_end_same v (gave w ss) = gave v ss
  init_end_same v (next ss) = gave v ss
  init_end_same v (returned w ss) = gave v ss
  init_end_same v (broke ss) = gave v ss
  init_end_same v (continued ss) = gave v ss
  init_end_same v (alike.raised e trace ss) = alike.raised e trace ss

  -- functions that say the same, by their codes
  module _ (entry : K.code → Entry K) (other : J.code → Entry J) (same : (path : List ℕ) (c d : Function) → CodesAt R path c d → EntrySame path (entry c) (other d)) where
    entered_as : (path : List ℕ) (c d : Function) → CodesAt R path c d → (scene : Scene) → scene.path ≡ path → (names : Locals) → CallSame (λ s k. (entry c).body scene (state names [] s.world) k) (λ s k. (other d).body scene (state names [] s.world) k)
    entered_as path c d x scene is names = record { does = λ ss k l h. (same path c d x).body.does scene is (entered_same names ss) k l h }

    pub entered_by : {c d : Function} (path : List ℕ) → CodesAt R path c d → (home : ℕ) (names : Result Locals Raise) (a : Around) → CallSame (entered entry (stored_with path home c) names a) (entered other (stored_with path home d) names a)
    entered_by {c = c} {d = d} path x home (Ok names) a =
        record {
          does = λ ss k l h. rw ((same path c d x).name, (same path c d x).own)
              ((call_cond (nat_lt a.depth most_open) (entered_as path c d x (scene_of entry (stored_with path home c) a) refl names) (raise_same too_deep a.trace)).does ss k l h);
        }
    entered_by path x home (Err r) a = record { does = λ ss k l h. (raise_same r a.trace).does ss k l h }

    function_same : {c : Option (FunctionCode K.code)} {d : Option (FunctionCode J.code)} → FoundAlike c d → (f : FunctionObj) (e : Raise) (args : Arguments) (a : Around) → CallSame (function_called entry c f e args a) (function_called other d f e args a)
    function_same absent f e args a = record { does = λ ss k l h. (raise_same e a.trace).does ss k l h }
    function_same (present path home x) f e args a = record { does = λ ss k l h. (entered_by path x home (arguments_for f args) a).does ss k l h }

    builtin_same : (c : CallEffect) (a : Around) → CallSame (builtin_called entry c a) (builtin_called other c a)
    builtin_same c a =
        record { does = λ ss k l h. spend_all_same (SpentByChoice R) (RequestsByChoice R) (EndsByChoice R false) (PausedByChoice R) P (cost_of c.product.made) _ _ _ _ (out a.trace ss) (h _ _ (product_same c.product a.trace (printed_same c.printed ss))) }

    mark_same : (called : Bool) (x : Product) (e : Raise) (a : Around) → CallSame (mark_or entry called x e a) (mark_or other called x e a)
    mark_same true x e a = record { does = λ ss k l h. (raise_same e a.trace).does ss k l h }
    mark_same false x e a =
        record { does = λ ss k l h. spend_all_same (SpentByChoice R) (RequestsByChoice R) (EndsByChoice R false) (PausedByChoice R) P (cost_of x.made) _ _ _ _ (out a.trace ss) (h _ _ (product_same x a.trace ss)) }

    mark_here : (called : Bool) (x : List Obj → Product) (e : Raise) (a : Around) {s : CallState K} {r : CallState J} → States s r → (k : Continuation K) (l : Continuation J) → Behind k l → Follow (mark_or entry called (x (heap_of s)) e a s k) (mark_or other called (x (heap_of r)) e a r l)
    mark_here called x e a (states b t (worlds xs ys zs modules heap printed traces)) k l h = (mark_same called (x heap) e a).does (states b t (worlds xs ys zs modules heap printed traces)) k l h

    -- what is called depends on the heap and the codes, which are alike
    builtin_here : (c : List Obj → CallEffect) (a : Around) {s : CallState K} {r : CallState J} → States s r → (k : Continuation K) (l : Continuation J) → Behind k l → Follow (builtin_called entry (c (heap_of s)) a s k) (builtin_called other (c (heap_of r)) a r l)
    builtin_here c a (states b t (worlds xs ys zs modules heap printed traces)) k l h = (builtin_same (c heap) a).does (states b t (worlds xs ys zs modules heap printed traces)) k l h

    function_here : (f : FunctionObj) (e : Raise) (args : Arguments) (a : Around) {s : CallState K} {r : CallState J} → States s r → (k : Continuation K) (l : Continuation J) → Behind k l → Follow (function_called entry (slice_get s.world.codes f.code) f e args a s k) (function_called other (slice_get r.world.codes f.code) f e args a r l)
    function_here f e args a (states b t (worlds xs ys zs modules heap printed traces)) k l h = (function_same (found ys f.code) f e args a).does (states b t (worlds xs ys zs modules heap printed traces)) k l h

    with_same : (f : Option FunctionObj) (v : Value) (e : Raise) (args : Arguments) (a : Around) → CallSame (function_with entry f v e args a) (function_with other f v e args a)
    with_same None v e args a = record { does = λ ss k l h. (raise_same e a.trace).does ss k l h }
    with_same (Some f) v e args a = record { does = λ ss k l h. function_here f e (with_plain v args) a ss k l h }

    method_here : (m : MethodObj) (e : Raise) (args : Arguments) (a : Around) {s : CallState K} {r : CallState J} → States s r → (k : Continuation K) (l : Continuation J) → Behind k l → Follow (function_with entry (function_of_object (slice_get (heap_of s) m.function.at)) m.receiver e args a s k) (function_with other (function_of_object (slice_get (heap_of r) m.function.at)) m.receiver e args a r l)
    method_here m e args a (states b t (worlds xs ys zs modules heap printed traces)) k l h = (with_same (function_of_object (slice_get heap m.function.at)) m.receiver e args a).does (states b t (worlds xs ys zs modules heap printed traces)) k l h

    class_or_same : (c : ClassForm) (args : Arguments) (a : Around) {s : CallState K} {r : CallState J} → States s r → (k : Continuation K) (l : Continuation J) → Behind k l → (x : Rest K) (y : Rest J) → Follow x y → Follow (class_or entry c args a s k x) (class_or other c args a r l y)
    class_or_same (Kind b) args a ss k l h x y g = builtin_here (λ heap. called_of b heap args.plain args.named) a ss k l h
    class_or_same Source args a ss k l h x y g = g
    class_or_same (Exception c) args a ss k l h x y g = g

    -- two ways in which a class is called
    abbrev Classes : (ClassObj → Rest K) → (ClassObj → Rest J) → Type 0
    Classes x y = (c : ClassObj) → Follow (x c) (y c)

    called_or_same : (o : Option Obj) (e : Raise) (args : Arguments) (a : Around) {s : CallState K} {r : CallState J} → States s r → (k : Continuation K) (l : Continuation J) → Behind k l → (x : ClassObj → Rest K) (y : ClassObj → Rest J) → Classes x y → Follow (called_or entry o e args a s k x) (called_or other o e args a r l y)
    called_or_same (Some (obj.Function f)) e args a ss k l h x y g = function_here f e args a ss k l h
    called_or_same (Some (obj.Method m)) e args a ss k l h x y g = method_here m e args a ss k l h
    called_or_same (Some (obj.Builtin b)) e args a ss k l h x y g = builtin_here (λ heap. called_of b.which heap (with_receiver b.receiver args.plain) args.named) a ss k l h
    called_or_same (Some (obj.Class c)) e args a ss k l h x y g = class_or_same c.form args a ss k l h (x c) (y c) (g c)
    called_or_same (Some (obj.Text z)) e args a ss k l h x y g = (raise_same e a.trace).does ss k l h
    called_or_same (Some (obj.List z)) e args a ss k l h x y g = (raise_same e a.trace).does ss k l h
    called_or_same (Some (obj.Tuple z)) e args a ss k l h x y g = (raise_same e a.trace).does ss k l h
    called_or_same (Some (obj.Dict z)) e args a ss k l h x y g = (raise_same e a.trace).does ss k l h
    called_or_same (Some (obj.Range z)) e args a ss k l h x y g = (raise_same e a.trace).does ss k l h
    called_or_same (Some (obj.Instance z)) e args a ss k l h x y g = (raise_same e a.trace).does ss k l h
    called_or_same (Some (obj.Exception z)) e args a ss k l h x y g = (raise_same e a.trace).does ss k l h
    called_or_same (Some (obj.Module z)) e args a ss k l h x y g = (raise_same e a.trace).does ss k l h
    called_or_same (Some (obj.Fixture z)) e args a ss k l h x y g = (raise_same e a.trace).does ss k l h
    called_or_same (Some obj.MarkMaker) e args a ss k l h x y g = (raise_same e a.trace).does ss k l h
    called_or_same (Some (obj.Mark z)) e args a ss k l h x y g = mark_here z.called (λ heap. mark_called z heap args.plain args.named) e a ss k l h
    called_or_same (Some (obj.Hook z)) e args a ss k l h x y g = (raise_same e a.trace).does ss k l h
    called_or_same (Some (obj.Param z)) e args a ss k l h x y g = (raise_same e a.trace).does ss k l h
    called_or_same (Some (obj.Request z)) e args a ss k l h x y g = (raise_same e a.trace).does ss k l h
    called_or_same (Some (obj.Raises z)) e args a ss k l h x y g = (raise_same e a.trace).does ss k l h
    called_or_same (Some (obj.Info z)) e args a ss k l h x y g = (raise_same e a.trace).does ss k l h
    called_or_same (Some (obj.Item z)) e args a ss k l h x y g = (raise_same e a.trace).does ss k l h
    called_or_same None e args a ss k l h x y g = (raise_same e a.trace).does ss k l h

    -- an object of the heap is called
    called_here : (at : ℕ) (e : Raise) (args : Arguments) (a : Around) {s : CallState K} {r : CallState J} → States s r → (k : Continuation K) (l : Continuation J) → Behind k l → (x : ClassObj → Rest K) (y : ClassObj → Rest J) → Classes x y → Follow (called_or entry (slice_get (heap_of s) at) e args a s k x) (called_or other (slice_get (heap_of r) at) e args a r l y)
    called_here at e args a (states b t (worlds xs ys zs modules heap printed traces)) k l h x y g = called_or_same (slice_get heap at) e args a (states b t (worlds xs ys zs modules heap printed traces)) k l h x y g

    init_object_same : (f : Option FunctionObj) (id : ObjId) (v : Value) (e : Raise) (args : Arguments) (a : Around) → CallSame (init_object entry f id v e args a) (init_object other f id v e args a)
    init_object_same (Some f) id v e args a = record { does = λ ss k l h. (with_same (Some f) v e args a).does ss k l h }
    init_object_same None id v e args a = record { does = λ ss k l h. called_here id.at e args a ss k l h _ _ (λ c. until.ask (out a.trace ss) (calls (val.Ref id) args a ss) h) }

    init_here : (id : ObjId) (v : Value) (e : Raise) (args : Arguments) (a : Around) {s : CallState K} {r : CallState J} → States s r → (k : Continuation K) (l : Continuation J) → Behind k l → Follow (init_object entry (function_of_object (slice_get (heap_of s) id.at)) id v e args a s k) (init_object other (function_of_object (slice_get (heap_of r) id.at)) id v e args a r l)
    init_here id v e args a (states b t (worlds xs ys zs modules heap printed traces)) k l h = (init_object_same (function_of_object (slice_get heap id.at)) id v e args a).does (states b t (worlds xs ys zs modules heap printed traces)) k l h

    init_same : (init v : Value) (e : Raise) (args : Arguments) (a : Around) → CallSame (init_called entry init v e args a) (init_called other init v e args a)
    init_same (val.Ref id) v e args a = record { does = λ ss k l h. init_here id v e args a ss k l h }
    init_same val.None v e args a = record { does = λ ss k l h. (raise_same e a.trace).does ss k l h }
    init_same (val.Bool b) v e args a = record { does = λ ss k l h. (raise_same e a.trace).does ss k l h }
    init_same (val.Int z) v e args a = record { does = λ ss k l h. (raise_same e a.trace).does ss k l h }

    give_same : (x : Value × List Obj) → CallSame (λ s k. k (gave_in x s)) (λ s k. k (gave_in x s))
    give_same x = record { does = λ ss k l h. h _ _ (gave x.0 (with_heap_same x.1 ss)) }

    instance_same : (init : Option Value) (exc : Bool) (name : List ℕ) (x : Value × List Obj) (args : Arguments) (a : Around) → CallSame (instance_made entry init exc name x args a) (instance_made other init exc name x args a)
    instance_same None exc name x args a = record { does = λ ss k l h. (call_cond (class_takes exc args) (give_same x) (raise_same (argument_error name) a.trace)).does ss k l h }
    instance_same (Some init) exc name x args a =
        record { does = λ ss k l h. (init_same init x.0 (not_callable (kind_name x.1 init)) args a).does (with_heap_same x.1 ss) (λ o. k (init_end x.0 o)) (λ o. l (init_end x.0 o)) (λ o q n. h _ _ (init_end_same x.0 n)) }

    class_same : (id : ObjId) (c : ClassObj) (args : Arguments) (a : Around) {s : CallState K} {r : CallState J} → States s r → (k : Continuation K) (l : Continuation J) → Behind k l → Follow (class_called entry id c args a s k) (class_called other id c args a r l)
    class_same id c args a (states b t (worlds xs ys zs modules heap printed traces)) k l h =
        (instance_same (init_of heap id) (is_exc_class heap (val.Ref id)) c.name (new_instance (is_exc_class heap (val.Ref id)) id c.form args.plain heap) args a).does (states b t (worlds xs ys zs modules heap printed traces)) k l h

    value_same : (v : Value) (e : Raise) (args : Arguments) (a : Around) → CallSame (value_called entry v e args a) (value_called other v e args a)
    value_same (val.Ref id) e args a = record { does = λ ss k l h. called_here id.at e args a ss k l h _ _ (λ c. class_same id c args a ss k l h) }
    value_same val.None e args a = record { does = λ ss k l h. (raise_same e a.trace).does ss k l h }
    value_same (val.Bool c) e args a = record { does = λ ss k l h. (raise_same e a.trace).does ss k l h }
    value_same (val.Int z) e args a = record { does = λ ss k l h. (raise_same e a.trace).does ss k l h }

    invoke_here : (v : Value) (args : Arguments) (a : Around) {s : CallState K} {r : CallState J} → States s r → (k : Continuation K) (l : Continuation J) → Behind k l → Follow (invoke entry v args a s k) (invoke other v args a r l)
    invoke_here v args a (states b t (worlds xs ys zs modules heap printed traces)) k l h = (value_same v (not_callable (kind_name heap v)) args a).does (states b t (worlds xs ys zs modules heap printed traces)) k l h

    pub invoke_same : (callee : Value) (args : Arguments) (a : Around) → CallSame (invoke entry callee args a) (invoke other callee args a)
    invoke_same callee args a = record { does = λ ss k l h. invoke_here callee args a ss k l h }

  module _ (m : Meaning K) (n : Meaning J) (same : MeaningsSame m n) where
    pub body_same : (r : Request K) (q : Request J) → RequestsByChoice R r q → (k : Continuation K) (l : Continuation J) → Behind k l → Follow (body_of m r k) (body_of n q l)
    body_same _ _ (calls callee args a ss) k l h = (invoke_same m.entry n.entry same.entries callee args a).does ss k l h
    body_same _ _ (does p turn ss) k l h = same.acts _ _ p turn _ _ ss k l h
