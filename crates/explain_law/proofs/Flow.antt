-- The same of targets, `try`, `with` and `for`.
use Rattle.std.proofs.Common.{◌≡◌, ℕ, suc, List, [], ◌∷◌, ◌++◌, Option, Some, None, Bool, true, false, refl, ap, subst}
use Rattle.std.specs.Prelude.{length, eqb, is_some, if◌then◌else◌}
use Rattle.py_tree.specs.declared.op.BinOp.{BinOp}
use Rattle.py_tree.specs.Names.{is_among}
use Rattle.py_values.specs.Ends.{id_at}
use Rattle.source_meaning.specs.py_kinds.Kinds.{kind_name}
use Rattle.source_meaning.specs.py_kinds.Lengths.{length_of}
use Rattle.py_values.specs.Names.{unbind_name}
use Rattle.py_values.specs.declared.end.Effect.{Effect}
use Rattle.py_values.specs.declared.end.Effect.TheVariants.{Give, New, Put, Fail}
use Rattle.py_values.specs.declared.end.Raise.{Raise}
use Rattle.py_values.specs.declared.index.Index.TheVariants.{At}
use Rattle.py_values.specs.declared.object.Obj.{Obj}
use Rattle.py_values.specs.declared.object.RaisesObj.{RaisesObj}
use Rattle.py_values.specs.declared.value.ObjId.{ObjId}
use Rattle.py_values.specs.declared.value.Value.{Value}
use Rattle.py_values.specs.declared.value.Value.TheVariants as val
use Rattle.source_meaning.specs.py_operands.Faults.{not_iterable}
use Rattle.source_meaning.specs.py_ops.Binary.{augmented_of}
use Rattle.source_meaning.specs.py_items.Items.{subscript_of, store_of, delete_of, object_at}
use Rattle.source_meaning.specs.py_items.Turns.{turn_of as element_of, iterator_after, iterate}
use Rattle.source_meaning.specs.py_items.declared.iter.IterAt.{IterAt}
use Rattle.source_meaning.specs.py_attributes.Attributes.{own_value, no_attribute}
use Rattle.source_meaning.specs.pytest_calls.Swallowing.{did_not_raise, pattern_end}
use Rattle.source_meaning.specs.py_kinds.Classes.{is_a}
use Rattle.source_meaning.specs.py_world.declared.ended.Thrown.{Thrown}
use Rattle.source_meaning.specs.py_world.declared.trace.TraceFrame.{TraceFrame}
use Rattle.source_meaning.specs.py_world.World.{Kinds, CallState, heap_of, with_trace}
use Rattle.source_meaning.specs.py_world.Site.{Scene, Site, Own, InModule, InFunction, InClass, trace_of, site_handling, scene_handling}
use Rattle.source_meaning.specs.py_world.Names.{bound_value, not_bound, unbound, unbound_by, unbound_global, unbound_here, unbound_class, deleted, delete_name}
use Rattle.source_meaning.specs.py_world.Outcome.{Outcome, Gave, Next, Returned, Broke, Continued, Raised, Rest, Continuation, Denotation, After, Body, route, onward, changing, costing, operated, on_value, on_next, raised_at}
use Rattle.source_meaning.specs.py_world.Attributes.{takes_names, with_attribute, without_attribute, changed_or, attribute_end, set_attribute, unset_attribute}
use Rattle.source_meaning.specs.py_world.Targets.{Store, wrong_count, elements_from, store_name, store_attribute, set_item, store_item, store_all, store_each, store_elements, unpack_by, unpack, assign, augmented, augment_on, augment_name, augment_attribute_of, augment_attribute, augment_item_of, augment_item, delete_attribute, unset_item, delete_item}
use Rattle.source_meaning.specs.py_world.Statements.{received, no_use, return_sent}
use Rattle.source_meaning.specs.py_world.Exceptions.{Handling, Raisable, Exception_of, Class_of, Neither, no_exception, nothing_raised, raisable, raised_by, raised_again, takes_exception, handler_block, if_taken, handlers_on, guarded_by, then_again, finally_on, guarded, try_statement}
use Rattle.source_meaning.specs.py_world.Contexts.{bad_context, context_of, info_named, with_info, info_taken, searched, taken_or, not_raised, context_left, context_entered, with_statement}
use Rattle.source_meaning.specs.py_world.Loops.{turn_begun, for_from, iterated, for_statement, behind_target, turn_with, for_turn}
use Rattle.source_meaning.specs.Requests.{SourceTurn}
use Rattle.explain_law.specs.Choices as alike
use Rattle.explain_law.specs.Choices.{Choices, K, J, worlds, StatesByChoice, states, EndsByChoice, gave, next, returned, broke, continued}
use Rattle.explain_law.proofs.Following.{Apart, TurnsAt}
use Rattle.explain_law.proofs.Parts as part
use Rattle.explain_law.proofs.Blocks as block
use Rattle.explain_law.proofs.Displays as displays

module _ (R : Choices) (P : Apart) where
  abbrev States : CallState K → CallState J → Type 0
  States = StatesByChoice R false

  abbrev Ends : Outcome K → Outcome J → Type 0
  Ends = EndsByChoice R false

  abbrev Follow : Rest K → Rest J → Type 0
  Follow = part.Follow R P false

  abbrev Behind : Continuation K → Continuation J → Type 0
  Behind = part.Behind R P false

  abbrev PartSame : Denotation K → Denotation J → Type 0
  PartSame = part.PartSame R P false

  abbrev PartsSame : List (Denotation K) → List (Denotation J) → Type 0
  PartsSame = part.PartsSame R P false

  abbrev SomeSame : Option (Denotation K) → Option (Denotation J) → Type 0
  SomeSame = part.SomeSame R P false

  abbrev PartAt : List ℕ → Denotation K → Denotation J → Type 0
  PartAt = block.PartAt R P

  abbrev BodySame : List ℕ → Body K → Body J → Type 0
  BodySame = block.BodySame R P

  abbrev AfterSame : List ℕ → After K → After J → Type 0
  AfterSame = block.AfterSame R P

  value_same : {o : Outcome K} {q : Outcome J} → Ends o q → (k : Continuation K) (l : Continuation J) → Behind k l → (go : Value → CallState K → Rest K) (go' : Value → CallState J → Rest J) → ((v : Value) (s : CallState K) (r : CallState J) → States s r → Follow (go v s) (go' v r)) → Follow (on_value o k go) (on_value q l go')
  value_same n k l h go go' g = part.value_same R P false n k l h go go' g

  next_same : {o : Outcome K} {q : Outcome J} → Ends o q → (k : Continuation K) (l : Continuation J) → Behind k l → (go : CallState K → Rest K) (go' : CallState J → Rest J) → ((s : CallState K) (r : CallState J) → States s r → Follow (go s) (go' r)) → Follow (on_next o k go) (on_next q l go')
  next_same n k l h go go' g = block.next_same R P n k l h go go' g

  operated_same : (m : List Obj → Effect) (p : Site) {s : CallState K} {r : CallState J} → States s r → (k : Continuation K) (l : Continuation J) → Behind k l → Follow (operated (m (heap_of s)) p s k) (operated (m (heap_of r)) p r l)
  operated_same m p ss k l h = part.operated_same R P false m p ss k l h

  raised_same : (e : Raise) (p : Site) {s : CallState K} {r : CallState J} → States s r → Ends (raised_at e p s) (raised_at e p r)
  raised_same e p ss = part.raised_same R P false e (trace_of p) ss

  -- an error whose text names a kind
  raised_here : (e : List Obj → Raise) (p : Site) {s : CallState K} {r : CallState J} → States s r → Ends (raised_at (e (heap_of s)) p s) (raised_at (e (heap_of r)) p r)
  raised_here e p (states a t (worlds ss cs fs modules heap printed traces)) = raised_same (e heap) p (states a t (worlds ss cs fs modules heap printed traces))

  costing_same : (m : List Obj → Effect) (trace : List TraceFrame) {s : CallState K} {r : CallState J} → States s r → (k : Continuation K) (l : Continuation J) → Behind k l → Follow (costing (m (heap_of s)) trace s k) (costing (m (heap_of r)) trace r l)
  costing_same m trace (states a t (worlds ss cs fs modules heap printed traces)) k l h = part.costing_same R P false (m heap) trace (states a t (worlds ss cs fs modules heap printed traces)) k l h

  -- attributes
  attribute_end_same : (x : Value) (name : List ℕ) (p : Site) {s : CallState K} {r : CallState J} → States s r → Ends (attribute_end x name p s) (attribute_end x name p r)
  attribute_end_same x name p ss = displays.attribute_end_same R P false x name p ss

  changed_or_same : (may : Bool) (f : Obj → Obj) (x : Value) (none : Raise) (p : Site) {s : CallState K} {r : CallState J} → States s r → Ends (changed_or may f x none p s) (changed_or may f x none p r)
  changed_or_same true f (val.Ref id) none p (states a t (worlds ss cs fs modules heap printed traces)) = next (states a t (worlds ss cs fs modules _ printed traces))
  changed_or_same true f val.None none p ss = raised_same none p ss
  changed_or_same true f (val.Bool b) none p ss = raised_same none p ss
  changed_or_same true f (val.Int n) none p ss = raised_same none p ss
  changed_or_same false f x none p ss = raised_same none p ss

  abbrev set_end : {L : Kinds} → Value → List ℕ → Value → Site → CallState L → Outcome L
  set_end x name v p s = changed_or (takes_names (object_at (heap_of s) x)) (with_attribute name v) x (no_attribute (kind_name (heap_of s) x) name) p s

  set_end_same : (x : Value) (name : List ℕ) (v : Value) (p : Site) {s : CallState K} {r : CallState J} → States s r → Ends (set_end x name v p s) (set_end x name v p r)
  set_end_same x name v p (states a t (worlds ss cs fs modules heap printed traces)) =
      changed_or_same (takes_names (object_at heap x)) (with_attribute name v) x (no_attribute (kind_name heap x) name) p (states a t (worlds ss cs fs modules heap printed traces))

  abbrev unset_end : {L : Kinds} → Value → List ℕ → Site → CallState L → Outcome L
  unset_end x name p s = changed_or (is_some (own_value name (object_at (heap_of s) x))) (without_attribute name) x (no_attribute (kind_name (heap_of s) x) name) p s

  unset_end_same : (x : Value) (name : List ℕ) (p : Site) {s : CallState K} {r : CallState J} → States s r → Ends (unset_end x name p s) (unset_end x name p r)
  unset_end_same x name p (states a t (worlds ss cs fs modules heap printed traces)) =
      changed_or_same (is_some (own_value name (object_at heap x))) (without_attribute name) x (no_attribute (kind_name heap x) name) p (states a t (worlds ss cs fs modules heap printed traces))

  set_attribute_same : (x : Value) (name : List ℕ) (v : Value) → PartSame (set_attribute x name v) (set_attribute x name v)
  set_attribute_same x name v = record { does = λ p ss k l h. h _ _ (set_end_same x name v p ss) }

  unset_attribute_same : (x : Value) (name : List ℕ) → PartSame (unset_attribute x name) (unset_attribute x name)
  unset_attribute_same x name = record { does = λ p ss k l h. h _ _ (unset_end_same x name p ss) }

  -- targets
  pub record StoreSame (e : Store K) (f : Store J) : Type 0 where
    pub stores : (v : Value) → PartSame (e v) (f v)

  pub data StoresSame : List (Store K) → List (Store J) → Type 0 where
    none : StoresSame [] []
    more : {e : Store K} {f : Store J} {es : List (Store K)} {fs : List (Store J)} → StoreSame e f → StoresSame es fs → StoresSame (e ∷ es) (f ∷ fs)

  stores_length : {es : List (Store K)} {fs : List (Store J)} → StoresSame es fs → length es ≡ length fs
  stores_length none = refl
  stores_length (more x xs) = ap suc (stores_length xs)

  pub store_name_same : (name : List ℕ) → StoreSame (store_name name) (store_name name)
  store_name_same name = record { stores = λ v. record { does = λ p ss k l h. h _ _ (next (block.bound_same R P name v p.scene ss)) } }

  attribute_store : (x : Value) (name : List ℕ) → StoreSame (set_attribute x name) (set_attribute x name)
  attribute_store x name = record { stores = λ v. set_attribute_same x name v }

  pub store_attribute_same : {e : Denotation K} {f : Denotation J} (name : List ℕ) → PartSame e f → StoreSame (store_attribute e name) (store_attribute f name)
  store_attribute_same name x = record { stores = λ v. record { does = λ p ss k l h. x.does p ss _ _ (λ o q n. value_same n k l h _ _ (λ y s r ss. (set_attribute_same y name v).does p ss k l h)) } }

  set_item_same : (x i v : Value) → PartSame (set_item x i v) (set_item x i v)
  set_item_same x i v = record { does = λ p ss k l h. operated_same (λ heap. store_of heap x i v) p ss (λ o. on_value o k (λ w s. k (Next s))) (λ o. on_value o l (λ w s. l (Next s))) (λ o q n. value_same n k l h (λ w s. k (Next s)) (λ w s. l (Next s)) (λ w s r ss. h _ _ (next ss))) }

  item_store : (x i : Value) → StoreSame (set_item x i) (set_item x i)
  item_store x i = record { stores = λ v. set_item_same x i v }

  pub store_item_same : {a i : Denotation K} {b j : Denotation J} → PartSame a b → PartSame i j → StoreSame (store_item a i) (store_item b j)
  store_item_same a i = record { stores = λ v. record { does = λ p ss k l h. a.does p ss _ _ (λ o q n. value_same n k l h _ _ (λ x s r ss. i.does p ss _ _ (λ o q n. value_same n k l h _ _ (λ y s r ss. (set_item_same x y v).does p ss k l h)))) } }

  store_all_same : {es : List (Store K)} {fs : List (Store J)} → StoresSame es fs → (v : Value) → PartSame (store_all es v) (store_all fs v)
  store_all_same none v = record { does = λ p ss k l h. h _ _ (next ss) }
  store_all_same (more x xs) v = record { does = λ p ss k l h. (x.stores v).does p ss _ _ (λ o q n. next_same n k l h _ _ (λ s r ss. (store_all_same xs v).does p ss k l h)) }

  store_each_same : {es : List (Store K)} {fs : List (Store J)} → StoresSame es fs → (vs : List Value) → PartSame (store_each es vs) (store_each fs vs)
  store_each_same none vs = record { does = λ p ss k l h. h _ _ (next ss) }
  store_each_same (more x xs) [] = record { does = λ p ss k l h. h _ _ (next ss) }
  store_each_same (more x xs) (v ∷ vs) = record { does = λ p ss k l h. (x.stores v).does p ss _ _ (λ o q n. next_same n k l h _ _ (λ s r ss. (store_each_same xs vs).does p ss k l h)) }

  -- the elements, and the heap that has them
  elements_same : {es : List (Store K)} {fs : List (Store J)} → StoresSame es fs → (n : ℕ) (v : Value) (p : Site) {s : CallState K} {r : CallState J} → States s r → (k : Continuation K) (l : Continuation J) → Behind k l → Follow (store_elements es (elements_from n v 0 n (heap_of s)) p s k) (store_elements fs (elements_from n v 0 n (heap_of r)) p r l)
  elements_same xs n v p (states a t (worlds ss cs fs modules heap printed traces)) k l h =
      (store_each_same xs (elements_from n v 0 n heap).0).does p (states a t (worlds ss cs fs modules _ printed traces)) k l h

  abbrev counted : {L : Kinds} → ℕ → ℕ → List (Store L) → Value → Denotation L
  counted n m ts v p s k = if eqb n m then store_elements ts (elements_from n v 0 n (heap_of s)) p s k else k (raised_at (wrong_count m n) p s)

  counted_same : {es : List (Store K)} {fs : List (Store J)} → StoresSame es fs → (n m : ℕ) (v : Value) (p : Site) {s : CallState K} {r : CallState J} → States s r → (k : Continuation K) (l : Continuation J) → Behind k l → Follow (counted n m es v p s k) (counted n m fs v p r l)
  counted_same xs n m v p ss k l h = part.follow_cond R P false (eqb n m) _ _ _ _ (elements_same xs n v p ss k l h) (h _ _ (raised_same (wrong_count m n) p ss))

  unpack_some : {es : List (Store K)} {fs : List (Store J)} → StoresSame es fs → (n : ℕ) (v : Value) (p : Site) {s : CallState K} {r : CallState J} → States s r → (k : Continuation K) (l : Continuation J) → Behind k l → Follow (counted n (length es) es v p s k) (counted n (length fs) fs v p r l)
  unpack_some {es = es} {fs = fs} xs n v p {s = s} {r = r} ss k l h = subst (λ m. Follow (counted n (length es) es v p s k) (counted n m fs v p r l)) (stores_length xs) (counted_same xs n (length es) v p ss k l h)

  unpack_by_same : (n : Option ℕ) {es : List (Store K)} {fs : List (Store J)} → StoresSame es fs → (v : Value) → PartSame (unpack_by n es v) (unpack_by n fs v)
  unpack_by_same None xs v = record { does = λ p ss k l h. h _ _ (raised_here (λ heap. not_iterable (kind_name heap v)) p ss) }
  unpack_by_same (Some n) xs v = record { does = λ p ss k l h. unpack_some xs n v p ss k l h }

  unpack_here : {es : List (Store K)} {fs : List (Store J)} → StoresSame es fs → (v : Value) (p : Site) {s : CallState K} {r : CallState J} → States s r → (k : Continuation K) (l : Continuation J) → Behind k l → Follow (unpack es v p s k) (unpack fs v p r l)
  unpack_here xs v p (states a t (worlds ss cs fs modules heap printed traces)) k l h = (unpack_by_same (length_of heap v) xs v).does p (states a t (worlds ss cs fs modules heap printed traces)) k l h

  pub unpack_same : {es : List (Store K)} {fs : List (Store J)} → StoresSame es fs → StoreSame (unpack es) (unpack fs)
  unpack_same xs = record { stores = λ v. record { does = λ p ss k l h. unpack_here xs v p ss k l h } }

  pub assign_same : {es : List (Store K)} {fs : List (Store J)} {e : Denotation K} {f : Denotation J} → StoresSame es fs → PartSame e f → PartSame (assign es e) (assign fs f)
  assign_same xs x = record { does = λ p ss k l h. x.does p ss _ _ (λ o q n. value_same n k l h _ _ (λ v s r ss. (store_all_same xs v).does p ss k l h)) }

  -- what is done with the value that a `yield` is given
  pub all_stored_same : {es : List (Store K)} {fs : List (Store J)} → StoresSame es fs → StoreSame (store_all es) (store_all fs)
  all_stored_same xs = record { stores = λ v. store_all_same xs v }

  pub no_use_same : StoreSame no_use no_use
  no_use_same = record { stores = λ v. record { does = λ p ss k l h. h _ _ (next ss) } }

  pub return_sent_same : StoreSame return_sent return_sent
  return_sent_same = record { stores = λ v. record { does = λ p ss k l h. h _ _ (returned v ss) } }

  pub received_same : {path : List ℕ} {t : Store K} {u : Store J} → StoreSame t u → AfterSame path (received t) (received u)
  received_same h = record { does = λ p is n k l g. value_same n k l g _ _ (λ v s r ss. (h.stores v).does p ss k l g) }

  -- augmented assignments
  augmented_same : (x : Value) (op : BinOp) (y : Value) {t : Store K} {u : Store J} → StoreSame t u → PartSame (augmented x op y t) (augmented x op y u)
  augmented_same x op y {t = t} {u = u} target = record { does = λ p ss k l h. operated_same (λ heap. augmented_of op heap x y) p ss (λ o. on_value o k (λ v s. t v p s k)) (λ o. on_value o l (λ v s. u v p s l)) (λ o q n. value_same n k l h (λ v s. t v p s k) (λ v s. u v p s l) (λ v s r ss. (target.stores v).does p ss k l h)) }

  augment_on_same : (x : Value) (op : BinOp) {e : Denotation K} {f : Denotation J} {t : Store K} {u : Store J} → PartSame e f → StoreSame t u → PartSame (augment_on x op e t) (augment_on x op f u)
  augment_on_same x op e t = record { does = λ p ss k l h. e.does p ss _ _ (λ o q n. value_same n k l h _ _ (λ y s r ss. (augmented_same x op y t).does p ss k l h)) }

  pub augment_same : (name : List ℕ) (op : BinOp) {e : Denotation K} {f : Denotation J} → PartSame e f → PartSame (augment_name name op e) (augment_name name op f)
  augment_same name op e = record { does = λ p ss k l h. value_same (part.name_end_same R P false name p ss) k l h _ _ (λ x s r ss. (augment_on_same x op e (store_name_same name)).does p ss k l h) }

  augment_attribute_of_same : (x : Value) (name : List ℕ) (op : BinOp) {e : Denotation K} {f : Denotation J} → PartSame e f → PartSame (augment_attribute_of x name op e) (augment_attribute_of x name op f)
  augment_attribute_of_same x name op e = record { does = λ p ss k l h. value_same (attribute_end_same x name p ss) k l h _ _ (λ old s r ss. (augment_on_same old op e (attribute_store x name)).does p ss k l h) }

  pub augment_attribute_same : {a : Denotation K} {b : Denotation J} (name : List ℕ) (op : BinOp) {e : Denotation K} {f : Denotation J} → PartSame a b → PartSame e f → PartSame (augment_attribute a name op e) (augment_attribute b name op f)
  augment_attribute_same name op a e = record { does = λ p ss k l h. a.does p ss _ _ (λ o q n. value_same n k l h _ _ (λ x s r ss. (augment_attribute_of_same x name op e).does p ss k l h)) }

  augment_item_of_same : (x i : Value) (op : BinOp) {e : Denotation K} {f : Denotation J} → PartSame e f → PartSame (augment_item_of x i op e) (augment_item_of x i op f)
  augment_item_of_same x i op {e = e} {f = f} y = record { does = λ p ss k l h. operated_same (λ heap. subscript_of heap x (At i)) p ss (λ o. on_value o k (λ old s. augment_on old op e (set_item x i) p s k)) (λ o. on_value o l (λ old s. augment_on old op f (set_item x i) p s l)) (λ o q n. value_same n k l h (λ old s. augment_on old op e (set_item x i) p s k) (λ old s. augment_on old op f (set_item x i) p s l) (λ old s r ss. (augment_on_same old op y (item_store x i)).does p ss k l h)) }

  pub augment_item_same : {a i : Denotation K} {b j : Denotation J} (op : BinOp) {e : Denotation K} {f : Denotation J} → PartSame a b → PartSame i j → PartSame e f → PartSame (augment_item a i op e) (augment_item b j op f)
  augment_item_same op a i e = record { does = λ p ss k l h. a.does p ss _ _ (λ o q n. value_same n k l h _ _ (λ x s r ss. i.does p ss _ _ (λ o q n. value_same n k l h _ _ (λ y s r ss. (augment_item_of_same x y op e).does p ss k l h)))) }

  -- names that are unbound
  unbound_global_same : (name : List ℕ) (scene : Scene) {s : CallState K} {r : CallState J} → States s r → States (unbound_global name scene s) (unbound_global name scene r)
  unbound_global_same name scene (states a t (worlds ss cs fs modules heap printed traces)) = states a t (worlds ss cs fs modules _ printed traces)

  unbound_here_same : (name : List ℕ) {s : CallState K} {r : CallState J} → States s r → States (unbound_here name s) (unbound_here name r)
  unbound_here_same name (states a t ws) = states (unbind_name name a) t ws

  unbound_class_same : (name : List ℕ) (at : ℕ) {s : CallState K} {r : CallState J} → States s r → States (unbound_class name at s) (unbound_class name at r)
  unbound_class_same name at (states a t (worlds ss cs fs modules heap printed traces)) = states a t (worlds ss cs fs modules _ printed traces)

  unbound_by_same : (own : Own) (name : List ℕ) (scene : Scene) {s : CallState K} {r : CallState J} → States s r → States (unbound_by own name scene s) (unbound_by own name scene r)
  unbound_by_same InModule name scene ss = unbound_global_same name scene ss
  unbound_by_same (InFunction own) name scene ss = block.state_cond R P (is_among own name) _ _ _ _ (unbound_here_same name ss) (unbound_global_same name scene ss)
  unbound_by_same (InClass at) name scene ss = unbound_class_same name at ss

  unbound_same : (name : List ℕ) (scene : Scene) {s : CallState K} {r : CallState J} → States s r → States (unbound name scene s) (unbound name scene r)
  unbound_same name scene ss = unbound_by_same scene.own name scene ss

  deleted_by_same : (v : Option Value) (name : List ℕ) (p : Site) {s : CallState K} {r : CallState J} → States s r → Ends (deleted v name p s) (deleted v name p r)
  deleted_by_same (Some v) name p ss = next (unbound_same name p.scene ss)
  deleted_by_same None name p ss = raised_same (not_bound p.scene.own name) p ss

  abbrev deleted_here : {L : Kinds} → List ℕ → Site → CallState L → Outcome L
  deleted_here name p s = deleted (bound_value p.scene.own name p.scene.home s.locals (heap_of s)) name p s

  deleted_same : (name : List ℕ) (p : Site) {s : CallState K} {r : CallState J} → States s r → Ends (deleted_here name p s) (deleted_here name p r)
  deleted_same name p (states a t (worlds ss cs fs modules heap printed traces)) =
      deleted_by_same (bound_value p.scene.own name p.scene.home a heap) name p (states a t (worlds ss cs fs modules heap printed traces))

  pub delete_name_same : (name : List ℕ) → PartSame (delete_name name) (delete_name name)
  delete_name_same name = record { does = λ p ss k l h. h _ _ (deleted_same name p ss) }

  pub delete_attribute_same : {e : Denotation K} {f : Denotation J} (name : List ℕ) → PartSame e f → PartSame (delete_attribute e name) (delete_attribute f name)
  delete_attribute_same name x = record { does = λ p ss k l h. x.does p ss _ _ (λ o q n. value_same n k l h _ _ (λ y s r ss. (unset_attribute_same y name).does p ss k l h)) }

  unset_item_same : (x i : Value) → PartSame (unset_item x i) (unset_item x i)
  unset_item_same x i = record { does = λ p ss k l h. operated_same (λ heap. delete_of heap x i) p ss (λ o. on_value o k (λ w s. k (Next s))) (λ o. on_value o l (λ w s. l (Next s))) (λ o q n. value_same n k l h (λ w s. k (Next s)) (λ w s. l (Next s)) (λ w s r ss. h _ _ (next ss))) }

  pub delete_item_same : {a i : Denotation K} {b j : Denotation J} → PartSame a b → PartSame i j → PartSame (delete_item a i) (delete_item b j)
  delete_item_same a i = record { does = λ p ss k l h. a.does p ss _ _ (λ o q n. value_same n k l h _ _ (λ x s r ss. i.does p ss _ _ (λ o q n. value_same n k l h _ _ (λ y s r ss. (unset_item_same x y).does p ss k l h)))) }

  -- exceptions
  trace_same : (e : Value) (trace : List TraceFrame) {s : CallState K} {r : CallState J} → States s r → States (with_trace e trace s) (with_trace e trace r)
  trace_same (val.Ref id) trace (states a t (worlds ss cs fs modules heap printed traces)) = states a t (worlds ss cs fs modules heap printed _)
  trace_same val.None trace ss = ss
  trace_same (val.Bool b) trace ss = ss
  trace_same (val.Int n) trace ss = ss

  raised_by_same : (x : Raisable) (p : Site) {s : CallState K} {r : CallState J} → States s r → Ends (raised_by x p s) (raised_by x p r)
  raised_by_same (Exception_of id) p (states a t (worlds ss cs fs modules heap printed traces)) = alike.raised (val.Ref id) _ (states a t (worlds ss cs fs modules heap printed _))
  raised_by_same (Class_of class) p (states a t (worlds ss cs fs modules heap printed traces)) = alike.raised _ (trace_of p) (states a t (worlds ss cs fs modules _ printed traces))
  raised_by_same Neither p ss = raised_same no_exception p ss

  pub raised_value_same : (v : Value) (p : Site) {s : CallState K} {r : CallState J} → States s r → Ends (raised_by (raisable (heap_of s) v) p s) (raised_by (raisable (heap_of r) v) p r)
  raised_value_same v p (states a t (worlds ss cs fs modules heap printed traces)) = raised_by_same (raisable heap v) p (states a t (worlds ss cs fs modules heap printed traces))

  pub raised_again_same : (e : Option Thrown) (p : Site) {s : CallState K} {r : CallState J} → States s r → Ends (raised_again e p s) (raised_again e p r)
  raised_again_same (Some e) p ss = alike.raised e.exc e.trace ss
  raised_again_same None p ss = raised_same nothing_raised p ss

  unbound_behind : (name : List ℕ) (scene : Scene) (k : Continuation K) (l : Continuation J) → Behind k l → {o : Outcome K} {q : Outcome J} → Ends o q → Follow (route (changing (unbound name scene) k) o) (route (changing (unbound name scene) l) q)
  unbound_behind name scene k l h n =
      part.route_same R P false (record { gave = λ v s r ss. h _ _ (gave v (unbound_same name scene ss)); next = λ s r ss. h _ _ (next (unbound_same name scene ss)); returned = λ v s r ss. h _ _ (returned v (unbound_same name scene ss)); broke = λ s r ss. h _ _ (broke (unbound_same name scene ss)); continued = λ s r ss. h _ _ (continued (unbound_same name scene ss)); raised = λ e trace s r ss. h _ _ (alike.raised e trace (unbound_same name scene ss)) }) n

  handler_same : {path : List ℕ} (name : Option (List ℕ)) {b : Body K} {c : Body J} → BodySame path b c → (e : Value) (trace : List TraceFrame) → PartAt path (handler_block name b e trace) (handler_block name c e trace)
  handler_same None b e trace = record { does = λ p is ss k l h. b.does p.scene is ss k l h }
  handler_same (Some name) b e trace =
      record { does = λ p is ss k l h. b.does p.scene is (block.bound_same R P name e p.scene (trace_same e trace ss)) (λ o. route (changing (unbound name p.scene) k) o) (λ o. route (changing (unbound name p.scene) l) o) (λ o q n. unbound_behind name p.scene k l h n) }

  pub data HandlersSame (path : List ℕ) : List (Handling K) → List (Handling J) → Type 0 where
    none : HandlersSame path [] []
    more : {c : Option (Denotation K)} {d : Option (Denotation J)} (name : Option (List ℕ)) {b : Body K} {b' : Body J} {hs : List (Handling K)} {gs : List (Handling J)} → SomeSame c d → BodySame path b b' → HandlersSame path hs gs → HandlersSame path ((c, (name, b)) ∷ hs) ((d, (name, b')) ∷ gs)

  pub handlers_push : {path : List ℕ} {hs : List (Handling K)} {gs : List (Handling J)} → HandlersSame path hs gs → {c : Option (Denotation K)} {d : Option (Denotation J)} (name : Option (List ℕ)) {b : Body K} {b' : Body J} → SomeSame c d → BodySame path b b' → HandlersSame path (hs ++ (c, (name, b)) ∷ []) (gs ++ (d, (name, b')) ∷ [])
  handlers_push none name x y = more name x y none
  handlers_push (more other z w hs) name x y = more other z w (handlers_push hs name x y)

  taken_same : (taken : Option Bool) (x y z : Rest K) (x' y' z' : Rest J) → Follow x x' → Follow y y' → Follow z z' → Follow (if_taken taken x y z) (if_taken taken x' y' z')
  taken_same (Some true) x y z x' y' z' h g f = h
  taken_same (Some false) x y z x' y' z' h g f = g
  taken_same None x y z x' y' z' h g f = f

  taken_here : (e v : Value) {s : CallState K} {r : CallState J} → States s r → (x y z : Rest K) (x' y' z' : Rest J) → Follow x x' → Follow y y' → Follow z z' → Follow (if_taken (takes_exception (heap_of s) e v) x y z) (if_taken (takes_exception (heap_of r) e v) x' y' z')
  taken_here e v (states a t (worlds ss cs fs modules heap printed traces)) x y z x' y' z' h g f = taken_same (takes_exception heap e v) x y z x' y' z' h g f

  handlers_same : {path : List ℕ} {hs : List (Handling K)} {gs : List (Handling J)} → HandlersSame path hs gs → (e : Value) (trace : List TraceFrame) → PartAt path (handlers_on hs e trace) (handlers_on gs e trace)
  handlers_same none e trace = record { does = λ p is ss k l h. h _ _ (alike.raised e trace ss) }
  handlers_same (more name part.absent b hs) e trace = record { does = λ p is ss k l h. (handler_same name b e trace).does p is ss k l h }
  handlers_same (more name (part.present c) b hs) e trace = record { does = λ p is ss k l h. c.does p ss _ _ (λ o q n. value_same n k l h _ _ (λ v s r ss. taken_here e v ss _ _ _ _ _ _ ((handler_same name b e trace).does p is ss k l h) ((handlers_same hs e trace).does p is ss k l h) (h _ _ (raised_same no_exception p ss)))) }

  guarded_by_same : {path : List ℕ} {hs : List (Handling K)} {gs : List (Handling J)} {other : Body K} {other' : Body J} → HandlersSame path hs gs → BodySame path other other' → AfterSame path (guarded_by hs other) (guarded_by gs other')
  guarded_by_same hs other =
      record {
        does = λ p is n k l h.
            let w : part.WaysSame R P false (onward k) (onward l) = part.onward_same R P false k l h in
            part.route_same R P false (record { gave = w.gave; next = λ s r ss. other.does p.scene is ss k l h; returned = w.returned; broke = w.broke; continued = w.continued; raised = λ e trace s r ss. (handlers_same hs e trace).does (site_handling e trace p) is ss k l h }) n;
      }

  again_same : {path : List ℕ} {last : Body K} {last' : Body J} → BodySame path last last' → (scene : Scene) → scene.path ≡ path → {s : CallState K} {r : CallState J} → States s r → (k : Continuation K) (l : Continuation J) → Behind k l → (again : CallState K → Outcome K) (again' : CallState J → Outcome J) → ((s : CallState K) (r : CallState J) → States s r → Ends (again s) (again' r)) → Follow (then_again last scene s k again) (then_again last' scene r l again')
  again_same last scene is ss k l h again again' a = last.does scene is ss _ _ (λ o q n. next_same n k l h (λ s. k (again s)) (λ s. l (again' s)) (λ s r ss. h _ _ (a s r ss)))

  finally_same : {path : List ℕ} {last : Body K} {last' : Body J} → BodySame path last last' → AfterSame path (finally_on last) (finally_on last')
  finally_same last =
      record {
        does = λ p is n k l h. part.route_same R P false
            (record { gave = λ v s r ss. again_same last p.scene is ss k l h (Gave v) (Gave v) (λ s r ss. gave v ss); next = λ s r ss. again_same last p.scene is ss k l h Next Next (λ s r ss. next ss); returned = λ v s r ss. again_same last p.scene is ss k l h (Returned v) (Returned v) (λ s r ss. returned v ss); broke = λ s r ss. again_same last p.scene is ss k l h Broke Broke (λ s r ss. broke ss); continued = λ s r ss. again_same last p.scene is ss k l h Continued Continued (λ s r ss. continued ss); raised = λ e trace s r ss. again_same last (scene_handling e trace p.scene) is ss k l h (Raised e trace) (Raised e trace) (λ s r ss. alike.raised e trace ss) })
            n;
      }

  pub guarded_same : {path : List ℕ} {hs : List (Handling K)} {gs : List (Handling J)} {other last : Body K} {other' last' : Body J} → HandlersSame path hs gs → BodySame path other other' → BodySame path last last' → AfterSame path (guarded hs other last) (guarded gs other' last')
  guarded_same {last = final} {last' = final'} hs other last = record { does = λ p is n k l h. (guarded_by_same hs other).does p is n (λ o. finally_on final p o k) (λ o. finally_on final' p o l) (λ o q n. (finally_same last).does p is n k l h) }

  pub try_same : {path : List ℕ} {body : Body K} {body' : Body J} {hs : List (Handling K)} {gs : List (Handling J)} {other last : Body K} {other' last' : Body J} → BodySame path body body' → HandlersSame path hs gs → BodySame path other other' → BodySame path last last' → PartAt path (try_statement body hs other last) (try_statement body' gs other' last')
  try_same {hs = hs'} {gs = gs'} {other = next'} {last = final} {other' = next''} {last' = final'} body hs other last = record { does = λ p is ss k l h. body.does p.scene is ss (λ o. guarded hs' next' final p o k) (λ o. guarded gs' next'' final' p o l) (λ o q n. (guarded_same hs other last).does p is n k l h) }

  -- `with`
  info_named_same : (name : Option (List ℕ)) (v : Value) (scene : Scene) {s : CallState K} {r : CallState J} → States s r → States (info_named name v scene s) (info_named name v scene r)
  info_named_same (Some name) v scene ss = block.bound_same R P name v scene ss
  info_named_same None v scene ss = ss

  with_info_same : (name : Option (List ℕ)) (scene : Scene) {s : CallState K} {r : CallState J} → States s r → States (with_info name scene s) (with_info name scene r)
  with_info_same name scene (states a t (worlds ss cs fs modules heap printed traces)) = info_named_same name (val.Ref (id_at (length heap))) scene (states a t (worlds ss cs fs modules _ printed traces))

  info_taken_same : (info : ObjId) (e : Value) {s : CallState K} {r : CallState J} → States s r → States (info_taken info e s) (info_taken info e r)
  info_taken_same info e (states a t (worlds ss cs fs modules heap printed traces)) = states a t (worlds ss cs fs modules _ printed traces)

  searched_here : (pattern : Option (List ℕ)) (e : Value) (p : Site) {s : CallState K} {r : CallState J} → States s r → (k : Continuation K) (l : Continuation J) → Behind k l → Follow (searched pattern e p s k) (searched pattern e p r l)
  searched_here pattern e p (states a t (worlds ss cs fs modules heap printed traces)) k l h =
      part.costing_same R P false (pattern_end heap pattern e) (trace_of p) (states a t (worlds ss cs fs modules heap printed traces)) (λ o. on_value o k (λ v s. k (Next s))) (λ o. on_value o l (λ v s. l (Next s))) (λ o q n. value_same n k l h (λ v s. k (Next s)) (λ v s. l (Next s)) (λ v s r ss. h _ _ (next ss)))

  taken_or_same : (taken : Bool) (x : RaisesObj) (info : ObjId) (e : Value) (trace : List TraceFrame) → PartSame (taken_or taken x info e trace) (taken_or taken x info e trace)
  taken_or_same true x info e trace = record { does = λ p ss k l h. searched_here x.pattern e p (info_taken_same info e (trace_same e trace ss)) k l h }
  taken_or_same false x info e trace = record { does = λ p ss k l h. h _ _ (alike.raised e trace ss) }

  taken_or_here : (x : RaisesObj) (info : ObjId) (e : Value) (trace : List TraceFrame) (p : Site) {s : CallState K} {r : CallState J} → States s r → (k : Continuation K) (l : Continuation J) → Behind k l → Follow (taken_or (is_a (heap_of s) e x.classes) x info e trace p s k) (taken_or (is_a (heap_of r) e x.classes) x info e trace p r l)
  taken_or_here x info e trace p (states a t (worlds ss cs fs modules heap printed traces)) k l h = (taken_or_same (is_a heap e x.classes) x info e trace).does p (states a t (worlds ss cs fs modules heap printed traces)) k l h

  not_raised_here : (x : RaisesObj) (p : Site) {s : CallState K} {r : CallState J} → States s r → (k : Continuation K) (l : Continuation J) → Behind k l → Follow (not_raised x p s k) (not_raised x p r l)
  not_raised_here x p (states a t (worlds ss cs fs modules heap printed traces)) k l h = h _ _ (raised_same (did_not_raise heap x.classes) p (states a t (worlds ss cs fs modules heap printed traces)))

  left_same : {path : List ℕ} (x : RaisesObj) (info : ObjId) → AfterSame path (context_left x info) (context_left x info)
  left_same x info =
      record {
        does = λ p is n k l h. part.route_same R P false
            (record { gave = λ v s r ss. not_raised_here x p ss k l h; next = λ s r ss. not_raised_here x p ss k l h; returned = λ v s r ss. not_raised_here x p ss k l h; broke = λ s r ss. not_raised_here x p ss k l h; continued = λ s r ss. not_raised_here x p ss k l h; raised = λ e trace s r ss. taken_or_here x info e trace p ss k l h })
            n;
      }

  context_same : {path : List ℕ} (context : Option RaisesObj) (name : Option (List ℕ)) {b : Body K} {c : Body J} → BodySame path b c → (p : Site) → p.scene.path ≡ path → {s : CallState K} {r : CallState J} → States s r → (k : Continuation K) (l : Continuation J) → Behind k l → Follow (context_entered context name b p s k) (context_entered context name c p r l)
  context_same (Some x) name b p is (states a t (worlds ss cs fs modules heap printed traces)) k l h =
      b.does p.scene is (with_info_same name p.scene (states a t (worlds ss cs fs modules heap printed traces))) (λ o. context_left x (id_at (length heap)) p o k) (λ o. context_left x (id_at (length heap)) p o l) (λ o q n. (left_same x (id_at (length heap))).does p is n k l h)
  context_same None name b p is ss k l h = h _ _ (raised_same bad_context p ss)

  context_here : {path : List ℕ} (v : Value) (name : Option (List ℕ)) {b : Body K} {c : Body J} → BodySame path b c → (p : Site) → p.scene.path ≡ path → {s : CallState K} {r : CallState J} → States s r → (k : Continuation K) (l : Continuation J) → Behind k l → Follow (context_entered (context_of (object_at (heap_of s) v)) name b p s k) (context_entered (context_of (object_at (heap_of r) v)) name c p r l)
  context_here v name b p is (states a t (worlds ss cs fs modules heap printed traces)) k l h = context_same (context_of (object_at heap v)) name b p is (states a t (worlds ss cs fs modules heap printed traces)) k l h

  pub with_same : {path : List ℕ} {e : Denotation K} {f : Denotation J} (name : Option (List ℕ)) {b : Body K} {c : Body J} → PartSame e f → BodySame path b c → PartAt path (with_statement e name b) (with_statement f name c)
  with_same name x b = record { does = λ p is ss k l h. x.does p ss _ _ (λ o q n. value_same n k l h _ _ (λ v s r ss. context_here v name b p is ss k l h)) }

  -- `for`; the turns of both are named alike
  abbrev Turns : List ℕ → (IterAt → SourceTurn) → (IterAt → SourceTurn) → Type 0
  Turns path what other = (at : IterAt) → TurnsAt R path (what at) (other at)

  begun_same : {path : List ℕ} (m : Option Effect) {what other : SourceTurn} → TurnsAt R path what other → PartAt path (turn_begun {K = K} m what) (turn_begun {K = J} m other)
  begun_same None turn = record { does = λ p is ss k l h. h _ _ (next ss) }
  begun_same (Some (Give v n)) turn = record { does = λ p is ss k l h. block.asked_same R P p (block.turn_here R P is turn) ss k l h }
  begun_same (Some (New o n)) turn = record { does = λ p is ss k l h. block.asked_same R P p (block.turn_here R P is turn) ss k l h }
  begun_same (Some (Put id c v n)) turn = record { does = λ p is ss k l h. block.asked_same R P p (block.turn_here R P is turn) ss k l h }
  begun_same (Some (Fail e n)) turn = record { does = λ p is ss k l h. h _ _ (raised_same e p ss) }

  from_here : {path : List ℕ} {what other : IterAt → SourceTurn} → Turns path what other → (at : IterAt) (p : Site) → p.scene.path ≡ path → {s : CallState K} {r : CallState J} → States s r → (k : Continuation K) (l : Continuation J) → Behind k l → Follow (for_from {K = K} what at p s k) (for_from {K = J} other at p r l)
  from_here turn at p is (states a t (worlds ss cs fs modules heap printed traces)) k l h = (begun_same (element_of heap at) (turn at)).does p is (states a t (worlds ss cs fs modules heap printed traces)) k l h

  for_from_same : {path : List ℕ} {what other : IterAt → SourceTurn} → Turns path what other → (at : IterAt) → PartAt path (for_from {K = K} what at) (for_from {K = J} other at)
  for_from_same turn at = record { does = λ p is ss k l h. from_here turn at p is ss k l h }

  iterated_same : {path : List ℕ} {what other : IterAt → SourceTurn} → Turns path what other → (v : Value) (at : Option IterAt) → PartAt path (iterated {K = K} what v at) (iterated {K = J} other v at)
  iterated_same turn v (Some at) = record { does = λ p is ss k l h. (for_from_same turn at).does p is ss k l h }
  iterated_same turn v None = record { does = λ p is ss k l h. h _ _ (raised_here (λ heap. not_iterable (kind_name heap v)) p ss) }

  iterated_here : {path : List ℕ} {what other : IterAt → SourceTurn} → Turns path what other → (v : Value) (p : Site) → p.scene.path ≡ path → {s : CallState K} {r : CallState J} → States s r → (k : Continuation K) (l : Continuation J) → Behind k l → Follow (iterated what v (iterate (heap_of s) v) p s k) (iterated other v (iterate (heap_of r) v) p r l)
  iterated_here turn v p is (states a t (worlds ss cs fs modules heap printed traces)) k l h = (iterated_same turn v (iterate heap v)).does p is (states a t (worlds ss cs fs modules heap printed traces)) k l h

  pub for_same : {path : List ℕ} {what other : IterAt → SourceTurn} → Turns path what other → {e : Denotation K} {f : Denotation J} → PartSame e f → PartAt path (for_statement what e) (for_statement other f)
  for_same turn x = record { does = λ p is ss k l h. x.does p ss _ _ (λ o q n. value_same n k l h _ _ (λ v s r ss. iterated_here turn v p is ss k l h)) }

  behind_same : {path : List ℕ} {what other : IterAt → SourceTurn} → Turns path what other → {b : Body K} {c : Body J} → BodySame path b c → (at : IterAt) → PartAt path (behind_target what b at) (behind_target other c at)
  behind_same turn b at = record { does = λ p is ss k l h. b.does p.scene is ss _ _ (λ o q n. block.turn_same R P n k l h _ _ (λ s r ss. (for_from_same turn at).does p is ss k l h)) }

  turn_with_same : {path : List ℕ} {what other : IterAt → SourceTurn} → Turns path what other → {t : Store K} {u : Store J} {b : Body K} {c : Body J} → StoreSame t u → BodySame path b c → (at : IterAt) (m : Option Effect) → PartAt path (turn_with what t b at m) (turn_with other u c at m)
  turn_with_same turn t b at None = record { does = λ p is ss k l h. h _ _ (next ss) }
  turn_with_same turn t b at (Some m) = record { does = λ p is ss k l h. value_same (part.made_same R P false m (trace_of p) ss) k l h _ _ (λ v s r ss. (t.stores v).does p ss _ _ (λ o q n. next_same n k l h _ _ (λ s r ss. (behind_same turn b (iterator_after at m)).does p is ss k l h))) }

  turn_here : {path : List ℕ} {what other : IterAt → SourceTurn} → Turns path what other → {t : Store K} {u : Store J} {b : Body K} {c : Body J} → StoreSame t u → BodySame path b c → (at : IterAt) (p : Site) → p.scene.path ≡ path → {s : CallState K} {r : CallState J} → States s r → (k : Continuation K) (l : Continuation J) → Behind k l → Follow (for_turn what t b at p s k) (for_turn other u c at p r l)
  turn_here turn x y at p is (states a t (worlds ss cs fs modules heap printed traces)) k l h = (turn_with_same turn x y at (element_of heap at)).does p is (states a t (worlds ss cs fs modules heap printed traces)) k l h

  pub for_turn_same : {path : List ℕ} {what other : IterAt → SourceTurn} → Turns path what other → {t : Store K} {u : Store J} {b : Body K} {c : Body J} → StoreSame t u → BodySame path b c → (at : IterAt) → PartAt path (for_turn what t b at) (for_turn other u c at)
  for_turn_same turn x y at = record { does = λ p is ss k l h. turn_here turn x y at p is ss k l h }
