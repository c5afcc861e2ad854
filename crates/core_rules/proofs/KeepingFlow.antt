-- Displays, targets, `try` and `for` keep what is closed under what the forms do.
use Rattle.std.proofs.Common.{ℕ, zero, suc, ◌+◌, List, [], ◌∷◌, ◌++◌, Bool, true, false, Option, Some, None}
use Rattle.std.specs.Prelude.{length, eqb, is_some}
use Rattle.py_tree.specs.declared.op.BinOp.{BinOp}
use Rattle.py_tree.specs.Names.{is_among}
use Rattle.py_values.specs.Changes.{object_after}
use Rattle.py_values.specs.Ends.{id_at}
use Rattle.source_meaning.specs.py_kinds.Kinds.{kind_name}
use Rattle.source_meaning.specs.py_kinds.Lengths.{length_of}
use Rattle.py_values.specs.declared.end.Effect.{Effect}
use Rattle.py_values.specs.declared.end.Effect.TheVariants.{Give, New, Put, Fail}
use Rattle.py_values.specs.declared.end.Raise.{Raise}
use Rattle.py_values.specs.declared.index.Index.TheVariants.{At, Slice}
use Rattle.py_values.specs.declared.object.Obj.{Obj}
use Rattle.py_values.specs.declared.object.Obj.TheVariants as obj
use Rattle.py_values.specs.declared.object.RaisesObj.{RaisesObj}
use Rattle.py_values.specs.declared.change.Change.TheVariants.{Whole}
use Rattle.py_values.specs.declared.value.ObjId.{ObjId}
use Rattle.py_values.specs.declared.value.Value.{Value}
use Rattle.py_values.specs.declared.value.Value.TheVariants as val
use Rattle.source_meaning.specs.py_operands.Faults.{not_iterable}
use Rattle.source_meaning.specs.py_ops.Binary.{augmented_of}
use Rattle.source_meaning.specs.py_items.Items.{subscript_of, store_of, delete_of, object_at}
use Rattle.source_meaning.specs.py_items.Turns.{turn_of as element_of, turn_end, iterator_after, iterate}
use Rattle.source_meaning.specs.py_items.declared.iter.IterAt.{IterAt}
use Rattle.source_meaning.specs.py_attributes.Attributes.{attribute_of, own_value, no_attribute}
use Rattle.source_meaning.specs.pytest_calls.Swallowing.{did_not_raise, pattern_end}
use Rattle.source_meaning.specs.py_kinds.Classes.{is_a}
use Rattle.source_meaning.specs.py_world.declared.ended.Thrown.{Thrown}
use Rattle.source_meaning.specs.py_world.declared.trace.TraceFrame.{TraceFrame}
use Rattle.source_meaning.specs.py_world.World.{Kinds, World, CallState, heap_of, with_heap, with_trace, trace_at, world_with_heap}
use Rattle.source_meaning.specs.py_world.Site.{Scene, Site, Own, InModule, InFunction, InClass, trace_of, site_handling, scene_handling}
use Rattle.source_meaning.specs.py_world.Names.{without_name, bound_value, not_bound, unbound, unbound_by, unbound_global, deleted, name_end, delete_name}
use Rattle.source_meaning.specs.py_world.Outcome.{Outcome, Gave, Next, Returned, Broke, Continued, Raised, Rest, Continuation, Denotation, After, Body, route, onward, changing, made, costing, operated, on_value, on_next, raised_at}
use Rattle.source_meaning.specs.py_world.Expressions.{arguments}
use Rattle.source_meaning.specs.py_world.Displays.{displayed, dict_displayed, in_pairs, bound_given, collected, list_part, tuple_part, dict_part, subscript_part, slice_bound, sliced_at, slice_by, slice_to, slice_on, slice_part}
use Rattle.source_meaning.specs.py_world.Attributes.{takes_names, with_attribute, without_attribute, changed_or, attribute_end, attribute_part, set_attribute, unset_attribute}
use Rattle.source_meaning.specs.py_world.Targets.{Store, wrong_count, element_and, elements_from, store_name, store_attribute, set_item, store_item, store_all, store_each, unpack_by, unpack, assign, augmented, augment_on, augment_name, augment_attribute_of, augment_attribute, augment_item_of, augment_item, delete_attribute, unset_item, delete_item}
use Rattle.source_meaning.specs.py_world.Statements.{received, no_use, return_sent}
use Rattle.source_meaning.specs.py_world.Exceptions.{Handling, Raisable, Exception_of, Class_of, Neither, no_exception, nothing_raised, first_trace, raised_by, raised_again, takes_exception, handler_block, if_taken, handlers_on, guarded_by, then_again, finally_on, guarded, try_statement}
use Rattle.source_meaning.specs.py_world.Contexts.{bad_context, context_of, info_named, with_info, info_taken, searched, swallowed, taken_or, not_raised, context_left, context_entered, with_statement}
use Rattle.source_meaning.specs.py_world.Loops.{turn_begun, for_from, iterated, for_statement, behind_target, turn_with, for_turn}
use Rattle.core_rules.proofs.Keeping as keep
use Rattle.core_rules.proofs.Keeping.{Closed}

module _ {K : Kinds} (Good : World K → Type 0) (Fresh : List ℕ → Type 0) (closed : Closed Good Fresh) where
  abbrev Kept : Rest K → Type 0
  Kept = keep.Kept Good Fresh closed

  abbrev Behind : Continuation K → Type 0
  Behind = keep.Behind Good Fresh closed

  abbrev GoodState : CallState K → Type 0
  GoodState = keep.GoodState Good Fresh closed

  abbrev GoodEnd : Outcome K → Type 0
  GoodEnd = keep.GoodEnd Good Fresh closed

  abbrev PartKept : Denotation K → Type 0
  PartKept = keep.PartKept Good Fresh closed

  abbrev BodyKept : Body K → Type 0
  BodyKept = keep.BodyKept Good Fresh closed

  abbrev AfterKept : After K → Type 0
  AfterKept = keep.AfterKept Good Fresh closed

  abbrev PartsKept : List (Denotation K) → Type 0
  PartsKept = keep.PartsKept Good Fresh closed

  abbrev SomeKept : Option (Denotation K) → Type 0
  SomeKept = keep.SomeKept Good Fresh closed

  value_kept : (k : Continuation K) → Behind k → (go : Value → CallState K → Rest K) → ((v : Value) (s : CallState K) → GoodState s → Kept (go v s)) → (o : Outcome K) → GoodEnd o → Kept (on_value o k go)
  value_kept = keep.value_kept Good Fresh closed

  next_kept : (k : Continuation K) → Behind k → (go : CallState K → Rest K) → ((s : CallState K) → GoodState s → Kept (go s)) → (o : Outcome K) → GoodEnd o → Kept (on_next o k go)
  next_kept = keep.next_kept Good Fresh closed

  raised_kept : (r : Raise) (p : Site) (s : CallState K) → GoodState s → GoodEnd (raised_at r p s)
  raised_kept r p s g = keep.raised_kept Good Fresh closed r (trace_of p) s g

  made_kept : (m : Effect) (trace : List TraceFrame) (s : CallState K) → GoodState s → GoodEnd (made m trace s)
  made_kept = keep.made_kept Good Fresh closed

  operated_kept : (m : Effect) (p : Site) (s : CallState K) → GoodState s → (k : Continuation K) → Behind k → Kept (operated m p s k)
  operated_kept = keep.operated_kept Good Fresh closed

  pub arguments_kept : {es : List (Denotation K)} → PartsKept es → (vs : List Value) (p : Site) (s : CallState K) → GoodState s → (k : Continuation K) → Behind k → (go : List Value → CallState K → Rest K) → ((vs : List Value) (s : CallState K) → GoodState s → Kept (go vs s)) → Kept (arguments es vs p s k go)
  arguments_kept keep.nil vs p s g k h go go_kept = go_kept vs s g
  arguments_kept (keep.cons {es = rest} e es) vs p s g k h go go_kept = e.does p s g _ (value_kept k h (λ v s. arguments rest (vs ++ v ∷ []) p s k go) (λ v s g. arguments_kept es (vs ++ v ∷ []) p s g k h go go_kept))

  pub collected_kept : (make : List Obj → List Value → Effect) {es : List (Denotation K)} → PartsKept es → PartKept (collected make es)
  collected_kept make es =
      record { does = λ p s g k h. arguments_kept es [] p s g k h (λ vs s. costing (make (heap_of s) vs) (trace_of p) s k) (λ vs s g. keep.costing_kept Good Fresh closed (make (heap_of s) vs) (trace_of p) s g k h) }

  pub list_kept : {es : List (Denotation K)} → PartsKept es → PartKept (list_part es)
  list_kept es = collected_kept (λ heap vs. displayed obj.List vs) es

  pub tuple_kept : {es : List (Denotation K)} → PartsKept es → PartKept (tuple_part es)
  tuple_kept es = collected_kept (λ heap vs. displayed obj.Tuple vs) es

  pairs_kept : {ks es : List (Denotation K)} → PartsKept ks → PartsKept es → PartsKept (in_pairs ks es)
  pairs_kept keep.nil es = keep.nil
  pairs_kept (keep.cons k ks) keep.nil = keep.nil
  pairs_kept (keep.cons k ks) (keep.cons e es) = keep.cons k (keep.cons e (pairs_kept ks es))

  pub dict_kept : {ks es : List (Denotation K)} → PartsKept ks → PartsKept es → PartKept (dict_part ks es)
  dict_kept ks es = collected_kept dict_displayed (pairs_kept ks es)

  pub subscript_kept : {a i : Denotation K} → PartKept a → PartKept i → PartKept (subscript_part a i)
  subscript_kept a i = record { does = λ p s g k h. a.does p s g _ (value_kept k h _ (λ x s g. i.does p s g _ (value_kept k h _ (λ j s g. operated_kept (subscript_of (heap_of s) x (At j)) p s g k h)))) }

  bound_kept : {e : Option (Denotation K)} → SomeKept e → (p : Site) (s : CallState K) → GoodState s → (k : Continuation K) → Behind k → (go : Option Value → CallState K → Rest K) → ((b : Option Value) (s : CallState K) → GoodState s → Kept (go b s)) → Kept (slice_bound e p s k go)
  bound_kept keep.none p s g k h go go_kept = go_kept None s g
  bound_kept (keep.some e) p s g k h go go_kept = e.does p s g _ (value_kept k h (λ v s. go (bound_given v) s) (λ v s g. go_kept (bound_given v) s g))

  sliced_kept : (x : Value) (a b c : Option Value) → PartKept (sliced_at x a b c)
  sliced_kept x a b c = record { does = λ p s g k h. operated_kept (subscript_of (heap_of s) x (Slice a b c)) p s g k h }

  by_kept : (x : Value) (a b : Option Value) {by : Option (Denotation K)} → SomeKept by → PartKept (slice_by x a b by)
  by_kept x a b by = record { does = λ p s g k h. bound_kept by p s g k h (λ c s. sliced_at x a b c p s k) (λ c s g. (sliced_kept x a b c).does p s g k h) }

  to_kept : (x : Value) (a : Option Value) {to by : Option (Denotation K)} → SomeKept to → SomeKept by → PartKept (slice_to x a to by)
  to_kept x a {by = bound} to by = record { does = λ p s g k h. bound_kept to p s g k h (λ b s. slice_by x a b bound p s k) (λ b s g. (by_kept x a b by).does p s g k h) }

  from_kept : (x : Value) {from to by : Option (Denotation K)} → SomeKept from → SomeKept to → SomeKept by → PartKept (slice_on x from to by)
  from_kept x {to = end} {by = bound} from to by = record { does = λ p s g k h. bound_kept from p s g k h (λ a s. slice_to x a end bound p s k) (λ a s g. (to_kept x a to by).does p s g k h) }

  pub slice_kept : {e : Denotation K} {from to by : Option (Denotation K)} → PartKept e → SomeKept from → SomeKept to → SomeKept by → PartKept (slice_part e from to by)
  slice_kept e from to by = record { does = λ p s g k h. e.does p s g _ (value_kept k h _ (λ x s g. (from_kept x from to by).does p s g k h)) }

  attribute_end_kept : (x : Value) (name : List ℕ) (p : Site) (s : CallState K) → GoodState s → GoodEnd (attribute_end x name p s)
  attribute_end_kept x name p s g = made_kept (attribute_of (heap_of s) x name) (trace_of p) s g

  pub attribute_kept : {e : Denotation K} (name : List ℕ) → PartKept e → PartKept (attribute_part e name)
  attribute_kept name e = record { does = λ p s g k h. e.does p s g _ (value_kept k h _ (λ x s g. h _ (attribute_end_kept x name p s g))) }

  changed_or_kept : (may : Bool) (f : Obj → Obj) (x : Value) (none : Raise) (p : Site) (s : CallState K) → GoodState s → GoodEnd (changed_or may f x none p s)
  changed_or_kept true f (val.Ref id) none p s g = closed.change s.world f id.at g
  changed_or_kept true f val.None none p s g = raised_kept none p s g
  changed_or_kept true f (val.Bool b) none p s g = raised_kept none p s g
  changed_or_kept true f (val.Int n) none p s g = raised_kept none p s g
  changed_or_kept false f x none p s g = raised_kept none p s g

  set_attribute_kept : (x : Value) (name : List ℕ) (v : Value) → PartKept (set_attribute x name v)
  set_attribute_kept x name v = record { does = λ p s g k h. h _ (changed_or_kept (takes_names (object_at (heap_of s) x)) (with_attribute name v) x (no_attribute (kind_name (heap_of s) x) name) p s g) }

  unset_attribute_kept : (x : Value) (name : List ℕ) → PartKept (unset_attribute x name)
  unset_attribute_kept x name = record { does = λ p s g k h. h _ (changed_or_kept (is_some (own_value name (object_at (heap_of s) x))) (without_attribute name) x (no_attribute (kind_name (heap_of s) x) name) p s g) }

  pub record StoreKept (t : Store K) : Type 0 where
    pub stores : (v : Value) → PartKept (t v)

  pub data StoresKept : List (Store K) → Type 0 where
    nil : StoresKept []
    cons : {t : Store K} {ts : List (Store K)} → StoreKept t → StoresKept ts → StoresKept (t ∷ ts)

  pub store_name_kept : (name : List ℕ) → StoreKept (store_name name)
  store_name_kept name = record { stores = λ v. record { does = λ p s g k h. h _ (keep.bound_kept Good Fresh closed name v p.scene s g) } }

  pub store_attribute_kept : {e : Denotation K} (name : List ℕ) → PartKept e → StoreKept (store_attribute e name)
  store_attribute_kept name e = record { stores = λ v. record { does = λ p s g k h. e.does p s g _ (value_kept k h _ (λ x s g. (set_attribute_kept x name v).does p s g k h)) } }

  set_item_kept : (x i v : Value) → PartKept (set_item x i v)
  set_item_kept x i v = record { does = λ p s g k h. operated_kept (store_of (heap_of s) x i v) p s g (λ o. on_value o k (λ w s. k (Next s))) (value_kept k h (λ w s. k (Next s)) (λ w s g. h _ g)) }

  pub store_item_kept : {a i : Denotation K} → PartKept a → PartKept i → StoreKept (store_item a i)
  store_item_kept a i = record { stores = λ v. record { does = λ p s g k h. a.does p s g _ (value_kept k h _ (λ x s g. i.does p s g _ (value_kept k h _ (λ j s g. (set_item_kept x j v).does p s g k h)))) } }

  store_all_kept : {ts : List (Store K)} → StoresKept ts → (v : Value) → PartKept (store_all ts v)
  store_all_kept nil v = record { does = λ p s g k h. h _ g }
  store_all_kept (cons t ts) v = record { does = λ p s g k h. (t.stores v).does p s g _ (next_kept k h _ (λ s g. (store_all_kept ts v).does p s g k h)) }

  store_each_kept : {ts : List (Store K)} → StoresKept ts → (vs : List Value) → PartKept (store_each ts vs)
  store_each_kept nil vs = record { does = λ p s g k h. h _ g }
  store_each_kept (cons t ts) [] = record { does = λ p s g k h. h _ g }
  store_each_kept (cons t ts) (v ∷ vs) = record { does = λ p s g k h. (t.stores v).does p s g _ (next_kept k h _ (λ s g. (store_each_kept ts vs).does p s g k h)) }

  -- elements that are taken make objects alone
  abbrev HeapKept : World K → List Obj → Type 0
  HeapKept w heap = Good (world_with_heap heap w)

  element_kept : (m : Option Effect) (w : World K) (heap : List Obj) → HeapKept w heap → (go : List Obj → List Value × List Obj) → ((h : List Obj) → HeapKept w h → HeapKept w (go h).1) → HeapKept w (element_and (turn_end heap m) go).1
  element_kept None w heap g go f = g
  element_kept (Some (Give v n)) w heap g go f = f heap g
  element_kept (Some (New o n)) w heap g go f = f _ (closed.object (world_with_heap heap w) o g)
  element_kept (Some (Put id c v n)) w heap g go f = f _ (closed.change (world_with_heap heap w) (object_after c) id.at g)
  element_kept (Some (Fail r n)) w heap g go f = g

  elements_kept : (n : ℕ) (v : Value) (at len : ℕ) (w : World K) (heap : List Obj) → HeapKept w heap → HeapKept w (elements_from n v at len heap).1
  elements_kept zero v at len w heap g = g
  elements_kept (suc n) v at len w heap g = element_kept (element_of heap (record { of = v; next = at; length = len })) w heap g (λ h. elements_from n v (at + 1) len h) (λ h g. elements_kept n v (at + 1) len w h g)

  unpack_by_kept : (n : Option ℕ) {ts : List (Store K)} → StoresKept ts → (v : Value) → PartKept (unpack_by n ts v)
  unpack_by_kept None ts v = record { does = λ p s g k h. h _ (raised_kept (not_iterable (kind_name (heap_of s) v)) p s g) }
  unpack_by_kept (Some n) {ts = targets} ts v =
      record { does = λ p s g k h. keep.cond_kept Good Fresh closed (eqb n (length targets)) _ _ ((store_each_kept ts (elements_from n v 0 n (heap_of s)).0).does p (with_heap (elements_from n v 0 n (heap_of s)).1 s) (elements_kept n v 0 n s.world (heap_of s) g) k h) (h _ (raised_kept (wrong_count (length targets) n) p s g)) }

  pub unpack_kept : {ts : List (Store K)} → StoresKept ts → StoreKept (unpack ts)
  unpack_kept ts = record { stores = λ v. record { does = λ p s g k h. (unpack_by_kept (length_of (heap_of s) v) ts v).does p s g k h } }

  pub assign_kept : {ts : List (Store K)} {e : Denotation K} → StoresKept ts → PartKept e → PartKept (assign ts e)
  assign_kept ts e = record { does = λ p s g k h. e.does p s g _ (value_kept k h _ (λ v s g. (store_all_kept ts v).does p s g k h)) }

  -- what is done with the value that a `yield` is given
  pub all_stored_kept : {ts : List (Store K)} → StoresKept ts → StoreKept (store_all ts)
  all_stored_kept ts = record { stores = λ v. store_all_kept ts v }

  pub no_use_kept : StoreKept no_use
  no_use_kept = record { stores = λ v. record { does = λ p s g k h. h _ g } }

  pub return_sent_kept : StoreKept return_sent
  return_sent_kept = record { stores = λ v. record { does = λ p s g k h. h _ g } }

  pub received_kept : {t : Store K} → StoreKept t → AfterKept (received t)
  received_kept t = record { does = λ p o g k h. value_kept k h _ (λ v s g. (t.stores v).does p s g k h) o g }

  augmented_kept : (x : Value) (op : BinOp) (y : Value) {t : Store K} → StoreKept t → PartKept (augmented x op y t)
  augmented_kept x op y {t = target} t = record { does = λ p s g k h. operated_kept (augmented_of op (heap_of s) x y) p s g (λ o. on_value o k (λ v s. target v p s k)) (value_kept k h (λ v s. target v p s k) (λ v s g. (t.stores v).does p s g k h)) }

  augment_on_kept : (x : Value) (op : BinOp) {e : Denotation K} {t : Store K} → PartKept e → StoreKept t → PartKept (augment_on x op e t)
  augment_on_kept x op e t = record { does = λ p s g k h. e.does p s g _ (value_kept k h _ (λ y s g. (augmented_kept x op y t).does p s g k h)) }

  pub augment_kept : (name : List ℕ) (op : BinOp) {e : Denotation K} → PartKept e → PartKept (augment_name name op e)
  augment_kept name op e = record { does = λ p s g k h. value_kept k h _ (λ x s g. (augment_on_kept x op e (store_name_kept name)).does p s g k h) (name_end name p s) (keep.name_end_kept Good Fresh closed name p s g) }

  attribute_store : (x : Value) (name : List ℕ) → StoreKept (set_attribute x name)
  attribute_store x name = record { stores = λ v. set_attribute_kept x name v }

  item_store : (x i : Value) → StoreKept (set_item x i)
  item_store x i = record { stores = λ v. set_item_kept x i v }

  augment_attribute_of_kept : (x : Value) (name : List ℕ) (op : BinOp) {e : Denotation K} → PartKept e → PartKept (augment_attribute_of x name op e)
  augment_attribute_of_kept x name op e = record { does = λ p s g k h. value_kept k h _ (λ old s g. (augment_on_kept old op e (attribute_store x name)).does p s g k h) (attribute_end x name p s) (attribute_end_kept x name p s g) }

  pub augment_attribute_kept : {a : Denotation K} (name : List ℕ) (op : BinOp) {e : Denotation K} → PartKept a → PartKept e → PartKept (augment_attribute a name op e)
  augment_attribute_kept name op a e = record { does = λ p s g k h. a.does p s g _ (value_kept k h _ (λ x s g. (augment_attribute_of_kept x name op e).does p s g k h)) }

  augment_item_of_kept : (x i : Value) (op : BinOp) {e : Denotation K} → PartKept e → PartKept (augment_item_of x i op e)
  augment_item_of_kept x i op {e = operand} e = record { does = λ p s g k h. operated_kept (subscript_of (heap_of s) x (At i)) p s g (λ o. on_value o k (λ old s. augment_on old op operand (set_item x i) p s k)) (value_kept k h (λ old s. augment_on old op operand (set_item x i) p s k) (λ old s g. (augment_on_kept old op e (item_store x i)).does p s g k h)) }

  pub augment_item_kept : {a i : Denotation K} (op : BinOp) {e : Denotation K} → PartKept a → PartKept i → PartKept e → PartKept (augment_item a i op e)
  augment_item_kept op a i e = record { does = λ p s g k h. a.does p s g _ (value_kept k h _ (λ x s g. i.does p s g _ (value_kept k h _ (λ j s g. (augment_item_of_kept x j op e).does p s g k h)))) }

  -- names that are unbound
  unbound_global_kept : (name : List ℕ) (scene : Scene) (s : CallState K) → GoodState s → GoodState (unbound_global name scene s)
  unbound_global_kept name scene s g = closed.change s.world (without_name name) scene.home g

  unbound_by_kept : (own : Own) (name : List ℕ) (scene : Scene) (s : CallState K) → GoodState s → GoodState (unbound_by own name scene s)
  unbound_by_kept InModule name scene s g = unbound_global_kept name scene s g
  unbound_by_kept (InFunction own) name scene s g = keep.state_cond Good Fresh closed (is_among own name) _ _ g (unbound_global_kept name scene s g)
  unbound_by_kept (InClass at) name scene s g = closed.change s.world (without_attribute name) at g

  unbound_kept : (name : List ℕ) (scene : Scene) (s : CallState K) → GoodState s → GoodState (unbound name scene s)
  unbound_kept name scene s g = unbound_by_kept scene.own name scene s g

  deleted_kept : (v : Option Value) (name : List ℕ) (p : Site) (s : CallState K) → GoodState s → GoodEnd (deleted v name p s)
  deleted_kept (Some v) name p s g = unbound_kept name p.scene s g
  deleted_kept None name p s g = raised_kept (not_bound p.scene.own name) p s g

  pub delete_name_kept : (name : List ℕ) → PartKept (delete_name name)
  delete_name_kept name = record { does = λ p s g k h. h _ (deleted_kept (bound_value p.scene.own name p.scene.home s.locals (heap_of s)) name p s g) }

  pub delete_attribute_kept : {e : Denotation K} (name : List ℕ) → PartKept e → PartKept (delete_attribute e name)
  delete_attribute_kept name e = record { does = λ p s g k h. e.does p s g _ (value_kept k h _ (λ x s g. (unset_attribute_kept x name).does p s g k h)) }

  unset_item_kept : (x i : Value) → PartKept (unset_item x i)
  unset_item_kept x i = record { does = λ p s g k h. operated_kept (delete_of (heap_of s) x i) p s g (λ o. on_value o k (λ w s. k (Next s))) (value_kept k h (λ w s. k (Next s)) (λ w s g. h _ g)) }

  pub delete_item_kept : {a i : Denotation K} → PartKept a → PartKept i → PartKept (delete_item a i)
  delete_item_kept a i = record { does = λ p s g k h. a.does p s g _ (value_kept k h _ (λ x s g. i.does p s g _ (value_kept k h _ (λ j s g. (unset_item_kept x j).does p s g k h)))) }

  -- exceptions
  trace_kept : (e : Value) (trace : List TraceFrame) (s : CallState K) → GoodState s → GoodState (with_trace e trace s)
  trace_kept (val.Ref id) trace s g = closed.trace s.world id.at trace g
  trace_kept val.None trace s g = g
  trace_kept (val.Bool b) trace s g = g
  trace_kept (val.Int n) trace s g = g

  pub raised_by_kept : (x : Raisable) (p : Site) (s : CallState K) → GoodState s → GoodEnd (raised_by x p s)
  raised_by_kept (Exception_of id) p s g = trace_kept (val.Ref id) (first_trace (trace_at id.at s.world.traces) (trace_of p)) s g
  raised_by_kept (Class_of class) p s g = keep.thrown_with_kept Good Fresh closed class [] s.world g
  raised_by_kept Neither p s g = raised_kept no_exception p s g

  pub raised_again_kept : (t : Option Thrown) (p : Site) (s : CallState K) → GoodState s → GoodEnd (raised_again t p s)
  raised_again_kept (Some t) p s g = g
  raised_again_kept None p s g = raised_kept nothing_raised p s g

  changing_kept : (f : CallState K → CallState K) → ((s : CallState K) → GoodState s → GoodState (f s)) → (k : Continuation K) → Behind k → (o : Outcome K) → GoodEnd o → Kept (route (changing f k) o)
  changing_kept f fs k h o g =
      keep.route_kept Good Fresh closed (record { gave = λ v s g. h _ (fs s g); next = λ s g. h _ (fs s g); returned = λ v s g. h _ (fs s g); broke = λ s g. h _ (fs s g); continued = λ s g. h _ (fs s g); raised = λ e trace s g. h _ (fs s g) }) o g

  handler_kept : (name : Option (List ℕ)) {b : Body K} → BodyKept b → (e : Value) (trace : List TraceFrame) → PartKept (handler_block name b e trace)
  handler_kept None b e trace = record { does = λ p s g k h. b.does p.scene s g k h }
  handler_kept (Some name) b e trace =
      record { does = λ p s g k h. b.does p.scene _ (keep.bound_kept Good Fresh closed name e p.scene (with_trace e trace s) (trace_kept e trace s g)) (λ o. route (changing (unbound name p.scene) k) o) (changing_kept (unbound name p.scene) (λ s g. unbound_kept name p.scene s g) k h) }

  pub data HandlersKept : List (Handling K) → Type 0 where
    nil : HandlersKept []
    cons : {class : Option (Denotation K)} (name : Option (List ℕ)) {b : Body K} {hs : List (Handling K)} → SomeKept class → BodyKept b → HandlersKept hs → HandlersKept ((class, (name, b)) ∷ hs)

  if_taken_kept : (taken : Option Bool) (x y z : Rest K) → Kept x → Kept y → Kept z → Kept (if_taken taken x y z)
  if_taken_kept (Some true) x y z h g f = h
  if_taken_kept (Some false) x y z h g f = g
  if_taken_kept None x y z h g f = f

  handlers_kept : {hs : List (Handling K)} → HandlersKept hs → (e : Value) (trace : List TraceFrame) → PartKept (handlers_on hs e trace)
  handlers_kept nil e trace = record { does = λ p s g k h. h _ g }
  handlers_kept (cons name keep.none b hs) e trace = record { does = λ p s g k h. (handler_kept name b e trace).does p s g k h }
  handlers_kept (cons name (keep.some c) b hs) e trace = record { does = λ p s g k h. c.does p s g _ (value_kept k h _ (λ v s g. if_taken_kept (takes_exception (heap_of s) e v) _ _ _ ((handler_kept name b e trace).does p s g k h) ((handlers_kept hs e trace).does p s g k h) (h _ (raised_kept no_exception p s g)))) }

  guarded_by_kept : {hs : List (Handling K)} {other : Body K} → HandlersKept hs → BodyKept other → AfterKept (guarded_by hs other)
  guarded_by_kept hs other =
      record {
        does = λ p o g k h.
            let w : keep.WaysKept Good Fresh closed (onward k) = keep.onward_kept Good Fresh closed k h in
            keep.route_kept Good Fresh closed (record { gave = w.gave; next = λ s g. other.does p.scene s g k h; returned = w.returned; broke = w.broke; continued = w.continued; raised = λ e trace s g. (handlers_kept hs e trace).does (site_handling e trace p) s g k h }) o g;
      }

  again_kept : {last : Body K} → BodyKept last → (scene : Scene) (s : CallState K) → GoodState s → (k : Continuation K) → Behind k → (again : CallState K → Outcome K) → ((s : CallState K) → GoodState s → GoodEnd (again s)) → Kept (then_again last scene s k again)
  again_kept last scene s g k h again a = last.does scene s g _ (next_kept k h (λ s. k (again s)) (λ s g. h (again s) (a s g)))

  finally_kept : {last : Body K} → BodyKept last → AfterKept (finally_on last)
  finally_kept last =
      record {
        does = λ p o g k h. keep.route_kept Good Fresh closed
            (record { gave = λ v s g. again_kept last p.scene s g k h (Gave v) (λ s g. g); next = λ s g. again_kept last p.scene s g k h Next (λ s g. g); returned = λ v s g. again_kept last p.scene s g k h (Returned v) (λ s g. g); broke = λ s g. again_kept last p.scene s g k h Broke (λ s g. g); continued = λ s g. again_kept last p.scene s g k h Continued (λ s g. g); raised = λ e trace s g. again_kept last (scene_handling e trace p.scene) s g k h (Raised e trace) (λ s g. g) })
            o g;
      }

  pub guarded_kept : {hs : List (Handling K)} {other last : Body K} → HandlersKept hs → BodyKept other → BodyKept last → AfterKept (guarded hs other last)
  guarded_kept {last = final} hs other last = record { does = λ p o g k h. (guarded_by_kept hs other).does p o g (λ o. finally_on final p o k) (λ o g. (finally_kept last).does p o g k h) }

  pub try_kept : {body : Body K} {hs : List (Handling K)} {other last : Body K} → BodyKept body → HandlersKept hs → BodyKept other → BodyKept last → PartKept (try_statement body hs other last)
  try_kept {hs = handlers} {other = next} {last = final} body hs other last = record { does = λ p s g k h. body.does p.scene s g (λ o. guarded handlers next final p o k) (λ o g. (guarded_kept hs other last).does p o g k h) }

  -- `with`
  info_named_kept : (name : Option (List ℕ)) (v : Value) (scene : Scene) (s : CallState K) → GoodState s → GoodState (info_named name v scene s)
  info_named_kept (Some name) v scene s g = keep.bound_kept Good Fresh closed name v scene s g
  info_named_kept None v scene s g = g

  with_info_kept : (name : Option (List ℕ)) (scene : Scene) (s : CallState K) → GoodState s → GoodState (with_info name scene s)
  with_info_kept name scene s g = info_named_kept name (val.Ref (id_at (length (heap_of s)))) scene _ (closed.object s.world (obj.Info (record { value = None })) g)

  info_taken_kept : (info : ObjId) (e : Value) (s : CallState K) → GoodState s → GoodState (info_taken info e s)
  info_taken_kept info e s g = closed.change s.world (object_after (Whole (obj.Info (record { value = Some e })))) info.at g

  searched_kept : (pattern : Option (List ℕ)) (e : Value) → PartKept (searched pattern e)
  searched_kept pattern e =
      record { does = λ p s g k h. keep.costing_kept Good Fresh closed (pattern_end (heap_of s) pattern e) (trace_of p) s g (λ o. on_value o k (λ v s. k (Next s))) (value_kept k h (λ v s. k (Next s)) (λ v s g. h _ g)) }

  swallowed_kept : (r : RaisesObj) (info : ObjId) (e : Value) (trace : List TraceFrame) → PartKept (swallowed r info e trace)
  swallowed_kept r info e trace = record { does = λ p s g k h. (searched_kept r.pattern e).does p _ (info_taken_kept info e (with_trace e trace s) (trace_kept e trace s g)) k h }

  taken_or_kept : (taken : Bool) (r : RaisesObj) (info : ObjId) (e : Value) (trace : List TraceFrame) → PartKept (taken_or taken r info e trace)
  taken_or_kept true r info e trace = swallowed_kept r info e trace
  taken_or_kept false r info e trace = record { does = λ p s g k h. h _ g }

  not_raised_kept : (r : RaisesObj) → PartKept (not_raised r)
  not_raised_kept r = record { does = λ p s g k h. h _ (raised_kept (did_not_raise (heap_of s) r.classes) p s g) }

  left_kept : (r : RaisesObj) (info : ObjId) → AfterKept (context_left r info)
  left_kept r info =
      record {
        does = λ p o g k h. keep.route_kept Good Fresh closed
            (record { gave = λ v s g. (not_raised_kept r).does p s g k h; next = λ s g. (not_raised_kept r).does p s g k h; returned = λ v s g. (not_raised_kept r).does p s g k h; broke = λ s g. (not_raised_kept r).does p s g k h; continued = λ s g. (not_raised_kept r).does p s g k h; raised = λ e trace s g. (taken_or_kept (is_a (heap_of s) e r.classes) r info e trace).does p s g k h })
            o g;
      }

  context_kept : (context : Option RaisesObj) (name : Option (List ℕ)) {body : Body K} → BodyKept body → PartKept (context_entered context name body)
  context_kept (Some r) name body =
      record { does = λ p s g k h. body.does p.scene (with_info name p.scene s) (with_info_kept name p.scene s g) (λ o. context_left r (id_at (length (heap_of s))) p o k) (λ o g. (left_kept r (id_at (length (heap_of s)))).does p o g k h) }
  context_kept None name body = record { does = λ p s g k h. h _ (raised_kept bad_context p s g) }

  pub with_kept : {e : Denotation K} (name : Option (List ℕ)) {body : Body K} → PartKept e → BodyKept body → PartKept (with_statement e name body)
  with_kept name e body = record { does = λ p s g k h. e.does p s g _ (value_kept k h _ (λ v s g. (context_kept (context_of (object_at (heap_of s) v)) name body).does p s g k h)) }

  -- `for`
  begun_kept : (m : Option Effect) (turn : K.turn) → PartKept (turn_begun {K = K} m turn)
  begun_kept None turn = record { does = λ p s g k h. h _ g }
  begun_kept (Some (Give v n)) turn = record { does = λ p s g k h. (g, g, h) }
  begun_kept (Some (New o n)) turn = record { does = λ p s g k h. (g, g, h) }
  begun_kept (Some (Put id c v n)) turn = record { does = λ p s g k h. (g, g, h) }
  begun_kept (Some (Fail r n)) turn = record { does = λ p s g k h. h _ (raised_kept r p s g) }

  for_from_kept : (turn : IterAt → K.turn) (at : IterAt) → PartKept (for_from {K = K} turn at)
  for_from_kept turn at = record { does = λ p s g k h. (begun_kept (element_of (heap_of s) at) (turn at)).does p s g k h }

  iterated_kept : (turn : IterAt → K.turn) (v : Value) (at : Option IterAt) → PartKept (iterated {K = K} turn v at)
  iterated_kept turn v (Some at) = record { does = λ p s g k h. (for_from_kept turn at).does p s g k h }
  iterated_kept turn v None = record { does = λ p s g k h. h _ (raised_kept (not_iterable (kind_name (heap_of s) v)) p s g) }

  pub for_kept : (turn : IterAt → K.turn) {e : Denotation K} → PartKept e → PartKept (for_statement turn e)
  for_kept turn e = record { does = λ p s g k h. e.does p s g _ (value_kept k h _ (λ v s g. (iterated_kept turn v (iterate (heap_of s) v)).does p s g k h)) }

  behind_kept : (turn : IterAt → K.turn) {b : Body K} → BodyKept b → (at : IterAt) → PartKept (behind_target turn b at)
  behind_kept turn b at = record { does = λ p s g k h. b.does p.scene s g _ (keep.turn_kept Good Fresh closed k h _ (λ s g. (for_from_kept turn at).does p s g k h)) }

  turn_with_kept : (turn : IterAt → K.turn) {t : Store K} {b : Body K} → StoreKept t → BodyKept b → (at : IterAt) (m : Option Effect) → PartKept (turn_with turn t b at m)
  turn_with_kept turn t b at None = record { does = λ p s g k h. h _ g }
  turn_with_kept turn t b at (Some m) = record { does = λ p s g k h. value_kept k h _ (λ v s g. (t.stores v).does p s g _ (next_kept k h _ (λ s g. (behind_kept turn b (iterator_after at m)).does p s g k h))) (made m (trace_of p) s) (made_kept m (trace_of p) s g) }

  pub for_turn_kept : (turn : IterAt → K.turn) {t : Store K} {b : Body K} → StoreKept t → BodyKept b → (at : IterAt) → PartKept (for_turn turn t b at)
  for_turn_kept turn t b at = record { does = λ p s g k h. (turn_with_kept turn t b at (element_of (heap_of s) at)).does p s g k h }
