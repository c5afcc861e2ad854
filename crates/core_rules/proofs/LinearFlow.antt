-- No display, target, `try` or `for` looks at what follows it.
use Rattle.std.proofs.Common.{◌≡◌, ℕ, List, [], ◌∷◌, ◌++◌, refl, ap, ◌∙◌, Bool, true, false, Option, Some, None}
use Rattle.std.specs.Prelude.{length, eqb}
use mathlib.Core.Path.{fun_ext}
use Rattle.run_tree.specs.Todo.{bind}
use Rattle.py_tree.specs.declared.op.BinOp.{BinOp}
use Rattle.py_values.specs.declared.end.Effect.{Effect}
use Rattle.py_values.specs.declared.end.Effect.TheVariants.{Give, New, Put, Fail}
use Rattle.py_values.specs.declared.index.Index.TheVariants.{At, Slice}
use Rattle.py_values.specs.declared.object.Obj.{Obj}
use Rattle.py_values.specs.declared.object.Obj.TheVariants as obj
use Rattle.py_values.specs.declared.object.RaisesObj.{RaisesObj}
use Rattle.py_values.specs.declared.value.ObjId.{ObjId}
use Rattle.py_values.specs.declared.value.Value.{Value}
use Rattle.py_values.specs.Ends.{cost_of, id_at}
use Rattle.source_meaning.specs.py_ops.Binary.{augmented_of}
use Rattle.source_meaning.specs.py_items.Items.{subscript_of, store_of, delete_of, object_at}
use Rattle.source_meaning.specs.py_items.Turns.{turn_of as element_of, iterator_after, iterate}
use Rattle.source_meaning.specs.py_items.declared.iter.IterAt.{IterAt}
use Rattle.source_meaning.specs.pytest_calls.Swallowing.{pattern_end}
use Rattle.source_meaning.specs.py_kinds.Classes.{is_a}
use Rattle.source_meaning.specs.py_world.declared.trace.TraceFrame.{TraceFrame}
use Rattle.source_meaning.specs.py_world.World.{Kinds, CallState, heap_of, with_heap}
use Rattle.source_meaning.specs.py_world.Site.{Scene, Site, trace_of, site_handling, scene_handling}
use Rattle.source_meaning.specs.py_world.Names.{unbound, name_end, delete_name}
use Rattle.source_meaning.specs.py_world.Outcome.{Outcome, Gave, Next, Returned, Broke, Continued, Raised, Rest, Continuation, Denotation, After, Body, route, changing, made, costing, on_next}
use Rattle.source_meaning.specs.py_world.Expressions.{arguments}
use Rattle.source_meaning.specs.py_world.Displays.{displayed, dict_displayed, in_pairs, bound_given, collected, list_part, tuple_part, dict_part, subscript_part, slice_bound, sliced_at, slice_by, slice_to, slice_on, slice_part}
use Rattle.source_meaning.specs.py_world.Attributes.{attribute_end, attribute_part, set_attribute}
use Rattle.source_meaning.specs.py_world.Targets.{Store, elements_from, store_name, store_attribute, set_item, store_item, store_all, store_each, unpack_by, unpack, assign, augment_on, augment_name, augment_attribute_of, augment_attribute, augment_item_of, augment_item, delete_attribute, delete_item}
use Rattle.source_meaning.specs.py_world.Statements.{received, no_use, return_sent}
use Rattle.source_meaning.specs.py_world.Exceptions.{Handling, takes_exception, handler_block, if_taken, handlers_on, guarded_by, then_again, finally_on, guarded, try_statement}
use Rattle.source_meaning.specs.py_world.Contexts.{context_of, with_info, searched, swallowed, taken_or, context_left, context_entered, with_statement}
use Rattle.source_meaning.specs.py_world.Loops.{turn_begun, for_from, iterated, for_statement, behind_target, turn_with, for_turn}
use Rattle.core_rules.proofs.Linear as line
use Rattle.core_rules.proofs.Linear.{Behind, Linear, LinearBody, LinearAfter, LinearAll, LinearSome}

module _ {K : Kinds} where
  pub arguments_bind : {es : List (Denotation K)} → LinearAll es → (vs : List Value) (p : Site) (s : CallState K) (k l : Continuation K) (go go' : List Value → CallState K → Rest K) → ((vs : List Value) (s : CallState K) → bind (go vs s) l ≡ go' vs s) → bind (arguments es vs p s k go) l ≡ arguments es vs p s (Behind l k) go'
  arguments_bind line.nil vs p s k l go go' g = g vs s
  arguments_bind (line.cons e es) vs p s k l go go' g = line.then_linear e p s _ _ l (line.value_bind k l _ _ (λ v s. arguments_bind es (vs ++ v ∷ []) p s k l go go' g))

  costing_bind : (m : Effect) (trace : List TraceFrame) (s : CallState K) (k l : Continuation K) → bind (costing m trace s k) l ≡ costing m trace s (Behind l k)
  costing_bind m trace s k l = line.spend_bind (cost_of m) _ _ l

  pub collected_linear : (make : List Obj → List Value → Effect) {es : List (Denotation K)} → LinearAll es → Linear (collected make es)
  collected_linear make es =
      record { does = λ p s k l. arguments_bind es [] p s k l (λ vs s. costing (make (heap_of s) vs) (trace_of p) s k) (λ vs s. costing (make (heap_of s) vs) (trace_of p) s (Behind l k)) (λ vs s. costing_bind (make (heap_of s) vs) (trace_of p) s k l) }

  pub list_linear : {es : List (Denotation K)} → LinearAll es → Linear (list_part es)
  list_linear es = collected_linear (λ heap vs. displayed obj.List vs) es

  pub tuple_linear : {es : List (Denotation K)} → LinearAll es → Linear (tuple_part es)
  tuple_linear es = collected_linear (λ heap vs. displayed obj.Tuple vs) es

  pairs_linear : {ks es : List (Denotation K)} → LinearAll ks → LinearAll es → LinearAll (in_pairs ks es)
  pairs_linear line.nil es = line.nil
  pairs_linear (line.cons k ks) line.nil = line.nil
  pairs_linear (line.cons k ks) (line.cons e es) = line.cons k (line.cons e (pairs_linear ks es))

  pub dict_linear : {ks es : List (Denotation K)} → LinearAll ks → LinearAll es → Linear (dict_part ks es)
  dict_linear ks es = collected_linear dict_displayed (pairs_linear ks es)

  pub subscript_linear : {a i : Denotation K} → Linear a → Linear i → Linear (subscript_part a i)
  subscript_linear a i = record { does = λ p s k l. line.then_linear a p s _ _ l (line.value_bind k l _ _ (λ x s. line.then_linear i p s _ _ l (line.value_bind k l _ _ (λ j s. line.operated_bind (subscript_of (heap_of s) x (At j)) p s k (Behind l k) l (λ o. refl))))) }

  bound_bind : {e : Option (Denotation K)} → LinearSome e → (p : Site) (s : CallState K) (k l : Continuation K) (go go' : Option Value → CallState K → Rest K) → ((b : Option Value) (s : CallState K) → bind (go b s) l ≡ go' b s) → bind (slice_bound e p s k go) l ≡ slice_bound e p s (Behind l k) go'
  bound_bind line.none p s k l go go' g = g None s
  bound_bind (line.some e) p s k l go go' g = line.then_linear e p s _ _ l (line.value_bind k l _ _ (λ v s. g (bound_given v) s))

  sliced_linear : (x : Value) (a b c : Option Value) → Linear {K = K} (sliced_at x a b c)
  sliced_linear x a b c = record { does = λ p s k l. line.operated_bind (subscript_of (heap_of s) x (Slice a b c)) p s k (Behind l k) l (λ o. refl) }

  by_linear : (x : Value) (a b : Option Value) {by : Option (Denotation K)} → LinearSome by → Linear (slice_by x a b by)
  by_linear x a b by = record { does = λ p s k l. bound_bind by p s k l (λ c s. sliced_at x a b c p s k) (λ c s. sliced_at x a b c p s (Behind l k)) (λ c s. (sliced_linear x a b c).does p s k l) }

  to_linear : (x : Value) (a : Option Value) {to by : Option (Denotation K)} → LinearSome to → LinearSome by → Linear (slice_to x a to by)
  to_linear x a {by = bound} to by = record { does = λ p s k l. bound_bind to p s k l (λ b s. slice_by x a b bound p s k) (λ b s. slice_by x a b bound p s (Behind l k)) (λ b s. (by_linear x a b by).does p s k l) }

  from_linear : (x : Value) {from to by : Option (Denotation K)} → LinearSome from → LinearSome to → LinearSome by → Linear (slice_on x from to by)
  from_linear x {to = end} {by = bound} from to by = record { does = λ p s k l. bound_bind from p s k l (λ a s. slice_to x a end bound p s k) (λ a s. slice_to x a end bound p s (Behind l k)) (λ a s. (to_linear x a to by).does p s k l) }

  pub slice_linear : {e : Denotation K} {from to by : Option (Denotation K)} → Linear e → LinearSome from → LinearSome to → LinearSome by → Linear (slice_part e from to by)
  slice_linear e from to by = record { does = λ p s k l. line.then_linear e p s _ _ l (line.value_bind k l _ _ (λ x s. (from_linear x from to by).does p s k l)) }

  pub attribute_linear : {e : Denotation K} (name : List ℕ) → Linear e → Linear (attribute_part e name)
  attribute_linear name e = record { does = λ p s k l. line.then_linear e p s _ _ l (line.value_bind k l _ _ (λ x s. refl)) }

  pub record LinearStore (t : Store K) : Type 0 where
    pub stores : (v : Value) → Linear (t v)

  pub data LinearStores : List (Store K) → Type 0 where
    nil : LinearStores []
    cons : {t : Store K} {ts : List (Store K)} → LinearStore t → LinearStores ts → LinearStores (t ∷ ts)

  pub store_name_linear : (name : List ℕ) → LinearStore (store_name name)
  store_name_linear name = record { stores = λ v. record { does = λ p s k l. refl } }

  set_attribute_linear : (x : Value) (name : List ℕ) → LinearStore (set_attribute x name)
  set_attribute_linear x name = record { stores = λ v. record { does = λ p s k l. refl } }

  pub store_attribute_linear : {e : Denotation K} (name : List ℕ) → Linear e → LinearStore (store_attribute e name)
  store_attribute_linear name e = record { stores = λ v. record { does = λ p s k l. line.then_linear e p s _ _ l (line.value_bind k l _ _ (λ x s. refl)) } }

  set_item_linear : (x i : Value) → LinearStore (set_item x i)
  set_item_linear x i = record { stores = λ v. record { does = λ p s k l. line.operated_bind (store_of (heap_of s) x i v) p s _ _ l (line.value_bind k l _ _ (λ w s. refl)) } }

  pub store_item_linear : {a i : Denotation K} → Linear a → Linear i → LinearStore (store_item a i)
  store_item_linear a i = record { stores = λ v. record { does = λ p s k l. line.then_linear a p s _ _ l (line.value_bind k l _ _ (λ x s. line.then_linear i p s _ _ l (line.value_bind k l _ _ (λ j s. ((set_item_linear x j).stores v).does p s k l)))) } }

  store_all_linear : {ts : List (Store K)} → LinearStores ts → (v : Value) → Linear (store_all ts v)
  store_all_linear nil v = record { does = λ p s k l. refl }
  store_all_linear (cons t ts) v = record { does = λ p s k l. line.then_linear (t.stores v) p s _ _ l (line.next_bind k l _ _ (λ s. (store_all_linear ts v).does p s k l)) }

  store_each_linear : {ts : List (Store K)} → LinearStores ts → (vs : List Value) → Linear (store_each ts vs)
  store_each_linear nil vs = record { does = λ p s k l. refl }
  store_each_linear (cons t ts) [] = record { does = λ p s k l. refl }
  store_each_linear (cons t ts) (v ∷ vs) = record { does = λ p s k l. line.then_linear (t.stores v) p s _ _ l (line.next_bind k l _ _ (λ s. (store_each_linear ts vs).does p s k l)) }

  unpack_by_linear : (n : Option ℕ) {ts : List (Store K)} → LinearStores ts → (v : Value) → Linear (unpack_by n ts v)
  unpack_by_linear None ts v = record { does = λ p s k l. refl }
  unpack_by_linear (Some n) {ts = targets} ts v =
      record { does = λ p s k l. line.cond_bind (eqb n (length targets)) l _ _ _ _ ((store_each_linear ts (elements_from n v 0 n (heap_of s)).0).does p (with_heap (elements_from n v 0 n (heap_of s)).1 s) k l) refl }

  pub unpack_linear : {ts : List (Store K)} → LinearStores ts → LinearStore (unpack ts)
  unpack_linear ts = record { stores = λ v. record { does = λ p s k l. (unpack_by_linear _ ts v).does p s k l } }

  pub assign_linear : {ts : List (Store K)} {e : Denotation K} → LinearStores ts → Linear e → Linear (assign ts e)
  assign_linear ts e = record { does = λ p s k l. line.then_linear e p s _ _ l (line.value_bind k l _ _ (λ v s. (store_all_linear ts v).does p s k l)) }

  -- what is done with the value that a `yield` is given
  pub all_stored_linear : {ts : List (Store K)} → LinearStores ts → LinearStore (store_all ts)
  all_stored_linear ts = record { stores = λ v. store_all_linear ts v }

  pub no_use_linear : LinearStore no_use
  no_use_linear = record { stores = λ v. record { does = λ p s k l. refl } }

  pub return_sent_linear : LinearStore return_sent
  return_sent_linear = record { stores = λ v. record { does = λ p s k l. refl } }

  pub received_linear : {t : Store K} → LinearStore t → LinearAfter (received t)
  received_linear t = record { does = λ p o k l. line.value_bind k l _ _ (λ v s. (t.stores v).does p s k l) o }

  augment_on_linear : (x : Value) (op : BinOp) {e : Denotation K} {t : Store K} → Linear e → LinearStore t → Linear (augment_on x op e t)
  augment_on_linear x op e t = record { does = λ p s k l. line.then_linear e p s _ _ l (line.value_bind k l _ _ (λ y s. line.operated_bind (augmented_of op (heap_of s) x y) p s _ _ l (line.value_bind k l _ _ (λ v s. (t.stores v).does p s k l)))) }

  pub augment_linear : (name : List ℕ) (op : BinOp) {e : Denotation K} → Linear e → Linear (augment_name name op e)
  augment_linear name op e = record { does = λ p s k l. line.value_bind k l _ _ (λ x s. (augment_on_linear x op e (store_name_linear name)).does p s k l) (name_end name p s) }

  augment_attribute_of_linear : (x : Value) (name : List ℕ) (op : BinOp) {e : Denotation K} → Linear e → Linear (augment_attribute_of x name op e)
  augment_attribute_of_linear x name op e = record { does = λ p s k l. line.value_bind k l _ _ (λ old s. (augment_on_linear old op e (set_attribute_linear x name)).does p s k l) (attribute_end x name p s) }

  pub augment_attribute_linear : {a : Denotation K} (name : List ℕ) (op : BinOp) {e : Denotation K} → Linear a → Linear e → Linear (augment_attribute a name op e)
  augment_attribute_linear name op a e = record { does = λ p s k l. line.then_linear a p s _ _ l (line.value_bind k l _ _ (λ x s. (augment_attribute_of_linear x name op e).does p s k l)) }

  augment_item_of_linear : (x i : Value) (op : BinOp) {e : Denotation K} → Linear e → Linear (augment_item_of x i op e)
  augment_item_of_linear x i op e = record { does = λ p s k l. line.operated_bind (subscript_of (heap_of s) x (At i)) p s _ _ l (line.value_bind k l _ _ (λ old s. (augment_on_linear old op e (set_item_linear x i)).does p s k l)) }

  pub augment_item_linear : {a i : Denotation K} (op : BinOp) {e : Denotation K} → Linear a → Linear i → Linear e → Linear (augment_item a i op e)
  augment_item_linear op a i e = record { does = λ p s k l. line.then_linear a p s _ _ l (line.value_bind k l _ _ (λ x s. line.then_linear i p s _ _ l (line.value_bind k l _ _ (λ j s. (augment_item_of_linear x j op e).does p s k l)))) }

  pub delete_name_linear : (name : List ℕ) → Linear {K = K} (delete_name name)
  delete_name_linear name = record { does = λ p s k l. refl }

  pub delete_attribute_linear : {e : Denotation K} (name : List ℕ) → Linear e → Linear (delete_attribute e name)
  delete_attribute_linear name e = record { does = λ p s k l. line.then_linear e p s _ _ l (line.value_bind k l _ _ (λ x s. refl)) }

  pub delete_item_linear : {a i : Denotation K} → Linear a → Linear i → Linear (delete_item a i)
  delete_item_linear a i = record { does = λ p s k l. line.then_linear a p s _ _ l (line.value_bind k l _ _ (λ x s. line.then_linear i p s _ _ l (line.value_bind k l _ _ (λ j s. line.operated_bind (delete_of (heap_of s) x j) p s _ _ l (line.value_bind k l _ _ (λ w s. refl)))))) }

  changing_bind : (f : CallState K → CallState K) (k l : Continuation K) (o : Outcome K) → bind (route (changing f k) o) l ≡ route (changing f (Behind l k)) o
  changing_bind f k l o =
      line.route_bind (record { gave = λ v s. refl; next = λ s. refl; returned = λ v s. refl; broke = λ s. refl; continued = λ s. refl; raised = λ e trace s. refl }) o

  handler_linear : (name : Option (List ℕ)) {b : Body K} → LinearBody b → (e : Value) (trace : List TraceFrame) → Linear (handler_block name b e trace)
  handler_linear None b e trace = record { does = λ p s k l. b.does p.scene s k l }
  handler_linear (Some name) b e trace = record { does = λ p s k l. line.body_then b p.scene _ _ _ l (changing_bind (unbound name p.scene) k l) }

  -- the handlers of a `try`
  pub data LinearHandlers : List (Handling K) → Type 0 where
    nil : LinearHandlers []
    cons : {class : Option (Denotation K)} (name : Option (List ℕ)) {b : Body K} {hs : List (Handling K)} → LinearSome class → LinearBody b → LinearHandlers hs → LinearHandlers ((class, (name, b)) ∷ hs)

  if_taken_bind : (taken : Option Bool) (l : Continuation K) (x y z x' y' z' : Rest K) → bind x l ≡ x' → bind y l ≡ y' → bind z l ≡ z' → bind (if_taken taken x y z) l ≡ if_taken taken x' y' z'
  if_taken_bind (Some true) l x y z x' y' z' h g f = h
  if_taken_bind (Some false) l x y z x' y' z' h g f = g
  if_taken_bind None l x y z x' y' z' h g f = f

  handlers_linear : {hs : List (Handling K)} → LinearHandlers hs → (e : Value) (trace : List TraceFrame) → Linear (handlers_on hs e trace)
  handlers_linear nil e trace = record { does = λ p s k l. refl }
  handlers_linear (cons name line.none b hs) e trace = record { does = λ p s k l. (handler_linear name b e trace).does p s k l }
  handlers_linear (cons name (line.some c) b hs) e trace = record { does = λ p s k l. line.then_linear c p s _ _ l (line.value_bind k l _ _ (λ v s. if_taken_bind (takes_exception (heap_of s) e v) l _ _ _ _ _ _ ((handler_linear name b e trace).does p s k l) ((handlers_linear hs e trace).does p s k l) refl)) }

  guarded_by_linear : {hs : List (Handling K)} {other : Body K} → LinearHandlers hs → LinearBody other → LinearAfter (guarded_by hs other)
  guarded_by_linear hs other =
      record { does = λ p o k l. line.route_bind (record { gave = λ v s. refl; next = λ s. other.does p.scene s k l; returned = λ v s. refl; broke = λ s. refl; continued = λ s. refl; raised = λ e trace s. (handlers_linear hs e trace).does (site_handling e trace p) s k l }) o }

  again_bind : {last : Body K} → LinearBody last → (scene : Scene) (s : CallState K) (k l : Continuation K) (again : CallState K → Outcome K) → bind (then_again last scene s k again) l ≡ then_again last scene s (Behind l k) again
  again_bind last scene s k l again = line.body_then last scene s _ _ l (line.next_bind k l _ _ (λ s. refl))

  finally_linear : {last : Body K} → LinearBody last → LinearAfter (finally_on last)
  finally_linear last =
      record {
        does = λ p o k l. line.route_bind
            (record { gave = λ v s. again_bind last p.scene s k l (Gave v); next = λ s. again_bind last p.scene s k l Next; returned = λ v s. again_bind last p.scene s k l (Returned v); broke = λ s. again_bind last p.scene s k l Broke; continued = λ s. again_bind last p.scene s k l Continued; raised = λ e trace s. again_bind last (scene_handling e trace p.scene) s k l (Raised e trace) })
            o;
      }

  -- behind a statement, and behind each other end
  pub next_then : (k k' l : Continuation K) (go go' : CallState K → Rest K) → ((o : Outcome K) → bind (k o) l ≡ k' o) → ((s : CallState K) → bind (go s) l ≡ go' s) → (o : Outcome K) → bind (on_next o k go) l ≡ on_next o k' go'
  next_then k k' l go go' f g o =
      line.route_bind (record { gave = λ v s. f (Gave v s); next = g; returned = λ v s. f (Returned v s); broke = λ s. f (Broke s); continued = λ s. f (Continued s); raised = λ e trace s. f (Raised e trace s) }) o

  -- what is done with an end, and what follows
  pub after_then : {f : After K} → LinearAfter f → (p : Site) (o : Outcome K) (k k' l : Continuation K) → ((o : Outcome K) → bind (k o) l ≡ k' o) → bind (f p o k) l ≡ f p o k'
  after_then {f = f} x p o k k' l g = x.does p o k l ∙ ap (f p o) (fun_ext g)

  pub guarded_linear : {hs : List (Handling K)} {other last : Body K} → LinearHandlers hs → LinearBody other → LinearBody last → LinearAfter (guarded hs other last)
  guarded_linear hs other last = record { does = λ p o k l. after_then (guarded_by_linear hs other) p o _ _ l (λ o. (finally_linear last).does p o k l) }

  pub try_linear : {body : Body K} {hs : List (Handling K)} {other last : Body K} → LinearBody body → LinearHandlers hs → LinearBody other → LinearBody last → Linear (try_statement body hs other last)
  try_linear body hs other last = record { does = λ p s k l. line.body_then body p.scene s _ _ l (λ o. (guarded_linear hs other last).does p o k l) }

  -- what is made behind its cost, and what follows its end
  costing_then : (m : Effect) (trace : List TraceFrame) (s : CallState K) (k k' l : Continuation K) → ((o : Outcome K) → bind (k o) l ≡ k' o) → bind (costing m trace s k) l ≡ costing m trace s k'
  costing_then m trace s k k' l g = costing_bind m trace s k l ∙ ap (costing m trace s) (fun_ext g)

  searched_linear : (pattern : Option (List ℕ)) (e : Value) → Linear {K = K} (searched pattern e)
  searched_linear pattern e = record { does = λ p s k l. costing_then (pattern_end (heap_of s) pattern e) (trace_of p) s _ _ l (line.value_bind k l _ _ (λ v s. refl)) }

  swallowed_linear : (r : RaisesObj) (info : ObjId) (e : Value) (trace : List TraceFrame) → Linear {K = K} (swallowed r info e trace)
  swallowed_linear r info e trace = record { does = λ p s k l. (searched_linear r.pattern e).does p _ k l }

  taken_or_linear : (taken : Bool) (r : RaisesObj) (info : ObjId) (e : Value) (trace : List TraceFrame) → Linear {K = K} (taken_or taken r info e trace)
  taken_or_linear true r info e trace = swallowed_linear r info e trace
  taken_or_linear false r info e trace = record { does = λ p s k l. refl }

  left_linear : (r : RaisesObj) (info : ObjId) → LinearAfter {K = K} (context_left r info)
  left_linear r info =
      record { does = λ p o k l. line.route_bind (record { gave = λ v s. refl; next = λ s. refl; returned = λ v s. refl; broke = λ s. refl; continued = λ s. refl; raised = λ e trace s. (taken_or_linear (is_a (heap_of s) e r.classes) r info e trace).does p s k l }) o }

  context_linear : (context : Option RaisesObj) (name : Option (List ℕ)) {body : Body K} → LinearBody body → Linear (context_entered context name body)
  context_linear (Some r) name body = record { does = λ p s k l. line.body_then body p.scene (with_info name p.scene s) _ _ l (λ o. (left_linear r (id_at (length (heap_of s)))).does p o k l) }
  context_linear None name body = record { does = λ p s k l. refl }

  pub with_linear : {e : Denotation K} (name : Option (List ℕ)) {body : Body K} → Linear e → LinearBody body → Linear (with_statement e name body)
  with_linear name e body = record { does = λ p s k l. line.then_linear e p s _ _ l (line.value_bind k l _ _ (λ v s. (context_linear (context_of (object_at (heap_of s) v)) name body).does p s k l)) }

  begun_linear : (m : Option Effect) (turn : K.turn) → Linear (turn_begun {K = K} m turn)
  begun_linear None turn = record { does = λ p s k l. refl }
  begun_linear (Some (Give v n)) turn = record { does = λ p s k l. refl }
  begun_linear (Some (New o n)) turn = record { does = λ p s k l. refl }
  begun_linear (Some (Put id c v n)) turn = record { does = λ p s k l. refl }
  begun_linear (Some (Fail r n)) turn = record { does = λ p s k l. refl }

  for_from_linear : (turn : IterAt → K.turn) (at : IterAt) → Linear (for_from {K = K} turn at)
  for_from_linear turn at = record { does = λ p s k l. (begun_linear (element_of (heap_of s) at) (turn at)).does p s k l }

  iterated_linear : (turn : IterAt → K.turn) (v : Value) (at : Option IterAt) → Linear (iterated {K = K} turn v at)
  iterated_linear turn v (Some at) = record { does = λ p s k l. (for_from_linear turn at).does p s k l }
  iterated_linear turn v None = record { does = λ p s k l. refl }

  pub for_linear : (turn : IterAt → K.turn) {e : Denotation K} → Linear e → Linear (for_statement turn e)
  for_linear turn e = record { does = λ p s k l. line.then_linear e p s _ _ l (line.value_bind k l _ _ (λ v s. (iterated_linear turn v (iterate (heap_of s) v)).does p s k l)) }

  behind_linear : (turn : IterAt → K.turn) {b : Body K} → LinearBody b → (at : IterAt) → Linear (behind_target turn b at)
  behind_linear turn b at = record { does = λ p s k l. line.body_then b p.scene s _ _ l (line.turn_bind k l _ _ (λ s. (for_from_linear turn at).does p s k l)) }

  turn_with_linear : (turn : IterAt → K.turn) {t : Store K} {b : Body K} → LinearStore t → LinearBody b → (at : IterAt) (m : Option Effect) → Linear (turn_with turn t b at m)
  turn_with_linear turn t b at None = record { does = λ p s k l. refl }
  turn_with_linear turn t b at (Some m) = record { does = λ p s k l. line.value_bind k l _ _ (λ v s. line.then_linear (t.stores v) p s _ _ l (line.next_bind k l _ _ (λ s. (behind_linear turn b (iterator_after at m)).does p s k l))) (made m (trace_of p) s) }

  pub for_turn_linear : (turn : IterAt → K.turn) {t : Store K} {b : Body K} → LinearStore t → LinearBody b → (at : IterAt) → Linear (for_turn turn t b at)
  for_turn_linear turn t b at = record { does = λ p s k l. (turn_with_linear turn t b at (element_of (heap_of s) at)).does p s k l }
