-- What takes a value, and augmented assignments and deletions (Language Reference, assignment statements; augmented assignment
-- statements; the del statement).
use Rattle.std.specs.Prelude.{ℕ, zero, suc, ◌+◌, List, [], ◌∷◌, ◌++◌, length, eqb, Option, Some, None, codes, if◌then◌else◌}
use Rattle.std.specs.Fmt.{decimal}
use Rattle.py_tree.specs.declared.op.BinOp.{BinOp}
use Rattle.py_calls.specs.py_kinds.Kinds.{kind_name}
use Rattle.py_calls.specs.py_kinds.Lengths.{length_of}
use Rattle.py_values.specs.Raises.{text_raise}
use Rattle.py_values.specs.declared.class.ExcClass.TheVariants.{ValueError}
use Rattle.py_values.specs.declared.end.Raise.{Raise}
use Rattle.py_values.specs.declared.index.Index.TheVariants.{At}
use Rattle.py_values.specs.declared.object.Obj.{Obj}
use Rattle.py_values.specs.declared.value.Value.{Value}
use Rattle.py_calls.specs.py_operands.Faults.{not_iterable}
use Rattle.py_ops.specs.Binary.{augmented_of}
use Rattle.py_calls.specs.py_items.Items.{subscript_of, store_of, delete_of}
use Rattle.py_calls.specs.py_items.Turns.{turn_of as element_of, turn_end}
use Rattle.py_calls.specs.py_items.declared.iter.Turn.{Turn}
use Rattle.py_calls.specs.py_items.declared.iter.Turn.TheVariants as turn
use Rattle.py_world.specs.World.{Kinds, heap_of, with_heap}
use Rattle.py_world.specs.Names.{name_end, bound}
use Rattle.py_world.specs.Attributes.{attribute_end, set_attribute, unset_attribute}
use Rattle.py_world.specs.Outcome.{Next, Denotation, on_value, on_next, operated, raised_at}

-- what a target does with a value
abbrev pub Store : (K : Kinds) → Type 0
Store K = Value → Denotation K

abbrev pub wrong_count : ℕ → ℕ → Raise
wrong_count wanted n = text_raise ValueError (codes "expected " ++ (decimal wanted ++ (codes " values, got " ++ decimal n)))

-- an element, and those behind it, with the heap that has the characters of a text as texts
abbrev pub element_and : Turn × List Obj → (List Obj → List Value × List Obj) → List Value × List Obj
element_and (turn.Item v, heap) go = (v ∷ (go heap).0, (go heap).1)
element_and (turn.End, heap) go = ([], heap)
element_and (turn.Raised r, heap) go = ([], heap)

-- so many elements of a value from a place on, each as a `for` gives it
abbrev pub elements_from : ℕ → Value → ℕ → ℕ → List Obj → List Value × List Obj
elements_from zero v at len heap = ([], heap)
elements_from (suc n) v at len heap = element_and (turn_end heap (element_of heap (record { of = v; next = at; length = len }))) (λ heap. elements_from n v (at + 1) len heap)

module _ {K : Kinds} where
  abbrev pub store_name : List ℕ → Store K
  store_name name v p s k = k (Next (bound name v p.scene s))

  -- the object comes first, and then the store
  abbrev pub store_attribute : Denotation K → List ℕ → Store K
  store_attribute e name v p s k = e p s (λ o. on_value o k (λ x s. set_attribute x name v p s k))

  abbrev pub set_item : Value → Value → Store K
  set_item x i v p s k = operated (store_of (heap_of s) x i v) p s (λ o. on_value o k (λ w s. k (Next s)))

  -- behind the object: its index or key, and then the store
  abbrev pub store_item_on : Value → Denotation K → Store K
  store_item_on x i v p s k = i p s (λ o. on_value o k (λ j s. set_item x j v p s k))

  abbrev pub store_item : Denotation K → Denotation K → Store K
  store_item a i v p s k = a p s (λ o. on_value o k (λ x s. store_item_on x i v p s k))

  -- the targets from left to right
  abbrev pub store_all : List (Store K) → Store K
  store_all [] v p s k = k (Next s)
  store_all (t ∷ ts) v p s k = t v p s (λ o. on_next o k (λ s. store_all ts v p s k))

  -- each target has a value of its own
  abbrev pub store_each : List (Store K) → List Value → Denotation K
  store_each [] vs p s k = k (Next s)
  store_each (t ∷ ts) [] p s k = k (Next s)
  store_each (t ∷ ts) (v ∷ vs) p s k = t v p s (λ o. on_next o k (λ s. store_each ts vs p s k))

  abbrev pub store_elements : List (Store K) → List Value × List Obj → Denotation K
  store_elements ts e p s k = store_each ts e.0 p (with_heap e.1 s) k

  -- what is unpacked has as many elements as there are targets, all of which are taken before the first store; it costs nothing
  abbrev pub unpack_by : Option ℕ → List (Store K) → Store K
  unpack_by None ts v p s k = k (raised_at (not_iterable (kind_name (heap_of s) v)) p s)
  unpack_by (Some n) ts v p s k =
      if eqb n (length ts) then store_elements ts (elements_from n v 0 n (heap_of s)) p s k else k (raised_at (wrong_count (length ts) n) p s)

  abbrev pub unpack : List (Store K) → Store K
  unpack ts v p s k = unpack_by (length_of (heap_of s) v) ts v p s k

  -- the value comes first
  abbrev pub assign : List (Store K) → Denotation K → Denotation K
  assign targets e p s k = e p s (λ o. on_value o k (λ v s. store_all targets v p s k))

  -- the operator of an augmented assignment, which changes a list in place, and then the target
  abbrev pub augmented : Value → BinOp → Value → Store K → Denotation K
  augmented x op y target p s k = operated (augmented_of op (heap_of s) x y) p s (λ o. on_value o k (λ v s. target v p s k))

  -- behind the value that a target has: the operand, the operator and the target, whose parts are not evaluated again
  abbrev pub augment_on : Value → BinOp → Denotation K → Store K → Denotation K
  augment_on x op e target p s k = e p s (λ o. on_value o k (λ y s. augmented x op y target p s k))

  abbrev pub augment_name : List ℕ → BinOp → Denotation K → Denotation K
  augment_name name op e p s k = on_value (name_end name p s) k (λ x s. augment_on x op e (store_name name) p s k)

  abbrev pub augment_attribute_of : Value → List ℕ → BinOp → Denotation K → Denotation K
  augment_attribute_of x name op e p s k = on_value (attribute_end x name p s) k (λ old s. augment_on old op e (set_attribute x name) p s k)

  abbrev pub augment_attribute : Denotation K → List ℕ → BinOp → Denotation K → Denotation K
  augment_attribute a name op e p s k = a p s (λ o. on_value o k (λ x s. augment_attribute_of x name op e p s k))

  -- behind the index: the value there, and the rest
  abbrev pub augment_item_of : Value → Value → BinOp → Denotation K → Denotation K
  augment_item_of x i op e p s k = operated (subscript_of (heap_of s) x (At i)) p s (λ o. on_value o k (λ old s. augment_on old op e (set_item x i) p s k))

  abbrev pub augment_item_on : Value → Denotation K → BinOp → Denotation K → Denotation K
  augment_item_on x i op e p s k = i p s (λ o. on_value o k (λ j s. augment_item_of x j op e p s k))

  abbrev pub augment_item : Denotation K → Denotation K → BinOp → Denotation K → Denotation K
  augment_item a i op e p s k = a p s (λ o. on_value o k (λ x s. augment_item_on x i op e p s k))

  -- deletions
  abbrev pub delete_attribute : Denotation K → List ℕ → Denotation K
  delete_attribute e name p s k = e p s (λ o. on_value o k (λ x s. unset_attribute x name p s k))

  abbrev pub unset_item : Value → Value → Denotation K
  unset_item x i p s k = operated (delete_of (heap_of s) x i) p s (λ o. on_value o k (λ w s. k (Next s)))

  abbrev pub delete_item_on : Value → Denotation K → Denotation K
  delete_item_on x i p s k = i p s (λ o. on_value o k (λ j s. unset_item x j p s k))

  abbrev pub delete_item : Denotation K → Denotation K → Denotation K
  delete_item a i p s k = a p s (λ o. on_value o k (λ x s. delete_item_on x i p s k))
