-- The `raise` statement (Language Reference, the raise statement).
use Rattle.std.specs.Prelude.{Bool, true, false, List, [], Option, Some, None}
use Rattle.py_values.specs.declared.object.Obj.{Obj}
use Rattle.py_values.specs.declared.value.ObjId.{ObjId}
use Rattle.py_values.specs.declared.value.Value.{Value}
use Rattle.py_values.specs.declared.value.Value.TheVariants as val
use Rattle.py_calls.specs.py_kinds.Classes.{is_exc_class}
use Rattle.py_world.specs.World.{Kinds, heap_of}
use Rattle.py_world.specs.Site.{around_of}
use Rattle.py_world.specs.Arguments.{positional_arguments}
use Rattle.py_world.specs.Exceptions.{raisable, raised_by, raised_again}
use Rattle.py_world.specs.Calls.{Entry, init_of, invoke}
use Rattle.py_world.specs.Outcome.{Denotation, on_value, call_end}

-- the `__init__` of a value that is a class of exceptions, where it has one
abbrev pub init_if : Bool → List Obj → ObjId → Option Value
init_if true heap id = init_of heap id
init_if false heap id = None

unfoldable pub raise_init : List Obj → Value → Option Value
raise_init heap (val.Ref id) = init_if (is_exc_class heap (val.Ref id)) heap id
raise_init heap val.None = None
raise_init heap (val.Bool b) = None
raise_init heap (val.Int n) = None

module _ {K : Kinds} where
  abbrev pub raise_it : Value → Denotation K
  raise_it v p s k = k (raised_by (raisable (heap_of s) v) p s)

  -- of a class of exceptions with an `__init__` an instance is made by a call without a step, and raised
  abbrev pub raise_on : (K.code → Entry K) → Option Value → Value → Denotation K
  raise_on entry None v p s k = raise_it v p s k
  raise_on entry (Some init) v p s k = invoke entry v (positional_arguments []) (around_of p) s (λ o. on_value (call_end s o) k (λ x s. raise_it x p s k))

  -- THE `raise` STATEMENT
  abbrev pub raise_value : (K.code → Entry K) → Option (Denotation K) → Denotation K
  raise_value entry None p s k = k (raised_again p.scene.around.handling p s)
  raise_value entry (Some e) p s k = e p s (λ o. on_value o k (λ v s. raise_on entry (raise_init (heap_of s) v) v p s k))
