-- What decorators make.
use Rattle.std.specs.Prelude.{List, [], ◌∷◌, ◌++◌, length, Option, Some, None}
use Rattle.py_values.specs.Ends.{id_at}
use Rattle.py_values.specs.declared.object.Obj.{Obj}
use Rattle.py_values.specs.declared.value.Value.{Value}
use Rattle.py_values.specs.declared.value.Value.TheVariants as val
use Rattle.py_world.specs.Definitions as world
use Rattle.machine_decorate.specs.declared.decoration.Decorable.{Decorable}
use Rattle.machine_decorate.specs.declared.decoration.Decorable.TheVariants.{Function, Class, Fixture, Other}
use Rattle.machine_decorate.specs.declared.decoration.Decoration.{Decoration}
use Rattle.machine_decorate.specs.declared.decoration.Decoration.TheVariants.{Replaced, Marked, Same, Refused}

abbrev pub decorable_of : Decorable → world.Decorable
decorable_of Function = world.A_function
decorable_of Class = world.A_class
decorable_of Fixture = world.A_fixture
decorable_of Other = world.No_such

abbrev pub decoration_of : Decoration → world.Decoration
decoration_of (Replaced o) = world.Replaced o
decoration_of Marked = world.Marked
decoration_of Same = world.Same
decoration_of Refused = world.Refused

-- the value behind a decorator, and the heap behind it; none where it refuses
abbrev pub decorated_told : world.Decoration → Value → Value → List Obj → Option Value × List Obj
decorated_told (world.Replaced o) d v heap = (Some (val.Ref (id_at (length heap))), heap ++ o ∷ [])
decorated_told world.Marked d v heap = (Some v, world.marked_at d v heap)
decorated_told world.Same d v heap = (Some v, heap)
decorated_told world.Refused d v heap = (None, heap)

-- behind one decorator: the value that it gives and the heap behind it go on
abbrev pub told_on : Option Value × List Obj → (Value → List Obj → Option Value × List Obj) → Option Value × List Obj
told_on (Some v, heap) go = go v heap
told_on (None, heap) go = (None, heap)

-- the value behind all of these decorators, applied in turn, and the heap behind them; none where one refuses
abbrev pub all_told : List Value → Value → List Obj → Option Value × List Obj
all_told [] v heap = (Some v, heap)
all_told (d ∷ ds) v heap = told_on (decorated_told (world.decoration heap d v) d v heap) (λ w heap. all_told ds w heap)
