-- What values are to a `raise`.
use Rattle.py_world.specs.Exceptions as world
use Rattle.machine_items.specs.declared.exceptions.RaiseKind.{RaiseKind}
use Rattle.machine_items.specs.declared.exceptions.RaiseKind.TheVariants.{Exception, Class, Neither}

abbrev pub raisable_of : RaiseKind → world.Raisable
raisable_of (Exception id) = world.Exception_of id
raisable_of (Class class) = world.Class_of class
raisable_of Neither = world.Neither
