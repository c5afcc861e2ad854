use Rattle.std.proofs.Common.{◌≡◌, ◌++◌, map, take}
use Rattle.py_kinds.specs.Builtins.{exception_class, classes}
use Rattle.py_kinds.proofs.builtins.add_classes.Given as goal

abbrev pub invariant-loop-class : goal.invariant-loop-class
invariant-loop-class l = l.heap ≡ l.fn.heap ++ map exception_class (take l.class-index classes)
