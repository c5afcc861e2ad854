use Rattle.std.proofs.Common.{◌≡◌, ◌++◌, map, take}
use Rattle.py_kinds.specs.Builtins.{function_object, pytest_names}
use Rattle.py_kinds.proofs.builtins.add_functions.Given as goal

abbrev pub invariant-loop-which : goal.invariant-loop-which
invariant-loop-which l = l.heap ≡ l.fn.heap ++ map function_object (take l.which-index pytest_names)
