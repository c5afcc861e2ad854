use Rattle.std.proofs.Common.{◌≡◌, [], ◌++◌, ◌-◌}
use Rattle.py_world.specs.Explained.{fact_indent}
use Rattle.assert_explain.proofs.text.push_indent.Given as goal

abbrev pub invariant-loop : goal.invariant-loop
invariant-loop l = l.fn.out.items ++ fact_indent [] [] l.depth ≡ l.out.items ++ fact_indent [] [] (l.depth - l.counter)
