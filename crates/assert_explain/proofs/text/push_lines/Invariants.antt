use Rattle.std.proofs.Common.{◌≡◌, [], ◌++◌, drop}
use Rattle.py_world.specs.Explained.{fact_lines}
use Rattle.assert_explain.proofs.text.push_lines.Given as goal

abbrev pub invariant-loop-fact : goal.invariant-loop-fact
invariant-loop-fact l = l.fn.out.items ++ fact_lines [] [] 0 l.facts ≡ l.out.items ++ fact_lines [] [] l.above (drop l.fact-index l.facts)
