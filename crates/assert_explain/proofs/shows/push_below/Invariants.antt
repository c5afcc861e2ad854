use Rattle.std.proofs.Common.{◌≡◌, ◌++◌, take}
use Rattle.py_world.specs.Explained.{facts_below}
use Rattle.assert_explain.proofs.shows.push_below.Given as goal

abbrev pub invariant-loop-fact : goal.invariant-loop-fact
invariant-loop-fact l = l.facts.items ≡ l.fn.facts.items ++ facts_below (take l.fact-index l.others)
