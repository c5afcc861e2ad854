use Rattle.std.proofs.Common.{◌≡◌, ◌++◌, take}
use Rattle.assert_explain.proofs.shows.push_facts.Given as goal

abbrev pub invariant-loop-fact : goal.invariant-loop-fact
invariant-loop-fact l = l.facts.items ≡ l.fn.facts.items ++ take l.fact-index l.others
