use Rattle.std.proofs.Common.{◌≡◌, ◌++◌, drop}
use Rattle.collect_items.specs.Nodes as nodes
use Rattle.collect_items.proofs.nodes.numbered.Given as goal

abbrev pub invariant-loop-test : goal.invariant-loop-test
invariant-loop-test l = l.names ++ nodes.numbered l.number (drop l.test-index l.tests) ≡ nodes.numbered l.fn.first l.tests
