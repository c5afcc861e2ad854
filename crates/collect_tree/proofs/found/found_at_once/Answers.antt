use Rattle.std.proofs.Common.{List, ap₂}
use Rattle.collect_items.specs.Items.{findings}
use Rattle.collection_nodes.specs.declared.test_file.TestFile.{TestFile}
use Rattle.py_values.specs.declared.object.Obj.{Obj}
use Rattle.collect_tree.proofs.Finds.{is_found}
use Rattle.collect_tree.proofs.found.found_at_once.Goals as goal

pub returns-clause-found : goal.returns-clause-found
returns-clause-found c =
    let f = c.in_ok-found.ensures in
    is_found c.args.walk.now c.in_ok-found.found _ _ (ap₂ (λ (heap : List Obj) (files : List TestFile). findings heap c.args.walk.now c.args.above.now files) c.heap.ensures c.deref.ensures.value)
    f.suite f.places f.keys f.nodes f.faults
