use Rattle.edge_io.proofs.KeptFiles.{lists_paths}
use Rattle.edge_io.proofs.memory.SureTreeTree.list.Goals as goal

pub returns-clause-paths : goal.returns-clause-paths
returns-clause-paths c =
    rw (← c.self.view_is) (lists_paths _ _ c.in_ok-in_order.ensures.order (rw (c.in_ok-paths.ensures, c.deref.ensures.value) at c.in_ok-in_order.ensures.same))
