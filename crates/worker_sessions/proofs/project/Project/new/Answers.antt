use Rattle.worker_sessions.proofs.project.Project.new.Goals as goal

pub invariant_of-result : goal.invariant_of-result
invariant_of-result c =
    let r = c.requires in
    record { order = r.order; expressions = r.exprs; whole = r.whole; few = r.few; collection = r.collected.0; collected = r.collected.1; sized = r.collected.2 }
