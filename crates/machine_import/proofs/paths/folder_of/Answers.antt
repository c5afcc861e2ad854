use Rattle.py_bind.proofs.Paths.{folder_found, folder_back}
use Rattle.machine_import.proofs.paths.folder_of.Goals as goal

pub returns-then-last-eq47 : goal.returns-then-last-eq47
returns-then-last-eq47 c = folder_found c.args.path.now c.loop-last.rest.now c.in-Some.front.now c.in-Some.last.now c.in-Some.ensures.cases.0 c.if-last-eq47.true c.loop-last.invariant

pub loop-last-preserved : goal.loop-last-preserved
loop-last-preserved c = folder_back c.args.path.now c.loop-last.rest.now c.in-Some.front.now c.in-Some.last.now c.in-Some.ensures.cases.0 c.if-last-eq47.false c.loop-last.invariant
