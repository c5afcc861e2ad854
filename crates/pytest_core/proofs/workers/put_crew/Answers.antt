use Rattle.std.proofs.Common.{◌≤◌, length, subst, sym}
use Rattle.pytest_core.proofs.ByWorkers.{enough_workers, run_is, wrote_begun, wrote_workers}
use Rattle.pytest_core.proofs.Streamed.{prefix_of_all}
use Rattle.pytest_core.specs.declared.refusal.RunFault.TheVariants as fault
use Rattle.worker_sessions.specs.Project.{ProjectParts}
use Rattle.pytest_core.proofs.workers.put_crew.Goals as goal

pub run_workers-requires-after_bounds : goal.run_workers-requires-after_bounds
run_workers-requires-after_bounds g c κs within =
    subst (λ (p : ProjectParts). (1 ≤ c.args.workers) × (c.args.workers ≤ length p.sizes)) (sym c.new-project.ensures)
    (enough_workers c.args.options.now c.args.sizes.items c.args.workers c.requires.asks c.requires.some c.requires.workers)

pub returns-in-Ok-clause-wrote : goal.returns-in-Ok-clause-wrote
returns-in-Ok-clause-wrote g c =
    let parts : ProjectParts = record { files = c.args.files.now; options = c.args.options.now; sizes = c.args.sizes.items } in
    λ d collected sized whole before h.
    wrote_workers c.args.options.now d c.requires.asks c.args.count c.args.deselected whole c.args.sizes.items sized c.requires.some c.args.workers c.requires.workers
    c.in-Ok.ran (run_is c.new-project.result parts c.new-project.ensures c.args.workers c.in-Ok.ran c.in-Ok.ensures.run d collected)
    before (g.S.Sink.told c.args.out.now) (g.S.Sink.told c.put_workers.new.out) c.put_workers.result h c.put_workers.ensures.put

pub returns-clause-wrote : goal.returns-clause-wrote
returns-clause-wrote g c =
    λ d collected sized whole before h.
    wrote_begun c.args.options.now d c.requires.asks c.args.count c.args.deselected whole c.args.sizes.items sized c.requires.some c.args.workers c.requires.workers
    before (g.S.Sink.told c.args.out.now) fault.OutOfMemory (prefix_of_all _ _ _ h)
