use Rattle.collect_tree.proofs.Finds.{found_told}
use Rattle.collect_tree.proofs.Runnable.{found_runs, ids_ordered}
use Rattle.collect_tree.specs.Told.{loaded_told}
use Rattle.collect_tree.proofs.collection.of_loaded.Goals as goal

pub found_loaded-requires : goal.found_loaded-requires
found_loaded-requires c = record { order = ids_ordered c.args.hooks.items c.in_ok-hooks.hooks c.in_ok-hooks.ensures }

pub of_found-requires-clause-runnable : goal.of_found-requires-clause-runnable
of_found-requires-clause-runnable c =
    found_runs c.in_ok-found.field-0.found.found c.args.options.now.step_limit c.args.walk.now c.args.above.now (loaded_told c.args.loaded c.args.world.now) c.args.hooks.items c.in_ok-hooks.hooks c.in_ok-hooks.ensures
    c.in_ok-found.ensures.found.suite c.in_ok-found.ensures.tree

pub returns-clause-told : goal.returns-clause-told
returns-clause-told c =
    found_told c.args.options.now c.args.walk.now c.args.words.now c.args.hooks.items c.args.above.now (loaded_told c.args.loaded c.args.world.now) _ c.in_ok-hooks.hooks _ c.in_ok-hooks.ensures c.in_ok-found.ensures.loaded
    (c.of_found.ensures.told _ c.in_ok-found.ensures.found)
