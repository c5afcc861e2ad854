use Rattle.collect_ids.proofs.FileWalk.{still_ordered}
use Rattle.collect_ids.proofs.files.serving_file.Goals as goal

pub returns-clause-order : goal.returns-clause-order
returns-clause-order c = still_ordered c.args.hooks.now c.args.impls.now c.in_ok-serving.serving c.args.path.now c.requires.order c.in_ok-serving.ensures
