use Rattle.collect_items.specs.Items.{fixtures_with}
use Rattle.collect_ids.proofs.FileWalk.{file_came}
use Rattle.collect_ids.proofs.files.file_asked.Goals as goal

pub returns : goal.returns
returns c =
    file_came c.args.limit c.args.hooks.now (fixtures_with c.args.table.now c.args.names.now c.args.definitions.now) c.args.hooks.now.ids c.args.walk.now c.args.node c.args.file c.args.world.now c.tests_asked.new.world _
    c.path_text-path.result.now c.items-all.result.now _ c.items-impls.result.now c.items-listed.result.now _ _
    c.path_text-path.ensures c.items-all.ensures c.in_ok-serving.ensures.serving c.items-impls.ensures c.items-listed.ensures c.in_ok-items.ensures c.in_ok-printed.ensures.printed c.printed.ensures.same
