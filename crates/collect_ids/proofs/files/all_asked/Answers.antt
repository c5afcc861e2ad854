use Rattle.std.proofs.Common.{List, arith, ap}
use Rattle.collect_items.specs.Items.{fixtures_with}
use Rattle.collect_ids.specs.declared.files.AskedFile.{AskedFile}
use Rattle.collect_ids.proofs.FileWalk.{file_on, more_tests}
use Rattle.collect_ids.proofs.files.all_asked.Goals as goal

pub loop-file-init : goal.loop-file-init
loop-file-init c = record { node = omega arith; asked = ap (λ (xs : List AskedFile). (xs, c.args.world.now)) c.new-all.ensures }

pub loop-file-preserved : goal.loop-file-preserved
loop-file-preserved c =
    let f = fixtures_with c.args.table.now c.args.names.now c.args.definitions.now in
    record {
      node = omega (arith, more_tests c.loop-file.yielded c.in-Some.file, c.in_ok-next.ensures, c.len.ensures, c.loop-file.invariant.node);
      asked = file_on c.args.limit c.args.hooks.now f c.args.hooks.now.ids c.args.walk.now c.loop-file.yielded c.in-Some.file c.args.first c.loop-file.node _ _ _ _ _ _ c.loop-file.invariant.asked c.loop-file.invariant.node c.in_ok-one.ensures c.in_ok-push.ensures.ok;
    }
