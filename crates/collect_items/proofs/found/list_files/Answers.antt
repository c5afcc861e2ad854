use Rattle.std.proofs.Common.{arith, ap, ◌∙◌, length}
use Rattle.std.proofs.lemmas.List.{length-append}
use Rattle.collect_items.specs.Items.{fixtures_with}
use Rattle.collect_items.proofs.Files.{faults_of_more, items_of_more, nodes_of_more}
use Rattle.collect_items.proofs.found.list_files.Goals as goal

pub loop-one-preserved : goal.loop-one-preserved
loop-one-preserved c =
    let f = fixtures_with c.args.table.now c.args.names.now c.args.definitions.now in
    let new = c.in_ok-behind.ensures in
    record {
      items = items_of_more c.args.heap.now f c.args.placed.now c.loop-one.one-index _ _ _ _ _ _ (omega arith) c.loop-one.invariant.items new.items new.behind;
      nodes = nodes_of_more c.args.heap.now f c.args.placed.now c.loop-one.one-index _ _ _ _ _ _ _ _ (omega arith) c.loop-one.invariant.nodes new.nodes (ap length new.items ∙ length-append _ _) new.behind;
      faults = faults_of_more c.args.heap.now f c.args.placed.now c.loop-one.one-index _ _ _ _ _ _ (omega arith) c.loop-one.invariant.faults new.faults new.behind;
    }
