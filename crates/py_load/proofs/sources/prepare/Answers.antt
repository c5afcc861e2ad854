use Rattle.std.proofs.Common.{arith}
use Rattle.py_load.proofs.Adding.{next_added, no_source_yet}
use Rattle.py_load.proofs.sources.prepare.Goals as goal

pub add_file-requires : goal.add_file-requires
add_file-requires c =
    record {
      absent =
          no_source_yet c.args.named.now c.args.files.now c.items-pairs.result.now c.loop-path.path-index c.loop-path-item.result c.as_str-path.result.now c.args.world.now c.loop-path.world c.items-pairs.ensures c.as_str-path.ensures.value (omega arith)
          c.loop-path-item.is c.requires.order c.requires.none c.loop-path.invariant;
    }

pub loop-path-preserved : goal.loop-path-preserved
loop-path-preserved c =
    next_added c.args.named.now c.items-pairs.result.now c.loop-path.path-index c.loop-path-item.result c.is_explained-explains.result c.as_str-path.result.now c.deref.result.now c.args.world.now c.loop-path.world c.add_file.new.world (omega arith) c.loop-path-item.is
    c.is_explained-explains.ensures c.as_str-path.ensures.value c.deref.ensures.value c.loop-path.invariant c.in_ok-add_file.ensures
