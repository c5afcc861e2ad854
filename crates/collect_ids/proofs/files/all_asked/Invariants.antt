use Rattle.std.proofs.Common.{◌≡◌, ◌+◌}
use Rattle.collect_items.specs.Items.{fixtures_with}
use Rattle.collect_ids.specs.Files.{all_asked}
use Rattle.collect_ids.proofs.FileWalk.{many_tests}
use Rattle.collect_ids.proofs.files.all_asked.Given as goal

abbrev pub invariant-loop-file : goal.invariant-loop-file
invariant-loop-file l =
    let f = fixtures_with l.table l.names l.definitions in
    record {
      node : l.node ≡ l.first + many_tests l.yielded;
      asked : (l.all, l.world) ≡ all_asked l.limit l.hooks f l.hooks.ids l.walk l.first l.yielded l.initial.world;
    }
