use Rattle.std.proofs.Common.{◌≡◌, take}
use Rattle.std.specs.Prelude.{All}
use Rattle.collect_words.specs.Keys.{key_paths, IsKeyed}
use Rattle.collect_words.proofs.walk.keyed.Given as goal

abbrev pub invariant-loop-path : goal.invariant-loop-path
invariant-loop-path l =
    record {
      same : key_paths l.keys.items ≡ take l.path-index l.paths;
      keyed : All IsKeyed l.keys.items;
    }
