use Rattle.std.proofs.Common.{◌≤◌, length}
use Rattle.collect_words.specs.Index.{IsIndexFrom}
use Rattle.collect_words.proofs.walk.index_of.Given as goal

abbrev pub invariant-fill : goal.invariant-fill
invariant-fill l = record {
  within : l.place ≤ length l.paths;
  index : IsIndexFrom l.place l.paths l.index.entries;
}

abbrev pub decreases-fill : goal.decreases-fill
decreases-fill l = l.place
