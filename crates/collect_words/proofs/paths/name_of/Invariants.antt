use Rattle.std.proofs.Common.{◌≡◌, ◌≤◌, take, drop, false}
use Rattle.std.specs.List.{list_any}
use Rattle.collect_words.specs.Paths.{is_slash, name_of}
use Rattle.collect_words.proofs.paths.name_of.Given as goal

abbrev pub invariant-loop-at : goal.invariant-loop-at
invariant-loop-at l =
    record {
      within : l.start ≤ l.at;
      same : name_of l.path ≡ name_of (drop l.start l.path);
      clean : list_any is_slash (drop l.start (take l.at l.path)) ≡ false;
    }
