use Rattle.std.proofs.Common.{◌≡◌, drop}
use Rattle.std.specs.List.{list_any}
use Rattle.collect_words.specs.Paths.{is_below}
use Rattle.collect_words.proofs.words.has_below.Given as goal

abbrev pub invariant-loop-file : goal.invariant-loop-file
invariant-loop-file l =
    list_any (is_below l.path) l.files ≡ list_any (is_below l.path) (drop l.file-index l.files)
