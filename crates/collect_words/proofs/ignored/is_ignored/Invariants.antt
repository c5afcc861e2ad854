use Rattle.std.proofs.Common.{◌≡◌, drop}
use Rattle.std.specs.List.{list_any}
use Rattle.collect_words.specs.Paths.{plain_path}
use Rattle.collect_words.specs.Files.{is_ignored_by}
use Rattle.collect_words.proofs.ignored.is_ignored.Given as goal

abbrev pub invariant-loop-given : goal.invariant-loop-given
invariant-loop-given l =
    list_any (λ given. is_ignored_by l.path (plain_path given)) l.ignore ≡ list_any (λ given. is_ignored_by l.path (plain_path given)) (drop l.given-index l.ignore)
