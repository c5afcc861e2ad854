use Rattle.std.proofs.Common.{◌≡◌, ◌++◌, drop}
use Rattle.std.specs.List.{filter}
use Rattle.collect_ids.specs.Files.{serves_file}
use Rattle.collect_ids.proofs.files.serving_among.Given as goal

abbrev pub invariant-loop-which : goal.invariant-loop-which
invariant-loop-which l = l.serving ++ filter (serves_file l.hooks l.path) (drop l.which-index l.impls) ≡ filter (serves_file l.hooks l.path) l.impls
