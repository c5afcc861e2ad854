use Rattle.std.proofs.Common.{◌≡◌, ◌++◌, length, map}
use Rattle.std.specs.List.{slice_split}
use Rattle.collect_params.specs.Given.{is_comma, names_parted}
use Rattle.text_methods.specs.Characters.{stripped}
use Rattle.collect_params.proofs.names.names_parted.Given as goal

abbrev pub invariant-loop-at : goal.invariant-loop-at
invariant-loop-at l = l.names ++ map stripped (slice_split is_comma l.rest) ≡ map stripped (slice_split is_comma l.text)

abbrev pub decreases-loop-at : goal.decreases-loop-at
decreases-loop-at l = length l.rest
