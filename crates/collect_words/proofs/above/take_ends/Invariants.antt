use Rattle.std.proofs.Common.{◌≡◌, take}
use Rattle.std.specs.List.{flat_map}
use Rattle.collect_words.specs.Files.{each_once, conftest_in}
use Rattle.collect_words.proofs.above.take_ends.Given as goal

abbrev pub invariant-loop-end : goal.invariant-loop-end
invariant-loop-end l = l.taken ≡ each_once l.initial.taken (flat_map (λ end. conftest_in l.walk (take end l.path)) (take l.end-index l.ends))
