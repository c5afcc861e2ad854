use Rattle.std.proofs.Common.{◌≡◌, ◌++◌, drop}
use Rattle.std.specs.List.{filter_map}
use Rattle.collect_names.specs.Objects.{object_in}
use Rattle.fixture_definitions.specs.Tests.{text_in}
use Rattle.fixture_definitions.proofs.found_tests.push_texts.Given as goal

abbrev pub invariant-loop-v : goal.invariant-loop-v
invariant-loop-v l = l.names ++ filter_map (λ w. text_in (object_in l.heap w)) (drop l.v-index l.values) ≡ l.initial.names ++ filter_map (λ w. text_in (object_in l.heap w)) l.values
