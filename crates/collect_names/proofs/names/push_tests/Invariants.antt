use Rattle.std.proofs.Common.{◌≡◌, ◌++◌, drop}
use Rattle.std.specs.Prelude.{flat_map, option_copied}
use Rattle.collect_names.specs.Found.{is_test_function, test_function}
use Rattle.collect_names.proofs.Entries.{kept_one}
use Rattle.collect_names.proofs.names.push_tests.Given as goal

abbrev pub invariant-loop-at : goal.invariant-loop-at
invariant-loop-at l =
    l.found.items ++ flat_map (kept_one (is_test_function l.heap) (test_function (option_copied l.class))) (drop l.at l.names)
    ≡ l.initial.found.items ++ flat_map (kept_one (is_test_function l.heap) (test_function (option_copied l.class))) l.names
