use Rattle.std.proofs.Common.{◌≡◌, ◌++◌, drop}
use Rattle.std.specs.Prelude.{codes}
use Rattle.std.specs.List.{filter, flat_map}
use Rattle.collect_marks.specs.Names.{marks_in}
use Rattle.collect_marks.specs.Says.{is_called}
use Rattle.collect_params.specs.Given.{parametrized}
use Rattle.collect_params.proofs.parametrize.parametrizations.Given as goal

abbrev pub invariant-loop-v : goal.invariant-loop-v
invariant-loop-v l =
    l.found.items ++ flat_map (parametrized l.heap) (filter (is_called (codes "parametrize")) (marks_in l.heap (drop l.v-index l.marks)))
    ≡ flat_map (parametrized l.heap) (filter (is_called (codes "parametrize")) (marks_in l.heap l.marks))
