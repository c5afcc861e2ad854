use Rattle.std.proofs.Common.{◌≡◌, ◌++◌, drop, map}
use Rattle.test_session.specs.Collections.{number_at}
use Rattle.test_session.proofs.running.group_in_suite.Given as goal

abbrev pub invariant-loop-place : goal.invariant-loop-place
invariant-loop-place l = l.numbers ++ map (number_at l.outer l.items) (drop l.place-index l.group) ≡ map (number_at l.outer l.items) l.group
