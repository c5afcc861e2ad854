use Rattle.std.proofs.Common.{◌≡◌, ◌++◌, drop}
use Rattle.share_files.specs.Work.{held_lists}
use Rattle.test_session.specs.Collections.{in_suite}
use Rattle.test_session.proofs.running.groups_in_suite.Given as goal

abbrev pub invariant-loop-group : goal.invariant-loop-group
invariant-loop-group l = l.all.items ++ in_suite l.outer l.items (held_lists (drop l.group-index l.groups)) ≡ in_suite l.outer l.items (held_lists l.groups)
