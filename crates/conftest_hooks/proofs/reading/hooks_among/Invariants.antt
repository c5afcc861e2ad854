use Rattle.std.proofs.Common.{◌≡◌, drop}
use Rattle.conftest_hooks.proofs.Read.{behind}
use Rattle.conftest_hooks.specs.Reading.{hooks_among}
use Rattle.conftest_hooks.proofs.reading.hooks_among.Given as goal

abbrev pub invariant-loop-at : goal.invariant-loop-at
invariant-loop-at l = behind l.found.items (hooks_among l.heap l.folder (drop l.at l.names)) ≡ hooks_among l.heap l.folder l.names
