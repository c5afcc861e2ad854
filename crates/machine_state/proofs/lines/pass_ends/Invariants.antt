use Rattle.std.proofs.Common.{◌≡◌, ◌≤◌, ◌-◌, drop, length}
use Rattle.machine_state.specs.Lines.{behind}
use Rattle.machine_state.proofs.lines.pass_ends.Given as goal

abbrev pub invariant-more : goal.invariant-more
invariant-more l = record {
  within : l.at ≤ length l.bytes;
  behind : behind l.left (drop l.at l.bytes) ≡ behind l.ends (drop l.from l.bytes);
}

abbrev pub decreases-more : goal.decreases-more
decreases-more l = length l.bytes - l.at
