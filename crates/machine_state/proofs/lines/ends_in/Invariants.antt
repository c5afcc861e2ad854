use Rattle.std.proofs.Common.{◌≡◌, take}
use Rattle.std.specs.List.{count_by}
use Rattle.machine_state.specs.Lines.{is_end}
use Rattle.machine_state.proofs.lines.ends_in.Given as goal

abbrev pub invariant-loop-byte : goal.invariant-loop-byte
invariant-loop-byte l = l.count ≡ count_by is_end (take l.byte-index l.bytes)
