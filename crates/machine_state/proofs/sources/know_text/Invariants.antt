use Rattle.std.proofs.Common.{◌≡◌, take, true}
use Rattle.machine_state.specs.Spelled.{is_text}
use Rattle.machine_state.proofs.sources.know_text.Given as goal

abbrev pub invariant-loop-c : goal.invariant-loop-c
invariant-loop-c l = is_text (take l.c-index l.chars) ≡ true
