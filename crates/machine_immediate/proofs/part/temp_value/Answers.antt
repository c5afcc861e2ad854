use Rattle.std.proofs.Common.{sym}
use Rattle.machine_state.specs.Frames.{state_of}
use Rattle.machine_immediate.proofs.part.temp_value.Goals as goal

pub returns : goal.returns
returns c = c.temp_in.ensures (state_of c.args.m.now) (sym c.deref.ensures.value)
