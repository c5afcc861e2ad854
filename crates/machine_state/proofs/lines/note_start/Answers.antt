use Rattle.std.proofs.Common.{arith}
use Rattle.machine_state.proofs.Starts.{starts_end}
use Rattle.machine_state.proofs.lines.note_start.Goals as goal

pub returns-in_ok-push : goal.returns-in_ok-push
returns-in_ok-push c = starts_end c.args.text.now c.args.starts.now.items c.push.new.self.items c.args.at c.requires.here c.if-text-at-eq10.true c.in_ok-push.ensures.items c.requires.before
