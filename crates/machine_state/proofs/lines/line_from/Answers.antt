use Rattle.std.proofs.Common.{◌≤◌, length, arith}
use Rattle.machine_state.proofs.Starts.{line_past}
use Rattle.machine_state.proofs.lines.line_from.Goals as goal

pub returns-then-before-starts : goal.returns-then-before-starts
returns-then-before-starts c =
    let past : length c.args.starts.now ≤ c.args.before = omega (arith, c.if-before-starts.true) in
    line_past c.args.text.now c.args.starts.now c.args.before c.requires past
