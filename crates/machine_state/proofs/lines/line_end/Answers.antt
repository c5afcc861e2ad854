use Rattle.std.proofs.Common.{◌<◌, ◌≤◌, ◌+◌, length, get_or, arith}
use Rattle.machine_state.proofs.Starts.{get_same, piece_last, piece_next}
use Rattle.machine_state.proofs.lines.line_end.Goals as goal

pub returns-then-before-starts : goal.returns-then-before-starts
returns-then-before-starts c =
    let w : c.args.before + 1 < length c.args.starts.now = omega (arith, c.if-before-starts.true) in
    piece_next c.args.text.now c.args.starts.now c.args.before (get_or c.args.starts.now (c.args.before + 1) 0) c.requires.has w (get_same c.args.starts.now (c.args.before + 1) 0 w)

pub returns-else-before-starts : goal.returns-else-before-starts
returns-else-before-starts c =
    let past : length c.args.starts.now ≤ c.args.before + 1 = omega (arith, c.if-before-starts.false) in
    piece_last c.args.text.now c.args.starts.now c.args.before c.requires.has c.requires.there past
