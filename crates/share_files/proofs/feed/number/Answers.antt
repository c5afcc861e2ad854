use Rattle.std.proofs.Common.{drop}
use Rattle.share_files.proofs.Feeding.{none_past_rest}
use Rattle.share_files.proofs.feed.number.Goals as goal

pub draw-requires-clause-own : goal.draw-requires-clause-own
draw-requires-clause-own c = (c.args.worker, drop 1 c.args.taken.now, c.requires.numbers, none_past_rest c.args.shared.now.key.groups c.args.taken.now c.requires.below)
