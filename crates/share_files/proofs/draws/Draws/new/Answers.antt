use Rattle.std.proofs.Common.{[]}
use Rattle.share_files.proofs.Kept.{start_kept}
use Rattle.share_files.proofs.draws.Draws.new.Goals as goal

pub of_words-requires : goal.of_words-requires
of_words-requires c = start_kept record { groups = c.args.groups; workers = c.args.workers } [] c.requires.1 c.ranges.groups.fits
