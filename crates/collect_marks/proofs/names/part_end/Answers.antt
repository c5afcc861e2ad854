use Rattle.std.proofs.Common.{sym, subst}
use Rattle.collect_marks.specs.Names.{parts_path}
use Rattle.collect_marks.proofs.Parts.{SplitsAt, splits_at}
use Rattle.collect_marks.proofs.names.part_end.Goals as goal

pub returns : goal.returns
returns c = subst (SplitsAt parts_path c.args.path.now) (sym c.slash_place.ensures) (splits_at parts_path c.args.path.now)
