use Rattle.std.proofs.Common.{sym, subst}
use Rattle.collect_marks.proofs.Parts.{SplitsAt, splits_at}
use Rattle.collect_params.specs.Given.{is_comma}
use Rattle.collect_params.proofs.names.part_end.Goals as goal

pub returns : goal.returns
returns c = subst (SplitsAt is_comma c.args.text.now) (sym c.comma_place.ensures) (splits_at is_comma c.args.text.now)
