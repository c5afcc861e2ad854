use Rattle.report_pieces.proofs.Pieces.{is_pieces, pieces_append}
use Rattle.report_pieces.proofs.law.progress_is_its_pieces.Goals as goal

pub returns-clause-whole : goal.returns-clause-whole
returns-clause-whole c = is_pieces

pub returns-clause-front : goal.returns-clause-front
returns-clause-front c = pieces_append
