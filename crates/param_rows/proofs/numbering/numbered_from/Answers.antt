use Rattle.param_rows.proofs.Tables.{tells_more}
use Rattle.param_rows.proofs.numbering.numbered_from.Goals as goal

pub first_free-requires-clause-below : goal.first_free-requires-clause-below
first_free-requires-clause-below c = c.requires.tells.numbers c.args.id.now c.args.from c.requires.number

pub returns-clause-table : goal.returns-clause-table
returns-clause-table c =
    tells_more c.args.ids.now c.args.made.now c.args.id.now c.in_ok-one.one c.args.from c.in_ok-one.next _ _ c.in_ok-make.ensures.taken c.in_ok-make.ensures.numbers c.requires.number c.in_ok-one.ensures.next c.requires.tells
