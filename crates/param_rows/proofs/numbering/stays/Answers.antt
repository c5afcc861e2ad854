use Rattle.std.proofs.Common.{List, ◌++◌, ◌∷◌, [], sym, subst, ◌∙◌}
use Rattle.param_rows.specs.Ids.{Id}
use Rattle.param_rows.specs.Taken.{TellsMade}
use Rattle.param_rows.proofs.Tables.{made_of_once, tells_once}
use Rattle.param_rows.proofs.numbering.stays.Goals as goal

pub returns-clause-value : goal.returns-clause-value
returns-clause-value c = made_of_once c.args.ids.now c.args.made.now c.args.id.now c.in_ok-same.same c.args.table.now c.requires.number c.requires.tells (c.in_ok-same.ensures ∙ c.chars.ensures)

pub returns-clause-table : goal.returns-clause-table
returns-clause-table c =
    subst (λ (one : Id). TellsMade c.args.ids.now (c.args.made.now ++ one ∷ []) c.args.table.now) (sym (c.in_ok-same.ensures ∙ c.chars.ensures))
    (tells_once c.args.ids.now c.args.made.now c.args.id.now c.args.table.now c.requires.given c.requires.tells)
