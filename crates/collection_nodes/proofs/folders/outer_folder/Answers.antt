use Rattle.std.proofs.Common.{ap, sym, ◌∙◌}
use Rattle.collection_nodes.specs.Tree.{outer_folder}
use Rattle.collection_nodes.proofs.Steps.{folder_letter, folder_slash}
use Rattle.collection_nodes.proofs.folders.outer_folder.Goals as goal

pub returns-then-is_parting : goal.returns-then-is_parting
returns-then-is_parting c =
    sym (folder_slash c.in-Some.front.now c.in-Some.last.now (sym c.is_parting.ensures ∙ c.if-is_parting.true))
    ∙ (ap outer_folder (sym c.in-Some.ensures.cases.0) ∙ c.loop-last.invariant)

pub loop-last-preserved : goal.loop-last-preserved
loop-last-preserved c =
    sym (folder_letter c.in-Some.front.now c.in-Some.last.now (sym c.is_parting.ensures ∙ c.if-is_parting.false))
    ∙ (ap outer_folder (sym c.in-Some.ensures.cases.0) ∙ c.loop-last.invariant)
