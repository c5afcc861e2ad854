use Rattle.std.proofs.Common.{ℕ, List, [], ap, ◌∙◌, arith}
use Rattle.collect_words.specs.Walks.{path_at}
use Rattle.collect_words.specs.Files.{each_once, conftests_above}
use Rattle.collect_words.proofs.Once.{flat_number_step}
use Rattle.collect_words.proofs.above.conftests.Goals as goal

pub loop-place-preserved : goal.loop-place-preserved
loop-place-preserved c =
    flat_number_step (λ (place : ℕ). conftests_above c.args.walk.now (path_at c.args.walk.now place)) [] c.args.files.now c.loop-place.place-index _ _ (omega arith) c.loop-place.invariant
    (c.in_ok-take_above.ensures ∙ ap (λ (path : List ℕ). each_once c.loop-place.taken (conftests_above c.args.walk.now path)) c.path_at.ensures)
