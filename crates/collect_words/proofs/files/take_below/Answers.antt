use Rattle.std.proofs.Common.{ℕ, arith}
use Rattle.std.specs.List.{filter}
use Rattle.std.proofs.lemmas.List.Elements.{filter-append}
use Rattle.collect_words.specs.Paths.{is_below}
use Rattle.collect_words.specs.Walks.{path_at}
use Rattle.collect_words.proofs.Once.{number_step}
use Rattle.collect_words.proofs.files.take_below.Goals as goal

pub loop-place-preserved : goal.loop-place-preserved
loop-place-preserved c =
    let p = λ (place : ℕ). is_below c.args.folder.now (path_at c.args.walk.now place) in
    number_step (filter p) (filter-append p) _ c.args.tests.now c.loop-place.place-index _ _ (omega arith) c.loop-place.invariant c.in_ok-take_if_below.ensures
