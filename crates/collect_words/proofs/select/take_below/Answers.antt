use Rattle.std.proofs.Common.{ℕ, arith}
use Rattle.collect_words.specs.Paths.{is_below}
use Rattle.collect_words.specs.Walks.{path_at}
use Rattle.collect_words.specs.Nodes.{items_of}
use Rattle.collect_words.proofs.Once.{number_step}
use Rattle.collect_words.proofs.Picks.{gathered, gathered-append}
use Rattle.collect_words.proofs.select.take_below.Goals as goal

pub loop-place-preserved : goal.loop-place-preserved
loop-place-preserved c =
    let p = λ (place : ℕ). is_below c.args.folder.now (path_at c.args.walk.now place) in
    number_step (gathered p (items_of c.args.files.now)) (gathered-append p (items_of c.args.files.now)) _ c.args.tests.now c.loop-place.place-index _ _ (omega arith) c.loop-place.invariant c.in_ok-take_file.ensures
