use Rattle.std.proofs.Common.{ℕ, take, arith}
use Rattle.collect_words.specs.Files.{conftest_in}
use Rattle.collect_words.proofs.Once.{flat_number_step}
use Rattle.collect_words.proofs.above.take_ends.Goals as goal

pub loop-end-preserved : goal.loop-end-preserved
loop-end-preserved c =
    flat_number_step (λ (end : ℕ). conftest_in c.args.walk.now (take end c.args.path.now)) _ c.args.ends.now c.loop-end.end-index _ _ (omega arith) c.loop-end.invariant c.in_ok-take_end.ensures
