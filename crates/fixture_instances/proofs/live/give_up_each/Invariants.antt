use Rattle.std.proofs.Common.{◌≡◌, take, drop, map}
use Rattle.fixture_instances.specs.Resting.{all_kept_given_up, spent_kept}
use Rattle.fixture_instances.proofs.live.give_up_each.Given as goal

abbrev pub invariant-loop-one : goal.invariant-loop-one
invariant-loop-one g l = record {
  same : map spent_kept l.kept ≡ map spent_kept l.fn.kept;
  front : map spent_kept (take l.one-index l.kept) ≡ take l.one-index l.kept;
  world : all_kept_given_up g.W.Executor.given_up (drop l.one-index l.kept) l.world ≡ all_kept_given_up g.W.Executor.given_up l.fn.kept l.fn.world;
}
