use Rattle.std.proofs.Common.{arith, ◌∙◌, slice_index_or}
use Rattle.fixture_table.proofs.Reached.{among_at, keeps_all, members_more}
use Rattle.fixture_table.proofs.reaching.mark_all.Goals as goal

pub mark_one-requires-clause-below : goal.mark_one-requires-clause-below
mark_one-requires-clause-below c =
    let h = c.requires.below (slice_index_or c.args.more.now c.loop-one.one-index 0) (among_at c.args.more.now c.loop-one.one-index c.loop-one-test.true) in
    omega (arith, c.loop-one.invariant.size)

pub loop-one-preserved : goal.loop-one-preserved
loop-one-preserved c = record {
  marks = c.in_ok-mark_one.ensures.marks;
  members = λ e. members_more c.args.reached.now.items c.loop-one.reached.items c.args.more.now c.loop-one.one-index e _ c.loop-one-test.true (c.loop-one.invariant.members e) (c.in_ok-mark_one.ensures.members e);
  keeps = keeps_all c.args.reached.now.items c.loop-one.reached.items c.mark_one.new.reached.items c.loop-one.invariant.keeps c.in_ok-mark_one.ensures.keeps;
  size = c.mark_one.ensures.size ∙ c.loop-one.invariant.size;
}
