use Rattle.std.proofs.Common.{ap, sym, ◌∙◌, ◌++◌, append_assoc}
use Rattle.live_chains.specs.Walked.{resting_id, resting_ids}
use Rattle.live_chains.proofs.Stepped.{left, left_all, in_use, goes}
use Rattle.live_chains.proofs.walks.resting_in.Goals as goal

pub loop-at-init : goal.loop-at-init
loop-at-init c =
    let w = left_all c.args.cells.now c.args.head c.requires c.first-at.result c.first-at.ensures in
    record { walk = w.0; same = rw c.new-ids.ensures.items (ap (resting_ids c.args.roots.now) w.1) }

pub get-requires : goal.get-requires
get-requires c = in_use c.args.cells.now c.args.head c.loop-at.at c.in-Some.cell c.in-Some.is c.loop-at.invariant.walk

pub next-at-requires : goal.next-at-requires
next-at-requires c = in_use c.args.cells.now c.args.head c.loop-at.at c.in-Some.cell c.in-Some.is c.loop-at.invariant.walk

pub loop-at-smaller : goal.loop-at-smaller
loop-at-smaller c = (goes c.args.cells.now c.args.head c.requires c.loop-at.at c.in-Some.cell c.in-Some.is c.loop-at.invariant.walk c.get.result.now c.next-at.result c.get.ensures c.next-at.ensures).less

pub loop-at-preserved : goal.loop-at-preserved
loop-at-preserved c =
    let s = goes c.args.cells.now c.args.head c.requires c.loop-at.at c.in-Some.cell c.in-Some.is c.loop-at.invariant.walk c.get.result.now c.next-at.result c.get.ensures c.next-at.ensures in
    record {
      walk = s.walk;
      same = ap (λ l. l ++ resting_ids c.args.roots.now (left c.args.cells.now c.args.head c.next-at.result)) c.in_ok-push_resting.ensures
          ∙ (append_assoc c.loop-at.ids.items (resting_id c.args.roots.now (c.in-Some.cell, c.get.result.now)) (resting_ids c.args.roots.now (left c.args.cells.now c.args.head c.next-at.result))
          ∙ (ap (λ l. c.loop-at.ids.items ++ resting_ids c.args.roots.now l) (sym s.here) ∙ c.loop-at.invariant.same));
    }
