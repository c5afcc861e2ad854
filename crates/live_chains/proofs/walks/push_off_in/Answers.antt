use Rattle.std.proofs.Common.{ap, sym, ◌∙◌, ◌++◌, append_assoc}
use Rattle.live_chains.specs.Walked.{off_order, off_orders}
use Rattle.live_chains.proofs.Stepped.{left, left_all, goes}
use Rattle.live_chains.proofs.walks.push_off_in.Goals as goal

pub loop-at-init : goal.loop-at-init
loop-at-init c =
    let w = left_all c.args.cells.now c.args.head c.requires c.first-at.result c.first-at.ensures in
    record { walk = w.0; same = ap (λ l. c.args.out.now.items ++ off_orders c.args.chain.now l) w.1 }

pub loop-at-smaller : goal.loop-at-smaller
loop-at-smaller c = (goes c.args.cells.now c.args.head c.requires c.loop-at.at c.in-Some.cell c.in-Some.is c.loop-at.invariant.walk c.get.result.now c.next-at.result c.get.ensures c.next-at.ensures).less

pub loop-at-preserved : goal.loop-at-preserved
loop-at-preserved c =
    let s = goes c.args.cells.now c.args.head c.requires c.loop-at.at c.in-Some.cell c.in-Some.is c.loop-at.invariant.walk c.get.result.now c.next-at.result c.get.ensures c.next-at.ensures in
    record {
      walk = s.walk;
      same = ap (λ l. l ++ off_orders c.args.chain.now (left c.args.cells.now c.args.head c.next-at.result)) c.in_ok-push_off.ensures
          ∙ (append_assoc c.loop-at.out.items (off_order c.args.chain.now c.get.result.now) (off_orders c.args.chain.now (left c.args.cells.now c.args.head c.next-at.result))
          ∙ (ap (λ l. c.loop-at.out.items ++ off_orders c.args.chain.now l) (sym s.here) ∙ c.loop-at.invariant.same));
    }
