use Rattle.std.proofs.Common.{◌≡◌, ◌∙◌, ◌-◌, suc, arith, ap, drop, sym, slice_index_or}
use Rattle.fixture_table.specs.Closing.{with_unseen, entries_for, autouse_at, autouse_up}
use Rattle.fixture_table.proofs.Grows.{autouse_more}
use Rattle.fixture_table.proofs.closing.View.push_autouse.Goals as goal

pub loop-at-preserved : goal.loop-at-preserved
loop-at-preserved c =
    let back : suc (c.loop-at.at - 1) ≡ c.loop-at.at = omega arith in
    record {
      within = omega (arith, c.loop-at.invariant.within);
      same = c.in_ok-push_autouse_at.ensures.ok
          ∙ ap (λ r. with_unseen (entries_for c.args.self.now.nodes.now c.args.self.now.defs.now c.args.self.now.item c.args.self.now.bound.now (autouse_at c.args.self.now.defs.now (slice_index_or c.args.chain.now (c.loop-at.at - 1) 0))) r)
          (c.loop-at.invariant.same ∙ ap (λ n. with_unseen (entries_for c.args.self.now.nodes.now c.args.self.now.defs.now c.args.self.now.item c.args.self.now.bound.now (autouse_up c.args.self.now.defs.now (drop n c.args.chain.now))) c.args.entries.now.items) (sym back))
          ∙ autouse_more c.args.self.now.nodes.now c.args.self.now.defs.now c.args.self.now.item c.args.self.now.bound.now c.args.chain.now (c.loop-at.at - 1) c.args.entries.now.items (omega (arith, c.loop-at.invariant.within));
      known = c.in_ok-push_autouse_at.ensures.known;
    }
