use Rattle.std.proofs.Common.{◌∙◌, ◌+◌, List, ap, drop}
use Rattle.fixture_table.specs.Closing.{asked_all, with_unseen}
use Rattle.fixture_table.specs.declared.entry.Entry.{Entry}
use Rattle.fixture_table.proofs.Grows.{asked_step}
use Rattle.fixture_table.proofs.closing.View.push_asked.Goals as goal

pub loop-name-preserved : goal.loop-name-preserved
loop-name-preserved c = record {
  items = c.loop-name.invariant.items;
  same = ap (λ (es : List Entry). with_unseen (asked_all c.args.self.now.nodes.now c.args.self.now.defs.now c.args.self.now.item c.args.self.now.bound.now c.args.place (drop (c.loop-name.name-index + 1) c.items-name-items.result.now)) es) c.in_ok-push_asked_one.ensures.ok
      ∙ (asked_step c.args.self.now.nodes.now c.args.self.now.defs.now c.args.self.now.item c.args.self.now.bound.now c.args.place c.items-name-items.result.now c.loop-name.name-index c.loop-name.entries.items c.loop-name-test.true ∙ c.loop-name.invariant.same);
  known = c.in_ok-push_asked_one.ensures.known;
}
