use Rattle.std.proofs.Common.{◌∙◌, ◌+◌, List, ap, drop}
use Rattle.fixture_table.specs.Closing.{entries_for, with_unseen}
use Rattle.fixture_table.specs.declared.entry.Entry.{Entry}
use Rattle.fixture_table.proofs.Grows.{names_step}
use Rattle.fixture_table.proofs.closing.View.push_names.Goals as goal

pub loop-name-preserved : goal.loop-name-preserved
loop-name-preserved c = record {
  same = ap (λ (es : List Entry). with_unseen (entries_for c.args.self.now.nodes.now c.args.self.now.defs.now c.args.self.now.item c.args.self.now.bound.now (drop (c.loop-name.name-index + 1) c.args.names.now)) es) c.in_ok-push_name.ensures.ok
      ∙ (names_step c.args.self.now.nodes.now c.args.self.now.defs.now c.args.self.now.item c.args.self.now.bound.now c.args.names.now c.loop-name.name-index c.loop-name.entries.items c.loop-name-test.true ∙ c.loop-name.invariant.same);
  known = c.in_ok-push_name.ensures.known;
}
