use Rattle.std.proofs.Common.{◌++◌, []}
use Rattle.fixture_table.specs.Tree.{iter_parents}
use Rattle.fixture_table.specs.Closing.{with_unseen, entries_for, autouse_up}
use Rattle.fixture_table.proofs.Grows.{names_then}
use Rattle.fixture_table.proofs.closing.View.entries.Goals as goal

pub returns-clause-ok : goal.returns-clause-ok
returns-clause-ok c =
    let up = autouse_up c.args.self.now.defs.now (iter_parents c.args.self.now.nodes.now c.args.self.now.item) in
    rw (names_then c.args.self.now.nodes.now c.args.self.now.defs.now c.args.self.now.item c.args.self.now.bound.now up (c.args.uses.now ++ c.args.args.now) [], names_then c.args.self.now.nodes.now c.args.self.now.defs.now c.args.self.now.item c.args.self.now.bound.now c.args.uses.now c.args.args.now (with_unseen (entries_for c.args.self.now.nodes.now c.args.self.now.defs.now c.args.self.now.item c.args.self.now.bound.now up) []))
    (rw (c.in_ok-push_names-2.ensures.ok, c.in_ok-push_names.ensures.ok, c.in_ok-push_autouse.ensures.ok, c.deref.ensures.value, c.in_ok-chain.ensures.chain, c.new-entries.ensures.items) at c.in_ok-grow.ensures.ok)
