use Rattle.std.proofs.Common.{◌≡◌, ◌∙◌, ap, sym, arith, false, true}
use Rattle.fixture_table.specs.declared.types.CollectionNode.{CollectionNode}
use Rattle.fixture_table.specs.Tree.{node_at, parent_of}
use Rattle.fixture_instances.specs.Items.{is_file}
use Rattle.fixture_instances.proofs.Climbs.{climb, stops, tops}
use Rattle.fixture_instances.proofs.items.file_of.Goals as goal

pub up-preserved : goal.up-preserved
up-preserved c =
    let e : c.node-in-up.result.now.parent ≡ parent_of c.args.table.now.nodes c.up.at = ap (λ (n : CollectionNode). n.parent) c.node-in-up.ensures in
    let up = c.requires.tree.behind c.up.at (omega arith) c.up.invariant.within in
    let kind : is_file (node_at c.args.table.now.nodes c.up.at).kind ≡ false = ap (λ (n : CollectionNode). is_file n.kind) (sym c.node.ensures) ∙ (sym c.is_file.ensures ∙ c.up-test.true) in
    record {
      within = omega (arith, c.up.invariant.within, e, up);
      same = rw e (climb is_file c.args.table.now.nodes c.args.item c.up.at c.requires.tree c.if-at-eq0.false c.up.invariant.within kind ∙ c.up.invariant.same);
    }

pub returns-then-at-eq0 : goal.returns-then-at-eq0
returns-then-at-eq0 c =
    let kind : is_file (node_at c.args.table.now.nodes c.up.at).kind ≡ false = ap (λ (n : CollectionNode). is_file n.kind) (sym c.node.ensures) ∙ (sym c.is_file.ensures ∙ c.up-test.true) in
    sym (tops is_file c.args.table.now.nodes c.args.item c.up.at c.if-at-eq0.true kind) ∙ c.up.invariant.same

pub returns : goal.returns
returns c =
    let kind : is_file (node_at c.args.table.now.nodes c.up.at).kind ≡ true = ap (λ (n : CollectionNode). is_file n.kind) (sym c.node.ensures) ∙ (sym c.is_file.ensures ∙ c.up-test.false) in
    sym (stops is_file c.args.table.now.nodes c.args.item c.up.at kind) ∙ c.up.invariant.same
