use Rattle.std.proofs.Common.{◌≡◌, ◌∙◌, ◌<◌, ◌+◌, ℕ, List, ap, arith, drop, get_or, length, subst, sym}
use Rattle.fixture_table.specs.Closing.{entries_for, with_unseen}
use Rattle.fixture_table.specs.Index.{autouse_names}
use Rattle.fixture_table.specs.Marks.{row_of}
use Rattle.fixture_table.specs.declared.entry.Entry.{Entry}
use Rattle.std.proofs.lemmas.List.{get_or_default}
use Rattle.fixture_table.proofs.Grows.{autouse_step, row_read}
use Rattle.fixture_table.proofs.Index.{autouse_row, row_is}
use Rattle.fixture_table.proofs.closing.View.push_autouse_at.Goals as goal

pub loop-place-init : goal.loop-place-init
loop-place-init c =
    let row : c.items-place-items.result.now ≡ row_of c.args.self.now.at_nodes.now c.args.node = c.items-place-items.ensures ∙ row_read c.args.self.now.at_nodes.now c.args.node (get_or c.args.self.now.at_nodes.now c.args.node c.index-self-node.result) (omega (arith, c.args.self.now.index.many, c.requires.node)) (get_or_default c.args.self.now.at_nodes.now c.args.node c.index-self-node.result (get_or c.args.self.now.at_nodes.now c.args.node c.index-self-node.result) (omega (arith, c.args.self.now.index.many, c.requires.node))) in
    record {
      items = row;
      same = ap (λ (l : List ℕ). with_unseen (entries_for c.args.self.now.nodes.now c.args.self.now.defs.now c.args.self.now.item c.args.self.now.bound.now l) c.args.entries.now.items)
          (ap (autouse_names c.args.self.now.defs.now) row ∙ autouse_row c.args.self.now.nodes.now c.args.self.now.defs.now c.args.self.now.at_nodes.now c.args.self.now.index c.args.node);
      known = c.requires.known;
    }

pub push_if_autouse-requires-clause-place : goal.push_if_autouse-requires-clause-place
push_if_autouse-requires-clause-place c =
    let row = c.loop-place.invariant.items in
    subst (λ (l : List ℕ). get_or l c.loop-place.place-index 0 < length c.args.self.now.defs.now) (sym row)
    (row_is c.args.self.now.nodes.now c.args.self.now.defs.now c.args.self.now.at_nodes.now c.args.self.now.index c.args.node c.loop-place.place-index (subst (λ (l : List ℕ). c.loop-place.place-index < length l) row c.loop-place-test.true)).0

pub loop-place-preserved : goal.loop-place-preserved
loop-place-preserved c = record {
  items = c.loop-place.invariant.items;
  same = ap (λ (es : List Entry). with_unseen (entries_for c.args.self.now.nodes.now c.args.self.now.defs.now c.args.self.now.item c.args.self.now.bound.now (autouse_names c.args.self.now.defs.now (drop (c.loop-place.place-index + 1) c.items-place-items.result.now))) es) (c.in_ok-push_if_autouse.ensures.ok)
      ∙ (autouse_step c.args.self.now.nodes.now c.args.self.now.defs.now c.args.self.now.item c.args.self.now.bound.now c.items-place-items.result.now c.loop-place.place-index c.loop-place.entries.items c.loop-place-test.true ∙ c.loop-place.invariant.same);
  known = c.in_ok-push_if_autouse.ensures.known;
}
