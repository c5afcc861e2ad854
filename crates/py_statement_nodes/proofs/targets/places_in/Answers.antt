use Rattle.std.proofs.Common.{sym, ap, ◌∙◌, Some, drop}
use Rattle.py_tree.specs.Trees.{tree, trees}
use Rattle.py_tree.specs.Statements.{places}
use Rattle.py_nodes.specs.py_expressions.Values.{places_in}
use Rattle.py_statement_nodes.proofs.Rows.{places_is, onward, place_stops, place_goes}
use Rattle.py_statement_nodes.proofs.targets.places_in.Goals as goal

pub loop-item-init : goal.loop-item-init
loop-item-init c = ap (λ x. onward (Some (places x)) c.args.items.now) c.new-all.ensures.items ∙ sym (places_is c.args.items.now)

pub returns-in-None : goal.returns-in-None
returns-in-None c = place_stops c.args.items.now c.loop-item.item-index c.item-item.result c.deref.result.now (places c.loop-item.all.items) (places_in (trees c.args.items.now)) c.loop-item-test.true c.item-item.is c.deref.ensures (rw c.in-None.is at c.in_ok-single.ensures) c.loop-item.invariant

pub loop-item-preserved : goal.loop-item-preserved
loop-item-preserved c = place_goes c.args.items.now c.loop-item.item-index c.item-item.result c.deref.result.now c.loop-item.all.items c.push.new.self.items c.in-Some.single _ c.loop-item-test.true c.item-item.is c.deref.ensures (rw c.in-Some.is at c.in_ok-single.ensures) c.in_ok-push-in-Some.ensures.items c.loop-item.invariant
