use Rattle.std.proofs.Common.{◌∙◌, ap, map, sym, List, Option}
use Rattle.fixture_world.specs.runtest_rules.Language.{python}
use Rattle.py_values.specs.declared.value.Value.{Value}
use Rattle.run_items.specs.Stands.{object_noted, plan_rules, stand_state}
use Rattle.run_items.specs.declared.stand.ItemObject.{ItemObject as StandObject}
use Rattle.session_rules.specs.Session.{make_missing_object, object_of}
use Rattle.run_items.proofs.opening.make_object.Goals as goal

pub returns-in-Some : goal.returns-in-Some
returns-in-Some c =
    let node = c.args.item.now.node in
    let s = stand_state c.args.stand.now in
    ap (λ (o : Option Value). make_missing_object (plan_rules c.args.plan.now) node o s)
    (sym c.in-Some.is ∙ (c.object_of-object.ensures ∙ ap (λ (l : List StandObject). object_of {L = python} node (map object_noted l)) c.items.ensures))

pub returns-in_ok-new_object-in-None : goal.returns-in_ok-new_object-in-None
returns-in_ok-new_object-in-None c =
    let node = c.args.item.now.node in
    let s = stand_state c.args.stand.now in
    c.in_ok-new_object-in-None.ensures
    ∙ ap (λ (o : Option Value). make_missing_object (plan_rules c.args.plan.now) node o s)
    (sym c.in-None.is ∙ (c.object_of-object.ensures ∙ ap (λ (l : List StandObject). object_of {L = python} node (map object_noted l)) c.items.ensures))
