use Rattle.std.proofs.Common.{◌∙◌, ap, map, List}
use Rattle.fixture_world.specs.runtest_rules.Language.{python}
use Rattle.run_items.specs.Stands.{object_noted}
use Rattle.run_items.specs.declared.stand.ItemObject.{ItemObject as StandObject}
use Rattle.session_rules.specs.Session.{object_of}
use Rattle.run_items.proofs.opening.own_object.Goals as goal

pub returns : goal.returns
returns c = c.object_of.ensures ∙ ap (λ (l : List StandObject). object_of {L = python} c.args.item.now.node (map object_noted l)) c.items.ensures
