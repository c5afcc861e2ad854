use Rattle.std.proofs.Common.{◌∙◌, ap, map, List, Option}
use Rattle.fixture_world.specs.runtest_rules.Language.{python}
use Rattle.py_values.specs.declared.value.Value.{Value}
use Rattle.run_items.specs.Stands.{object_noted, stand_state}
use Rattle.run_items.specs.declared.stand.ItemObject.{ItemObject as StandObject}
use Rattle.runtest_reports.specs.fixture_sessions.FixtureSession.{only_object}
use Rattle.session_rules.specs.Session.{object_of}
use Rattle.session_rules.specs.Teardown.{ItemObject}
use Rattle.run_items.proofs.opening.keep_own.Goals as goal

pub returns : goal.returns
returns c =
    let s = stand_state c.args.stand.now in
    ap (λ (objects : List (ItemObject python)). record s { objects = objects })
    (c.in_ok-objects.ensures
    ∙ ap (λ (o : Option Value). only_object {L = python} c.args.node o)
    (c.object_of-object.ensures ∙ ap (λ (l : List StandObject). object_of {L = python} c.args.node (map object_noted l)) c.items.ensures))
