use Rattle.std.proofs.Common.{◌≡◌, length, map}
use Rattle.fixture_world.specs.runtest_rules.Language.{python}
use Rattle.run_items.specs.Stands.{object_noted}
use Rattle.session_rules.specs.Session.{object_of}
use Rattle.run_items.proofs.opening.object_of.Given as goal

abbrev pub invariant-objects : goal.invariant-objects
invariant-objects l = object_of {L = python} l.node (map object_noted l.rest) ≡ object_of {L = python} l.node (map object_noted l.objects)

abbrev pub decreases-objects : goal.decreases-objects
decreases-objects l = length l.rest
