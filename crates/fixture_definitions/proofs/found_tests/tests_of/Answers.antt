use Rattle.std.proofs.Common.{◌∙◌}
use Rattle.fixture_definitions.proofs.NoTests.{no_tests}
use Rattle.fixture_definitions.proofs.found_tests.tests_of.Goals as goal

pub returns-in_default : goal.returns-in_default
returns-in_default c = c.new.ensures.items ∙ no_tests c.args.heap.now c.args.placed c.in_default.ensures
