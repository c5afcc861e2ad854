use Rattle.conftest_hooks.proofs.Tables.{table_ordered}
use Rattle.conftest_hooks.proofs.registering.hooks_are_ordered.Goals as goal

pub returns : goal.returns
returns c = table_ordered
