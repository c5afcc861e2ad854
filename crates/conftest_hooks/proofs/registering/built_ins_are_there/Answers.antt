use Rattle.conftest_hooks.proofs.Own.{table_has}
use Rattle.conftest_hooks.proofs.registering.built_ins_are_there.Goals as goal

pub returns : goal.returns
returns c = table_has
