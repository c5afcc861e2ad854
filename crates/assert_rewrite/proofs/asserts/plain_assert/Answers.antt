use Rattle.std.proofs.Common.{subst}
use Rattle.assert_rewrite.specs.Lowers.{Lowers}
use Rattle.assert_rewrite.proofs.SimpleForms.{assert_is}
use Rattle.assert_rewrite.proofs.asserts.plain_assert.Goals as goal

pub returns : goal.returns
returns c = assert_is c.args.at c.args.condition.now c.args.message.now c.in_ok-core.core c.in_ok-message.message c.in_ok-branches.branches c.in_ok-other.other
    (subst (λ e. Lowers e c.in_ok-core.core.value) c.deref.ensures c.in_ok-core.ensures) c.in_ok-message.ensures c.in_ok-branches.ensures c.in_ok-other.ensures
