use Rattle.std.proofs.Common.{rules, ◌≡◌, subst}
use Rattle.assert_rewrite.specs.Lowers.{Watches}
use Rattle.assert_rewrite.proofs.SimpleForms.{explained_is}
use Rattle.assert_rewrite.proofs.asserts.explained_assert.Goals as goal

pub returns : goal.returns
returns c =
    let same : c.in_ok-shown.shown.value ≡ c.args.condition.now.value = search rules in
    explained_is c.args.at c.args.condition.now c.args.message.now c.watch_expr.new.next c.in_ok-core.core c.in_ok-shown.shown c.in_ok-message.message c.in_ok-branches.branches c.in_ok-other.other same
    (subst (λ e. Watches 0 e c.in_ok-core.core.value c.watch_expr.new.next) c.deref.ensures c.in_ok-core.ensures) c.in_ok-message.ensures c.in_ok-branches.ensures c.in_ok-other.ensures
