use Rattle.std.proofs.Common.{◌∙◌, ◌<◌, IfOk, List, ap, length, subst, ℕ}
use Rattle.fixture_table.specs.declared.types.FixtureDef.{FixtureDef}
use Rattle.session_types.specs.Members.{IsMember}
use Rattle.fixture_table.proofs.table.Table.closure.Goals as goal

pub returns-clause-within : goal.returns-clause-within
returns-clause-within c = subst (λ (defs : List FixtureDef). IfOk c.closure.result (λ ids. (d : ℕ) → IsMember d ids.items → d < length defs)) (c.deref-2.ensures.value ∙ ap (λ t. t.defs) c.self.view_is) c.closure.ensures.within
