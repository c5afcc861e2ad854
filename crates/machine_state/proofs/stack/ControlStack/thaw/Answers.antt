use Rattle.std.proofs.Common.{subst}
use Rattle.frame_stacks.specs.Stacked.{frozen_at}
use Rattle.machine_state.specs.Kept.{IsKept}
use Rattle.machine_state.specs.Stacks.{StackView}
use Rattle.machine_state.proofs.Kept.{kept_at, kept_thawed}
use Rattle.machine_state.proofs.stack.ControlStack.thaw.Goals as goal

pub invariant_of-self : goal.invariant_of-self
invariant_of-self c = kept_thawed c.self.inside.stacks c.thaw.new.self c.args.number c.thaw.result c.self.invariant (frozen_at c.self.inside.stacks c.args.number) c.thaw.ensures

pub returns-clause-kept : goal.returns-clause-kept
returns-clause-kept c = subst (λ (s : StackView). IsKept (frozen_at s c.args.number)) c.self.view_is (kept_at c.self.inside.stacks.frozen c.args.number c.self.invariant)
