use Rattle.std.proofs.Common.{◌≡◌, ◌∙◌, ◌++◌, ap, sym, subst}
use Rattle.std.proofs.lemmas.List.{append-nil}
use Rattle.machine_state.specs.Kept.{AreKept, frames_kept}
use Rattle.machine_state.proofs.Kept.{kept_after}
use Rattle.machine_state.proofs.stack.ControlStack.freeze.Goals as goal

pub invariant_of-self-2 : goal.invariant_of-self-2
invariant_of-self-2 c =
    let mid = c.put_back.new.stacks in
    let own : mid.own ≡ frames_kept c.args.body.here.line c.self.inside.stacks.own =
    c.in_ok-put_back.ensures.own ∙ ap (λ s. c.in_ok-frames.frames.items ++ s.own) c.clear.ensures ∙ append-nil c.in_ok-frames.frames.items ∙ c.in_ok-frames.ensures.frames in
    let same : mid.frozen ≡ c.self.inside.stacks.frozen = c.in_ok-put_back.ensures.frozen ∙ ap (λ s. s.frozen) c.clear.ensures ∙ c.in_ok-frames.ensures.frozen in
    kept_after c.freeze.result mid c.freeze.new.self c.self.inside.stacks.own c.args.body (subst AreKept (sym same) c.self.invariant) own c.freeze.ensures.frozen c.freeze.ensures.err
