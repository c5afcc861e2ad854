use Rattle.std.proofs.Common.{◌∙◌, ℕ, ap, sym}
use Rattle.lower_law.specs.py_world.Resuming.{is_out}
use Rattle.lower_law.specs.source_meaning.Meaning.{SourceWorld}
use Rattle.machine_state.specs.Frames.{world_of}
use Rattle.py_machine.proofs.Outs.{seen_out}
use Rattle.py_machine.proofs.world.is_out.Goals as goal

pub returns : goal.returns
returns c =
    let m = c.world.inside.machine in
    let n = c.args.frozen.now in
    c.is_out.ensures ∙ (ap (λ (k : ℕ). is_out k (world_of m)) c.number.ensures ∙ (sym (seen_out (world_of m) n) ∙ ap (λ (w : SourceWorld). is_out n w) c.world.view_is))
