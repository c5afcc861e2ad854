use Rattle.std.proofs.Common.{◌∙◌, ap, map}
use Rattle.lower_law.specs.View.{source_view}
use Rattle.machine_state.specs.Frames.{frozen_of, world_of}
use Rattle.machine_state.specs.declared.machine.Machine.{Machine}
use Rattle.py_machine.specs.Worlds.{spent_world}
use Rattle.py_machine.proofs.Seen.{bare_sound}
use Rattle.py_machine.proofs.world.give_up.Goals as goal

pub invariant_of-world : goal.invariant_of-world
invariant_of-world c =
    let m = c.forget_code.new.m in bare_sound m.sources m.modules m.heap m.codes.items m.printed.items (map frozen_of m.stack.frozen) m.traces c.forget_code.ensures.sources c.forget_code.ensures.codes (ap (map frozen_of) c.forget_code.ensures.frozen)

pub returns : goal.returns
returns c =
    ap (λ (m : Machine). source_view (world_of m)) c.forget_code.ensures.same
    ∙ (rw (c.forget_code.ensures.sources, c.forget_code.ensures.codes, c.forget_code.ensures.frozen) (ap spent_world c.world.view_is))
