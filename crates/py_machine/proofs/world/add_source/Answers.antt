use Rattle.std.proofs.Common.{◌∙◌, ap, chars, map, List, ℕ}
use Rattle.py_core.specs.declared.stmt.Core.{Core}
use Rattle.lower_law.specs.py_world.World.{CodedSource}
use Rattle.lower_law.specs.py_world.Runs.{source_at}
use Rattle.lower_law.specs.source_meaning.Meaning.{SourceWorld}
use Rattle.machine_state.specs.Coded.{coded_of}
use Rattle.machine_state.specs.Frames.{frozen_of, world_of}
use Rattle.py_machine.proofs.Seen.{absent_viewed, bare_sound, pushed_sound}
use Rattle.py_machine.proofs.world.add_source.Goals as goal

pub invariant_of-world : goal.invariant_of-world
invariant_of-world c =
    let m = c.world.inside.machine in
    pushed_sound c.push.new.self m.sources c.in_ok-source.source c.in_ok-path.path c.in_ok-bytes.bytes.items (coded_of c.source_code-code.result) m.modules m.heap m.codes.items m.printed.items (map frozen_of m.stack.frozen) m.traces
    c.in-Ok.ensures c.in_ok-source.ensures c.source_code-code.ensures.lowered c.world.invariant

pub invariant_of-world-in-Err : goal.invariant_of-world-in-Err
invariant_of-world-in-Err c =
    let m = c.forget_code.new.m in bare_sound m.sources m.modules m.heap m.codes.items m.printed.items (map frozen_of m.stack.frozen) m.traces c.forget_code.ensures.sources c.forget_code.ensures.codes (ap (map frozen_of) c.forget_code.ensures.frozen)

pub push-requires : goal.push-requires
push-requires c =
    let xs = (world_of c.world.inside.machine).sources in
    record {
      absent = ap (λ (x : CodedSource Core). source_at x.path xs) c.in_ok-source.ensures ∙ ap (λ (p : List ℕ). source_at p xs) c.in_ok-path.ensures
          ∙ absent_viewed (chars c.args.path.now) xs (ap (λ (w : SourceWorld). source_at (chars c.args.path.now) w.sources) c.world.view_is ∙ c.requires.absent);
    }
