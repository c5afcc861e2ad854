use Rattle.std.proofs.Common.{refl, ap, ◌∙◌}
use Rattle.demand_tests.proofs.Outs.{others_noted}
use Rattle.demand_tests.proofs.benches.call.Goals as goal

-- a line and events leave the frames as they are
pub returns-clause-frames : goal.returns-clause-frames
returns-clause-frames c =
    let bench = c.args.bench.now in
    others_noted bench.script bench.world (record bench.world { lines = c.push.new.self }) bench.stack c.call_ends.new.self refl
    (ap (λ s. s.live) c.call_ends.ensures.stack ∙ ap (λ s. s.live) c.call_begins.ensures.stack) c.requires.frames
