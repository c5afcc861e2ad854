use Rattle.std.proofs.Common.{◌≡◌, ◌+◌, ◌-◌, arith, drop, length}
use Rattle.std.proofs.lemmas.List.{at_drop_all}
use Rattle.dict_methods.specs.Copies.{keys_steps}
use Rattle.dict_methods.proofs.Storing.{keys_go}
use Rattle.dict_methods.proofs.copies.keys_steps.Goals as goal

pub loop-at-preserved : goal.loop-at-preserved
loop-at-preserved c =
    let k : keys_steps c.args.dict.now ≡ (c.loop-at.steps + (length c.in-Some.key.now - 1)) + keys_steps (drop (c.loop-at.at + 1) c.args.dict.now) =
    keys_go c.args.dict.now c.loop-at.at _ c.loop-at.steps (keys_steps c.args.dict.now) c.in-Some.ensures c.loop-at.invariant in
    omega arith

pub returns : goal.returns
returns c = omega (arith, at_drop_all keys_steps c.args.dict.now c.loop-at.at (omega arith))
