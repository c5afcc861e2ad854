use Rattle.std.proofs.Common.{◌≡◌, ◌∙◌, suc, arith, rules}
use Rattle.machine_state.specs.Places.{arguments_in}
use Rattle.machine_call.proofs.Classes.{again_goes, again_ready}
use Rattle.machine_call.proofs.call.invoke.Goals as goal

pub inits-preserved : goal.inits-preserved
inits-preserved c =
    let m = c.call_once.new.m in
    let m1 = c.spend.new.self in
    let goes = rw c.in-Again.is at c.in_ok-turn.ensures.next in
    let less : m.left ≡ suc m1.left = search rules in
    let there : m.left ≡ c.inits.m.left = goes.1.0 in
    record {
      same = c.inits.invariant.same ∙ (goes.0 ∙ again_goes c.args.origin m m1 c.in-Again.init (arguments_in c.args.args.now) less c.spend.ensures.same);
      ready = again_ready c.args.origin m m1 c.spend.ensures.same goes.1.1;
      left = omega (arith, less, there, c.inits.invariant.left);
    }
