use Rattle.frame_stacks.proofs.Parking.{freezes, keeps_all, view_frozen}
use Rattle.frame_stacks.proofs.stacks.Stacks.freeze.Goals as goal

pub invariant_of-self-in_err-own : goal.invariant_of-self-in_err-own
invariant_of-self-in_err-own g c = rw c.in_ok-reserve.ensures.items (keeps_all c.self.inside.cells c.take_head.new.cells c.self.inside.own c.self.inside.parked.items c.self.invariant c.in_err-own.ensures.err)

pub invariant_of-self-2 : goal.invariant_of-self-2
invariant_of-self-2 g c =
    rw (c.replace-head.ensures.after, c.push.ensures.items, c.unwrap.ensures, c.in_ok-reserve.ensures.items, c.replace-head.ensures.value)
    (freezes c.self.inside.cells c.take_head.new.cells c.self.inside.own c.self.inside.parked.items c.self.invariant c.in_ok-own.own c.args.body c.in_ok-own.ensures.head.0 c.in_ok-own.ensures.head.1 c.in_ok-own.ensures.others)

pub returns-clause-frozen : goal.returns-clause-frozen
returns-clause-frozen g c =
    rw (c.replace-head.ensures.after, c.push.ensures.items, c.unwrap.ensures, c.in_ok-reserve.ensures.items, c.replace-head.ensures.value)
    (view_frozen c.self.inside.cells c.take_head.new.cells c.self.inside.own c.self.inside.parked.items c.self.invariant c.in_ok-own.own c.args.body c.in_ok-own.ensures.head.0 c.in_ok-own.ensures.head.1 c.in_ok-own.ensures.others c.args.self.now c.self.view_is)
