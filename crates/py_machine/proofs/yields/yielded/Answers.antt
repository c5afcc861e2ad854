use Rattle.std.proofs.Common.{refl}
use Rattle.py_machine.proofs.yields.yielded.Goals as goal

pub returns : goal.returns
returns c = rw (c.in_ok-number.ensures.world c.args.v, c.new.ensures, c.in_ok-number.ensures.number) refl
