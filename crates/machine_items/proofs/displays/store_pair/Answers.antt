use Rattle.std.proofs.Common.{◌≡◌, ◌+◌, arith, sym, ◌∙◌}
use Rattle.py_kinds.specs.Keys.{key_of}
use Rattle.machine_items.proofs.Pairs.{key_beyond}
use Rattle.machine_items.proofs.displays.store_pair.Goals as goal

pub returns-in-None : goal.returns-in-None
returns-in-None c =
    let sum : c.args.budget ≡ c.args.before + c.in-Some.left = omega arith in
    key_beyond c.args.budget c.args.before c.in-Some.left (key_of c.args.heap.now c.args.at) sum (sym c.in-None.is ∙ c.in_ok-keyed.ensures)
