use Rattle.std.proofs.Common.{◌≡◌, length, true, rules, arith}
use Rattle.py_values.specs.Names.{name_eq}
use Rattle.machine_state.proofs.LocalPlaces.{place_here, place_nowhere}
use Rattle.machine_state.proofs.locals.place_of.Goals as goal

pub returns-then-eq : goal.returns-then-eq
returns-then-eq c =
    let t : name_eq c.args.name.now c.index-entries-i.result.0 ≡ true = search rules in
    place_here c.args.name.now c.args.entries.now c.loop-i.i c.index-entries-i.result c.loop-i-test.true c.index-entries-i.is t c.loop-i.invariant

pub returns : goal.returns
returns c =
    let e : c.loop-i.i ≡ length c.args.entries.now = omega arith in
    place_nowhere c.args.name.now c.args.entries.now c.loop-i.i e c.loop-i.invariant
