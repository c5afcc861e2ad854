use Rattle.std.proofs.Common.{◌≡◌, ◌≤◌, ◌<◌, false, true, length, rules, arith}
use Rattle.py_values.specs.Names.{name_eq}
use Rattle.machine_state.proofs.LocalPlaces.{found_before, none_behind, none_fewer, none_more}
use Rattle.machine_state.proofs.locals.is_none_of.Goals as goal

pub returns-then-i-at : goal.returns-then-i-at
returns-then-i-at c =
    let few : c.args.at ≤ c.loop-i.i = omega (arith, c.if-i-at.true) in
    record { none = none_fewer c.args.name.now c.args.entries.now c.loop-i.i c.args.at few c.loop-i.invariant; there = λ no. absurd cc }

pub returns-then-eq-clause-there : goal.returns-then-eq-clause-there
returns-then-eq-clause-there c =
    let e = c.index-entries-i.result in
    let before : c.loop-i.i < c.args.at = omega (arith, c.if-i-at.false) in
    let same : name_eq c.args.name.now e.0 ≡ true = search rules in
    λ no. found_before c.args.name.now c.args.entries.now c.args.at c.loop-i.i e c.loop-i-test.true before c.index-entries-i.is same c.loop-i.invariant

pub loop-i-preserved : goal.loop-i-preserved
loop-i-preserved c =
    let e = c.index-entries-i.result in
    let differs : name_eq c.args.name.now e.0 ≡ false = search rules in
    none_more c.args.name.now c.args.entries.now c.loop-i.i e c.loop-i-test.true c.index-entries-i.is differs c.loop-i.invariant

pub returns : goal.returns
returns c =
    let past : length c.args.entries.now ≤ c.loop-i.i = omega arith in
    record { none = none_behind c.args.name.now c.args.entries.now c.loop-i.i c.args.at past c.loop-i.invariant; there = λ no. absurd cc }
