use Rattle.std.proofs.Common.{◌<◌, ◌∙◌, ◌*◌, ◌+◌, ◌/◌, ℕ, List, [], ap, sym, length, drop, get_or, arith, length-drop}
use Rattle.py_values.specs.Ends.{payable}
use Rattle.py_kinds.specs.Keys.{key_of, key_steps}
use Rattle.py_values.specs.declared.dict.Pair.{Pair}
use Rattle.py_values.specs.declared.key.Atom.{Atom}
use Rattle.py_values.specs.declared.value.Value.TheVariants as val
use Rattle.py_world.specs.Displays as world
use Rattle.machine_items.specs.Storing.{pair_told}
use Rattle.machine_items.specs.declared.displays.PairResult.TheVariants.{Steps}
use Rattle.machine_items.proofs.Pairs.{halves, next_pair, beyond, last_pair}
use Rattle.machine_items.proofs.displays.dict_displayed.Goals as goal

pub loop-i-init : goal.loop-i-init
loop-i-init c =
    let heap = c.args.heap.now in
    let vs = c.args.values.now in
    ap (λ (n : ℕ). world.pairs_stored heap [] n vs) (halves vs)
    ∙ ap (λ (es : List (List Atom × Pair)). world.pairs_stored heap es (length vs / 2) vs) (sym c.new-dict.ensures)

pub loop-i-preserved : goal.loop-i-preserved
loop-i-preserved c =
    let heap = c.args.heap.now in
    let vs = c.args.values.now in
    let i = c.loop-i.i in
    let x = get_or vs (2 * i) val.None in
    let y = get_or vs (2 * i + 1) val.None in
    let room : 2 * i + 1 < length vs = omega (arith, c.loop-i-test.true) in
    let told : pair_told c.args.budget (Steps c.in-Steps.n) heap c.loop-i.dict c.store_pair.new.dict c.loop-i.steps x y (key_of heap x) = rw c.in-Steps.is at c.in_ok-n.ensures in
    c.loop-i.invariant
    ∙ ap (world.pairs_stored heap c.loop-i.dict c.loop-i.steps) (next_pair vs i room)
    ∙ told (λ fs m. world.pairs_stored heap fs m (drop (2 * (i + 1)) vs))

pub returns-in-Beyond : goal.returns-in-Beyond
returns-in-Beyond c =
    let heap = c.args.heap.now in
    let vs = c.args.values.now in
    let i = c.loop-i.i in
    let x = get_or vs (2 * i) val.None in
    let y = get_or vs (2 * i + 1) val.None in
    let room : 2 * i + 1 < length vs = omega (arith, c.loop-i-test.true) in
    let far : c.args.budget < c.loop-i.steps + key_steps (key_of heap x) = rw c.in-Beyond.is at c.in_ok-n.ensures in
    sym
    (ap (payable c.args.budget) (c.loop-i.invariant ∙ ap (world.pairs_stored heap c.loop-i.dict c.loop-i.steps) (next_pair vs i room))
    ∙ beyond c.args.budget heap c.loop-i.dict c.loop-i.steps x y (drop (2 * (i + 1)) vs) far)

pub returns : goal.returns
returns c =
    let heap = c.args.heap.now in
    let vs = c.args.values.now in
    let i = c.loop-i.i in
    let short : length (drop (2 * i) vs) < 2 = omega (arith, length-drop (2 * i) vs, c.loop-i-test.false) in
    c.made_within-2.ensures ∙ ap (payable c.args.budget) (sym (c.loop-i.invariant ∙ last_pair heap c.loop-i.dict c.loop-i.steps (drop (2 * i) vs) short))
