use Rattle.std.proofs.Common.{◌≡◌, ◌+◌, ◌-◌, List, length, ◌∙◌, ap, arith, sym}
use Rattle.std.proofs.lemmas.List.{at_drop_all}
use Rattle.py_values.specs.Pairs.{put_pair}
use Rattle.py_values.specs.declared.key.Atom.{Atom}
use Rattle.dict_methods.specs.Copies.{filled}
use Rattle.dict_methods.proofs.Storing.{fill_full, fill_more}
use Rattle.dict_methods.proofs.copies.filled.Goals as goal

pub returns-then-not-has_room : goal.returns-then-not-has_room
returns-then-not-has_room c =
    let s : c.in_ok-steps.steps ≡ c.loop-at.steps + (length c.in-Some.key.now - 1) = omega arith in
    fill_full c.args.dict.now c.loop-at.at (c.in-Some.key.now, c.in-Some.pair.now) c.loop-at.into c.loop-at.steps c.in_ok-steps.steps
    (filled c.args.into.now c.args.cost c.args.dict.now) c.in-Some.ensures (sym c.has_room.ensures ∙ c.if-not-has_room.true) s c.loop-at.invariant

pub loop-at-preserved : goal.loop-at-preserved
loop-at-preserved c =
    let s : c.in_ok-steps.steps ≡ c.loop-at.steps + (length c.in-Some.key.now - 1) = omega arith in
    fill_more c.args.dict.now c.loop-at.at (c.in-Some.key.now, c.in-Some.pair.now) c.loop-at.into c.put.new.self c.loop-at.steps c.in_ok-steps.steps
    (filled c.args.into.now c.args.cost c.args.dict.now) c.in-Some.ensures (sym c.has_room.ensures ∙ c.if-not-has_room.false)
    (c.in_ok-put.ensures ∙ ap (λ (k : List Atom). put_pair k c.in-Some.pair.now.key c.in-Some.pair.now.value c.loop-at.into) c.in_ok-copy.ensures)
    s c.loop-at.invariant

pub returns : goal.returns
returns c = sym (c.loop-at.invariant ∙ at_drop_all (filled c.loop-at.into c.loop-at.steps) c.args.dict.now c.loop-at.at (omega arith))
