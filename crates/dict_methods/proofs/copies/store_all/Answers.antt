use Rattle.std.proofs.Common.{List, ◌∙◌, ap, arith, sym}
use Rattle.std.proofs.lemmas.List.{at_drop_all}
use Rattle.py_values.specs.Pairs.{put_pair}
use Rattle.py_values.specs.declared.key.Atom.{Atom}
use Rattle.dict_methods.specs.Copies.{store_all}
use Rattle.dict_methods.proofs.Storing.{store_more}
use Rattle.dict_methods.proofs.copies.store_all.Goals as goal

pub loop-at-preserved : goal.loop-at-preserved
loop-at-preserved c =
    store_more c.args.dict.now c.loop-at.at (c.in-Some.key.now, c.in-Some.pair.now) c.loop-at.into c.put.new.self (store_all c.args.into.now c.args.dict.now)
    c.in-Some.ensures
    (c.in_ok-put.ensures ∙ ap (λ (k : List Atom). put_pair k c.in-Some.pair.now.key c.in-Some.pair.now.value c.loop-at.into) c.in_ok-copy.ensures)
    c.loop-at.invariant

pub returns : goal.returns
returns c = sym (c.loop-at.invariant ∙ at_drop_all (store_all c.loop-at.into) c.args.dict.now c.loop-at.at (omega arith))
