use Rattle.std.proofs.Common.{refl}
use Rattle.collect_tree.proofs.Ends.{is_same, whole}
use Rattle.collect_tree.proofs.collection.collect.Goals as goal

pub returns-in-Ok-clause-told : goal.returns-in-Ok-clause-told
returns-in-Ok-clause-told c =
    let t = c.of_walk.ensures.told in
    (t.0, t.1, is_same _ _ _ t.2 (whole c.args.options.now c.args.files.now t.0 _ _ t.1 c.in-Ok.ensures refl))

pub returns-in-Err-clause-told : goal.returns-in-Err-clause-told
returns-in-Err-clause-told c = let r = c.has_reading.ensures c.args.files.now in (r.0, r.1, tt)
