use Rattle.std.proofs.Common.{◌≤◌, length, append-nil, refl}
use Rattle.std.proofs.lemmas.Option.{slice_get_past}
use Rattle.py_items.proofs.slice.push_at.Goals as goal

pub returns-in-None : goal.returns-in-None
returns-in-None g c =
    let past : length c.args.xs.now ≤ c.args.at = c.in-None.ensures.lookup.3 in
    rw (slice_get_past c.args.xs.now c.args.at past, append-nil) refl
