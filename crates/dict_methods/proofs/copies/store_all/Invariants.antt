use Rattle.std.proofs.Common.{◌≡◌, drop}
use Rattle.dict_methods.specs.Copies.{store_all}
use Rattle.dict_methods.proofs.copies.store_all.Given as goal

abbrev pub invariant-loop-at : goal.invariant-loop-at
invariant-loop-at l = store_all l.fn.into l.dict ≡ store_all l.into (drop l.at l.dict)
