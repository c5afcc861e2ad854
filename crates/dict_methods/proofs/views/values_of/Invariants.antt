use Rattle.std.proofs.Common.{◌≡◌, take}
use Rattle.dict_methods.specs.Views.{values_of}
use Rattle.dict_methods.proofs.views.values_of.Given as goal

abbrev pub invariant-loop-at : goal.invariant-loop-at
invariant-loop-at l = l.items.items ≡ values_of (take l.at l.dict)
