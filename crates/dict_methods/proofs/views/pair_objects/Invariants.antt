use Rattle.std.proofs.Common.{◌≡◌, take}
use Rattle.dict_methods.specs.Views.{pair_objects}
use Rattle.dict_methods.proofs.views.pair_objects.Given as goal

abbrev pub invariant-loop-at : goal.invariant-loop-at
invariant-loop-at l = l.objects.items ≡ pair_objects (take l.at l.dict)
