use Rattle.std.proofs.Common.{List, Option, ◌++◌, ◌∙◌, ap, sym, slice_get}
use Rattle.std.specs.Prelude.{option_map}
use Rattle.py_values.specs.declared.dict.Pair.{Pair}
use Rattle.py_values.specs.declared.object.Obj.{Obj}
use Rattle.dict_methods.specs.Views.{object_in}
use Rattle.dict_methods.proofs.Storing.{objects_turn}
use Rattle.dict_methods.proofs.views.pair_objects.Goals as goal

pub loop-at-preserved : goal.loop-at-preserved
loop-at-preserved c =
    c.in_ok-push_pair.ensures
    ∙ (ap (λ (o : Option Pair). c.loop-at.objects.items ++ object_in o) c.pair.ensures
    ∙ (ap (λ (l : List Obj). l ++ object_in (option_map (λ e. e.1) (slice_get c.args.dict.now c.loop-at.at))) c.loop-at.invariant
    ∙ sym (objects_turn c.args.dict.now c.loop-at.at)))
