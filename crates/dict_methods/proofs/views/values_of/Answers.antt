use Rattle.std.proofs.Common.{List, Option, ◌++◌, ◌∙◌, ap, sym, slice_get}
use Rattle.std.specs.Prelude.{option_map}
use Rattle.py_values.specs.declared.dict.Pair.{Pair}
use Rattle.py_values.specs.declared.value.Value.{Value}
use Rattle.dict_methods.specs.Views.{value_in}
use Rattle.dict_methods.proofs.Storing.{values_turn}
use Rattle.dict_methods.proofs.views.values_of.Goals as goal

pub loop-at-preserved : goal.loop-at-preserved
loop-at-preserved c =
    c.in_ok-push_value.ensures
    ∙ (ap (λ (o : Option Pair). c.loop-at.items.items ++ value_in o) c.pair.ensures
    ∙ (ap (λ (l : List Value). l ++ value_in (option_map (λ e. e.1) (slice_get c.args.dict.now c.loop-at.at))) c.loop-at.invariant
    ∙ sym (values_turn c.args.dict.now c.loop-at.at)))
