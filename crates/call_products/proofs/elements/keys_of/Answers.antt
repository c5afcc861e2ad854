use Rattle.std.proofs.Common.{List, ◌++◌, ◌∙◌, sym, ap, Option, slice_get}
use Rattle.std.specs.Prelude.{option_map}
use Rattle.call_products.specs.Elements.{key_in}
use Rattle.call_products.proofs.Gathering.{keys_turn}
use Rattle.py_values.specs.declared.dict.Pair.{Pair}
use Rattle.py_values.specs.declared.value.Value.{Value}
use Rattle.call_products.proofs.elements.keys_of.Goals as goal

pub loop-at-preserved : goal.loop-at-preserved
loop-at-preserved c =
    c.in_ok-push_key.ensures
    ∙ (ap (λ (o : Option Pair). c.loop-at.keys.items ++ key_in o) c.pair.ensures
    ∙ (ap (λ (l : List Value). l ++ key_in (option_map (λ e. e.1) (slice_get c.args.dict.now c.loop-at.at))) c.loop-at.invariant
    ∙ sym (keys_turn c.args.dict.now c.loop-at.at)))
