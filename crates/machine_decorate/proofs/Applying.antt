-- Decorators from the last one on.
use Rattle.std.proofs.Common.{◌≡◌, ◌∙◌, ◌+◌, ◌<◌, ℕ, List, [], ◌∷◌, length, take, get_or, Option, Some, None, sym, ap}
use Rattle.std.specs.Prelude.{reverse}
use Rattle.std.proofs.lemmas.List.{take_more, reverse-append}
use Rattle.py_values.specs.declared.object.Obj.{Obj}
use Rattle.py_values.specs.declared.value.Value.{Value}
use Rattle.py_world.specs.Definitions.{decoration}
use Rattle.machine_decorate.specs.Decorations.{all_told, decorated_told, told_on}

reverse_more : (xs : List Value) (i : ℕ) (x : Value) → i < length xs → x ≡ get_or xs i x → reverse (take (i + 1) xs) ≡ x ∷ reverse (take i xs)
reverse_more xs i x within is =
    ap (λ (ys : List Value). reverse ys) (take_more xs i x within) ∙ (reverse-append (take i xs) (get_or xs i x ∷ []) ∙ ap (λ (y : Value). y ∷ reverse (take i xs)) (sym is))

module _ (ds : List Value) (i : ℕ) (d v : Value) (heap heap' : List Obj) (r : Option Value) (within : i < length ds) (is : d ≡ get_or ds i d) (told : (r, heap') ≡ decorated_told (decoration heap d v) d v heap) where
  told_more : all_told (reverse (take (i + 1) ds)) v heap ≡ told_on (r, heap') (λ w heap. all_told (reverse (take i ds)) w heap)
  told_more =
      ap (λ (xs : List Value). all_told xs v heap) (reverse_more ds i d within is)
      ∙ ap (λ (t : Option Value × List Obj). told_on t (λ w heap. all_told (reverse (take i ds)) w heap)) (sym told)

  -- one gives a value
  pub one_gives : (w : Value) → r ≡ Some w → all_told (reverse (take i ds)) w heap' ≡ all_told (reverse (take (i + 1) ds)) v heap
  one_gives w gives = ap (λ (o : Option Value). told_on (o, heap') (λ w heap. all_told (reverse (take i ds)) w heap)) (sym gives) ∙ sym told_more

  -- one refuses
  pub one_refuses : r ≡ None → (r, heap') ≡ all_told (reverse (take (i + 1) ds)) v heap
  one_refuses refuses = ap (λ (o : Option Value). (o, heap')) refuses ∙ ap (λ (o : Option Value). told_on (o, heap') (λ w heap. all_told (reverse (take i ds)) w heap)) (sym refuses) ∙ sym told_more
