-- `all` and `any` (Python library reference, built-in functions). They cost one for each element that they visit.
use Rattle.std.specs.Prelude.{ℕ, suc, ◌+◌, Bool, true, false, not, List, [], ◌∷◌, length, if◌then◌else◌, Option, Some, None}
use Rattle.call_products.specs.Elements.{elements_of}
use Rattle.call_products.specs.Products.{plain, wrong}
use Rattle.call_products.specs.declared.elements.ElementsResult.{ElementsResult}
use Rattle.call_products.specs.declared.elements.ElementsResult.TheVariants as gathered
use Rattle.call_products.specs.declared.product.Product.{Product}
use Rattle.call_products.specs.py_kinds.Truth.{truth}
use Rattle.py_values.specs.declared.end.Effect.TheVariants.{Give, Fail}
use Rattle.py_values.specs.declared.object.Obj.{Obj}
use Rattle.py_values.specs.declared.value.Value.{Value}
use Rattle.py_values.specs.declared.value.Value.TheVariants.{Bool as TruthValue}

abbrev pub same_truth : Bool → Bool → Bool
same_truth true b = b
same_truth false b = not b

-- how many elements there are up to the first whose truth is another than wanted, and with it, counted on from a number; a character of a
-- text, which isn't in the heap yet, is true
abbrev pub until_other : List Obj → Bool → ℕ → List Value → Option ℕ
until_other heap wanted i [] = None
until_other heap wanted i (v ∷ vs) = if same_truth wanted (truth heap v) then until_other heap wanted (suc i) vs else Some (i + 1)

abbrev pub decided : Bool → ℕ → Option ℕ → Product
decided wanted n (Some i) = plain (Give (TruthValue (not wanted)) i)
decided wanted n None = plain (Give (TruthValue wanted) n)

abbrev pub decided_by : List Obj → Bool → ElementsResult → Product
decided_by heap wanted (gathered.Elements e) = decided wanted (length e.values) (until_other heap wanted 0 e.values)
decided_by heap wanted (gathered.Refused r) = plain (Fail r 0)

abbrev pub decided_of : List Obj → Bool → List ℕ → Option Value → Product
decided_of heap wanted name (Some v) = decided_by heap wanted (elements_of heap (length heap) v)
decided_of heap wanted name None = wrong name 0
