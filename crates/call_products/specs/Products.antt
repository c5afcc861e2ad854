-- What a call makes: new objects, and what is made in the heap that has them.
use Rattle.std.specs.Prelude.{ℕ, zero, suc, List, [], ◌∷◌, ◌++◌, codes, if◌then◌else◌, nat_lt, Option, Some, None}
use Rattle.call_products.specs.declared.product.Product.{Product}
use Rattle.py_operands.specs.Sequences as sequences
use Rattle.py_values.specs.Ends.{cost_of, finished, id_at}
use Rattle.py_values.specs.Raises.{text_raise}
use Rattle.py_values.specs.declared.class.ExcClass.{ExcClass}
use Rattle.py_values.specs.declared.class.ExcClass.TheVariants.{TypeError}
use Rattle.py_values.specs.declared.end.Effect.{Effect}
use Rattle.py_values.specs.declared.end.Effect.TheVariants.{Fail}
use Rattle.py_values.specs.declared.end.OpEnd.{OpEnd}
use Rattle.py_values.specs.declared.end.OpEnd.TheVariants as end
use Rattle.py_values.specs.declared.object.Obj.{Obj}
use Rattle.py_values.specs.declared.value.Value.{Value}
use Rattle.py_values.specs.declared.value.Value.TheVariants.{Ref}

-- what is made without other objects
abbrev pub plain : Effect → Product
plain m = record { objects = []; made = m }

-- what fails with a text, behind so many steps
abbrev pub failed : ExcClass → List ℕ → ℕ → Product
failed class text cost = plain (Fail (text_raise class text) cost)

-- a text or a list that would be past the greatest length, behind so many steps
abbrev pub too_long : ℕ → Product
too_long cost = plain (sequences.too_long cost)

abbrev pub wrong : List ℕ → ℕ → Product
wrong name cost = failed TypeError (codes "wrong arguments for " ++ name) cost

-- what is made of the arguments of a call, where they have the form that it asks for
abbrev pub made_or_wrong : {T : Type 0} → List ℕ → (T → Product) → Option T → Product
made_or_wrong name make (Some given) = make given
made_or_wrong name make None = wrong name 0

-- so many places behind one another, from one on
abbrev pub refs_from : ℕ → ℕ → List Value
refs_from at zero = []
refs_from at (suc n) = Ref (id_at at) ∷ refs_from (suc at) n

-- a product under a budget, if anything
abbrev pub product_within : ℕ → Product → Option Product
product_within budget p = if nat_lt budget (cost_of p.made) then None else Some p

-- THE END OF A PRODUCT, and the heap behind it; nothing is made where the budget doesn't suffice
abbrev pub product_finished : List Obj → Option Product → OpEnd × List Obj
product_finished heap (Some p) = finished (heap ++ p.objects) (Some p.made)
product_finished heap None = (end.Exhausted, heap)

abbrev pub product_cost : Option Product → ℕ
product_cost (Some p) = cost_of p.made
product_cost None = 0
