-- `range` (Python library reference, ranges).
use Rattle.std.specs.Prelude.{ℕ, suc, ◌-◌, ◌/◌, ℤ, pos, ◌-ℤ◌, int_lt, List, [], ◌∷◌, codes, nat_lt, if◌then◌else◌, Option, Some, None, unsigned_abs}
use Rattle.std.specs.Ordering.{int_eq}
use Rattle.call_products.specs.Products.{plain, failed}
use Rattle.call_products.specs.declared.product.Product.{Product}
use Rattle.py_values.specs.Limits.{most_elements}
use Rattle.py_values.specs.Numbers.{int_value}
use Rattle.py_values.specs.declared.class.ExcClass.TheVariants.{ValueError, MemoryError}
use Rattle.py_values.specs.declared.end.Effect.TheVariants.{New}
use Rattle.py_values.specs.declared.object.Obj.TheVariants.{Range}
use Rattle.py_values.specs.declared.value.Value.{Value}
use Rattle.sequence_calls.specs.declared.ranges.Span.{Span}

-- how many steps there are from one number up to below another
abbrev pub steps_between : ℤ → ℤ → ℕ → ℕ
steps_between low high step = if int_lt low high then suc ((unsigned_abs (high -ℤ low) - 1) / step) else 0

-- how many numbers there are from the start on by the step before the stop
abbrev pub span_length : Span → ℕ
span_length s =
    if int_lt s.step (pos 0) then steps_between s.stop s.start (unsigned_abs s.step) else steps_between s.start s.stop (unsigned_abs s.step)

abbrev pub span_made : Span → Product
span_made s =
    if int_eq s.step (pos 0) then failed ValueError (codes "range step is zero") 0
    else if nat_lt most_elements (span_length s) then failed MemoryError (codes "sequence too long") 0
    else plain (New (Range (record { start = s.start; stop = s.stop; step = s.step; length = span_length s })) 0)

abbrev pub span_by : Option ℤ → Option ℤ → Option ℤ → Option Span
span_by (Some a) (Some b) (Some c) = Some (record { start = a; stop = b; step = c })
span_by _ _ _ = None

-- `range(b)`, `range(a, b)` and `range(a, b, c)` of numbers
abbrev pub span_of : List Value → Option Span
span_of (b ∷ []) = span_by (Some (pos 0)) (int_value b) (Some (pos 1))
span_of (a ∷ b ∷ []) = span_by (int_value a) (int_value b) (Some (pos 1))
span_of (a ∷ b ∷ c ∷ []) = span_by (int_value a) (int_value b) (int_value c)
span_of _ = None

-- of a call, which takes no arguments by name
abbrev pub span_given : List Value → List (List ℕ × Value) → Option Span
span_given args [] = span_of args
span_given args (n ∷ ns) = None
