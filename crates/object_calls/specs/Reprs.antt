-- `repr` (Python library reference, built-in functions). It costs the length of the text.
use Rattle.std.specs.Prelude.{length, codes, if◌then◌else◌}
use Rattle.call_products.specs.Products.{plain, failed}
use Rattle.call_products.specs.declared.product.Product.{Product}
use Rattle.py_repr.specs.declared.shown.Shown.{Shown}
use Rattle.py_values.specs.declared.class.ExcClass.TheVariants.{RecursionError, MemoryError}
use Rattle.py_values.specs.declared.end.Effect.TheVariants.{New}
use Rattle.py_values.specs.declared.object.Obj.TheVariants as obj

-- a new text; one that lies too deep, or is longer than 65,536 characters, is refused
abbrev pub text_made : Shown → Product
text_made s =
    if s.deep then failed RecursionError (codes "nesting too deep") 0
    else if s.cut then failed MemoryError (codes "sequence too long") 0
    else plain (New (obj.Text s.text) (length s.text))
