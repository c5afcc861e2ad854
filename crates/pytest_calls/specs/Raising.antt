-- `raises(E, match=)`, `skip(reason)` and `fail(reason)` (pytest's reference, functions). They cost nothing.
use Rattle.std.specs.Prelude.{ℕ, Bool, List, [], ◌∷◌, length, codes, if◌then◌else◌, Option, Some, None}
use Rattle.pytest_arguments.specs.call_products.Products.{plain, failed, wrong}
use Rattle.pytest_arguments.specs.call_products.declared.product.Product.{Product}
use Rattle.match_pattern.specs.Reading.{pattern_of}
use Rattle.match_pattern.specs.declared.pattern.Pattern.{Pattern}
use Rattle.py_repr.specs.py_kinds.Classes.{are_exc_classes}
use Rattle.pytest_arguments.specs.py_operands.Texts.{text_of}
use Rattle.py_values.specs.Ends.{id_at}
use Rattle.py_values.specs.declared.class.ExcClass.{ExcClass}
use Rattle.py_values.specs.declared.class.ExcClass.TheVariants.{TypeError, ValueError}
use Rattle.py_values.specs.declared.end.Effect.TheVariants.{New, Fail}
use Rattle.py_values.specs.declared.end.Raise.{Raise}
use Rattle.py_values.specs.declared.object.Obj.{Obj}
use Rattle.py_values.specs.declared.object.Obj.TheVariants as obj
use Rattle.py_values.specs.declared.value.Value.{Value}
use Rattle.py_values.specs.declared.value.Value.TheVariants as val
use Rattle.pytest_arguments.specs.declared.form.Argument.TheVariants as arg
use Rattle.pytest_arguments.specs.Forms.{named_value, bad}
use Rattle.pytest_arguments.specs.Given.{is_text_value}

abbrev pub raises_made : Value → Option (List ℕ) → Product
raises_made classes pattern = plain (New (obj.Raises (record { classes = classes; pattern = pattern })) 0)

-- with a text that is read as a pattern, or isn't one
abbrev pub with_pattern : Value → List ℕ → Option Pattern → Product
with_pattern classes text (Some p) = raises_made classes (Some text)
with_pattern classes text None = failed ValueError (codes "unsupported pattern") 0

abbrev pub with_match : Value → Option (List ℕ) → Product
with_match classes (Some text) = with_pattern classes text (pattern_of text)
with_match classes None = bad arg.Match

abbrev pub match_given : List Obj → Value → Option Value → Product
match_given heap classes None = raises_made classes None
match_given heap classes (Some val.None) = raises_made classes None
match_given heap classes (Some (val.Bool b)) = bad arg.Match
match_given heap classes (Some (val.Int z)) = bad arg.Match
match_given heap classes (Some (val.Ref id)) = with_match classes (text_of heap (val.Ref id))

abbrev pub raises_of : List Obj → Value → Option Value → Product
raises_of heap classes pattern =
    if are_exc_classes heap classes then match_given heap classes pattern
    else failed TypeError (codes "exceptions must derive from BaseException") 0

-- THE CALL of `raises`: of a class of exceptions or a tuple of them
abbrev pub raises_called : List Obj → List Value → List (List ℕ × Value) → Product
raises_called heap (classes ∷ vs) named = raises_of heap classes (named_value arg.Match named)
raises_called heap [] named = wrong (codes "raises") 0

-- a raise with an argument
abbrev pub raise_with : ExcClass → Value → Raise
raise_with class v = record { class = class; text = []; arg = Some v }

-- without a reason the exception's argument is a new empty text
abbrev pub unreasoned : ExcClass → List Obj → Product
unreasoned class heap = record { objects = obj.Text [] ∷ []; made = Fail (raise_with class (val.Ref (id_at (length heap)))) 0 }

-- THE CALL of `skip` and `fail`: the reason is the exception's argument
abbrev pub outcome_called : ExcClass → List Obj → List Value → Product
outcome_called class heap [] = unreasoned class heap
outcome_called class heap (v ∷ vs) = if is_text_value heap v then plain (Fail (raise_with class v) 0) else bad arg.Reason
