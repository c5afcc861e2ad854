-- The call of a mark (pytest's reference, marks). It costs nothing.
use Rattle.std.specs.Prelude.{ℕ, Bool, true, false, not, ◌||◌, List, [], ◌∷◌, eqb, if◌then◌else◌, Option, Some, None, slice_get}
use Rattle.std.specs.List.{list_any, list_all}
use Rattle.pytest_arguments.specs.call_products.Products.{plain, wrong}
use Rattle.pytest_arguments.specs.call_products.declared.product.Product.{Product}
use Rattle.py_repr.specs.py_kinds.Classes.{are_exc_classes}
use Rattle.pytest_arguments.specs.py_operands.Texts.{text_of}
use Rattle.py_values.specs.Names.{bind_name}
use Rattle.py_values.specs.declared.end.Effect.TheVariants.{New}
use Rattle.py_values.specs.declared.object.MarkObj.{MarkObj}
use Rattle.py_values.specs.declared.object.Obj.{Obj}
use Rattle.py_values.specs.declared.object.Obj.TheVariants as obj
use Rattle.py_values.specs.declared.value.Value.{Value}
use Rattle.py_values.specs.declared.value.Value.TheVariants as val
use Rattle.pytest_arguments.specs.declared.form.Argument.{Argument}
use Rattle.pytest_arguments.specs.declared.form.Argument.TheVariants as arg
use Rattle.pytest_arguments.specs.declared.form.OwnMark.{OwnMark}
use Rattle.pytest_arguments.specs.declared.form.OwnMark.TheVariants as mark
use Rattle.pytest_arguments.specs.Forms.{named_value, own_mark_name, own_marks, mark_in, mark_fits, bad_unless, unless_bad}
use Rattle.pytest_arguments.specs.Given.{if_given, unless_none, is_boolean, is_text_value, is_row, row_at, are_texts, are_ids}

-- a test of the first argument by position, where there is one
abbrev pub if_first : (Value → Bool) → List Value → Bool
if_first f [] = true
if_first f (v ∷ vs) = f v

-- the condition where it is bad, else what is bad behind it
abbrev pub condition_bad : List Value → Option Argument → Option Argument
condition_bad args next = bad_unless (if_first is_boolean args) arg.Condition next

-- the reason where it is bad, else what is bad behind it
abbrev pub reason_bad : List Obj → List (List ℕ × Value) → Option Argument → Option Argument
reason_bad heap named next = bad_unless (if_given (is_text_value heap) (named_value arg.Reason named)) arg.Reason next

abbrev pub has_comma : List ℕ → Bool
has_comma t = list_any (λ c. eqb c 44) t

-- a text that is one name: it has no comma
abbrev pub is_one_name : Option (List ℕ) → Bool
is_one_name (Some t) = not (has_comma t)
is_one_name None = false

abbrev pub obj_is_param : Option Obj → Bool
obj_is_param (Some (obj.Param p)) = true
obj_is_param (Some (obj.Text x)) = false
obj_is_param (Some (obj.List x)) = false
obj_is_param (Some (obj.Tuple x)) = false
obj_is_param (Some (obj.Dict x)) = false
obj_is_param (Some (obj.Range x)) = false
obj_is_param (Some (obj.Function x)) = false
obj_is_param (Some (obj.Method x)) = false
obj_is_param (Some (obj.Builtin x)) = false
obj_is_param (Some (obj.Class x)) = false
obj_is_param (Some (obj.Instance x)) = false
obj_is_param (Some (obj.Exception x)) = false
obj_is_param (Some (obj.Module x)) = false
obj_is_param (Some (obj.Fixture x)) = false
obj_is_param (Some obj.MarkMaker) = false
obj_is_param (Some (obj.Mark x)) = false
obj_is_param (Some (obj.Hook x)) = false
obj_is_param (Some (obj.Request x)) = false
obj_is_param (Some (obj.Raises x)) = false
obj_is_param (Some (obj.Info x)) = false
obj_is_param (Some (obj.Item x)) = false
obj_is_param None = false

abbrev pub is_param : List Obj → Value → Bool
is_param heap (val.Ref id) = obj_is_param (slice_get heap id.at)
is_param heap val.None = false
is_param heap (val.Bool b) = false
is_param heap (val.Int z) = false

-- the rows of a parametrization: a list or tuple; for more names than one, of lists, tuples and params
abbrev pub rows_fit : List Obj → Bool → Option (List Value) → Bool
rows_fit heap one (Some vs) = one || list_all (λ v. is_row heap v || is_param heap v) vs
rows_fit heap one None = false

abbrev pub are_rows : List Obj → Value → Value → Bool
are_rows heap names rows = rows_fit heap (is_one_name (text_of heap names)) (row_at heap rows)

abbrev pub are_names : List Obj → Value → Bool
are_names heap v = is_text_value heap v || are_texts heap v

abbrev pub parametrize_bad : List Obj → List Value → List (List ℕ × Value) → Option Argument
parametrize_bad heap (names ∷ rows ∷ vs) named =
    bad_unless (are_names heap names) arg.Names
    (bad_unless (are_rows heap names rows) arg.Rows
    (bad_unless (if_given (unless_none (are_ids heap)) (named_value arg.Ids named)) arg.Ids None))
parametrize_bad heap (names ∷ []) named = None
parametrize_bad heap [] named = None

abbrev pub outcome_bad : List Obj → List (List ℕ × Value) → Option Argument
outcome_bad heap named =
    bad_unless (if_given (unless_none (are_exc_classes heap)) (named_value arg.Raises named)) arg.Raises
    (bad_unless (if_given is_boolean (named_value arg.Strict named)) arg.Strict None)

-- the first argument of a call whose form fits that is bad
unfoldable pub mark_bad : OwnMark → List Obj → List Value → List (List ℕ × Value) → Option Argument
mark_bad mark.Parametrize heap args named = parametrize_bad heap args named
mark_bad mark.Skip heap args named = reason_bad heap named None
mark_bad mark.SkipIf heap args named = condition_bad args (reason_bad heap named None)
mark_bad mark.UseFixtures heap args named = bad_unless (list_all (is_text_value heap) args) arg.Name None
mark_bad mark.XFail heap args named = condition_bad args (reason_bad heap named (outcome_bad heap named))

-- names bound one after the other
abbrev pub bound_all : List (List ℕ × Value) → List (List ℕ × Value) → List (List ℕ × Value)
bound_all [] names = names
bound_all (e ∷ es) names = bound_all es (bind_name e.0 e.1 names)

-- the mark that is called
abbrev pub mark_made : List ℕ → List Value → List (List ℕ × Value) → Product
mark_made name args named = plain (New (obj.Mark (record { name = name; args = args; named = bound_all named []; called = true })) 0)

abbrev pub mark_by : Option OwnMark → List Obj → Product → List Value → List (List ℕ × Value) → Product
mark_by None heap made args named = made
mark_by (Some m) heap made args named =
    if mark_fits m args named then unless_bad (mark_bad m heap args named) made else wrong (own_mark_name m) 0

-- WHAT THE CALL OF A MARK MAKES: the arguments of pytest's own marks are looked at; a mark of another name takes any
unfoldable pub mark_called : MarkObj → List Obj → List Value → List (List ℕ × Value) → Product
mark_called m heap args named = mark_by (mark_in m.name own_marks) heap (mark_made m.name args named) args named
