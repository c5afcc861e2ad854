-- The forms of the calls of pytest's names (pytest's reference, functions and marks; the choice of forms is own), and the errors of what
-- doesn't fit.
use Rattle.std.specs.Prelude.{ℕ, Bool, true, ◌&&◌, List, [], ◌∷◌, ◌++◌, length, codes, eqb, nat_lt, if◌then◌else◌, Option, Some, None}
use Rattle.std.specs.List.{list_any, list_all}
use Rattle.call_products.specs.Products.{failed}
use Rattle.call_products.specs.declared.product.Product.{Product}
use Rattle.py_values.specs.Names.{name_eq, find_name}
use Rattle.py_values.specs.declared.builtin.PytestCall.{PytestCall}
use Rattle.py_values.specs.declared.builtin.PytestCall.TheVariants as call
use Rattle.py_values.specs.declared.class.ExcClass.TheVariants.{ValueError}
use Rattle.py_values.specs.declared.value.Value.{Value}
use Rattle.pytest_arguments.specs.declared.form.Argument.{Argument}
use Rattle.pytest_arguments.specs.declared.form.Argument.TheVariants as arg
use Rattle.pytest_arguments.specs.declared.form.OwnMark.{OwnMark}
use Rattle.pytest_arguments.specs.declared.form.OwnMark.TheVariants as mark

abbrev pub argument_name : Argument → List ℕ
argument_name arg.AutoUse = codes "autouse"
argument_name arg.Condition = codes "condition"
argument_name arg.Id = codes "id"
argument_name arg.Ids = codes "ids"
argument_name arg.Marks = codes "marks"
argument_name arg.Match = codes "match"
argument_name arg.Name = codes "name"
argument_name arg.Names = codes "names"
argument_name arg.Params = codes "params"
argument_name arg.Raises = codes "raises"
argument_name arg.Reason = codes "reason"
argument_name arg.Rows = codes "rows"
argument_name arg.Scope = codes "scope"
argument_name arg.Strict = codes "strict"
argument_name arg.TryFirst = codes "tryfirst"
argument_name arg.TryLast = codes "trylast"
argument_name arg.Wrapper = codes "wrapper"

-- the value of an argument that is given by name
abbrev pub named_value : Argument → List (List ℕ × Value) → Option Value
named_value a named = find_name (argument_name a) named

-- the arguments that a function of pytest takes by name
abbrev pub function_arguments : PytestCall → List Argument
function_arguments call.Fail = []
function_arguments call.Fixture = arg.Scope ∷ arg.Params ∷ arg.AutoUse ∷ arg.Ids ∷ arg.Name ∷ []
function_arguments call.HookImpl = arg.Wrapper ∷ arg.TryFirst ∷ arg.TryLast ∷ []
function_arguments call.Param = arg.Id ∷ arg.Marks ∷ []
function_arguments call.Raises = arg.Match ∷ []
function_arguments call.Skip = []

-- whether it takes so many by position
abbrev pub function_counts : PytestCall → ℕ → Bool
function_counts call.Fail n = nat_lt n 2
function_counts call.Fixture n = eqb n 0
function_counts call.HookImpl n = eqb n 0
function_counts call.Param n = true
function_counts call.Raises n = eqb n 1
function_counts call.Skip n = nat_lt n 2

-- pytest's own marks, whose arguments are looked at
abbrev pub own_mark_name : OwnMark → List ℕ
own_mark_name mark.Parametrize = codes "parametrize"
own_mark_name mark.Skip = codes "skip"
own_mark_name mark.SkipIf = codes "skipif"
own_mark_name mark.UseFixtures = codes "usefixtures"
own_mark_name mark.XFail = codes "xfail"

abbrev pub own_marks : List OwnMark
own_marks = mark.Parametrize ∷ mark.Skip ∷ mark.SkipIf ∷ mark.UseFixtures ∷ mark.XFail ∷ []

-- the first of some marks that has a name
abbrev pub mark_in : List ℕ → List OwnMark → Option OwnMark
mark_in name [] = None
mark_in name (m ∷ ms) = if name_eq (own_mark_name m) name then Some m else mark_in name ms

abbrev pub mark_arguments : OwnMark → List Argument
mark_arguments mark.Parametrize = arg.Ids ∷ []
mark_arguments mark.Skip = arg.Reason ∷ []
mark_arguments mark.SkipIf = arg.Reason ∷ []
mark_arguments mark.UseFixtures = []
mark_arguments mark.XFail = arg.Reason ∷ arg.Raises ∷ arg.Strict ∷ []

abbrev pub mark_counts : OwnMark → ℕ → Bool
mark_counts mark.Parametrize n = eqb n 2
mark_counts mark.Skip n = eqb n 0
mark_counts mark.SkipIf n = eqb n 1
mark_counts mark.UseFixtures n = true
mark_counts mark.XFail n = nat_lt n 2

-- whether a name is that of one of the arguments
abbrev pub names_one : List Argument → List ℕ → Bool
names_one arguments name = list_any (λ a. name_eq (argument_name a) name) arguments

-- whether each argument that is given by name is one of these
abbrev pub are_known : List Argument → List (List ℕ × Value) → Bool
are_known arguments named = list_all (λ e. names_one arguments e.0) named

-- THE FORM OF A CALL FITS
abbrev pub function_fits : PytestCall → List Value → List (List ℕ × Value) → Bool
function_fits which args named = function_counts which (length args) && are_known (function_arguments which) named

abbrev pub mark_fits : OwnMark → List Value → List (List ℕ × Value) → Bool
mark_fits which args named = mark_counts which (length args) && are_known (mark_arguments which) named

-- an argument of another kind than is wanted
unfoldable pub bad_named : List ℕ → Product
bad_named name = failed ValueError (codes "bad argument '" ++ (name ++ codes "'")) 0

abbrev pub bad : Argument → Product
bad a = bad_named (argument_name a)

-- the first argument that is bad
abbrev pub bad_unless : Bool → Argument → Option Argument → Option Argument
bad_unless good a next = if good then next else Some a

abbrev pub unless_bad : Option Argument → Product → Product
unless_bad (Some a) p = bad a
unless_bad None p = p
