-- The arguments of a function, for which fixtures are looked for (pytest's how-to guide, "Requesting fixtures").
use Rattle.std.specs.Prelude.{ℕ, Bool, true, false, List, [], Option, Some, None, codes, drop, filter, is_some, map, not}
use Rattle.py_values.specs.Names.{name_eq}
use Rattle.py_values.specs.declared.object.FunctionObj.{FunctionObj}
use Rattle.py_values.specs.declared.rows.Param.{Param}
use Rattle.collection_nodes.specs.py_world.Site.{frame}
use Rattle.collection_nodes.specs.py_world.declared.trace.TraceFrame.{TraceFrame}

-- the first parameter of a function that stands in a class is its instance
abbrev pub own_params : Bool → List Param → List Param
own_params false params = params
own_params true params = drop 1 params

-- a parameter without default
abbrev pub is_asked : Param → Bool
is_asked p = not (is_some p.default)

abbrev pub param_name : Param → List ℕ
param_name p = p.name

-- THE ARGUMENTS: the parameters without default, in order
abbrev pub asked_params : Bool → List Param → List (List ℕ)
asked_params in_class params = map param_name (filter is_asked (own_params in_class params))

abbrev pub arguments_asked : Bool → Option FunctionObj → List (List ℕ)
arguments_asked in_class (Some f) = asked_params in_class f.params
arguments_asked in_class None = []

-- `request` is given by the runner: no fixture is looked for
abbrev pub is_request : List ℕ → Bool
is_request name = name_eq (codes "request") name

-- the names for which fixtures are looked for
abbrev pub but_request : List (List ℕ) → List (List ℕ)
but_request names = filter (λ name. not (is_request name)) names

-- the place of a function's `def`
abbrev pub defined_at : Option FunctionObj → TraceFrame
defined_at (Some f) = frame f.path f.line f.name
defined_at None = frame [] 0 []
