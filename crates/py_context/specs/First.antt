-- The first of two places, and what the code asks of an argument's name.
use Rattle.std.specs.Prelude.{ℕ, cond, List, [], ◌∷◌, ◌++◌, Option, Some, None}
use Rattle.py_source.specs.declared.pos.Pos.{Pos}
use Rattle.py_tree.specs.declared.expr.ArgName.{ArgName}
use Rattle.py_tree.specs.Names.{is_among}

abbrev pub sooner : Option Pos → Option Pos → Option Pos
sooner None y = y
sooner (Some at) y = Some at

abbrev pub some_given : List (List ℕ) → Pos → Option Pos
some_given [] at = None
some_given (name ∷ rest) at = Some at

abbrev pub wrong_name : List (List ℕ) → Option ArgName → Pos → Option Pos
wrong_name before None at = some_given before at
wrong_name before (Some n) at = cond (is_among before n.name) (Some n.at) None

abbrev pub with_name : List (List ℕ) → Option ArgName → List (List ℕ)
with_name before None = before
with_name before (Some n) = before ++ n.name ∷ []
