-- Parts of an expression, each with the first place in it, and the first place in them.
use Rattle.std.specs.Prelude.{ℕ, List, [], ◌∷◌, Option, None}
use Rattle.std.specs.Global.{Global}
use Rattle.std.specs.declared.rc.Rc.{Rc}
use Rattle.py_source.specs.declared.pos.Pos.{Pos}
use Rattle.py_tree.specs.declared.expr.ArgName.{ArgName}
use Rattle.py_tree.specs.declared.expr.Expr.{Expr}
use Rattle.py_tree.specs.Trees.{tree}
use Rattle.py_nodes.specs.py_expressions.Values.{at_of}
use Rattle.py_grammar.specs.Context.{first_pos, in_tree}
use Rattle.py_context.specs.declared.expressions.Part.{Part}
use Rattle.py_context.specs.First.{sooner, wrong_name, with_name}

abbrev pub expr_part : Expr → Part
expr_part e = record { at = at_of (tree e); first = first_pos (in_tree (tree e)) }

abbrev pub expr_parts : List (Rc Expr Global) → List Part
expr_parts [] = []
expr_parts (e ∷ es) = expr_part e.value ∷ expr_parts es

abbrev pub first_of : List Part → Option Pos
first_of [] = None
first_of (p ∷ ps) = sooner p.first (first_of ps)

abbrev pub first_by_turns : List Part → List Part → Option Pos
first_by_turns [] vs = first_of vs
first_by_turns (k ∷ ks) [] = sooner k.first (first_of ks)
first_by_turns (k ∷ ks) (v ∷ vs) = sooner (sooner k.first v.first) (first_by_turns ks vs)

abbrev pub first_argument : (before : List (List ℕ)) → List (Option ArgName) → List Part → Option Pos
first_argument before names [] = None
first_argument before [] (p ∷ ps) = sooner p.first (first_of ps)
first_argument before (n ∷ names) (p ∷ ps) = sooner (sooner (wrong_name before n p.at) p.first) (first_argument (with_name before n) names ps)
