-- Rows of parts, one on.
use Rattle.std.proofs.Common.{◌≡◌, ℕ, ◌<◌, ◌≤◌, ◌+◌, List, [], ◌∷◌, ◌++◌, Option, Some, None, length, drop, get_or, refl, ap, sym, ◌∙◌, Vec, Global, arith}
use Rattle.std.specs.declared.rc.Rc.{Rc}
use Rattle.std.proofs.lemmas.List.{at_drop_more, at_drop_all}
use Rattle.py_source.specs.declared.pos.Pos.{Pos}
use Rattle.py_tree.specs.declared.expr.Expr.{Expr}
use Rattle.py_tree.specs.Trees.{Tree, Trees, Empty, More, Tuple, tree_at, tree, trees, trees_behind}
use Rattle.py_tree.specs.declared.expr.ExprKind.TheVariants as v
use Rattle.py_tree.proofs.Rows.{trees_hidden}
use Rattle.py_nodes.specs.py_expressions.Values.{place_in, behind_places, places_in, several_taker, taker_in}
use Rattle.py_statement_nodes.specs.Targets.{parts_in}
use Rattle.py_tree.specs.declared.stmt.Branch as branch
use Rattle.py_tree.specs.declared.stmt.Handler as handler
use Rattle.py_tree.specs.declared.stmt.Param.{Param}
use Rattle.py_tree.specs.declared.stmt.Target.{Target}
use Rattle.py_tree.specs.declared.stmt.Single.{Single}
use Rattle.py_tree.specs.Statements.{Place, Branches, branches_behind, Handlers, handlers_behind, taker, takers, parameter, parameters, place, places}

pub branches_more : (before : Branches) (all : List branch.Branch) (b : branch.Branch) → branches_behind before (all ++ b ∷ []) ≡ branches_behind (branches_behind before all) (b ∷ [])
branches_more before [] b = refl
branches_more before (branch.Branch' at condition p n body ∷ rest) b = branches_more (branches_behind before (branch.Branch' at condition p n body ∷ [])) rest b

pub handlers_more : (before : Handlers) (all : List handler.Handler) (h : handler.Handler) → handlers_behind before (all ++ h ∷ []) ≡ handlers_behind (handlers_behind before all) (h ∷ [])
handlers_more before [] h = refl
handlers_more before (handler.Handler' at class name p n body ∷ rest) h = handlers_more (handlers_behind before (handler.Handler' at class name p n body ∷ [])) rest h

pub takers_more : (ts : List Target) (t : Target) → takers (ts ++ t ∷ []) ≡ takers ts ++ taker t ∷ []
takers_more [] t = refl
takers_more (x ∷ ts) t = ap (λ r. taker x ∷ r) (takers_more ts t)

pub parameters_more : (ps : List Param) (p : Param) → parameters (ps ++ p ∷ []) ≡ parameters ps ++ parameter p ∷ []
parameters_more [] p = refl
parameters_more (x ∷ ps) p = ap (λ r. parameter x ∷ r) (parameters_more ps p)

pub places_more : (ss : List Single) (s : Single) → places (ss ++ s ∷ []) ≡ places ss ++ place s ∷ []
places_more [] s = refl
places_more (x ∷ ss) s = ap (λ r. place x ∷ r) (places_more ss s)

-- places, the first expression first
abbrev pub onward : Option (List Place) → List (Rc Expr Global) → Option (List Place)
onward ps [] = ps
onward ps (e ∷ es) = onward (behind_places ps (place_in (tree e.value))) es

places_behind : (before : Trees) (es : List (Rc Expr Global)) → places_in (trees_behind before es) ≡ onward (places_in before) es
places_behind before [] = refl
places_behind before (e ∷ es) = places_behind (More before (tree e.value)) es

pub places_is : (es : List (Rc Expr Global)) → places_in (trees es) ≡ onward (Some []) es
places_is es = places_behind Empty es

none_on : (es : List (Rc Expr Global)) → onward None es ≡ None
none_on [] = refl
none_on (e ∷ es) = none_on es

step : (es : List (Rc Expr Global)) (i : ℕ) (e : Rc Expr Global) (ps : Option (List Place)) → i < length es → e ≡ get_or es i e → onward ps (drop i es) ≡ onward (behind_places ps (place_in (tree e.value))) (drop (i + 1) es)
step es i e ps h p = at_drop_more (onward ps) es i e h ∙ ap (λ x. onward (behind_places ps (place_in (tree x.value))) (drop (i + 1) es)) (sym p)

pub place_stops : (es : List (Rc Expr Global)) (i : ℕ) (e : Rc Expr Global) (x : Expr) (ps : List Place) (whole : Option (List Place)) → i < length es → e ≡ get_or es i e → x ≡ e.value → place_in (tree x) ≡ None → onward (Some ps) (drop i es) ≡ whole → whole ≡ None
place_stops es i e x ps whole h p d q w = sym w ∙ step es i e (Some ps) h p ∙ ap (λ y. onward (behind_places (Some ps) (place_in (tree y))) (drop (i + 1) es)) (sym d) ∙ ap (λ v. onward (behind_places (Some ps) v) (drop (i + 1) es)) q ∙ none_on (drop (i + 1) es)

pub place_goes : (es : List (Rc Expr Global)) (i : ℕ) (e : Rc Expr Global) (x : Expr) (before after : List Single) (s : Single) (whole : Option (List Place)) → i < length es → e ≡ get_or es i e → x ≡ e.value → place_in (tree x) ≡ Some (place s) → after ≡ before ++ s ∷ [] → onward (Some (places before)) (drop i es) ≡ whole → onward (Some (places after)) (drop (i + 1) es) ≡ whole
place_goes es i e x before after s whole h p d q j w =
    ap (λ y. onward (Some (places y)) (drop (i + 1) es)) j ∙ ap (λ y. onward (Some y) (drop (i + 1) es)) (places_more before s) ∙ ap (λ v. onward (behind_places (Some (places before)) v) (drop (i + 1) es)) (sym q)
    ∙ ap (λ y. onward (behind_places (Some (places before)) (place_in (tree y))) (drop (i + 1) es)) d ∙ sym (step es i e (Some (places before)) h p) ∙ w

pub place_ends : (es : List (Rc Expr Global)) (i : ℕ) (ps whole : Option (List Place)) → length es ≤ i → onward ps (drop i es) ≡ whole → whole ≡ ps
place_ends es i ps whole h w = sym w ∙ at_drop_all (onward ps) es i h

-- what a tuple is
tuple_is : (e : Expr) (es : Rc (Vec (Rc Expr Global) Global) Global) → e.kind ≡ v.Tuple es → tree e ≡ Tuple e.at (trees es.value.items)
tuple_is e es k = ap (λ x. tree_at e.at x) k ∙ ap (λ x. Tuple e.at x) (trees_hidden es.value)

of_tuple : (at : Pos) (es : Trees) → taker_in (Tuple at es) ≡ parts_in es
of_tuple at Empty = refl
of_tuple at (More es e) = refl

pub tuple_taker : (e : Expr) (es : Rc (Vec (Rc Expr Global) Global) Global) → e.kind ≡ v.Tuple es → taker_in (tree e) ≡ parts_in (trees es.value.items)
tuple_taker e es k = ap taker_in (tuple_is e es k) ∙ of_tuple e.at (trees es.value.items)

pub parts_none : (es : List (Rc Expr Global)) → length es ≡ 0 → parts_in (trees es) ≡ None
parts_none [] h = refl
parts_none (e ∷ es) h = absurd (omega arith)

parts_behind : (before : Trees) (x : Tree) (es : List (Rc Expr Global)) → parts_in (trees_behind (More before x) es) ≡ several_taker (places_in (trees_behind (More before x) es))
parts_behind before x [] = refl
parts_behind before x (e ∷ es) = parts_behind (More before x) (tree e.value) es

pub parts_some : (es : List (Rc Expr Global)) → 0 < length es → parts_in (trees es) ≡ several_taker (places_in (trees es))
parts_some [] h = absurd (omega arith)
parts_some (e ∷ es) h = parts_behind Empty (tree e.value) es

pub ruleset part_rules = (parts_none, parts_some)
