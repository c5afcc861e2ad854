-- THE FIRST PLACE IN AN EXPRESSION, as the code goes about it.
use Rattle.std.proofs.Common.{◌≡◌, ℕ, ◌+◌, ◌<◌, ◌≤◌, Bool, true, false, not, cond, List, [], ◌∷◌, ◌++◌, Option, Some, None, Result, Ok, Err, IfOk, length, drop, get_or, refl, sym, ap, subst, ◌∙◌, append_assoc, append-nil, Vec, Global}
use Rattle.std.specs.declared.rc.Rc.{Rc}
use Rattle.std.proofs.lemmas.List.{at_drop_more, at_drop_all}
use Rattle.py_source.specs.declared.pos.Pos.{Pos}
use Rattle.py_tree.specs.declared.op.CmpOp.{CmpOp}
use Rattle.py_tree.specs.declared.op.BinOp.{BinOp}
use Rattle.py_tree.specs.declared.expr.ArgName.{ArgName}
use Rattle.py_tree.specs.declared.expr.Expr.{Expr}
use Rattle.py_tree.specs.declared.expr.ExprKind.{ExprKind}
use Rattle.py_tree.specs.declared.expr.ExprKind.TheVariants as v
use Rattle.py_tree.specs.Trees.{Tree, Trees, Empty, More, Slice, tree_at, tree, trees_on, trees_behind, trees, some_tree}
use Rattle.py_tree.specs.declared.expr.ExprKind.TheBlock.{hidden-the_row-ExprKind-Tuple-0-1-0 as hide}
use Rattle.py_tree.specs.Names.{is_among}
use Rattle.py_tree.proofs.Rows.{trees_hidden}
use Rattle.py_nodes.specs.py_expressions.Values.{at_of}
use Rattle.py_nodes.proofs.Forms.{place_is}
use Rattle.py_grammar.specs.Context.{first_pos, all_places, by_turns, is_first, wrong_arguments, unless, in_tree, places_of_each, in_maybe, in_trees}
use Rattle.py_context.specs.First.{sooner, some_given, wrong_name, with_name}
use Rattle.py_context.specs.declared.expressions.Part.{Part}
use Rattle.py_context.specs.Parts.{expr_part, expr_parts, first_of, first_by_turns, first_argument}

pub first_append : (xs ys : List Pos) → first_pos (xs ++ ys) ≡ sooner (first_pos xs) (first_pos ys)
first_append [] ys = refl
first_append (x ∷ xs) ys = refl

pub first_left : (xs ys : List Pos) (at : Pos) → Some at ≡ first_pos xs → Some at ≡ first_pos (xs ++ ys)
first_left xs ys at h = ap (λ x. sooner x (first_pos ys)) h ∙ sym (first_append xs ys)

pub first_right : (xs ys : List Pos) (r : Option Pos) → None ≡ first_pos xs → r ≡ first_pos ys → r ≡ first_pos (xs ++ ys)
first_right xs ys r h i = i ∙ ap (λ x. sooner x (first_pos ys)) h ∙ sym (first_append xs ys)

pub right_of : {E : Type 0} (xs ys : List Pos) (r : Result (Option Pos) E) → None ≡ first_pos xs → IfOk r (λ at. at ≡ first_pos ys) → IfOk r (λ at. at ≡ first_pos (xs ++ ys))
right_of xs ys (Ok at) h i = first_right xs ys at h i
right_of xs ys (Err e) h i = tt

pub ruleset join_rules = (first_left, right_of)

pub three_append : (x y z : List Pos) → first_pos (x ++ (y ++ z)) ≡ sooner (first_pos x) (sooner (first_pos y) (first_pos z))
three_append x y z = first_append x (y ++ z) ∙ ap (λ w. sooner (first_pos x) w) (first_append y z)

pub slice_is : (e x y z : List Pos) → first_pos (e ++ (x ++ (y ++ z))) ≡ sooner (first_pos e) (sooner (first_pos x) (sooner (first_pos y) (first_pos z)))
slice_is e x y z = first_append e (x ++ (y ++ z)) ∙ ap (λ w. sooner (first_pos e) w) (first_append x (y ++ z) ∙ ap (λ w. sooner (first_pos x) w) (first_append y z))

-- PARTS, as the definition goes about them
abbrev pub seen : Pos × List Pos → Part
seen x = record { at = x.0; first = first_pos x.1 }

abbrev pub all_seen : List (Pos × List Pos) → List Part
all_seen [] = []
all_seen (x ∷ xs) = seen x ∷ all_seen xs

pub places_are : (xs : List (Pos × List Pos)) → first_pos (all_places xs) ≡ first_of (all_seen xs)
places_are [] = refl
places_are (x ∷ xs) = first_append x.1 (all_places xs) ∙ ap (λ y. sooner (first_pos x.1) y) (places_are xs)

sooner_assoc : (x y z : Option Pos) → sooner x (sooner y z) ≡ sooner (sooner x y) z
sooner_assoc None y z = refl
sooner_assoc (Some at) y z = refl

pub turns_are : (xs ys : List (Pos × List Pos)) → first_pos (by_turns xs ys) ≡ first_by_turns (all_seen xs) (all_seen ys)
turns_are [] ys = places_are ys
turns_are (x ∷ xs) [] = places_are (x ∷ xs)
turns_are (x ∷ xs) (y ∷ ys) = three_append x.1 y.1 (by_turns xs ys) ∙ sooner_assoc (first_pos x.1) (first_pos y.1) (first_pos (by_turns xs ys)) ∙ ap (λ z. sooner (sooner (first_pos x.1) (first_pos y.1)) z) (turns_are xs ys)

wrong_none : (before : List (List ℕ)) (xs : List (Pos × List Pos)) → wrong_arguments before [] xs ≡ all_places xs
wrong_none before [] = refl
wrong_none before (x ∷ xs) = ap (λ y. x.1 ++ y) (wrong_none before xs)

taken_name : (before : List (List ℕ)) (n : ArgName) → first_pos (unless (not (is_among before n.name)) n.at) ≡ cond (is_among before n.name) (Some n.at) None
taken_name before n = go (is_among before n.name)
  where
    go : (b : Bool) → first_pos (unless (not b) n.at) ≡ cond b (Some n.at) None
    go true = refl
    go false = refl

unnamed_late : (before : List (List ℕ)) (at : Pos) → first_pos (unless (is_first before) at) ≡ some_given before at
unnamed_late [] at = refl
unnamed_late (x ∷ xs) at = refl

pub arguments_are : (before : List (List ℕ)) (names : List (Option ArgName)) (xs : List (Pos × List Pos)) → first_pos (wrong_arguments before names xs) ≡ first_argument before names (all_seen xs)
arguments_are before [] [] = refl
arguments_are before (n ∷ names) [] = refl
arguments_are before [] (x ∷ xs) = ap first_pos (wrong_none before (x ∷ xs)) ∙ places_are (x ∷ xs)
arguments_are before (None ∷ names) (x ∷ xs) = three_append (unless (is_first before) x.0) x.1 (wrong_arguments before names xs) ∙ sooner_assoc (first_pos (unless (is_first before) x.0)) (first_pos x.1) (first_pos (wrong_arguments before names xs)) ∙ ap (λ z. sooner (sooner z (first_pos x.1)) (first_pos (wrong_arguments before names xs))) (unnamed_late before x.0) ∙ ap (λ z. sooner (sooner (some_given before x.0) (first_pos x.1)) z) (arguments_are before names xs)
arguments_are before (Some n ∷ names) (x ∷ xs) = three_append (unless (not (is_among before n.name)) n.at) x.1 (wrong_arguments (before ++ n.name ∷ []) names xs) ∙ sooner_assoc (first_pos (unless (not (is_among before n.name)) n.at)) (first_pos x.1) (first_pos (wrong_arguments (before ++ n.name ∷ []) names xs)) ∙ ap (λ z. sooner (sooner z (first_pos x.1)) (first_pos (wrong_arguments (before ++ n.name ∷ []) names xs))) (taken_name before n) ∙ ap (λ z. sooner (sooner (cond (is_among before n.name) (Some n.at) None) (first_pos x.1)) z) (arguments_are (before ++ n.name ∷ []) names xs)

seen_append : (xs ys : List (Pos × List Pos)) → all_seen (xs ++ ys) ≡ all_seen xs ++ all_seen ys
seen_append [] ys = refl
seen_append (x ∷ xs) ys = ap (λ z. seen x ∷ z) (seen_append xs ys)

seen_behind : (before : Trees) (es : List (Rc Expr Global)) → all_seen (places_of_each (trees_behind before es)) ≡ all_seen (places_of_each before) ++ expr_parts es
seen_behind before [] = sym (append-nil (all_seen (places_of_each before)))
seen_behind before (e ∷ es) = seen_behind (More before (tree e.value)) es ∙ ap (λ z. z ++ expr_parts es) (seen_append (places_of_each before) ((at_of (tree e.value), in_tree (tree e.value)) ∷ [])) ∙ append_assoc (all_seen (places_of_each before)) (expr_part e.value ∷ []) (expr_parts es)

pub seen_is : (es : List (Rc Expr Global)) → all_seen (places_of_each (trees es)) ≡ expr_parts es
seen_is es = seen_behind Empty es

pub all_firsts : (es : List (Rc Expr Global)) → first_of (expr_parts es) ≡ first_pos (in_trees (trees es))
all_firsts es = ap first_of (sym (seen_is es)) ∙ sym (places_are (places_of_each (trees es)))

-- LOOPS
pub part_found : (ps rest : List Part) (p : Part) (at : Pos) (whole : Option Pos) → ps ≡ p ∷ rest → p.first ≡ Some at → first_of ps ≡ whole → Some at ≡ whole
part_found ps rest p at whole h q w = ap (λ x. sooner x (first_of rest)) (sym q) ∙ ap first_of (sym h) ∙ w

pub part_on : (ps rest : List Part) (p : Part) (whole : Option Pos) → ps ≡ p ∷ rest → p.first ≡ None → first_of ps ≡ whole → first_of rest ≡ whole
part_on ps rest p whole h q w = ap (λ x. sooner x (first_of rest)) (sym q) ∙ ap first_of (sym h) ∙ w

pub part_none : (ps : List Part) (whole : Option Pos) → ps ≡ [] → first_of ps ≡ whole → None ≡ whole
part_none ps whole h w = ap first_of (sym h) ∙ w

pub turns_over : (ks vs : List Part) (whole : Option Pos) → ks ≡ [] → first_by_turns ks vs ≡ whole → first_of vs ≡ whole
turns_over ks vs whole h w = ap (λ x. first_by_turns x vs) (sym h) ∙ w

pub turns_keys : (ks vs rest : List Part) (k : Part) (whole : Option Pos) → ks ≡ k ∷ rest → vs ≡ [] → first_by_turns ks vs ≡ whole → first_of ks ≡ whole
turns_keys ks vs rest k whole h q w = ap first_of h ∙ ap (λ x. first_by_turns x []) (sym h) ∙ ap (λ x. first_by_turns ks x) (sym q) ∙ w

turns_split : (ks vs further others : List Part) (k v : Part) (whole : Option Pos) → ks ≡ k ∷ further → vs ≡ v ∷ others → first_by_turns ks vs ≡ whole → sooner (sooner k.first v.first) (first_by_turns further others) ≡ whole
turns_split ks vs further others k v whole h q w = ap (λ x. first_by_turns x (v ∷ others)) (sym h) ∙ ap (λ x. first_by_turns ks x) (sym q) ∙ w

pub turns_found : (ks vs further others : List Part) (k v : Part) (at : Pos) (whole : Option Pos) → ks ≡ k ∷ further → vs ≡ v ∷ others → Some at ≡ sooner k.first v.first → first_by_turns ks vs ≡ whole → Some at ≡ whole
turns_found ks vs further others k v at whole h q s w = ap (λ x. sooner x (first_by_turns further others)) s ∙ turns_split ks vs further others k v whole h q w

pub turns_next : (ks vs further others : List Part) (k v : Part) (whole : Option Pos) → ks ≡ k ∷ further → vs ≡ v ∷ others → None ≡ sooner k.first v.first → first_by_turns ks vs ≡ whole → first_by_turns further others ≡ whole
turns_next ks vs further others k v whole h q s w = ap (λ x. sooner x (first_by_turns further others)) s ∙ turns_split ks vs further others k v whole h q w

pub argument_none : (before : List (List ℕ)) (names : List (Option ArgName)) (ps : List Part) (whole : Option Pos) → ps ≡ [] → first_argument before names ps ≡ whole → None ≡ whole
argument_none before names ps whole h w = none names ∙ ap (first_argument before names) (sym h) ∙ w
  where
    none : (names : List (Option ArgName)) → None ≡ first_argument before names []
    none [] = refl
    none (n ∷ ns) = refl

pub argument_unnamed : (before : List (List ℕ)) (names : List (Option ArgName)) (ps rest : List Part) (p : Part) (whole : Option Pos) → ps ≡ p ∷ rest → names ≡ [] → first_argument before names ps ≡ whole → first_of ps ≡ whole
argument_unnamed before names ps rest p whole h q w = ap first_of h ∙ ap (first_argument before []) (sym h) ∙ ap (λ x. first_argument before x ps) (sym q) ∙ w

argument_split : (before : List (List ℕ)) (names further : List (Option ArgName)) (n : Option ArgName) (ps rest : List Part) (p : Part) (whole : Option Pos) → names ≡ n ∷ further → ps ≡ p ∷ rest → first_argument before names ps ≡ whole → sooner (sooner (wrong_name before n p.at) p.first) (first_argument (with_name before n) further rest) ≡ whole
argument_split before names further n ps rest p whole h q w = ap (λ x. first_argument before x (p ∷ rest)) (sym h) ∙ ap (first_argument before names) (sym q) ∙ w

pub argument_found : (before : List (List ℕ)) (names further : List (Option ArgName)) (n : Option ArgName) (ps rest : List Part) (p : Part) (wrong : Option Pos) (at : Pos) (whole : Option Pos) → names ≡ n ∷ further → ps ≡ p ∷ rest → wrong ≡ wrong_name before n p.at → Some at ≡ sooner wrong p.first → first_argument before names ps ≡ whole → Some at ≡ whole
argument_found before names further n ps rest p wrong at whole h q r s w = ap (λ x. sooner x (first_argument (with_name before n) further rest)) (s ∙ ap (λ x. sooner x p.first) r) ∙ argument_split before names further n ps rest p whole h q w

pub argument_next : (before more : List (List ℕ)) (names further : List (Option ArgName)) (n : Option ArgName) (ps rest : List Part) (p : Part) (wrong whole : Option Pos) → names ≡ n ∷ further → ps ≡ p ∷ rest → wrong ≡ wrong_name before n p.at → None ≡ sooner wrong p.first → more ≡ with_name before n → first_argument before names ps ≡ whole → first_argument more further rest ≡ whole
argument_next before more names further n ps rest p wrong whole h q r s m w = ap (λ x. first_argument x further rest) m ∙ ap (λ x. sooner x (first_argument (with_name before n) further rest)) (s ∙ ap (λ x. sooner x p.first) r) ∙ argument_split before names further n ps rest p whole h q w

-- ROWS, as the code has them
pub row_places : (ps : List Part) (es : List (Rc Expr Global)) (r : Option Pos) → r ≡ first_of ps → ps ≡ expr_parts es → r ≡ first_pos (in_trees (trees es))
row_places ps es r h e = h ∙ ap first_of e ∙ all_firsts es

pub turn_places : (ps qs : List Part) (ks es : List (Rc Expr Global)) (r : Option Pos) → r ≡ first_by_turns ps qs → ps ≡ expr_parts ks → qs ≡ expr_parts es → r ≡ first_pos (by_turns (places_of_each (trees ks)) (places_of_each (trees es)))
turn_places ps qs ks es r h e f = h ∙ ap (λ x. first_by_turns x qs) (e ∙ sym (seen_is ks)) ∙ ap (first_by_turns (all_seen (places_of_each (trees ks)))) (f ∙ sym (seen_is es)) ∙ sym (turns_are (places_of_each (trees ks)) (places_of_each (trees es)))

pub argument_places : (names : List (Option ArgName)) (ps : List Part) (es : List (Rc Expr Global)) (r : Option Pos) → r ≡ first_argument [] names ps → ps ≡ expr_parts es → r ≡ first_pos (wrong_arguments [] names (places_of_each (trees es)))
argument_places names ps es r h e = h ∙ ap (first_argument [] names) (e ∙ sym (seen_is es)) ∙ sym (arguments_are [] names (places_of_each (trees es)))

pub ruleset first_rules = (part_found, part_on, part_none)

pub ruleset turn_rules = (turns_over, turns_keys, turns_found, turns_next)

pub ruleset argument_rules = (argument_none, argument_unnamed, argument_found, argument_next)

slice_tree : (at : Pos) (e : Rc Expr Global) (x y z : Option (Rc Expr Global)) → tree_at at (v.Slice e x y z) ≡ Slice at (tree e.value) (some_tree x) (some_tree y) (some_tree z)
slice_tree at e None None None = refl
slice_tree at e None None (Some z) = refl
slice_tree at e None (Some y) None = refl
slice_tree at e None (Some y) (Some z) = refl
slice_tree at e (Some x) None None = refl
slice_tree at e (Some x) None (Some z) = refl
slice_tree at e (Some x) (Some y) None = refl
slice_tree at e (Some x) (Some y) (Some z) = refl

abbrev pub part_at : Pos → Option Pos → Part
part_at at first = record { at = at; first = first }

-- one more part
pub each_goes : (es : List (Rc Expr Global)) (i : ℕ) (e : Rc Expr Global) (x y : Expr) (first : Option Pos) (ps qs whole : List Part) → i < length es → e ≡ get_or es i e → x ≡ e.value → y ≡ e.value → first ≡ first_pos (in_tree (tree x)) → qs ≡ ps ++ part_at y.at first ∷ [] → ps ++ expr_parts (drop i es) ≡ whole → qs ++ expr_parts (drop (i + 1) es) ≡ whole
each_goes es i e x y first ps qs whole h is p q f g w =
    ap (λ z. z ++ expr_parts (drop (i + 1) es)) (g ∙ ap (λ z. ps ++ z ∷ []) same) ∙ append_assoc ps (expr_part e.value ∷ []) (expr_parts (drop (i + 1) es)) ∙ ap (λ z. ps ++ z) (sym step) ∙ w
  where
    same : part_at y.at first ≡ expr_part e.value
    same = ap (λ a. part_at a first) (ap (λ z. z.at) q ∙ sym (place_is e.value)) ∙ ap (part_at (at_of (tree e.value))) (f ∙ ap (λ z. first_pos (in_tree (tree z))) p)

    step : expr_parts (drop i es) ≡ expr_part e.value ∷ expr_parts (drop (i + 1) es)
    step = at_drop_more expr_parts es i e h ∙ ap (λ z. expr_parts (z ∷ drop (i + 1) es)) (sym is)

pub each_over : (es : List (Rc Expr Global)) (i : ℕ) (ps whole : List Part) → length es ≤ i → ps ++ expr_parts (drop i es) ≡ whole → ps ≡ whole
each_over es i ps whole h w = sym (append-nil ps) ∙ ap (λ z. ps ++ z) (sym (at_drop_all expr_parts es i h)) ∙ w

-- FORM BY FORM, as the code meets them: what the places of the parts say of the whole
module _ {E : Type 0} (at : Pos) (kind : ExprKind) (r : Result (Option Pos) E) where
  pub of_kind : (k : ExprKind) → kind ≡ k → IfOk r (λ p. p ≡ first_pos (in_tree (tree_at at k))) → IfOk r (λ p. p ≡ first_pos (in_tree (tree_at at kind)))
  of_kind k is h = rw is h

  of_places : (k : ExprKind) (ps : List Pos) → kind ≡ k → ps ≡ in_tree (tree_at at k) → IfOk r (λ p. p ≡ first_pos ps) → IfOk r (λ p. p ≡ first_pos (in_tree (tree_at at kind)))
  of_places k ps is e h = of_kind k is (subst (λ (z : List Pos). IfOk r (λ p. p ≡ first_pos z)) e h)

  pub tuple_form : (es : Rc (Vec (Rc Expr Global) Global) Global) → kind ≡ v.Tuple es → IfOk r (λ p. p ≡ first_pos (in_trees (trees es.value.items))) → IfOk r (λ p. p ≡ first_pos (in_tree (tree_at at kind)))
  tuple_form es is h = of_places (v.Tuple es) (in_trees (trees es.value.items)) is (ap in_trees (sym (trees_hidden es.value))) h

  pub list_form : (es : Rc (Vec (Rc Expr Global) Global) Global) → kind ≡ v.List es → IfOk r (λ p. p ≡ first_pos (in_trees (trees es.value.items))) → IfOk r (λ p. p ≡ first_pos (in_tree (tree_at at kind)))
  list_form es is h = of_places (v.List es) (in_trees (trees es.value.items)) is (ap in_trees (sym (trees_hidden es.value))) h

  pub dict_form : (ks es : Rc (Vec (Rc Expr Global) Global) Global) → kind ≡ v.Dict ks es → IfOk r (λ p. p ≡ first_pos (by_turns (places_of_each (trees ks.value.items)) (places_of_each (trees es.value.items)))) → IfOk r (λ p. p ≡ first_pos (in_tree (tree_at at kind)))
  dict_form ks es is h = of_places (v.Dict ks es) (by_turns (places_of_each (trees ks.value.items)) (places_of_each (trees es.value.items))) is (ap (λ t. by_turns (places_of_each t) (places_of_each (trees es.value.items))) (sym (trees_hidden ks.value)) ∙ ap (λ t. by_turns (places_of_each (trees_on Empty (hide ks.value))) (places_of_each t)) (sym (trees_hidden es.value))) h

  pub call_form : (f : Rc Expr Global) (es : Rc (Vec (Rc Expr Global) Global) Global) (names : Rc (Vec (Option ArgName) Global) Global) → kind ≡ v.Call f es names → IfOk r (λ p. p ≡ first_pos (in_tree (tree f.value) ++ wrong_arguments [] names.value.items (places_of_each (trees es.value.items)))) → IfOk r (λ p. p ≡ first_pos (in_tree (tree_at at kind)))
  call_form f es names is h = of_places (v.Call f es names) (in_tree (tree f.value) ++ wrong_arguments [] names.value.items (places_of_each (trees es.value.items))) is (ap (λ t. in_tree (tree f.value) ++ wrong_arguments [] names.value.items (places_of_each t)) (sym (trees_hidden es.value))) h

  pub compare_form : (l : Rc Expr Global) (ops : Rc (Vec CmpOp Global) Global) (es : Rc (Vec (Rc Expr Global) Global) Global) → kind ≡ v.Compare l ops es → IfOk r (λ p. p ≡ first_pos (in_tree (tree l.value) ++ in_trees (trees es.value.items))) → IfOk r (λ p. p ≡ first_pos (in_tree (tree_at at kind)))
  compare_form l ops es is h = of_places (v.Compare l ops es) (in_tree (tree l.value) ++ in_trees (trees es.value.items)) is (ap (λ t. in_tree (tree l.value) ++ in_trees t) (sym (trees_hidden es.value))) h

  pub and_form : (l : Rc Expr Global) (es : Rc (Vec (Rc Expr Global) Global) Global) → kind ≡ v.And l es → IfOk r (λ p. p ≡ first_pos (in_tree (tree l.value) ++ in_trees (trees es.value.items))) → IfOk r (λ p. p ≡ first_pos (in_tree (tree_at at kind)))
  and_form l es is h = of_places (v.And l es) (in_tree (tree l.value) ++ in_trees (trees es.value.items)) is (ap (λ t. in_tree (tree l.value) ++ in_trees t) (sym (trees_hidden es.value))) h

  pub or_form : (l : Rc Expr Global) (es : Rc (Vec (Rc Expr Global) Global) Global) → kind ≡ v.Or l es → IfOk r (λ p. p ≡ first_pos (in_tree (tree l.value) ++ in_trees (trees es.value.items))) → IfOk r (λ p. p ≡ first_pos (in_tree (tree_at at kind)))
  or_form l es is h = of_places (v.Or l es) (in_tree (tree l.value) ++ in_trees (trees es.value.items)) is (ap (λ t. in_tree (tree l.value) ++ in_trees t) (sym (trees_hidden es.value))) h

  pub slice_form : (e : Rc Expr Global) (x y z : Option (Rc Expr Global)) → kind ≡ v.Slice e x y z → IfOk r (λ p. p ≡ first_pos (in_tree (tree e.value) ++ (in_maybe (some_tree x) ++ (in_maybe (some_tree y) ++ in_maybe (some_tree z))))) → IfOk r (λ p. p ≡ first_pos (in_tree (tree_at at kind)))
  slice_form e x y z is h = of_places (v.Slice e x y z) (in_tree (tree e.value) ++ (in_maybe (some_tree x) ++ (in_maybe (some_tree y) ++ in_maybe (some_tree z)))) is (ap in_tree (sym (slice_tree at e x y z))) h
