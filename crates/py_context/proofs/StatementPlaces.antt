-- THE FIRST PLACE IN STATEMENTS, as the code goes about it.
use Rattle.std.proofs.Common.{◌≡◌, ◌⊎◌, inl, inr, ℕ, zero, suc, ◌+◌, ◌<◌, ◌≤◌, Bool, true, false, not, ◌||◌, ◌&&◌, eqb, List, [], ◌∷◌, ◌++◌, Option, Some, None, Result, IfOk, length, drop, get_or, refl, sym, ap, ◌∙◌, subst, append_assoc, append-nil, Vec, Global, arith}
use Rattle.std.specs.declared.rc.Rc.{Rc}
use Rattle.std.proofs.lemmas.List.{at_drop_more, at_drop_all}
use Rattle.std.proofs.lemmas.Bool.Decides.{nat_tests}
use Rattle.py_source.specs.declared.pos.Pos.{Pos}
use Rattle.py_tree.specs.declared.expr.Expr.{Expr}
use Rattle.py_tree.specs.declared.stmt.Stmt.{Stmt}
use Rattle.py_tree.specs.declared.stmt.Single.{Single}
use Rattle.py_tree.specs.declared.stmt.Target.{Target}
use Rattle.py_tree.specs.declared.stmt.Param.{Param}
use Rattle.py_tree.specs.declared.stmt.StmtKind.{StmtKind}
use Rattle.py_tree.specs.declared.stmt.StmtKind.TheVariants as v
use Rattle.py_tree.specs.declared.stmt.StmtKind.TheBlock.{hidden-the_row-Stmt-1}
use Rattle.py_tree.specs.declared.stmt.Branch.{out-Branch, roll-Branch, roll-out-Branch}
use Rattle.py_tree.specs.declared.stmt.Handler.{out-Handler, roll-Handler, roll-out-Handler}
use Rattle.py_tree.specs.declared.stmt.Class.{Class, out-Class, roll-Class, roll-out-Class}
use Rattle.py_tree.specs.declared.stmt.Function.{Function, out-Function, roll-Function, roll-out-Function}
use Rattle.py_tree.specs.Statements as t
use Rattle.py_tree.specs.declared.stmt.Branch as branch
use Rattle.py_tree.specs.declared.stmt.Handler as handler
use Rattle.py_tree.proofs.Rows.{block_hidden, branches_hidden, handlers_hidden}
use Rattle.py_tree.specs.Trees.{tree, trees, some_tree}
use Rattle.py_tree.specs.Names.{is_among, globals_of}
use Rattle.py_tree.specs.Statements.{Block, NoStatement, Next, Branches, NoBranch, Branch, Handlers, NoHandler, Handler, Def, Place, Taker, Parameter, Parameter_at, place, places, taker, takers, parameter, parameters, statement, statement_at, block_on, block_behind, block, branches_behind, branches, handlers_behind, handlers}
use Rattle.py_grammar.specs.Context.{StatementContext, first_pos, unless, is_function, is_module, is_bound, is_present, in_function, in_class, in_tree, in_trees, in_maybe, in_place, in_places, in_taker, in_takers, in_params, misplaced_in, misplaced, misplaced_branches, misplaced_handlers, without_yield, in_loop_of}
use Rattle.py_context.specs.First.{sooner}
use Rattle.py_context.proofs.ExpressionPlaces.{first_append, slice_is}

-- ROWS, the first part first
abbrev pub over : {A : Type 0} → (A → List Pos) → List A → List Pos
over f [] = []
over f (x ∷ xs) = f x ++ over f xs

over_step : {A : Type 0} (f : A → List Pos) (xs : List A) (i : ℕ) (x : A) → i < length xs → x ≡ get_or xs i x → first_pos (over f (drop i xs)) ≡ sooner (first_pos (f x)) (first_pos (over f (drop (i + 1) xs)))
over_step f xs i x h p = at_drop_more (λ xs. first_pos (over f xs)) xs i x h ∙ ap (λ y. first_pos (f y ++ over f (drop (i + 1) xs))) (sym p) ∙ first_append (f x) (over f (drop (i + 1) xs))

over_found : {A : Type 0} (f : A → List Pos) (xs : List A) (i : ℕ) (x : A) (at : Pos) (whole : Option Pos) → i < length xs → x ≡ get_or xs i x → Some at ≡ first_pos (f x) → first_pos (over f (drop i xs)) ≡ whole → Some at ≡ whole
over_found f xs i x at whole h p q w = ap (λ y. sooner y (first_pos (over f (drop (i + 1) xs)))) q ∙ sym (over_step f xs i x h p) ∙ w

over_on : {A : Type 0} (f : A → List Pos) (xs : List A) (i : ℕ) (x : A) (whole : Option Pos) → i < length xs → x ≡ get_or xs i x → None ≡ first_pos (f x) → first_pos (over f (drop i xs)) ≡ whole → first_pos (over f (drop (i + 1) xs)) ≡ whole
over_on f xs i x whole h p q w = ap (λ y. sooner y (first_pos (over f (drop (i + 1) xs)))) q ∙ sym (over_step f xs i x h p) ∙ w

over_none : {A : Type 0} (f : A → List Pos) (xs : List A) (i : ℕ) (whole : Option Pos) → length xs ≤ i → first_pos (over f (drop i xs)) ≡ whole → None ≡ whole
over_none f xs i whole h w = sym (at_drop_all (λ xs. first_pos (over f xs)) xs i h) ∙ w

-- the places of each form
abbrev pub of_single : Single → List Pos
of_single s = in_place (place s)

abbrev pub of_target : Target → List Pos
of_target t = in_taker (taker t)

abbrev pub of_stmt : StatementContext → Stmt → List Pos
of_stmt w s = misplaced_in w (statement s)

abbrev pub of_branch : StatementContext → branch.Branch → List Pos
of_branch w (branch.Branch' at condition p n body) = in_tree (tree condition.value) ++ misplaced w (block_on NoStatement body)

abbrev pub of_handler : StatementContext → Bool → handler.Handler → List Pos
of_handler w last (handler.Handler' at class name p n body) = unless (last || is_present (some_tree class)) at ++ (in_maybe (some_tree class) ++ misplaced (without_yield w) (block_on NoStatement body))

-- PLACES
pub singles_are : (all : List Single) → over of_single all ≡ in_places (places all)
singles_are [] = refl
singles_are (s ∷ rest) = ap (λ x. of_single s ++ x) (singles_are rest)

pub targets_are : (all : List Target) → over of_target all ≡ in_takers (takers all)
targets_are [] = refl
targets_are (t ∷ rest) = ap (λ x. of_target t ++ x) (targets_are rest)

pub single_begun : (all : List Single) → first_pos (over of_single all) ≡ first_pos (in_places (places all))
single_begun all = ap first_pos (singles_are all)

pub single_found : (xs : List Single) (i : ℕ) (x : Single) (at : Pos) (whole : Option Pos) → i < length xs → x ≡ get_or xs i x → Some at ≡ first_pos (in_place (place x)) → first_pos (over of_single (drop i xs)) ≡ whole → Some at ≡ whole
single_found = over_found of_single

pub single_on : (xs : List Single) (i : ℕ) (x : Single) (whole : Option Pos) → i < length xs → x ≡ get_or xs i x → None ≡ first_pos (in_place (place x)) → first_pos (over of_single (drop i xs)) ≡ whole → first_pos (over of_single (drop (i + 1) xs)) ≡ whole
single_on = over_on of_single

pub single_none : (xs : List Single) (i : ℕ) (whole : Option Pos) → length xs ≤ i → first_pos (over of_single (drop i xs)) ≡ whole → None ≡ whole
single_none = over_none of_single

pub target_begun : (all : List Target) → first_pos (over of_target all) ≡ first_pos (in_takers (takers all))
target_begun all = ap first_pos (targets_are all)

pub target_found : (xs : List Target) (i : ℕ) (x : Target) (at : Pos) (whole : Option Pos) → i < length xs → x ≡ get_or xs i x → Some at ≡ first_pos (in_taker (taker x)) → first_pos (over of_target (drop i xs)) ≡ whole → Some at ≡ whole
target_found = over_found of_target

pub target_on : (xs : List Target) (i : ℕ) (x : Target) (whole : Option Pos) → i < length xs → x ≡ get_or xs i x → None ≡ first_pos (in_taker (taker x)) → first_pos (over of_target (drop i xs)) ≡ whole → first_pos (over of_target (drop (i + 1) xs)) ≡ whole
target_on = over_on of_target

pub target_none : (xs : List Target) (i : ℕ) (whole : Option Pos) → length xs ≤ i → first_pos (over of_target (drop i xs)) ≡ whole → None ≡ whole
target_none = over_none of_target

-- STATEMENTS
stmts_behind : (w : StatementContext) (before : Block) (stmts : List Stmt) → misplaced w (block_behind before stmts) ≡ misplaced w before ++ over (of_stmt w) stmts
stmts_behind w before [] = sym (append-nil (misplaced w before))
stmts_behind w before (s ∷ rest) = stmts_behind w (Next before (statement s)) rest ∙ append_assoc (misplaced w before) (misplaced_in w (statement s)) (over (of_stmt w) rest)

pub stmt_begun : (w : StatementContext) (stmts : List Stmt) → first_pos (over (of_stmt w) stmts) ≡ first_pos (misplaced w (block stmts))
stmt_begun w stmts = ap first_pos (sym (stmts_behind w NoStatement stmts))

pub stmt_found : (w : StatementContext) (xs : List Stmt) (i : ℕ) (x : Stmt) (at : Pos) (whole : Option Pos) → i < length xs → x ≡ get_or xs i x → Some at ≡ first_pos (misplaced_in w (statement x)) → first_pos (over (of_stmt w) (drop i xs)) ≡ whole → Some at ≡ whole
stmt_found w = over_found (of_stmt w)

pub stmt_on : (w : StatementContext) (xs : List Stmt) (i : ℕ) (x : Stmt) (whole : Option Pos) → i < length xs → x ≡ get_or xs i x → None ≡ first_pos (misplaced_in w (statement x)) → first_pos (over (of_stmt w) (drop i xs)) ≡ whole → first_pos (over (of_stmt w) (drop (i + 1) xs)) ≡ whole
stmt_on w = over_on (of_stmt w)

pub stmt_none : (w : StatementContext) (xs : List Stmt) (i : ℕ) (whole : Option Pos) → length xs ≤ i → first_pos (over (of_stmt w) (drop i xs)) ≡ whole → None ≡ whole
stmt_none w = over_none (of_stmt w)

branches_are : (w : StatementContext) (before : Branches) (all : List branch.Branch) → misplaced_branches w (branches_behind before all) ≡ misplaced_branches w before ++ over (of_branch w) all
branches_are w before [] = sym (append-nil (misplaced_branches w before))
branches_are w before (branch.Branch' at condition p n body ∷ rest) = branches_are w (Branch before at (tree condition.value) (block_on NoStatement body)) rest ∙ append_assoc (misplaced_branches w before) (of_branch w (branch.Branch' at condition p n body)) (over (of_branch w) rest)

pub branch_begun : (w : StatementContext) (all : List branch.Branch) → first_pos (over (of_branch w) all) ≡ first_pos (misplaced_branches w (branches all))
branch_begun w all = ap first_pos (sym (branches_are w NoBranch all))

pub branch_found : (w : StatementContext) (xs : List branch.Branch) (i : ℕ) (x : branch.Branch) (at : Pos) (whole : Option Pos) → i < length xs → x ≡ get_or xs i x → Some at ≡ first_pos (of_branch w x) → first_pos (over (of_branch w) (drop i xs)) ≡ whole → Some at ≡ whole
branch_found w = over_found (of_branch w)

pub branch_on : (w : StatementContext) (xs : List branch.Branch) (i : ℕ) (x : branch.Branch) (whole : Option Pos) → i < length xs → x ≡ get_or xs i x → None ≡ first_pos (of_branch w x) → first_pos (over (of_branch w) (drop i xs)) ≡ whole → first_pos (over (of_branch w) (drop (i + 1) xs)) ≡ whole
branch_on w = over_on (of_branch w)

pub branch_none : (w : StatementContext) (xs : List branch.Branch) (i : ℕ) (whole : Option Pos) → length xs ≤ i → first_pos (over (of_branch w) (drop i xs)) ≡ whole → None ≡ whole
branch_none w = over_none (of_branch w)

branch_rolled : (w : StatementContext) (b : branch.Branch) → of_branch w (roll-Branch (out-Branch b)) ≡ in_tree (tree (out-Branch b).condition.value) ++ misplaced w (block (out-Branch b).body.value.items)
unfolding roll-Branch denote.Hole.Carrier.roll hidden-the_row-Stmt-1
branch_rolled w b = ap (λ x. in_tree (tree (out-Branch b).condition.value) ++ misplaced w x) (block_hidden (out-Branch b).body.value)

pub branch_is : (w : StatementContext) (b : branch.Branch) → of_branch w b ≡ in_tree (tree (out-Branch b).condition.value) ++ misplaced w (block (out-Branch b).body.value.items)
branch_is w b = subst (λ y. of_branch w y ≡ in_tree (tree (out-Branch b).condition.value) ++ misplaced w (block (out-Branch b).body.value.items)) (roll-out-Branch b) (branch_rolled w b)

pub branch_found_in : (w : StatementContext) (xs : List branch.Branch) (i : ℕ) (x : branch.Branch) (at : Pos) (whole : Option Pos) → i < length xs → x ≡ get_or xs i x → Some at ≡ first_pos (in_tree (tree (out-Branch x).condition.value) ++ misplaced w (block (out-Branch x).body.value.items)) → first_pos (over (of_branch w) (drop i xs)) ≡ whole → Some at ≡ whole
branch_found_in w xs i x at whole h e p v = branch_found w xs i x at whole h e (p ∙ ap first_pos (sym (branch_is w x))) v

pub branch_on_in : (w : StatementContext) (xs : List branch.Branch) (i : ℕ) (x : branch.Branch) (whole : Option Pos) → i < length xs → x ≡ get_or xs i x → None ≡ first_pos (in_tree (tree (out-Branch x).condition.value) ++ misplaced w (block (out-Branch x).body.value.items)) → first_pos (over (of_branch w) (drop i xs)) ≡ whole → first_pos (over (of_branch w) (drop (i + 1) xs)) ≡ whole
branch_on_in w xs i x whole h e p v = branch_on w xs i x whole h e (p ∙ ap first_pos (sym (branch_is w x))) v

-- HANDLERS, of which only the last may take all exceptions
abbrev pub is_last : {A : Type 0} → List A → Bool
is_last [] = true
is_last (x ∷ rest) = false

abbrev pub handler_list : StatementContext → List handler.Handler → List Pos
handler_list w [] = []
handler_list w (h ∷ rest) = of_handler w (is_last rest) h ++ handler_list w rest

handlers_are : (w : StatementContext) (before : Handlers) (h : handler.Handler) (rest : List handler.Handler) → misplaced_handlers w true (handlers_behind before (h ∷ rest)) ≡ misplaced_handlers w false before ++ handler_list w (h ∷ rest)
handlers_are w before (handler.Handler' at class name p n body) [] = ap (λ x. misplaced_handlers w false before ++ x) (sym (append-nil (of_handler w true (handler.Handler' at class name p n body))))
handlers_are w before (handler.Handler' at class name p n body) (k ∷ rest) = handlers_are w (Handler before at (some_tree class) name (block_on NoStatement body)) k rest ∙ append_assoc (misplaced_handlers w false before) (of_handler w false (handler.Handler' at class name p n body)) (handler_list w (k ∷ rest))

pub handler_begun : (w : StatementContext) (all : List handler.Handler) → first_pos (handler_list w all) ≡ first_pos (misplaced_handlers w true (handlers all))
handler_begun w [] = refl
handler_begun w (h ∷ rest) = ap first_pos (sym (handlers_are w NoHandler h rest))

handler_rolled : (w : StatementContext) (last : Bool) (h : handler.Handler) → of_handler w last (roll-Handler (out-Handler h)) ≡ unless (last || is_present (some_tree (out-Handler h).class)) (out-Handler h).at ++ (in_maybe (some_tree (out-Handler h).class) ++ misplaced (without_yield w) (block (out-Handler h).body.value.items))
unfolding roll-Handler denote.Hole.Carrier.roll out-Handler
handler_rolled w last h = ap (λ x. unless (last || is_present (some_tree (out-Handler h).class)) (out-Handler h).at ++ (in_maybe (some_tree (out-Handler h).class) ++ misplaced (without_yield w) x)) (block_hidden (out-Handler h).body.value)

handler_is : (w : StatementContext) (last : Bool) (h : handler.Handler) → of_handler w last h ≡ unless (last || is_present (some_tree (out-Handler h).class)) (out-Handler h).at ++ (in_maybe (some_tree (out-Handler h).class) ++ misplaced (without_yield w) (block (out-Handler h).body.value.items))
handler_is w last h = subst (λ y. of_handler w last y ≡ unless (last || is_present (some_tree (out-Handler h).class)) (out-Handler h).at ++ (in_maybe (some_tree (out-Handler h).class) ++ misplaced (without_yield w) (block (out-Handler h).body.value.items))) (roll-out-Handler h) (handler_rolled w last h)

abbrev pub handler_places : StatementContext → Bool → handler.Handler → Option Pos
handler_places w last h = first_pos (unless (last || is_present (some_tree (out-Handler h).class)) (out-Handler h).at ++ (in_maybe (some_tree (out-Handler h).class) ++ misplaced (without_yield w) (block (out-Handler h).body.value.items)))

handler_step : (w : StatementContext) (h : handler.Handler) (rest : List handler.Handler) → first_pos (handler_list w (h ∷ rest)) ≡ sooner (handler_places w (is_last rest) h) (first_pos (handler_list w rest))
handler_step w h rest = first_append (of_handler w (is_last rest) h) (handler_list w rest) ∙ ap (λ x. sooner (first_pos x) (first_pos (handler_list w rest))) (handler_is w (is_last rest) h)

further_on : (n : ℕ) → eqb (suc n) 0 ≡ false
further_on n = grind (arith, nat_tests)

last_is : {A : Type 0} (all : List A) (i n : ℕ) (x : A) → n + i ≡ length all → eqb n 0 ≡ is_last (drop i all)
last_is all i zero x h = sym (at_drop_all is_last all i (omega arith))
last_is all i (suc n) x h = further_on n ∙ sym (at_drop_more is_last all i x (omega arith))

handler_at : (w : StatementContext) (all : List handler.Handler) (i n : ℕ) (h : handler.Handler) → i < length all → n + (i + 1) ≡ length all → h ≡ get_or all i h → first_pos (handler_list w (drop i all)) ≡ sooner (handler_places w (eqb n 0) h) (first_pos (handler_list w (drop (i + 1) all)))
handler_at w all i n h t l is = at_drop_more (λ xs. first_pos (handler_list w xs)) all i h t ∙ ap (λ x. first_pos (handler_list w (x ∷ drop (i + 1) all))) (sym is) ∙ handler_step w h (drop (i + 1) all) ∙ ap (λ b. sooner (handler_places w b h) (first_pos (handler_list w (drop (i + 1) all)))) (sym (last_is all (i + 1) n h l))

pub handler_over : (w : StatementContext) (all : List handler.Handler) (i : ℕ) (whole : Option Pos) → length all ≤ i → first_pos (handler_list w (drop i all)) ≡ whole → None ≡ whole
handler_over w all i whole h q = sym (at_drop_all (λ xs. first_pos (handler_list w xs)) all i h) ∙ q

pub handler_found : (w : StatementContext) (all : List handler.Handler) (i n : ℕ) (h : handler.Handler) (at : Pos) (whole : Option Pos) → i < length all → n + (i + 1) ≡ length all → h ≡ get_or all i h → Some at ≡ handler_places w (eqb n 0) h → first_pos (handler_list w (drop i all)) ≡ whole → Some at ≡ whole
handler_found w all i n h at whole t l is q r = ap (λ x. sooner x (first_pos (handler_list w (drop (i + 1) all)))) q ∙ sym (handler_at w all i n h t l is) ∙ r

pub handler_on : (w : StatementContext) (all : List handler.Handler) (i n : ℕ) (h : handler.Handler) (whole : Option Pos) → i < length all → n + (i + 1) ≡ length all → h ≡ get_or all i h → None ≡ handler_places w (eqb n 0) h → first_pos (handler_list w (drop i all)) ≡ whole → first_pos (handler_list w (drop (i + 1) all)) ≡ whole
handler_on w all i n h whole t l is q r = ap (λ x. sooner x (first_pos (handler_list w (drop (i + 1) all)))) q ∙ sym (handler_at w all i n h t l is) ∙ r

-- PARAMETERS
abbrev pub param_places : (globals before : List (List ℕ)) (defaulted : Bool) → Param → Option Pos
param_places globals before defaulted p = first_pos (unless (not ((is_among before p.name || is_among globals p.name) || (defaulted && not (is_present (some_tree p.default))))) p.at ++ (in_maybe (some_tree p.annotation) ++ in_maybe (some_tree p.default)))

abbrev pub param_list : (globals before : List (List ℕ)) (defaulted : Bool) → List Param → Option Pos
param_list globals before defaulted ps = first_pos (in_params globals before defaulted (parameters ps))

param_cons : (globals before : List (List ℕ)) (defaulted : Bool) (p : Param) (rest : List Param) → param_list globals before defaulted (p ∷ rest) ≡ sooner (param_places globals before defaulted p) (param_list globals (before ++ p.name ∷ []) (defaulted || is_present (some_tree p.default)) rest)
param_cons globals before defaulted p rest =
    ap first_pos (sym (append_assoc (allowed) (in_maybe (some_tree p.annotation) ++ in_maybe (some_tree p.default)) further ∙ ap (λ x. allowed ++ x) (append_assoc (in_maybe (some_tree p.annotation)) (in_maybe (some_tree p.default)) further)))
    ∙ first_append (allowed ++ (in_maybe (some_tree p.annotation) ++ in_maybe (some_tree p.default))) further
  where
    allowed : List Pos
    allowed = unless (not ((is_among before p.name || is_among globals p.name) || (defaulted && not (is_present (some_tree p.default))))) p.at

    further : List Pos
    further = in_params globals (before ++ p.name ∷ []) (defaulted || is_present (some_tree p.default)) (parameters rest)

param_step : (globals before : List (List ℕ)) (defaulted : Bool) (ps : List Param) (i : ℕ) (p : Param) → i < length ps → p ≡ get_or ps i p → param_list globals before defaulted (drop i ps) ≡ sooner (param_places globals before defaulted p) (param_list globals (before ++ p.name ∷ []) (defaulted || is_present (some_tree p.default)) (drop (i + 1) ps))
param_step globals before defaulted ps i p h q = at_drop_more (param_list globals before defaulted) ps i p h ∙ ap (λ y. param_list globals before defaulted (y ∷ drop (i + 1) ps)) (sym q) ∙ param_cons globals before defaulted p (drop (i + 1) ps)

pub param_found : (globals before : List (List ℕ)) (defaulted : Bool) (ps : List Param) (i : ℕ) (p : Param) (at : Pos) (whole : Option Pos) → i < length ps → p ≡ get_or ps i p → Some at ≡ param_places globals before defaulted p → param_list globals before defaulted (drop i ps) ≡ whole → Some at ≡ whole
param_found globals before defaulted ps i p at whole h q r w = ap (λ x. sooner x (param_list globals (before ++ p.name ∷ []) (defaulted || is_present (some_tree p.default)) (drop (i + 1) ps))) r ∙ sym (param_step globals before defaulted ps i p h q) ∙ w

pub param_on : (globals before more : List (List ℕ)) (defaulted now : Bool) (ps : List Param) (i : ℕ) (p : Param) (whole : Option Pos) → i < length ps → p ≡ get_or ps i p → None ≡ param_places globals before defaulted p → more ≡ before ++ p.name ∷ [] → now ≡ (defaulted || is_present (some_tree p.default)) → param_list globals before defaulted (drop i ps) ≡ whole → param_list globals more now (drop (i + 1) ps) ≡ whole
param_on globals before more defaulted now ps i p whole h q r m d w = ap (λ x. param_list globals x now (drop (i + 1) ps)) m ∙ ap (λ x. param_list globals (before ++ p.name ∷ []) x (drop (i + 1) ps)) d ∙ ap (λ x. sooner x (param_list globals (before ++ p.name ∷ []) (defaulted || is_present (some_tree p.default)) (drop (i + 1) ps))) r ∙ sym (param_step globals before defaulted ps i p h q) ∙ w

pub param_none : (globals before : List (List ℕ)) (defaulted : Bool) (ps : List Param) (i : ℕ) (whole : Option Pos) → length ps ≤ i → param_list globals before defaulted (drop i ps) ≡ whole → None ≡ whole
param_none globals before defaulted ps i whole h w = sym (at_drop_all (param_list globals before defaulted) ps i h) ∙ w

-- DEFINITIONS, as the code meets them
def_rolled : (at : Pos) (f : Rc Function Global) → statement_at at (v.Def (record { ptr = f.ptr; value = roll-Function (out-Function f.value) })) ≡ Def at (trees (out-Function f.value).decorators.value.items) (out-Function f.value).at (out-Function f.value).name (parameters (out-Function f.value).params.value.items) (some_tree (out-Function f.value).returns) (block (out-Function f.value).body.value.items)
unfolding roll-Function denote.Hole.Carrier.roll hidden-the_row-Stmt-1
def_rolled at f = ap (λ b. Def at (trees (out-Function f.value).decorators.value.items) (out-Function f.value).at (out-Function f.value).name (parameters (out-Function f.value).params.value.items) (some_tree (out-Function f.value).returns) b) (block_hidden (out-Function f.value).body.value)

def_tree : (at : Pos) (f : Rc Function Global) → statement_at at (v.Def f) ≡ Def at (trees (out-Function f.value).decorators.value.items) (out-Function f.value).at (out-Function f.value).name (parameters (out-Function f.value).params.value.items) (some_tree (out-Function f.value).returns) (block (out-Function f.value).body.value.items)
def_tree at f = subst (λ y. statement_at at (v.Def (record { ptr = f.ptr; value = y })) ≡ Def at (trees (out-Function f.value).decorators.value.items) (out-Function f.value).at (out-Function f.value).name (parameters (out-Function f.value).params.value.items) (some_tree (out-Function f.value).returns) (block (out-Function f.value).body.value.items)) (roll-out-Function f.value) (def_rolled at f)

pub def_is : (w : StatementContext) (at : Pos) (f : Rc Function Global) → first_pos (misplaced_in w (statement_at at (v.Def f))) ≡ first_pos (unless (not (is_function w.scope)) at ++ (in_trees (trees (out-Function f.value).decorators.value.items) ++ (in_params (globals_of (block (out-Function f.value).body.value.items)) [] false (parameters (out-Function f.value).params.value.items) ++ (in_maybe (some_tree (out-Function f.value).returns) ++ misplaced in_function (block (out-Function f.value).body.value.items)))))
def_is w at f = ap (λ s. first_pos (misplaced_in w s)) (def_tree at f)

class_rolled : (at : Pos) (r : Rc Class Global) → statement_at at (v.Class (record { ptr = r.ptr; value = roll-Class (out-Class r.value) })) ≡ t.Class at (trees (out-Class r.value).decorators.value.items) (out-Class r.value).at (out-Class r.value).name (some_tree (out-Class r.value).base) (block (out-Class r.value).body.value.items)
unfolding roll-Class denote.Hole.Carrier.roll hidden-the_row-Stmt-1
class_rolled at r = ap (λ b. t.Class at (trees (out-Class r.value).decorators.value.items) (out-Class r.value).at (out-Class r.value).name (some_tree (out-Class r.value).base) b) (block_hidden (out-Class r.value).body.value)

class_tree : (at : Pos) (r : Rc Class Global) → statement_at at (v.Class r) ≡ t.Class at (trees (out-Class r.value).decorators.value.items) (out-Class r.value).at (out-Class r.value).name (some_tree (out-Class r.value).base) (block (out-Class r.value).body.value.items)
class_tree at r = subst (λ y. statement_at at (v.Class (record { ptr = r.ptr; value = y })) ≡ t.Class at (trees (out-Class r.value).decorators.value.items) (out-Class r.value).at (out-Class r.value).name (some_tree (out-Class r.value).base) (block (out-Class r.value).body.value.items)) (roll-out-Class r.value) (class_rolled at r)

pub class_is : (w : StatementContext) (at : Pos) (r : Rc Class Global) → first_pos (misplaced_in w (statement_at at (v.Class r))) ≡ first_pos (unless (is_module w.scope) at ++ (in_trees (trees (out-Class r.value).decorators.value.items) ++ (in_maybe (some_tree (out-Class r.value).base) ++ misplaced in_class (block (out-Class r.value).body.value.items))))
class_is w at r = ap (λ s. first_pos (misplaced_in w s)) (class_tree at r)

-- FORM BY FORM: what the calls gave, and what they say of the parts
abbrev pub def_places : StatementContext → Pos → Function → Option Pos
def_places w at f = first_pos (unless (not (is_function w.scope)) at ++ (in_trees (trees (out-Function f).decorators.value.items) ++ (in_params (globals_of (block (out-Function f).body.value.items)) [] false (parameters (out-Function f).params.value.items) ++ (in_maybe (some_tree (out-Function f).returns) ++ misplaced in_function (block (out-Function f).body.value.items)))))

abbrev pub class_places : StatementContext → Pos → Class → Option Pos
class_places w at r = first_pos (unless (is_module w.scope) at ++ (in_trees (trees (out-Class r).decorators.value.items) ++ (in_maybe (some_tree (out-Class r).base) ++ misplaced in_class (block (out-Class r).body.value.items))))

pub moved : {E : Type 0} (r : Result (Option Pos) E) (ps qs : List Pos) → ps ≡ qs → IfOk r (λ p. p ≡ first_pos ps) → IfOk r (λ p. p ≡ first_pos qs)
moved r ps qs e h = subst (λ (z : List Pos). IfOk r (λ p. p ≡ first_pos z)) e h

abbrev pub class_row : Bool → StatementContext → Pos → Class → List Pos
class_row b u at r = unless b at ++ (in_trees (trees (out-Class r).decorators.value.items) ++ (in_maybe (some_tree (out-Class r).base) ++ misplaced u (block (out-Class r).body.value.items)))

pub class_joined : {E : Type 0} (w : StatementContext) (at : Pos) (k : Class) (b : Bool) (u : StatementContext) (r : Result (Option Pos) E) → b ≡ is_module w.scope → u ≡ in_class → IfOk r (λ p. p ≡ first_pos (class_row b u at k)) → IfOk r (λ p. p ≡ class_places w at k)
class_joined w at k b u r e q h = moved r (class_row b u at k) (class_row (is_module w.scope) in_class at k) (ap (λ b. class_row b u at k) e ∙ ap (λ u. class_row (is_module w.scope) u at k) q) h

abbrev pub def_row : Bool → StatementContext → Pos → Function → List Pos
def_row b u at f = unless (not b) at ++ (in_trees (trees (out-Function f).decorators.value.items) ++ (in_params (globals_of (block (out-Function f).body.value.items)) [] false (parameters (out-Function f).params.value.items) ++ (in_maybe (some_tree (out-Function f).returns) ++ misplaced u (block (out-Function f).body.value.items))))

pub def_joined : {E : Type 0} (w : StatementContext) (at : Pos) (f : Function) (b : Bool) (u : StatementContext) (r : Result (Option Pos) E) → b ≡ is_function w.scope → u ≡ in_function → IfOk r (λ p. p ≡ first_pos (def_row b u at f)) → IfOk r (λ p. p ≡ def_places w at f)
def_joined w at f b u r e q h = moved r (def_row b u at f) (def_row (is_function w.scope) in_function at f) (ap (λ b. def_row b u at f) e ∙ ap (λ u. def_row (is_function w.scope) u at f) q) h

abbrev pub handler_row : Bool → StatementContext → handler.Handler → List Pos
handler_row b u h = unless b (out-Handler h).at ++ (in_maybe (some_tree (out-Handler h).class) ++ misplaced u (block (out-Handler h).body.value.items))

pub handler_joined : {E : Type 0} (w : StatementContext) (last : Bool) (x : handler.Handler) (b : Bool) (u : StatementContext) (r : Result (Option Pos) E) → b ≡ (last || is_present (some_tree (out-Handler x).class)) → u ≡ without_yield w → IfOk r (λ p. p ≡ first_pos (handler_row b u x)) → IfOk r (λ p. p ≡ handler_places w last x)
handler_joined w last x b u r e q h = moved r (handler_row b u x) (handler_row (last || is_present (some_tree (out-Handler x).class)) (without_yield w) x) (ap (λ b. handler_row b u x) e ∙ ap (λ u. handler_row (last || is_present (some_tree (out-Handler x).class)) u x) q) h

abbrev pub param_row : Bool → Param → List Pos
param_row b p = unless b p.at ++ (in_maybe (some_tree p.annotation) ++ in_maybe (some_tree p.default))

pub param_joined : {E : Type 0} (globals before : List (List ℕ)) (defaulted : Bool) (p : Param) (b : Bool) (r : Result (Option Pos) E) → b ≡ not ((is_among before p.name || is_among globals p.name) || (defaulted && not (is_present (some_tree p.default)))) → IfOk r (λ x. x ≡ first_pos (param_row b p)) → IfOk r (λ x. x ≡ param_places globals before defaulted p)
param_joined globals before defaulted p b r e h = moved r (param_row b p) (param_row (not ((is_among before p.name || is_among globals p.name) || (defaulted && not (is_present (some_tree p.default))))) p) (ap (λ b. param_row b p) e) h

two_parts : (a b x y : List Pos) → a ≡ x → b ≡ y → a ++ b ≡ x ++ y
two_parts a b x y p q = rw (p, q) refl

four_parts : (a b c d x y z u : List Pos) → a ≡ x → b ≡ y → c ≡ z → d ≡ u → a ++ (b ++ (c ++ d)) ≡ x ++ (y ++ (z ++ u))
four_parts a b c d x y z u p q r s = rw (p, q, r, s) refl

module _ (w : StatementContext) (at : Pos) (kind : StmtKind) where
  of_places : {E : Type 0} (k : StmtKind) (ps : List Pos) (r : Result (Option Pos) E) → kind ≡ k → ps ≡ misplaced_in w (statement_at at k) → IfOk r (λ p. p ≡ first_pos ps) → IfOk r (λ p. p ≡ first_pos (misplaced_in w (statement_at at kind)))
  of_places k ps r is e h = rw is (subst (λ (z : List Pos). IfOk r (λ p. p ≡ first_pos z)) e h)

  pub of_kind : {E : Type 0} (k : StmtKind) (r : Result (Option Pos) E) → kind ≡ k → IfOk r (λ p. p ≡ first_pos (misplaced_in w (statement_at at k))) → IfOk r (λ p. p ≡ first_pos (misplaced_in w (statement_at at kind)))
  of_kind k r is h = rw is h

  pub loop_form : {E : Type 0} (r : Result (Option Pos) E) → (kind ≡ v.Break) ⊎ (kind ≡ v.Continue) → IfOk r (λ p. p ≡ first_pos (unless w.in_loop at)) → IfOk r (λ p. p ≡ first_pos (misplaced_in w (statement_at at kind)))
  loop_form r (inl is) h = rw is h
  loop_form r (inr is) h = rw is h

  pub global_form : {E : Type 0} (names : Rc (Vec (List ℕ) Global) Global) (b : Bool) (r : Result (Option Pos) E) → kind ≡ v.Global names → b ≡ is_function w.scope → IfOk r (λ p. p ≡ first_pos (unless b at)) → IfOk r (λ p. p ≡ first_pos (misplaced_in w (statement_at at kind)))
  global_form names b r is e h = of_places (v.Global names) (unless b at) r is (ap (λ b. unless b at) e) h

  pub import_form : {E : Type 0} (names : Rc (Vec (List ℕ) Global) Global) (alias : Option (List ℕ)) (ns : List (List ℕ)) (b : Bool) (r : Result (Option Pos) E) → kind ≡ v.Import names alias → ns ≡ names.value.items → b ≡ is_bound ns alias → IfOk r (λ p. p ≡ first_pos (unless b at)) → IfOk r (λ p. p ≡ first_pos (misplaced_in w (statement_at at kind)))
  import_form names alias ns b r is q e h = of_places (v.Import names alias) (unless b at) r is (ap (λ b. unless b at) (e ∙ ap (λ n. is_bound n alias) q)) h

  pub if_form : {E : Type 0} (all : Rc (Vec branch.Branch Global) Global) (other : Rc (Vec Stmt Global) Global) (xs : List branch.Branch) (r : Result (Option Pos) E) → kind ≡ v.If all other → xs ≡ all.value.items → IfOk r (λ p. p ≡ first_pos (misplaced_branches w (branches xs) ++ misplaced w (block other.value.items))) → IfOk r (λ p. p ≡ first_pos (misplaced_in w (statement_at at kind)))
  if_form all other xs r is e h = of_places (v.If all other) (misplaced_branches w (branches xs) ++ misplaced w (block other.value.items)) r is (two_parts _ _ _ _ (ap (λ s. misplaced_branches w (branches s)) e ∙ ap (misplaced_branches w) (sym (branches_hidden all.value))) (ap (misplaced w) (sym (block_hidden other.value)))) h

  pub while_form : {E : Type 0} (e : Rc Expr Global) (body : Rc (Vec Stmt Global) Global) (u : StatementContext) (r : Result (Option Pos) E) → kind ≡ v.While e body → u ≡ in_loop_of w → IfOk r (λ p. p ≡ first_pos (in_tree (tree e.value) ++ misplaced u (block body.value.items))) → IfOk r (λ p. p ≡ first_pos (misplaced_in w (statement_at at kind)))
  while_form e body u r is q h = of_places (v.While e body) (in_tree (tree e.value) ++ misplaced u (block body.value.items)) r is (ap (λ u. in_tree (tree e.value) ++ misplaced u (block body.value.items)) q ∙ ap (λ x. in_tree (tree e.value) ++ misplaced (in_loop_of w) x) (sym (block_hidden body.value))) h

  pub with_form : {E : Type 0} (e : Rc Expr Global) (name : Option (List ℕ)) (body : Rc (Vec Stmt Global) Global) (u : StatementContext) (r : Result (Option Pos) E) → kind ≡ v.With e name body → u ≡ without_yield w → IfOk r (λ p. p ≡ first_pos (in_tree (tree e.value) ++ misplaced u (block body.value.items))) → IfOk r (λ p. p ≡ first_pos (misplaced_in w (statement_at at kind)))
  with_form e name body u r is q h = of_places (v.With e name body) (in_tree (tree e.value) ++ misplaced u (block body.value.items)) r is (ap (λ u. in_tree (tree e.value) ++ misplaced u (block body.value.items)) q ∙ ap (λ x. in_tree (tree e.value) ++ misplaced (without_yield w) x) (sym (block_hidden body.value))) h

  pub for_form : {E : Type 0} (t : Target) (e : Rc Expr Global) (body : Rc (Vec Stmt Global) Global) (u : StatementContext) (r : Result (Option Pos) E) → kind ≡ v.For t e body → u ≡ in_loop_of w → IfOk r (λ p. p ≡ first_pos (in_taker (taker t) ++ (in_tree (tree e.value) ++ misplaced u (block body.value.items)))) → IfOk r (λ p. p ≡ first_pos (misplaced_in w (statement_at at kind)))
  for_form t e body u r is q h = of_places (v.For t e body) (in_taker (taker t) ++ (in_tree (tree e.value) ++ misplaced u (block body.value.items))) r is (ap (λ u. in_taker (taker t) ++ (in_tree (tree e.value) ++ misplaced u (block body.value.items))) q ∙ ap (λ x. in_taker (taker t) ++ (in_tree (tree e.value) ++ misplaced (in_loop_of w) x)) (sym (block_hidden body.value))) h

  pub try_form : {E : Type 0} (body : Rc (Vec Stmt Global) Global) (all : Rc (Vec handler.Handler Global) Global) (other final : Rc (Vec Stmt Global) Global) (hs : List handler.Handler) (u z : StatementContext) (r : Result (Option Pos) E) → kind ≡ v.Try body all other final → hs ≡ all.value.items → u ≡ without_yield w → z ≡ without_yield w → IfOk r (λ p. p ≡ first_pos (misplaced w (block body.value.items) ++ (misplaced_handlers w true (handlers hs) ++ (misplaced u (block other.value.items) ++ misplaced z (block final.value.items))))) → IfOk r (λ p. p ≡ first_pos (misplaced_in w (statement_at at kind)))
  try_form body all other final hs u z r is e p q h = of_places (v.Try body all other final) (misplaced w (block body.value.items) ++ (misplaced_handlers w true (handlers hs) ++ (misplaced u (block other.value.items) ++ misplaced z (block final.value.items)))) r is
      (four_parts _ _ _ _ _ _ _ _ (ap (misplaced w) (sym (block_hidden body.value))) (ap (λ s. misplaced_handlers w true (handlers s)) e ∙ ap (misplaced_handlers w true) (sym (handlers_hidden all.value))) (ap (λ u. misplaced u (block other.value.items)) p ∙ ap (misplaced (without_yield w)) (sym (block_hidden other.value))) (ap (λ u. misplaced u (block final.value.items)) q ∙ ap (misplaced (without_yield w)) (sym (block_hidden final.value)))) h

  pub def_form : {E : Type 0} (f : Rc Function Global) (g : Function) (r : Result (Option Pos) E) → kind ≡ v.Def f → g ≡ f.value → IfOk r (λ p. p ≡ def_places w at g) → IfOk r (λ p. p ≡ first_pos (misplaced_in w (statement_at at kind)))
  def_form f g r is e h = rw is (subst (λ (z : Option Pos). IfOk r (λ p. p ≡ z)) (ap (def_places w at) e ∙ sym (def_is w at f)) h)

  pub class_form : {E : Type 0} (k : Rc Class Global) (g : Class) (r : Result (Option Pos) E) → kind ≡ v.Class k → g ≡ k.value → IfOk r (λ p. p ≡ class_places w at g) → IfOk r (λ p. p ≡ first_pos (misplaced_in w (statement_at at kind)))
  class_form k g r is e h = rw is (subst (λ (z : Option Pos). IfOk r (λ p. p ≡ z)) (ap (class_places w at) e ∙ sym (class_is w at k)) h)
