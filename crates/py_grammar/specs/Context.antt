-- WHERE SOMETHING STANDS THAT MAY NOT STAND THERE (Language Reference, calls; the return, yield, break, continue, global and import statements; the try statement; function and class definitions). That a function stands in no function, a class in neither, and where a yield may stand, are this language's own rules. All places are one list in the order of the text.
use Rattle.std.specs.Prelude.{ℕ, Bool, true, false, not, ◌||◌, ◌&&◌, cond, List, [], ◌∷◌, ◌++◌, Option, Some, None}
use Rattle.py_source.specs.declared.pos.Pos.{Pos}
use Rattle.py_tree.specs.declared.expr.ArgName.{ArgName}
use Rattle.py_tree.specs.Trees as t
use Rattle.py_tree.specs.Trees.{Tree, Trees, Maybe, Absent, Present, Empty, More}
use Rattle.py_tree.specs.Statements.{Place, NamePlace, AttributePlace, SubscriptPlace, Taker, One, Unpack, Parameter, Parameter_at, Statement, Block, Branches, Handlers, NoStatement, Next, NoBranch, Branch, NoHandler, Handler, Do, Assign, AssignYield, AugAssign, Return, ReturnYield, Raise, Assert, Del, GlobalOf, Pass, Break, Continue, YieldOf, Import, ImportFrom, If, While, For, Try, With, Def, Class}
use Rattle.py_tree.specs.Names.{is_among, globals_of}
use Rattle.py_expressions.specs.Values.{at_of}

-- this place, unless b holds
abbrev pub unless : Bool → Pos → List Pos
unless b at = cond b [] (at ∷ [])

abbrev pub is_present : Maybe → Bool
is_present Absent = false
is_present (Present e) = true

-- EXPRESSIONS. Of some expressions: where each begins, and the places in it
abbrev pub all_places : List (Pos × List Pos) → List Pos
all_places [] = []
all_places (x ∷ xs) = x.1 ++ all_places xs

-- of keys and the value of each
abbrev pub by_turns : List (Pos × List Pos) → List (Pos × List Pos) → List Pos
by_turns [] ys = all_places ys
by_turns (x ∷ xs) [] = x.1 ++ all_places xs
by_turns (x ∷ xs) (y ∷ ys) = x.1 ++ (y.1 ++ by_turns xs ys)

-- Arguments: none without a name stands behind one with a name, and no name is given twice. before: the names so far.
abbrev pub is_first : List (List ℕ) → Bool
is_first [] = true
is_first (name ∷ rest) = false

abbrev pub wrong_arguments : (before : List (List ℕ)) → List (Option ArgName) → List (Pos × List Pos) → List Pos
wrong_arguments before names [] = []
wrong_arguments before [] (x ∷ xs) = x.1 ++ wrong_arguments before [] xs
wrong_arguments before (None ∷ names) (x ∷ xs) = unless (is_first before) x.0 ++ (x.1 ++ wrong_arguments before names xs)
wrong_arguments before (Some n ∷ names) (x ∷ xs) = unless (not (is_among before n.name)) n.at ++ (x.1 ++ wrong_arguments (before ++ n.name ∷ []) names xs)

abbrev mutual
  pub in_tree : Tree → List Pos
  in_tree (t.Name at n) = []
  in_tree (t.Number at n) = []
  in_tree (t.Text at x) = []
  in_tree (t.True at) = []
  in_tree (t.False at) = []
  in_tree (t.NoneTree at) = []
  in_tree (t.Paren at e) = in_tree e
  in_tree (t.Tuple at es) = all_places (places_of_each es)
  in_tree (t.Listed at es) = all_places (places_of_each es)
  in_tree (t.Dict at ks es) = by_turns (places_of_each ks) (places_of_each es)
  in_tree (t.Attribute at e n) = in_tree e
  in_tree (t.Call at f es names) = in_tree f ++ wrong_arguments [] names (places_of_each es)
  in_tree (t.Subscript at e i) = in_tree e ++ in_tree i
  in_tree (t.Slice at e x y z) = in_tree e ++ (in_maybe x ++ (in_maybe y ++ in_maybe z))
  in_tree (t.Unary at op e) = in_tree e
  in_tree (t.Binary at l op r) = in_tree l ++ in_tree r
  in_tree (t.Compare at l ops es) = in_tree l ++ all_places (places_of_each es)
  in_tree (t.Not at e) = in_tree e
  in_tree (t.And at e es) = in_tree e ++ all_places (places_of_each es)
  in_tree (t.Or at e es) = in_tree e ++ all_places (places_of_each es)
  in_tree (t.IfElse at a c b) = in_tree a ++ (in_tree c ++ in_tree b)

  pub places_of_each : Trees → List (Pos × List Pos)
  places_of_each Empty = []
  places_of_each (More es e) = places_of_each es ++ (at_of e, in_tree e) ∷ []

  pub in_maybe : Maybe → List Pos
  in_maybe Absent = []
  in_maybe (Present e) = in_tree e

abbrev pub in_trees : Trees → List Pos
in_trees es = all_places (places_of_each es)

-- TARGETS
abbrev pub in_place : Place → List Pos
in_place (NamePlace at n) = []
in_place (AttributePlace at e n) = in_tree e
in_place (SubscriptPlace at e i) = in_tree e ++ in_tree i

abbrev pub in_places : List Place → List Pos
in_places [] = []
in_places (p ∷ ps) = in_place p ++ in_places ps

abbrev pub in_taker : Taker → List Pos
in_taker (One p) = in_place p
in_taker (Unpack ps) = in_places ps

abbrev pub in_takers : List Taker → List Pos
in_takers [] = []
in_takers (u ∷ us) = in_taker u ++ in_takers us

-- PARAMETERS: none has the name of one before it, or one that the body declares global, and none without a default stands behind one with a default.
abbrev pub in_params : (globals before : List (List ℕ)) (defaulted : Bool) → List Parameter → List Pos
in_params globals before defaulted [] = []
in_params globals before defaulted (Parameter_at at name annotation default ∷ rest) =
    unless (not ((is_among before name || is_among globals name) || (defaulted && not (is_present default)))) at
    ++ (in_maybe annotation ++ (in_maybe default ++ in_params globals (before ++ name ∷ []) (defaulted || is_present default) rest))

-- STATEMENTS stand in a module, in a class, or in a function; in a loop of these, or not; and where a yield may stand, or not.
pub data Scope : Type 0 where
  OfModule : Scope
  OfClass : Scope
  OfFunction : Scope

pub record StatementContext : Type 0 where
  pub scope : Scope
  pub in_loop : Bool
  pub may_yield : Bool

abbrev pub in_module : StatementContext
in_module = record { scope = OfModule; in_loop = false; may_yield = false }

abbrev pub in_class : StatementContext
in_class = record { scope = OfClass; in_loop = false; may_yield = false }

-- a yield may stand in a function's body, and in the branches of `if` and the bodies of `try` there
abbrev pub in_function : StatementContext
in_function = record { scope = OfFunction; in_loop = false; may_yield = true }

abbrev pub in_loop_of : StatementContext → StatementContext
in_loop_of w = record { scope = w.scope; in_loop = true; may_yield = false }

abbrev pub without_yield : StatementContext → StatementContext
without_yield w = record { scope = w.scope; in_loop = w.in_loop; may_yield = false }

abbrev pub is_function : Scope → Bool
is_function OfModule = false
is_function OfClass = false
is_function OfFunction = true

abbrev pub is_module : Scope → Bool
is_module OfModule = true
is_module OfClass = false
is_module OfFunction = false

-- an import of a dotted name wants a name behind `as`
abbrev pub is_bound : List (List ℕ) → Option (List ℕ) → Bool
is_bound names (Some alias) = true
is_bound [] None = true
is_bound (name ∷ []) None = true
is_bound (name ∷ next ∷ rest) None = false

abbrev mutual
  pub misplaced_in : StatementContext → Statement → List Pos
  misplaced_in w (Do at e) = in_tree e
  misplaced_in w (Assign at us e) = in_takers us ++ in_tree e
  misplaced_in w (AssignYield at us word e) = in_takers us ++ (unless w.may_yield word ++ in_maybe e)
  misplaced_in w (AugAssign at p op e) = in_place p ++ in_tree e
  misplaced_in w (Return at e) = unless (is_function w.scope) at ++ in_maybe e
  misplaced_in w (ReturnYield at word e) = unless (is_function w.scope) at ++ (unless w.may_yield word ++ in_maybe e)
  misplaced_in w (Raise at e) = in_maybe e
  misplaced_in w (Assert at e m) = in_tree e ++ in_maybe m
  misplaced_in w (Del at p) = in_place p
  misplaced_in w (GlobalOf at names) = unless (is_function w.scope) at
  misplaced_in w (Pass at) = []
  misplaced_in w (Break at) = unless w.in_loop at
  misplaced_in w (Continue at) = unless w.in_loop at
  misplaced_in w (YieldOf at word e) = unless w.may_yield word ++ in_maybe e
  misplaced_in w (Import at names alias) = unless (is_bound names alias) at
  misplaced_in w (ImportFrom at names all) = []
  misplaced_in w (If at branches other) = misplaced_branches w branches ++ misplaced w other
  misplaced_in w (While at e body) = in_tree e ++ misplaced (in_loop_of w) body
  misplaced_in w (For at u e body) = in_taker u ++ (in_tree e ++ misplaced (in_loop_of w) body)
  misplaced_in w (Try at body handlers other final) = misplaced w body ++ (misplaced_handlers w true handlers ++ (misplaced (without_yield w) other ++ misplaced (without_yield w) final))
  misplaced_in w (With at e name body) = in_tree e ++ misplaced (without_yield w) body
  misplaced_in w (Def at decorators word name params returns body) =
      unless (not (is_function w.scope)) at ++ (in_trees decorators ++ (in_params (globals_of body) [] false params ++ (in_maybe returns ++ misplaced in_function body)))
  misplaced_in w (Class at decorators word name base body) = unless (is_module w.scope) at ++ (in_trees decorators ++ (in_maybe base ++ misplaced in_class body))

  pub misplaced : StatementContext → Block → List Pos
  misplaced w NoStatement = []
  misplaced w (Next before s) = misplaced w before ++ misplaced_in w s

  pub misplaced_branches : StatementContext → Branches → List Pos
  misplaced_branches w NoBranch = []
  misplaced_branches w (Branch before at e body) = misplaced_branches w before ++ (in_tree e ++ misplaced w body)

  -- only the last may take all exceptions
  pub misplaced_handlers : StatementContext → (last : Bool) → Handlers → List Pos
  misplaced_handlers w last NoHandler = []
  misplaced_handlers w last (Handler before at class name body) = misplaced_handlers w false before ++ (unless (last || is_present class) at ++ (in_maybe class ++ misplaced (without_yield w) body))

-- the first of some places
abbrev pub first_pos : List Pos → Option Pos
first_pos [] = None
first_pos (at ∷ rest) = Some at
