-- WHICH CORE CODE STANDS FOR WHICH SOURCE: the same form with lowered parts, at the same place. An assert stands for an `if` with
-- an empty block, whose `else` is the failure.
use Rattle.std.specs.Prelude.{ℕ, suc, ◌+◌, ◌≡◌, ℤ, Bool, true as explained, false as plain, List, [], ◌∷◌, ◌++◌, drop, Option, Some, None, Vec}
use Rattle.std.specs.declared.alloc.Global.{Global}
use Rattle.std.specs.declared.rc.Rc.{Rc}
use Rattle.py_source.specs.declared.pos.Pos.{Pos}
use Rattle.py_tree.specs.declared.expr.ArgName.{ArgName}
use Rattle.py_tree.specs.declared.op.BinOp.{BinOp}
use Rattle.py_tree.specs.declared.op.UnOp.{UnOp}
use Rattle.py_tree.specs.declared.op.CmpOp.{CmpOp}
use Rattle.py_tree.specs.Trees as t
use Rattle.py_tree.specs.Trees.{Tree, Trees, Empty, More, Maybe, Absent, Present}
use Rattle.py_tree.specs.Statements as st
use Rattle.py_tree.specs.Statements.{Statement, Block, Branches, NoBranch, Branch, Handlers, NoHandler, Place, NamePlace, AttributePlace, SubscriptPlace, Taker, One, Unpack, Parameter, handlers, takers}
use Rattle.py_tree.specs.Names.{locals_of, yields_in}
use Rattle.py_tree.specs.declared.stmt.Alias.{Alias}
use Rattle.py_tree.specs.declared.stmt.Target.{Target}
use Rattle.py_tree.specs.declared.expr.Expr.{Expr}
use Rattle.py_tree.specs.Trees.{tree}
use Rattle.source_meaning.specs.py_world.Explained.{kept_count}
use Rattle.core_meaning.specs.py_core.declared.expr.CoreExpr.{CoreExpr}
use Rattle.core_meaning.specs.py_core.declared.expr.CoreExprKind as f
use Rattle.core_meaning.specs.py_core.declared.expr.CoreExprKind.{CoreExprKind, Row_of-CoreExprKind-Call-1-1 as Row, items-the_row-CoreExprKind-Call-1-1 as row_items, Held-CoreExprKind-Slice-1 as Held}
use Rattle.core_meaning.specs.py_core.declared.expr.CoreExprKind.TheVariants as v
use Rattle.core_meaning.specs.py_core.declared.stmt.CoreBranch as branch
use Rattle.core_meaning.specs.py_core.declared.stmt.CoreClass as class
use Rattle.core_meaning.specs.py_core.declared.stmt.CoreParam.{CoreParam}
use Rattle.core_meaning.specs.py_core.declared.stmt.CoreFn as fn
use Rattle.core_meaning.specs.py_core.declared.stmt.CoreFn.{CoreFn}
use Rattle.core_meaning.specs.py_core.declared.stmt.Core.{Core}
use Rattle.core_meaning.specs.py_core.declared.stmt.CoreSingle.{CoreSingle}
use Rattle.core_meaning.specs.py_core.declared.stmt.CoreSingleKind.TheVariants as single
use Rattle.core_meaning.specs.py_core.declared.stmt.CoreGuard.{CoreGuard}
use Rattle.core_meaning.specs.py_core.declared.stmt.CoreHandler as handler
use Rattle.core_meaning.specs.py_core.declared.stmt.CoreTarget.{CoreTarget}
use Rattle.core_meaning.specs.py_core.declared.stmt.CoreTarget.TheVariants as target
use Rattle.core_meaning.specs.py_core.declared.stmt.CoreUse.{CoreUse}
use Rattle.core_meaning.specs.py_core.declared.stmt.CoreUse.TheVariants as taken
use Rattle.core_meaning.specs.py_core.declared.stmt.Template.TheVariants.{Plain, Explain}
use Rattle.core_meaning.specs.py_core.declared.stmt.CoreStmt.{CoreStmt}
use Rattle.core_meaning.specs.py_core.declared.stmt.CoreStmtKind as c
use Rattle.core_meaning.specs.py_core.declared.stmt.CoreStmtKind.{CoreStmtKind, Row_of-CoreBranch, items-the_row-CoreBranch}
use Rattle.core_meaning.specs.py_core.declared.stmt.CoreBlock.{CoreBlock}
use Rattle.core_meaning.specs.py_core.Blocks.{stmts_in, explains_in, handlers_in, handlers_source, other_in, last_in}
use Rattle.core_meaning.specs.py_core.declared.stmt.CoreStmtKind.TheVariants as k
use Rattle.py_tree.specs.declared.stmt.Function as f_tree
use Rattle.lower_law.specs.Sourced.{function_in, module_of, sources_in}
use Rattle.source_meaning.specs.Requests as s
use Rattle.source_meaning.specs.Requests.{Script, Function}
use Rattle.core_meaning.specs.Requests as r
use Rattle.source_meaning.specs.Statements.{statements_listed, function, source_written}
use Rattle.core_meaning.specs.Statements.{written as core_written}

-- expressions, the first one first
abbrev pub trees_listed : Trees → List Tree
trees_listed Empty = []
trees_listed (More before e) = trees_listed before ++ e ∷ []

-- the defaults of the parameters that have one, the first one first
abbrev pub with_default : Maybe → List Tree → List Tree
with_default Absent es = es
with_default (Present e) es = e ∷ es

abbrev pub defaults_listed : List Parameter → List Tree
defaults_listed [] = []
defaults_listed (st.Parameter_at at name annotation default ∷ ps) = with_default default (defaults_listed ps)

mutual
  pub data Lowered : Tree → Pos → CoreExprKind → Type 0 where
    name : (at : Pos) (n : List ℕ) → Lowered (t.Name at n) at (v.Name n)
    number : (at : Pos) (n : ℤ) → Lowered (t.Number at n) at (v.Number n)
    text : (at : Pos) (x : List ℕ) → Lowered (t.Text at x) at (v.Text x)
    true : (at : Pos) → Lowered (t.True at) at v.True
    false : (at : Pos) → Lowered (t.False at) at v.False
    none : (at : Pos) → Lowered (t.NoneTree at) at v.None
    paren : (at : Pos) {e : Tree} {p : _} {a : Pos} {x : CoreExprKind} → Lowered e a x → Lowered (t.Paren at e) at (f.Paren' p a x)
    call : (at : Pos) {e : Tree} {es : Trees} {names : List (Option ArgName)} {p q n : _} {a : Pos} {x : CoreExprKind} {row : Row _} {cnames : Rc (Vec (Option ArgName) Global) Global} → cnames.value.items ≡ names → Lowered e a x → LoweredEach (trees_listed es) (row_items _ row) → Lowered (t.Call at e es names) at (f.Call' p a x q n row cnames)
    unary : (at : Pos) (op : UnOp) {e : Tree} {p : _} {a : Pos} {x : CoreExprKind} → Lowered e a x → Lowered (t.Unary at op e) at (f.Unary' op p a x)
    binary : (at : Pos) (op : BinOp) {l r : Tree} {p q : _} {a b : Pos} {x y : CoreExprKind} → Lowered l a x → Lowered r b y → Lowered (t.Binary at l op r) at (f.Binary' p a x op q b y)
    compare : (at : Pos) {e : Tree} {ops : List CmpOp} {es : Trees} {p q n : _} {a : Pos} {x : CoreExprKind} {cops : Rc (Vec CmpOp Global) Global} {row : Row _} → cops.value.items ≡ ops → Lowered e a x → LoweredEach (trees_listed es) (row_items _ row) → Lowered (t.Compare at e ops es) at (f.Compare' p a x cops q n row)
    negation : (at : Pos) {e : Tree} {p : _} {a : Pos} {x : CoreExprKind} → Lowered e a x → Lowered (t.Not at e) at (f.Not' p a x)
    conjunction : (at : Pos) {e : Tree} {es : Trees} {p q n : _} {a : Pos} {x : CoreExprKind} {row : Row _} → Lowered e a x → LoweredEach (trees_listed es) (row_items _ row) → Lowered (t.And at e es) at (f.And' p a x q n row)
    disjunction : (at : Pos) {e : Tree} {es : Trees} {p q n : _} {a : Pos} {x : CoreExprKind} {row : Row _} → Lowered e a x → LoweredEach (trees_listed es) (row_items _ row) → Lowered (t.Or at e es) at (f.Or' p a x q n row)
    choice : (at : Pos) {e b o : Tree} {p q r : _} {a a' a'' : Pos} {x y z : CoreExprKind} → Lowered e a x → Lowered b a' y → Lowered o a'' z → Lowered (t.IfElse at e b o) at (f.IfElse' p a x q a' y r a'' z)
    tuple : (at : Pos) {es : Trees} {p n : _} {row : Row _} → LoweredEach (trees_listed es) (row_items _ row) → Lowered (t.Tuple at es) at (f.Tuple' p n row)
    list : (at : Pos) {es : Trees} {p n : _} {row : Row _} → LoweredEach (trees_listed es) (row_items _ row) → Lowered (t.Listed at es) at (f.List' p n row)
    dict : (at : Pos) {ks es : Trees} {p n q m : _} {keys row : Row _} → LoweredEach (trees_listed ks) (row_items _ keys) → LoweredEach (trees_listed es) (row_items _ row) → Lowered (t.Dict at ks es) at (f.Dict' p n keys q m row)
    attribute : (at : Pos) {e : Tree} {p : _} {a : Pos} {x : CoreExprKind} (name : List ℕ) → Lowered e a x → Lowered (t.Attribute at e name) at (f.Attribute' p a x name)
    subscript : (at : Pos) {e i : Tree} {p q : _} {a b : Pos} {x y : CoreExprKind} → Lowered e a x → Lowered i b y → Lowered (t.Subscript at e i) at (f.Subscript' p a x q b y)
    slice : (at : Pos) {e : Tree} {from to by : Maybe} {p : _} {a : Pos} {x : CoreExprKind} {start stop step : Held} → Lowered e a x → LoweredHeld from start → LoweredHeld to stop → LoweredHeld by step → Lowered (t.Slice at e from to by) at (f.Slice' p a x start stop step)

  -- a bound of a slice
  pub data LoweredHeld : Maybe → Held → Type 0 where
    absent : LoweredHeld Absent f.CoreExprKind-Slice-1-None'
    present : {e : Tree} {p : _} {a : Pos} {x : CoreExprKind} → Lowered e a x → LoweredHeld (Present e) (f.Some' p a x)

  pub data LoweredEach : List Tree → List (Rc CoreExpr Global) → Type 0 where
    nil : LoweredEach [] []
    cons : {e : Tree} {es : List Tree} {x : Rc CoreExpr Global} {xs : List (Rc CoreExpr Global)} → Lowered e x.value.at x.value.kind → LoweredEach es xs → LoweredEach (e ∷ es) (x ∷ xs)

-- A PART OF A CONDITION THAT IS EXPLAINED, whose parts are numbered from n on: what stands for the whole of it is kept
abbrev pub IsLeaf : Tree → Type 0
IsLeaf (t.Paren at e) = ⊥
IsLeaf (t.Call at e es names) = ⊥
IsLeaf (t.Unary at op e) = ⊥
IsLeaf (t.Binary at l op r) = ⊥
IsLeaf (t.Compare at e ops es) = ⊥
IsLeaf (t.Not at e) = ⊥
IsLeaf (t.And at e es) = ⊥
IsLeaf (t.Or at e es) = ⊥
IsLeaf (t.Attribute at e member) = ⊥
IsLeaf (t.Name at n) = Unit {0}
IsLeaf (t.Number at n) = Unit {0}
IsLeaf (t.Text at x) = Unit {0}
IsLeaf (t.True at) = Unit {0}
IsLeaf (t.False at) = Unit {0}
IsLeaf (t.NoneTree at) = Unit {0}
IsLeaf (t.Tuple at es) = Unit {0}
IsLeaf (t.Listed at es) = Unit {0}
IsLeaf (t.Dict at ks es) = Unit {0}
IsLeaf (t.Subscript at e i) = Unit {0}
IsLeaf (t.Slice at e from to by) = Unit {0}
IsLeaf (t.IfElse at e b o) = Unit {0}

mutual
  pub data Watched : ℕ → Tree → Pos → CoreExprKind → Type 0 where
    leaf : (n : ℕ) (b : Pos) {e : Tree} {p : _} {a : Pos} {x : CoreExprKind} → IsLeaf e → Lowered e a x → Watched n e b (f.SetTemp' n p a x)
    paren : (n : ℕ) (at : Pos) {e : Tree} {p : _} {a : Pos} {x : CoreExprKind} → Watched n e a x → Watched n (t.Paren at e) at (f.Paren' p a x)
    call : (n : ℕ) (at b : Pos) {e : Tree} {es : Trees} {names : List (Option ArgName)} {p q r m : _} {a : Pos} {x : CoreExprKind} {row : Row _} {cnames : Rc (Vec (Option ArgName) Global) Global} → cnames.value.items ≡ names → Watched (suc n) e a x → WatchedEach (suc n + kept_count e) (trees_listed es) (row_items _ row) → Watched n (t.Call at e es names) b (f.SetTemp' n r at (f.Call' p a x q m row cnames))
    unary : (n : ℕ) (at : Pos) (op : UnOp) {e : Tree} {p : _} {a : Pos} {x : CoreExprKind} → Watched n e a x → Watched n (t.Unary at op e) at (f.Unary' op p a x)
    binary : (n : ℕ) (at : Pos) (op : BinOp) {l r : Tree} {p q : _} {a b : Pos} {x y : CoreExprKind} → Watched n l a x → Watched (n + kept_count l) r b y → Watched n (t.Binary at l op r) at (f.Binary' p a x op q b y)
    compare : (n : ℕ) (at : Pos) {e : Tree} {ops : List CmpOp} {es : Trees} {p q m : _} {a : Pos} {x : CoreExprKind} {cops : Rc (Vec CmpOp Global) Global} {row : Row _} → cops.value.items ≡ ops → Watched n e a x → WatchedEach (n + kept_count e) (trees_listed es) (row_items _ row) → Watched n (t.Compare at e ops es) at (f.Compare' p a x cops q m row)
    negation : (n : ℕ) (at : Pos) {e : Tree} {p : _} {a : Pos} {x : CoreExprKind} → Watched n e a x → Watched n (t.Not at e) at (f.Not' p a x)
    conjunction : (n : ℕ) (at : Pos) {e : Tree} {es : Trees} {p q m : _} {a : Pos} {x : CoreExprKind} {row : Row _} → Watched n e a x → WatchedEach (n + kept_count e) (trees_listed es) (row_items _ row) → Watched n (t.And at e es) at (f.And' p a x q m row)
    disjunction : (n : ℕ) (at : Pos) {e : Tree} {es : Trees} {p q m : _} {a : Pos} {x : CoreExprKind} {row : Row _} → Watched n e a x → WatchedEach (n + kept_count e) (trees_listed es) (row_items _ row) → Watched n (t.Or at e es) at (f.Or' p a x q m row)
    attribute : (n : ℕ) (at b : Pos) {e : Tree} {p r : _} {a : Pos} {x : CoreExprKind} (name : List ℕ) → Watched (suc n) e a x → Watched n (t.Attribute at e name) b (f.SetTemp' n r at (f.Attribute' p a x name))

  pub data WatchedEach : ℕ → List Tree → List (Rc CoreExpr Global) → Type 0 where
    nil : (n : ℕ) → WatchedEach n [] []
    cons : (n : ℕ) {e : Tree} {es : List Tree} {x : Rc CoreExpr Global} {xs : List (Rc CoreExpr Global)} → Watched n e x.value.at x.value.kind → WatchedEach (n + kept_count e) es xs → WatchedEach n (e ∷ es) (x ∷ xs)

abbrev pub LoweredExpr : Tree → CoreExpr → Type 0
LoweredExpr e x = Lowered e x.at x.kind

pub data LoweredSome : Maybe → Option (Rc CoreExpr Global) → Type 0 where
  none : LoweredSome Absent None
  some : {e : Tree} {x : Rc CoreExpr Global} → LoweredExpr e x.value → LoweredSome (Present e) (Some x)

-- what takes one value
pub data LoweredPlace : Place → CoreSingle → Type 0 where
  name : (at : Pos) (n : List ℕ) → LoweredPlace (NamePlace at n) (record { at = at; kind = single.Name n })
  attribute : (at : Pos) (n : List ℕ) {e : Tree} {x : Rc CoreExpr Global} → LoweredExpr e x.value → LoweredPlace (AttributePlace at e n) (record { at = at; kind = single.Attribute x n })
  subscript : (at : Pos) {e i : Tree} {x y : Rc CoreExpr Global} → LoweredExpr e x.value → LoweredExpr i y.value → LoweredPlace (SubscriptPlace at e i) (record { at = at; kind = single.Subscript x y })

pub data LoweredPlaces : List Place → List CoreSingle → Type 0 where
  none : LoweredPlaces [] []
  more : {p : Place} {ps : List Place} {x : CoreSingle} {xs : List CoreSingle} → LoweredPlace p x → LoweredPlaces ps xs → LoweredPlaces (p ∷ ps) (x ∷ xs)

-- what takes a value
pub data LoweredTarget : Taker → CoreTarget → Type 0 where
  one : {p : Place} {x : CoreSingle} → LoweredPlace p x → LoweredTarget (One p) (target.Single x)
  unpack : {ps : List Place} {xs : Rc (Vec CoreSingle Global) Global} → LoweredPlaces ps xs.value.items → LoweredTarget (Unpack ps) (target.Unpack xs)

pub data LoweredTargets : List Taker → List CoreTarget → Type 0 where
  none : LoweredTargets [] []
  more : {t : Taker} {ts : List Taker} {x : CoreTarget} {xs : List CoreTarget} → LoweredTarget t x → LoweredTargets ts xs → LoweredTargets (t ∷ ts) (x ∷ xs)

-- what is done with the value that a `yield` is given; targets carry those of their source
pub data LoweredUse : s.Use → CoreUse → Type 0 where
  no_use : LoweredUse s.NoUse taken.NoUse
  targets : {ts : List Taker} {source : Rc (Vec Target Global) Global} {xs : Rc (Vec CoreTarget Global) Global} → takers source.value.items ≡ ts → LoweredTargets ts xs.value.items → LoweredUse (s.Targets ts) (taken.Targets source xs)
  return_it : LoweredUse s.ReturnIt taken.Return

abbrev pub core_at : Pos → CoreStmtKind → CoreStmt
core_at at kind = record { at = at; kind = kind }

-- handlers, the first one first
pub data ListedHandler : Type 0 where
  catch_at : Maybe → Option (List ℕ) → Block → ListedHandler

abbrev pub handlers_listed : Handlers → List ListedHandler
handlers_listed NoHandler = []
handlers_listed (st.Handler before at class alias block) = handlers_listed before ++ catch_at class alias block ∷ []

-- branches, the first one first
pub data ListedBranch : Type 0 where
  choice_at : Pos → Tree → Block → ListedBranch

abbrev pub branches_listed : Branches → List ListedBranch
branches_listed NoBranch = []
branches_listed (Branch before at condition body) = branches_listed before ++ choice_at at condition body ∷ []

mutual
  pub data LoweredStatement : Bool → Statement → Pos → CoreStmtKind → Type 0 where
    do_it : {z : Bool} (at : Pos) {e : Tree} {x : Rc CoreExpr Global} → LoweredExpr e x.value → LoweredStatement z (st.Do at e) at (k.Expr x)
    assign : {z : Bool} (at : Pos) {ts : List Taker} {e : Tree} {xs : Rc (Vec CoreTarget Global) Global} {x : Rc CoreExpr Global} → LoweredTargets ts xs.value.items → LoweredExpr e x.value → LoweredStatement z (st.Assign at ts e) at (k.Assign xs x)
    augment : {z : Bool} (at : Pos) {p : Place} {s : CoreSingle} (op : BinOp) {e : Tree} {x : Rc CoreExpr Global} → LoweredPlace p s → LoweredExpr e x.value → LoweredStatement z (st.AugAssign at p op e) at (k.AugAssign s op x)
    return_it : {z : Bool} (at : Pos) {e : Maybe} {x : Option (Rc CoreExpr Global)} → LoweredSome e x → LoweredStatement z (st.Return at e) at (k.Return x)
    assert_it : (at : Pos) {e : Tree} {m : Maybe} {x : Rc CoreExpr Global} {y : Option (Rc CoreExpr Global)} {p n q r : _} {branches : Row_of-CoreBranch _} {other body : CoreBlock} → LoweredExpr e x.value → LoweredSome m y → items-the_row-CoreBranch _ branches ≡ branch.CoreBranch' at x r body ∷ [] → stmts_in body ≡ [] → stmts_in other ≡ core_at at (k.FailWith Plain y) ∷ [] → LoweredStatement plain (st.Assert at e m) at (c.If' p n branches q other)
    assert_explained : (at : Pos) {e : Tree} {m : Maybe} {x : Rc CoreExpr Global} {d : Rc Expr Global} {y : Option (Rc CoreExpr Global)} {p n q r : _} {branches : Row_of-CoreBranch _} {other body : CoreBlock} → tree d.value ≡ e → Watched 0 e x.value.at x.value.kind → LoweredSome m y → items-the_row-CoreBranch _ branches ≡ branch.CoreBranch' at x r body ∷ [] → stmts_in body ≡ [] → stmts_in other ≡ core_at at (k.FailWith (Explain d) y) ∷ [] → LoweredStatement explained (st.Assert at e m) at (c.If' p n branches q other)
    globals : {z : Bool} (at : Pos) {names : List (List ℕ)} {xs : Rc (Vec (List ℕ) Global) Global} → xs.value.items ≡ names → LoweredStatement z (st.GlobalOf at names) at (k.Global xs)
    yields : {z : Bool} (at word : Pos) {e : Maybe} {x : Option (Rc CoreExpr Global)} {u : Rc CoreUse Global} → LoweredUse s.NoUse u.value → LoweredSome e x → LoweredStatement z (st.YieldOf at word e) at (k.Yield x u)
    assign_yield : {z : Bool} (at word : Pos) {ts : List Taker} {e : Maybe} {x : Option (Rc CoreExpr Global)} {u : Rc CoreUse Global} → LoweredUse (s.Targets ts) u.value → LoweredSome e x → LoweredStatement z (st.AssignYield at ts word e) at (k.Yield x u)
    return_yield : {z : Bool} (at word : Pos) {e : Maybe} {x : Option (Rc CoreExpr Global)} {u : Rc CoreUse Global} → LoweredUse s.ReturnIt u.value → LoweredSome e x → LoweredStatement z (st.ReturnYield at word e) at (k.Yield x u)
    pass : {z : Bool} (at : Pos) → LoweredStatement z (st.Pass at) at k.Pass
    leave : {z : Bool} (at : Pos) → LoweredStatement z (st.Break at) at k.Break
    again : {z : Bool} (at : Pos) → LoweredStatement z (st.Continue at) at k.Continue
    choose : {z : Bool} (at : Pos) {bs : Branches} {other : Block} {p n q : _} {branches : Row_of-CoreBranch _} {block : CoreBlock} → LoweredBranches z (branches_listed bs) (items-the_row-CoreBranch _ branches) → LoweredBody z (statements_listed other) block → LoweredStatement z (st.If at bs other) at (c.If' p n branches q block)
    loop : {z : Bool} (at : Pos) {e : Tree} {body : Block} {x : Rc CoreExpr Global} {p : _} {block : CoreBlock} → LoweredExpr e x.value → LoweredBody z (statements_listed body) block → LoweredStatement z (st.While at e body) at (c.While' x p block)
    define : {z : Bool} (at word : Pos) {ds : Trees} (name : List ℕ) {params : List Parameter} (returns : Maybe) {body : Block} {xs ys : Rc (Vec (Rc CoreExpr Global) Global) Global} {p : _} {x : CoreFn} → LoweredEach (trees_listed ds) xs.value.items → LoweredEach (defaults_listed params) ys.value.items → LoweredFunction word (function z name params body) x → LoweredStatement z (st.Def at ds word name params returns body) at (c.Def' xs ys p x)
    raise_it : {z : Bool} (at : Pos) {e : Maybe} {x : Option (Rc CoreExpr Global)} → LoweredSome e x → LoweredStatement z (st.Raise at e) at (k.Raise x)
    delete : {z : Bool} (at : Pos) {p : Place} {x : CoreSingle} → LoweredPlace p x → LoweredStatement z (st.Del at p) at (k.Del x)
    for_each : {z : Bool} (at : Pos) {t : Taker} {e : Tree} {body : Block} {x : Rc CoreTarget Global} {y : Rc CoreExpr Global} {p : _} {block : CoreBlock} → LoweredTarget t x.value → LoweredExpr e y.value → LoweredBody z (statements_listed body) block → LoweredStatement z (st.For at t e body) at (c.For' x y p block)
    try_it : {z : Bool} (at : Pos) {body : Block} {hs : Handlers} {other last : Block} {p q : _} {block : CoreBlock} {g : CoreGuard} → LoweredBody z (statements_listed body) block → LoweredGuard z hs (statements_listed other) (statements_listed last) g → LoweredStatement z (st.Try at body hs other last) at (c.Try' p block q g)
    with_it : {z : Bool} (at : Pos) {e : Tree} {name : Option (List ℕ)} {body : Block} {x : Rc CoreExpr Global} {p : _} {block : CoreBlock} → LoweredExpr e x.value → LoweredBody z (statements_listed body) block → LoweredStatement z (st.With at e name body) at (c.With' x name p block)
    class_it : {z : Bool} (at word : Pos) {ds : Trees} (name : List ℕ) {base : Maybe} {body : Block} {xs : Rc (Vec (Rc CoreExpr Global) Global) Global} {y : Option (Rc CoreExpr Global)} {p : _} {x : class.CoreClass} → LoweredEach (trees_listed ds) xs.value.items → LoweredSome base y → LoweredClass z word name body x → LoweredStatement z (st.Class at ds word name base body) at (c.Class' xs y p x)
    import_it : {z : Bool} (at : Pos) {names : List (List ℕ)} (alias : Option (List ℕ)) {xs : Rc (Vec (List ℕ) Global) Global} → xs.value.items ≡ names → LoweredStatement z (st.Import at names alias) at (k.Import xs alias)
    import_from : {z : Bool} (at : Pos) {names : List (List ℕ)} {all : List Alias} {xs : Rc (Vec (List ℕ) Global) Global} {ys : Rc (Vec Alias Global) Global} → xs.value.items ≡ names → ys.value.items ≡ all → LoweredStatement z (st.ImportFrom at names all) at (k.ImportFrom xs ys)

  pub data LoweredBlock : Bool → List Statement → List CoreStmt → Type 0 where
    ends : {z : Bool} → LoweredBlock z [] []
    goes_on : {z : Bool} {s : Statement} {ss : List Statement} {at : Pos} {x : CoreStmtKind} {xs : List CoreStmt} → LoweredStatement z s at x → LoweredBlock z ss xs → LoweredBlock z (s ∷ ss) (core_at at x ∷ xs)

  -- a block of core carries the statements of its source
  pub data LoweredBody : Bool → List Statement → CoreBlock → Type 0 where
    body : {z : Bool} {ss : List Statement} {b : CoreBlock} → explains_in b ≡ z → sources_in b ≡ ss → LoweredBlock z ss (stmts_in b) → LoweredBody z ss b

  pub data LoweredBranches : Bool → List ListedBranch → List branch.CoreBranch → Type 0 where
    none : {z : Bool} → LoweredBranches z [] []
    more : {z : Bool} (at : Pos) {e : Tree} {body : Block} {bs : List ListedBranch} {x : Rc CoreExpr Global} {p : _} {block : CoreBlock} {xs : List branch.CoreBranch} → LoweredExpr e x.value → LoweredBody z (statements_listed body) block → LoweredBranches z bs xs → LoweredBranches z (choice_at at e body ∷ bs) (branch.CoreBranch' at x p block ∷ xs)

  pub data LoweredHandlers : Bool → List ListedHandler → List handler.CoreHandler → Type 0 where
    unhandled : {z : Bool} → LoweredHandlers z [] []
    handles : {z : Bool} {class : Maybe} (name : Option (List ℕ)) {body : Block} {hs : List ListedHandler} {x : Option (Rc CoreExpr Global)} {p : _} {block : CoreBlock} {xs : List handler.CoreHandler} → LoweredSome class x → LoweredBody z (statements_listed body) block → LoweredHandlers z hs xs → LoweredHandlers z (catch_at class name body ∷ hs) (handler.CoreHandler' x name p block ∷ xs)

  -- what guards the block of a `try` carries the handlers of its source
  pub data LoweredGuard : Bool → Handlers → List Statement → List Statement → CoreGuard → Type 0 where
    guard : {z : Bool} {hs : Handlers} {other last : List Statement} {g : CoreGuard} → handlers (handlers_source g) ≡ hs → LoweredHandlers z (handlers_listed hs) (handlers_in g) → LoweredBody z other (other_in g) → LoweredBody z last (last_in g) → LoweredGuard z hs other last g

  -- a class
  pub data LoweredClass : Bool → Pos → List ℕ → Block → class.CoreClass → Type 0 where
    classed : {z : Bool} (word : Pos) (name : List ℕ) {body : Block} {p : _} {block : CoreBlock} → LoweredBody z (statements_listed body) block → LoweredClass z word name body (class.CoreClass' word name p block)

  -- a function has the parameters and the local names of its source
  pub data LoweredFunction : Pos → Function → CoreFn → Type 0 where
    made : {z : Bool} (word : Pos) (name : List ℕ) {params : List Parameter} {body : Block} {ps : Rc (Vec CoreParam Global) Global} {ls : List (List ℕ)} {ys : Bool} {source : Rc f_tree.Function Global} {p : _} {block : CoreBlock} → function_in z source.value ≡ function z name params body → core_written ps.value.items ≡ source_written params → ls ≡ locals_of params body → ys ≡ yields_in body → LoweredBody z (statements_listed body) block → LoweredFunction word (function z name params body) (fn.CoreFn' source word name ps ls ys p block)

-- what stands behind a statement, the innermost block first
pub data LoweredLayers (z : Bool) : List s.SourceLayer → List r.Layer → Type 0 where
  none : LoweredLayers z [] []
  more : {ss : List Statement} {ls : List s.SourceLayer} {ks : List r.Layer} (b : CoreBlock) (at : ℕ) → explains_in b ≡ z → drop at (sources_in b) ≡ ss → LoweredBlock z ss (drop at (stmts_in b)) → LoweredLayers z ls ks → LoweredLayers z (s.Statements z ss ∷ ls) (r.Statements b at ∷ ks)
  guarded : {hs : Handlers} {other last : List Statement} {ls : List s.SourceLayer} {ks : List r.Layer} (g : CoreGuard) (line : ℕ) → LoweredGuard z hs other last g → LoweredLayers z ls ks → LoweredLayers z (s.Guard z line hs other last ∷ ls) (r.Guard g line ∷ ks)
  receives : {u : s.Use} {t : CoreUse} {ls : List s.SourceLayer} {ks : List r.Layer} → LoweredUse u t → LoweredLayers z ls ks → LoweredLayers z (s.Receives u ∷ ls) (r.Receives t ∷ ks)

-- what remains of a body
abbrev pub LoweredRest : List s.SourceLayer → List r.Layer → Type 0
LoweredRest ls ks = (z : Bool) × LoweredLayers z ls ks

-- a source
abbrev pub LoweredModule : Script → Core → Type 0
LoweredModule m code = (module_of code ≡ m) × LoweredBlock m.explains (statements_listed m.body) (stmts_in code.body.value)
