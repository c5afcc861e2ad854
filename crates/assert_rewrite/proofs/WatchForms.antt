-- The forms of conditions that are explained, for the tactics.
use Rattle.std.proofs.Common.{◌≡◌, ℕ, suc, arith, List, [], ◌∷◌, ◌++◌, Option, refl, sym, ap, subst, ◌∙◌, ◌+◌, ◌<◌, ◌≤◌, length, take, get_or, Vec}
use Rattle.std.proofs.lemmas.List.{take_more, take_all}
use Rattle.std.specs.declared.alloc.Global.{Global}
use Rattle.std.specs.declared.rc.Rc.{Rc}
use Rattle.py_source.specs.declared.pos.Pos.{Pos}
use Rattle.py_tree.specs.declared.expr.ArgName.{ArgName}
use Rattle.py_tree.specs.declared.expr.Expr.{Expr}
use Rattle.py_tree.specs.declared.expr.ExprKind as e
use Rattle.py_tree.specs.declared.expr.ExprKind.{ExprKind}
use Rattle.py_tree.specs.declared.expr.ExprKind.TheVariants as s
use Rattle.py_tree.specs.declared.expr.ExprKind.TheBlock.{hidden-the_row-ExprKind-Tuple-0-1-0 as hide}
use Rattle.py_tree.specs.declared.op.BinOp.{BinOp}
use Rattle.py_tree.specs.declared.op.CmpOp.{CmpOp}
use Rattle.py_tree.specs.declared.op.UnOp.{UnOp}
use Rattle.py_tree.specs.Trees as t
use Rattle.py_tree.specs.Trees.{Tree, Trees, Empty, tree, tree_at, trees, trees_on}
use Rattle.py_tree.proofs.Rows.{trees_hidden, trees_more}
use Rattle.lower_law.specs.py_world.Explained.{kept_count, kept_count_all}
use Rattle.py_core.specs.declared.expr.CoreExpr.{CoreExpr}
use Rattle.py_core.specs.declared.expr.CoreExprKind.{CoreExprKind, items-the_row-CoreExprKind-Call-1-1 as row_items}
use Rattle.py_core.specs.declared.expr.CoreExprKind.TheVariants as c
use Rattle.py_core.specs.declared.expr.CoreExprKind.TheBlock.{items_hidden-the_row-CoreExprKind-Call-1-1-0 as core_items_hidden, hidden-the_row-CoreExprKind-Call-1-1-0 as core_hide}
use Rattle.lower_law.specs.Built.{BuiltAll}
use Rattle.lower_law.specs.Lowered as low
use Rattle.lower_law.specs.Lowered.{IsLeaf, Watched, WatchedEach, trees_listed}
use Rattle.assert_rewrite.specs.Groups.{watch_group}
use Rattle.assert_rewrite.specs.declared.groups.WatchGroup.TheVariants.{Whole}
use Rattle.assert_rewrite.specs.Lowers.{Lowers, Keeps, keeps, WatchesForm, Watches, WatchesEach}

-- a form at a place whose value is kept
pub keeps_form : (n : ℕ) (at : Pos) (kind : CoreExprKind) (r : Rc CoreExpr Global) → r.value ≡ record { at = at; kind = kind } → Keeps n at kind (c.SetTemp n r)
keeps_form n at kind r is = subst (λ (x : CoreExpr). Keeps n at kind (c.SetTemp n (record { ptr = r.ptr; value = x }))) (sym is) keeps

pub ruleset keepings = (keeps_form)

pub watch_form : (n m : ℕ) (e : Expr) (kind : CoreExprKind) (r : Rc CoreExpr Global) → WatchesForm n e.at e.kind kind m → r.value ≡ record { at = e.at; kind = kind } → Watches n e r.value m
watch_form n m e kind r h is = subst (λ core. Watches n e core m) (sym is) (record { by = h.by; behind = h.behind })

pub ruleset expressions = (watch_form)

-- what is shown by its value alone
whole_leaf : (at : Pos) (kind : ExprKind) → watch_group kind ≡ Whole → IsLeaf (tree_at at kind)
whole_leaf at (s.Name name) is = tt
whole_leaf at (s.Number n) is = tt
whole_leaf at (s.Text text) is = tt
whole_leaf at s.True is = tt
whole_leaf at s.False is = tt
whole_leaf at s.None is = tt
whole_leaf at (e.Paren' p a x) is = absurd (cc)
whole_leaf at (e.Tuple' p n row) is = tt
whole_leaf at (e.List' p n row) is = tt
whole_leaf at (e.Dict' p n keys q m row) is = tt
whole_leaf at (e.Attribute' p a x name) is = absurd (cc)
whole_leaf at (e.Call' p a x q n row names) is = absurd (cc)
whole_leaf at (e.Subscript' p a x q b y) is = tt
whole_leaf at (e.Slice' p a x from to by) is = tt
whole_leaf at (e.Unary' op p a x) is = absurd (cc)
whole_leaf at (e.Binary' p a x op q b y) is = absurd (cc)
whole_leaf at (e.Compare' p a x ops q n row) is = absurd (cc)
whole_leaf at (e.Not' p a x) is = absurd (cc)
whole_leaf at (e.And' p a x q n row) is = absurd (cc)
whole_leaf at (e.Or' p a x q n row) is = absurd (cc)
whole_leaf at (e.IfElse' p a x q b y r c z) is = tt

leaf_count : (e : Tree) → IsLeaf e → kept_count e ≡ 1
leaf_count (t.Name at name) is = refl
leaf_count (t.Number at n) is = refl
leaf_count (t.Text at text) is = refl
leaf_count (t.True at) is = refl
leaf_count (t.False at) is = refl
leaf_count (t.NoneTree at) is = refl
leaf_count (t.Tuple at es) is = refl
leaf_count (t.Listed at es) is = refl
leaf_count (t.Dict at ks es) is = refl
leaf_count (t.Subscript at e i) is = refl
leaf_count (t.Slice at e from to by) is = refl
leaf_count (t.IfElse at e c o) is = refl
leaf_count (t.Paren at e) is = elim is [ ]
leaf_count (t.Call at e es names) is = elim is [ ]
leaf_count (t.Unary at op e) is = elim is [ ]
leaf_count (t.Binary at l op r) is = elim is [ ]
leaf_count (t.Compare at e ops es) is = elim is [ ]
leaf_count (t.Not at e) is = elim is [ ]
leaf_count (t.And at e es) is = elim is [ ]
leaf_count (t.Or at e es) is = elim is [ ]
leaf_count (t.Attribute at e name) is = elim is [ ]

pub whole_form : (n m i : ℕ) (e : Expr) (x : Rc CoreExpr Global) → watch_group e.kind ≡ Whole → i ≡ n → m ≡ n + 1 → Lowers e x.value → WatchesForm n e.at e.kind (c.SetTemp i x) m
whole_form n m i e x is same more h =
    let leaf : IsLeaf (tree_at e.at e.kind) = whole_leaf e.at e.kind is in
    let one : kept_count (tree_at e.at e.kind) ≡ 1 = leaf_count (tree_at e.at e.kind) leaf in
    rw same (record { by = λ b. low.Watched.leaf n e.at leaf (h.by b); behind = omega (arith, more, one) })

pub ruleset wholes = (whole_form)

-- a list of parts, as rows
each_row : (n m : ℕ) (es : Vec (Rc Expr Global) Global) (cores : Vec (Rc CoreExpr Global) Global) → WatchesEach n es.items cores.items m → BuiltAll (trees_on Empty (hide es)) → WatchedEach n (trees_listed (trees_on Empty (hide es))) (row_items _ (core_hide cores))
each_row n m es cores h =
    subst (λ t. BuiltAll t → WatchedEach n (trees_listed t) (row_items _ (core_hide cores))) (sym (trees_hidden es)) (subst (λ xs. BuiltAll (trees es.items) → WatchedEach n (trees_listed (trees es.items)) xs) (sym (core_items_hidden cores)) h.by)

each_count : (n m : ℕ) (es : Vec (Rc Expr Global) Global) (cores : List (Rc CoreExpr Global)) → WatchesEach n es.items cores m → m ≡ n + kept_count_all (trees_on Empty (hide es))
each_count n m es cores h = h.behind ∙ ap (λ (t : Trees). n + kept_count_all t) (sym (trees_hidden es))

-- parts behind another one
row_behind : (n i m : ℕ) (e : Tree) (es : Vec (Rc Expr Global) Global) (xs : Vec (Rc CoreExpr Global) Global) → i ≡ n + kept_count e → WatchesEach i es.items xs.items m → BuiltAll (trees_on Empty (hide es)) → WatchedEach (n + kept_count e) (trees_listed (trees_on Empty (hide es))) (row_items _ (core_hide xs))
row_behind n i m e es xs is h b = subst (λ j. WatchedEach j (trees_listed (trees_on Empty (hide es))) (row_items _ (core_hide xs))) is (each_row i m es xs h b)

module _ (at : Pos) (kind : ExprKind) (n m : ℕ) where
  pub paren_form : (e : Rc Expr Global) (x : Rc CoreExpr Global) → kind ≡ s.Paren e → Watches n e.value x.value m → WatchesForm n at kind (c.Paren x) m
  paren_form e x is h = rw is (record { by = λ b. low.Watched.paren n at (h.by b); behind = h.behind })

  pub unary_form : (op : UnOp) (e : Rc Expr Global) (x : Rc CoreExpr Global) → kind ≡ s.Unary op e → Watches n e.value x.value m → WatchesForm n at kind (c.Unary op x) m
  unary_form op e x is h = rw is (record { by = λ b. low.Watched.unary n at op (h.by b); behind = h.behind })

  pub not_form : (e : Rc Expr Global) (x : Rc CoreExpr Global) → kind ≡ s.Not e → Watches n e.value x.value m → WatchesForm n at kind (c.Not x) m
  not_form e x is h = rw is (record { by = λ b. low.Watched.negation n at (h.by b); behind = h.behind })

  pub binary_form : (i : ℕ) (op : BinOp) (l r : Rc Expr Global) (x y : Rc CoreExpr Global) → kind ≡ s.Binary l op r → Watches n l.value x.value i → Watches i r.value y.value m → WatchesForm n at kind (c.Binary x op y) m
  binary_form i op l r x y is h g =
      let count : m ≡ n + (kept_count (tree l.value) + kept_count (tree r.value)) = omega (arith, h.behind, g.behind) in
      rw is (record { by = λ b. low.Watched.binary n at op (h.by b.0) (subst (λ j. Watched j (tree r.value) y.value.at y.value.kind) h.behind (g.by b.1)); behind = count })

  pub compare_form : (i : ℕ) (e : Rc Expr Global) (ops copy : Rc (Vec CmpOp Global) Global) (es : Rc (Vec (Rc Expr Global) Global) Global) (x : Rc CoreExpr Global) (xs : Rc (Vec (Rc CoreExpr Global) Global) Global) → kind ≡ s.Compare e ops es → copy.value ≡ ops.value → Watches n e.value x.value i → WatchesEach i es.value.items xs.value.items m → WatchesForm n at kind (c.Compare x copy xs) m
  compare_form i e ops copy es x xs is same h g =
      let rest : m ≡ i + kept_count_all (trees_on Empty (hide es.value)) = each_count i m es.value xs.value.items g in
      let count : m ≡ n + (kept_count (tree e.value) + kept_count_all (trees_on Empty (hide es.value))) = omega (arith, h.behind, rest) in
      rw is (record { by = λ b. low.Watched.compare n at (ap (λ (v : Vec CmpOp Global). v.items) same) (h.by b.0) (row_behind n i m (tree e.value) es.value xs.value h.behind g b.1); behind = count })

  pub and_form : (i : ℕ) (e : Rc Expr Global) (es : Rc (Vec (Rc Expr Global) Global) Global) (x : Rc CoreExpr Global) (xs : Rc (Vec (Rc CoreExpr Global) Global) Global) → kind ≡ s.And e es → Watches n e.value x.value i → WatchesEach i es.value.items xs.value.items m → WatchesForm n at kind (c.And x xs) m
  and_form i e es x xs is h g =
      let rest : m ≡ i + kept_count_all (trees_on Empty (hide es.value)) = each_count i m es.value xs.value.items g in
      let count : m ≡ n + (kept_count (tree e.value) + kept_count_all (trees_on Empty (hide es.value))) = omega (arith, h.behind, rest) in
      rw is (record { by = λ b. low.Watched.conjunction n at (h.by b.0) (row_behind n i m (tree e.value) es.value xs.value h.behind g b.1); behind = count })

  pub or_form : (i : ℕ) (e : Rc Expr Global) (es : Rc (Vec (Rc Expr Global) Global) Global) (x : Rc CoreExpr Global) (xs : Rc (Vec (Rc CoreExpr Global) Global) Global) → kind ≡ s.Or e es → Watches n e.value x.value i → WatchesEach i es.value.items xs.value.items m → WatchesForm n at kind (c.Or x xs) m
  or_form i e es x xs is h g =
      let rest : m ≡ i + kept_count_all (trees_on Empty (hide es.value)) = each_count i m es.value xs.value.items g in
      let count : m ≡ n + (kept_count (tree e.value) + kept_count_all (trees_on Empty (hide es.value))) = omega (arith, h.behind, rest) in
      rw is (record { by = λ b. low.Watched.disjunction n at (h.by b.0) (row_behind n i m (tree e.value) es.value xs.value h.behind g b.1); behind = count })

  -- a call and an attribute, whose value has the first number
  pub call_form : (i j k : ℕ) (e : Rc Expr Global) (es : Rc (Vec (Rc Expr Global) Global) Global) (names copy : Rc (Vec (Option ArgName) Global) Global) (x : Rc CoreExpr Global) (xs : Rc (Vec (Rc CoreExpr Global) Global) Global) (core : CoreExprKind) → kind ≡ s.Call e es names → copy.value ≡ names.value → k ≡ n → i ≡ n + 1 → Watches i e.value x.value j → WatchesEach j es.value.items xs.value.items m → Keeps k at (c.Call x xs copy) core → WatchesForm n at kind core m
  call_form i j k e es names copy x xs core is same first next h g keeps =
      let rest : m ≡ j + kept_count_all (trees_on Empty (hide es.value)) = each_count j m es.value xs.value.items g in
      let count : m ≡ n + suc (kept_count (tree e.value) + kept_count_all (trees_on Empty (hide es.value))) = omega (arith, next, h.behind, rest) in
      let place : j ≡ suc n + kept_count (tree e.value) = omega (arith, next, h.behind) in
      let up : i ≡ suc n = omega (arith, next) in
      rw (is, first) (record { by = λ b. low.Watched.call n at at (ap (λ (v : Vec (Option ArgName) Global). v.items) same) (subst (λ j. Watched j (tree e.value) x.value.at x.value.kind) up (h.by b.0)) (row_behind (suc n) j m (tree e.value) es.value xs.value place g b.1); behind = count })

  pub attribute_form : (i k : ℕ) (e : Rc Expr Global) (name copy : List ℕ) (x : Rc CoreExpr Global) (core : CoreExprKind) → kind ≡ s.Attribute e name → copy ≡ name → k ≡ n → i ≡ n + 1 → Watches i e.value x.value m → Keeps k at (c.Attribute x copy) core → WatchesForm n at kind core m
  attribute_form i k e name copy x core is same first next h keeps =
      let count : m ≡ n + suc (kept_count (tree e.value)) = omega (arith, next, h.behind) in
      let up : i ≡ suc n = omega (arith, next) in
      rw (is, same, first) (record { by = λ b. low.Watched.attribute n at at name (subst (λ j. Watched j (tree e.value) x.value.at x.value.kind) up (h.by b)); behind = count })

pub ruleset betweens = (paren_form, unary_form, not_form, binary_form)

pub ruleset rows = (compare_form, and_form, or_form)

pub ruleset cames = (call_form, attribute_form)

-- expressions one after another
abbrev listed_count : List Tree → ℕ
listed_count [] = 0
listed_count (e ∷ es) = kept_count e + listed_count es

count_more : (xs : List Tree) (e : Tree) → listed_count (xs ++ e ∷ []) ≡ listed_count xs + kept_count e
count_more [] e = omega arith
count_more (x ∷ xs) e = let h : listed_count (xs ++ e ∷ []) ≡ listed_count xs + kept_count e = count_more xs e in omega (arith, h)

count_listed : (es : Trees) → listed_count (trees_listed es) ≡ kept_count_all es
count_listed Empty = refl
count_listed (t.More es e) = count_more (trees_listed es) e ∙ ap (λ n. n + kept_count e) (count_listed es)

each_push : {n : ℕ} {es : List Tree} {xs : List (Rc CoreExpr Global)} (e : Tree) (x : Rc CoreExpr Global) → WatchedEach n es xs → Watched (n + listed_count es) e x.value.at x.value.kind → WatchedEach n (es ++ e ∷ []) (xs ++ x ∷ [])
each_push e x (low.WatchedEach.nil n) h = low.WatchedEach.cons n (subst (λ j. Watched j e x.value.at x.value.kind) (omega arith) h) (low.WatchedEach.nil _)
each_push e x (low.WatchedEach.cons n {e = first} {es = es} y ys) h = low.WatchedEach.cons n y (each_push e x ys (subst (λ j. Watched j e x.value.at x.value.kind) (omega arith) h))

each_behind : (n i m : ℕ) (es : List (Rc Expr Global)) (xs : List (Rc CoreExpr Global)) (e : Rc Expr Global) (x : Rc CoreExpr Global) → WatchesEach n es xs i → Watches i e.value x.value m → WatchesEach n (es ++ e ∷ []) (xs ++ x ∷ []) m
each_behind n i m es xs e x all h =
    let place : i ≡ n + listed_count (trees_listed (trees es)) = all.behind ∙ ap (λ (k : ℕ). n + k) (sym (count_listed (trees es))) in
    let count : m ≡ n + (kept_count_all (trees es) + kept_count (tree e.value)) = omega (arith, all.behind, h.behind) in
    record {
      by = subst (λ t. BuiltAll t → WatchedEach n (trees_listed t) (xs ++ x ∷ [])) (sym (trees_more Empty es e)) (λ b. each_push (tree e.value) x (all.by b.0) (subst (λ j. Watched j (tree e.value) x.value.at x.value.kind) place (h.by b.1)));
      behind = count ∙ ap (λ (t : Trees). n + kept_count_all t) (sym (trees_more Empty es e));
    }

-- one more expression
pub each_more : (n j m : ℕ) (es : List (Rc Expr Global)) (xs : List (Rc CoreExpr Global)) (i : ℕ) (e : Rc Expr Global) (x : Rc CoreExpr Global) → i < length es → e ≡ get_or es i e → WatchesEach n (take i es) xs j → Watches j e.value x.value m → WatchesEach n (take (i + 1) es) (xs ++ x ∷ []) m
each_more n j m es xs i e x lt is all h = rw (take_more es i e lt, ← is) (each_behind n j m (take i es) xs e x all h)

pub each_none : (n m : ℕ) (xs : List (Rc CoreExpr Global)) → xs ≡ [] → m ≡ n → WatchesEach n [] xs m
each_none n m xs is same = subst (λ xs. WatchesEach n [] xs m) (sym is) (record { by = λ b. low.WatchedEach.nil n; behind = omega (arith, same) })

pub each_all : (n m : ℕ) (es : List (Rc Expr Global)) (i : ℕ) (done : Vec (Rc CoreExpr Global) Global) (r : Rc (Vec (Rc CoreExpr Global) Global) Global) → length es ≤ i → WatchesEach n (take i es) done.items m → r.value ≡ done → WatchesEach n es r.value.items m
each_all n m es i done r le all is = rw is (subst (λ es. WatchesEach n es done.items m) (take_all i es le) all)

pub ruleset lists = (each_more, each_none, each_all)
