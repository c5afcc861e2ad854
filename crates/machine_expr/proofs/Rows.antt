-- The parts of an expression as a list.
use Rattle.std.proofs.Common.{◌≡◌, ◌≤◌, ℕ, List, refl, sym, ap, ◌∙◌, ◌+◌, arith, Option, Some, None}
use Rattle.run_tree.specs.Todo.{Note}
use Rattle.std.specs.declared.alloc.Global.{Global}
use Rattle.std.specs.declared.rc.Rc.{Rc}
use Rattle.std.specs.declared.vec.Vec.{Vec}
use Rattle.std.specs.List.{sum_by}
use Rattle.std.proofs.lemmas.List.Sums.{sum_by-cons}
use Rattle.py_source.specs.declared.pos.Pos.{Pos}
use Rattle.py_core.specs.declared.expr.CoreExpr.{CoreExpr}
use Rattle.py_core.specs.declared.expr.CoreExprKind.{CoreExprKind, Row_of-CoreExprKind-Call-1-1 as Row, end_of-CoreExprKind-Call-1-1 as end, more_of-CoreExprKind-Call-1-1 as more}
use Rattle.py_core.specs.declared.expr.CoreExprKind.TheBlock.{items-the_row-CoreExprKind-Call-1-1 as items, items_hidden-the_row-CoreExprKind-Call-1-1-0 as items_hidden, hidden-the_row-CoreExprKind-Call-1-1-0 as hidden}
use Rattle.py_core.specs.declared.expr.CoreExprKind.TheVariants as v
use Rattle.py_tree.specs.declared.op.BinOp.{BinOp}
use Rattle.py_tree.specs.declared.op.CmpOp.{CmpOp}
use Rattle.py_tree.specs.declared.op.UnOp.{UnOp}
use Rattle.machine_state.specs.py_world.Site.{Site}
use Rattle.py_tree.specs.declared.expr.ArgName.{ArgName}
use Rattle.machine_state.specs.py_world.Arguments.{arguments_of}
use Rattle.machine_state.specs.py_world.Attributes.{attribute_part}
use Rattle.machine_state.specs.py_world.Displays.{collected, displayed, dict_part, subscript_part, slice_part}
use Rattle.machine_state.specs.py_world.Expressions.{call_part, and_part, or_part, compare_part, unary_part, binary_part, choice_part, kept_part}
use Rattle.machine_state.specs.core_meaning.Expressions.{CorePart, eval, eval_at, parts}
use Rattle.machine_state.specs.core_meaning.Statements.{some_part}
use Rattle.machine_state.specs.Places.{CoreState, CoreThen, parts_from}
use Rattle.machine_state.specs.Work.{weight, weight_at, weights, weight_from, some_weight}
use Rattle.machine_immediate.proofs.Parts.{parts_items}
use Rattle.machine_expr.specs.Noting.{with_note}
use Rattle.machine_expr.specs.Pairs.{pairs_weight}
use Rattle.machine_expr.proofs.Pairs.{pairs_light}
use Rattle.py_values.specs.declared.object.Obj.TheVariants as obj

weights_row : {n : _} (row : Row n) → weights row ≡ sum_by (λ e. weight e.value + 1) (items n row)
weights_row end = refl
weights_row (more {n = n} p a e row) =
    ap (λ (w : ℕ). weight_at e + 1 + w) (weights_row row)
    ∙ sym (sum_by-cons {X = Rc CoreExpr Global} (λ e. weight e.value + 1) (record { ptr = p.ptr; value = record { at = a; kind = e } }) (items n row))

pub weights_items : (es : Vec (Rc CoreExpr Global) Global) → weights (hidden es) ≡ sum_by (λ e. weight e.value + 1) es.items
weights_items es = weights_row (hidden es) ∙ ap (sum_by (λ (e : Rc CoreExpr Global). weight e.value + 1)) (items_hidden es)

module _ (kind : CoreExprKind) (at : Pos) (a : Rc CoreExpr Global) (es : Rc (Vec (Rc CoreExpr Global) Global) Global) (p : Site) (s : CoreState) (k : CoreThen) where
  pub call_begins : (names : Rc (Vec (Option ArgName) Global) Global) → kind ≡ v.Call a es names → with_note at kind (call_part (eval a.value) (arguments_of names.value.items) (parts_from 0 es) p s k) ≡ eval_at at kind p s k
  call_begins names is = rw is (ap (λ (ps : List CorePart). Note at (call_part (eval a.value) (arguments_of names.value.items) ps p s k)) (sym (parts_items es.value)))

  pub and_begins : kind ≡ v.And a es → with_note at kind (and_part (eval a.value) (parts_from 0 es) p s k) ≡ eval_at at kind p s k
  and_begins is = rw is (ap (λ (ps : List CorePart). Note at (and_part (eval a.value) ps p s k)) (sym (parts_items es.value)))

  pub or_begins : kind ≡ v.Or a es → with_note at kind (or_part (eval a.value) (parts_from 0 es) p s k) ≡ eval_at at kind p s k
  or_begins is = rw is (ap (λ (ps : List CorePart). Note at (or_part (eval a.value) ps p s k)) (sym (parts_items es.value)))

  pub compare_begins : (ops : Rc (Vec CmpOp Global) Global) → kind ≡ v.Compare a ops es → with_note at kind (compare_part (eval a.value) ops.value.items (parts_from 0 es) p s k) ≡ eval_at at kind p s k
  compare_begins ops is = rw is (ap (λ (ps : List CorePart). Note at (compare_part (eval a.value) ops.value.items ps p s k)) (sym (parts_items es.value)))

module _ (kind : CoreExprKind) (at : Pos) (p : Site) (s : CoreState) (k : CoreThen) where
  pub unary_begins : (op : UnOp) (a : Rc CoreExpr Global) → kind ≡ v.Unary op a → with_note at kind (unary_part op (eval a.value) p s k) ≡ eval_at at kind p s k
  unary_begins op a is = rw is refl

  pub binary_begins : (a b b' : Rc CoreExpr Global) (op : BinOp) → kind ≡ v.Binary a op b → b'.value ≡ b.value
      → with_note at kind (binary_part (eval a.value) op (eval b'.value) p s k) ≡ eval_at at kind p s k
  binary_begins a b b' op is same = rw (is, same) refl

  pub choice_begins : (a c b a' b' : Rc CoreExpr Global) → kind ≡ v.IfElse a c b → a'.value ≡ a.value → b'.value ≡ b.value
      → with_note at kind (choice_part (eval a'.value) (eval c.value) (eval b'.value) p s k) ≡ eval_at at kind p s k
  choice_begins a c b a' b' is same alike = rw (is, same, alike) refl

  pub keep_begins : (t : ℕ) (a : Rc CoreExpr Global) → kind ≡ v.SetTemp t a → with_note at kind (kept_part t (eval a.value) p s k) ≡ eval_at at kind p s k
  keep_begins t a is = rw is refl

-- the bounds of a slice
slice_form : (at : Pos) (a : Rc CoreExpr Global) (from to by : Option (Rc CoreExpr Global)) (p : Site) (s : CoreState) (k : CoreThen)
    → Note at (slice_part (eval a.value) (some_part from) (some_part to) (some_part by) p s k) ≡ eval_at at (v.Slice a from to by) p s k
slice_form at a None None None p s k = refl
slice_form at a None None (Some z) p s k = refl
slice_form at a None (Some y) None p s k = refl
slice_form at a None (Some y) (Some z) p s k = refl
slice_form at a (Some x) None None p s k = refl
slice_form at a (Some x) None (Some z) p s k = refl
slice_form at a (Some x) (Some y) None p s k = refl
slice_form at a (Some x) (Some y) (Some z) p s k = refl

slice_weighs : (a : Rc CoreExpr Global) (from to by : Option (Rc CoreExpr Global))
    → weight_at (v.Slice a from to by) ≡ weight a.value + some_weight from + some_weight to + some_weight by + 5
slice_weighs a None None None = refl
slice_weighs a None None (Some z) = refl
slice_weighs a None (Some y) None = refl
slice_weighs a None (Some y) (Some z) = refl
slice_weighs a (Some x) None None = refl
slice_weighs a (Some x) None (Some z) = refl
slice_weighs a (Some x) (Some y) None = refl
slice_weighs a (Some x) (Some y) (Some z) = refl

module _ (kind : CoreExprKind) (at : Pos) (p : Site) (s : CoreState) (k : CoreThen) where
  pub tuple_begins : (es : Rc (Vec (Rc CoreExpr Global) Global) Global) → kind ≡ v.Tuple es
      → with_note at kind (collected (λ heap vs. displayed obj.Tuple vs) (parts_from 0 es) p s k) ≡ eval_at at kind p s k
  tuple_begins es is = rw is (ap (λ (ps : List CorePart). Note at (collected (λ heap vs. displayed obj.Tuple vs) ps p s k)) (sym (parts_items es.value)))

  pub list_begins : (es : Rc (Vec (Rc CoreExpr Global) Global) Global) → kind ≡ v.List es
      → with_note at kind (collected (λ heap vs. displayed obj.List vs) (parts_from 0 es) p s k) ≡ eval_at at kind p s k
  list_begins es is = rw is (ap (λ (ps : List CorePart). Note at (collected (λ heap vs. displayed obj.List vs) ps p s k)) (sym (parts_items es.value)))

  pub dict_begins : (ks es : Rc (Vec (Rc CoreExpr Global) Global) Global) → kind ≡ v.Dict ks es
      → with_note at kind (dict_part (parts_from 0 ks) (parts_from 0 es) p s k) ≡ eval_at at kind p s k
  dict_begins ks es is =
      rw is
      (ap (λ (ps : List CorePart). Note at (dict_part ps (parts_from 0 es) p s k)) (sym (parts_items ks.value))
      ∙ ap (λ (ps : List CorePart). Note at (dict_part (parts (hidden ks.value)) ps p s k)) (sym (parts_items es.value)))

  pub attribute_begins : (a : Rc CoreExpr Global) (name : List ℕ) → kind ≡ v.Attribute a name
      → with_note at kind (attribute_part (eval a.value) name p s k) ≡ eval_at at kind p s k
  attribute_begins a name is = rw is refl

  pub subscript_begins : (a i : Rc CoreExpr Global) → kind ≡ v.Subscript a i
      → with_note at kind (subscript_part (eval a.value) (eval i.value) p s k) ≡ eval_at at kind p s k
  subscript_begins a i is = rw is refl

  pub slice_begins : (a : Rc CoreExpr Global) (from to by : Option (Rc CoreExpr Global)) → kind ≡ v.Slice a from to by
      → with_note at kind (slice_part (eval a.value) (some_part from) (some_part to) (some_part by) p s k) ≡ eval_at at kind p s k
  slice_begins a from to by is = rw is (slice_form at a from to by p s k)

module _ (kind : CoreExprKind) (es : Rc (Vec (Rc CoreExpr Global) Global) Global) where
  pub tuple_weight : kind ≡ v.Tuple es → weight_from 0 es + 2 ≡ weight_at kind
  tuple_weight is = let e : weights (hidden es.value) ≡ weight_from 0 es = weights_items es.value in rw is (omega (arith, e))

  pub list_weight : kind ≡ v.List es → weight_from 0 es + 2 ≡ weight_at kind
  list_weight is = let e : weights (hidden es.value) ≡ weight_from 0 es = weights_items es.value in rw is (omega (arith, e))

  pub dict_weight : (ks : Rc (Vec (Rc CoreExpr Global) Global) Global) → kind ≡ v.Dict ks es → pairs_weight 0 ks es + 2 ≤ weight_at kind
  dict_weight ks is =
      let d : weights (hidden ks.value) ≡ weight_from 0 ks = weights_items ks.value in
      let e : weights (hidden es.value) ≡ weight_from 0 es = weights_items es.value in
      let l : pairs_weight 0 ks es ≤ weight_from 0 ks + weight_from 0 es = pairs_light ks es in rw is (omega (arith, d, e, l))

module _ (kind : CoreExprKind) (a : Rc CoreExpr Global) where
  pub attribute_weight : (name : List ℕ) → kind ≡ v.Attribute a name → weight a.value + 2 ≡ weight_at kind
  attribute_weight name is = rw is refl

  pub subscript_weight : (i : Rc CoreExpr Global) → kind ≡ v.Subscript a i → weight a.value + weight i.value + 3 ≡ weight_at kind
  subscript_weight i is = rw is refl

  pub slice_weight : (from to by : Option (Rc CoreExpr Global)) → kind ≡ v.Slice a from to by
      → weight a.value + some_weight from + some_weight to + some_weight by + 5 ≡ weight_at kind
  slice_weight from to by is = rw is (sym (slice_weighs a from to by))

module _ (kind : CoreExprKind) (a : Rc CoreExpr Global) (es : Rc (Vec (Rc CoreExpr Global) Global) Global) where
  pub call_weight : (names : Rc (Vec (Option ArgName) Global) Global) → kind ≡ v.Call a es names → weight a.value + (weight_from 0 es + 4) ≡ weight_at kind
  call_weight names is = let e : weights (hidden es.value) ≡ weight_from 0 es = weights_items es.value in rw is (omega (arith, e))

  pub and_weight : kind ≡ v.And a es → weight a.value + (weight_from 0 es + 2) ≡ weight_at kind
  and_weight is = let e : weights (hidden es.value) ≡ weight_from 0 es = weights_items es.value in rw is (omega (arith, e))

  pub or_weight : kind ≡ v.Or a es → weight a.value + (weight_from 0 es + 2) ≡ weight_at kind
  or_weight is = let e : weights (hidden es.value) ≡ weight_from 0 es = weights_items es.value in rw is (omega (arith, e))

  pub compare_weight : (ops : Rc (Vec CmpOp Global) Global) → kind ≡ v.Compare a ops es → weight a.value + (weight_from 0 es + 3) ≡ weight_at kind
  compare_weight ops is = let e : weights (hidden es.value) ≡ weight_from 0 es = weights_items es.value in rw is (omega (arith, e))

pub binary_weight : (kind : CoreExprKind) (a b : Rc CoreExpr Global) (op : BinOp) → kind ≡ v.Binary a op b → weight a.value + (weight b.value + 3) ≡ weight_at kind
binary_weight kind a b op is = rw is (omega arith)
