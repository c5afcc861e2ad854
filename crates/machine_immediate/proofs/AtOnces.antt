-- Values that are there at once.
use Rattle.std.proofs.Common.{◌≡◌, ◌≤◌, ◌∙◌, ◌+◌, ◌++◌, ℕ, suc, ℤ, List, [], ◌∷◌, map, Option, Some, Bool, true, false, IfSome, refl, sym, ap, subst, arith, drop, get_or, length, append_assoc, append-nil, add-one, drop-cons, ◌<◌}
use Rattle.std.specs.Prelude.{is_some, not}
use Rattle.std.specs.List.{list_any}
use Rattle.std.specs.declared.alloc.Global.{Global}
use Rattle.std.specs.declared.rc.Rc.{Rc}
use Rattle.std.specs.declared.vec.Vec.{Vec}
use Rattle.py_source.specs.declared.pos.Pos.{Pos}
use Rattle.py_core.specs.declared.expr.CoreExpr.{CoreExpr}
use Rattle.py_core.specs.declared.expr.CoreExprKind.{CoreExprKind}
use Rattle.py_core.specs.declared.expr.CoreExprKind.TheVariants as v
use Rattle.py_tree.specs.declared.expr.ArgName.{ArgName}
use Rattle.py_tree.specs.declared.op.BinOp.{BinOp}
use Rattle.py_tree.specs.declared.op.CmpOp.{CmpOp}
use Rattle.py_tree.specs.declared.op.UnOp.{UnOp}
use Rattle.py_values.specs.declared.end.Effect.{Effect}
use Rattle.py_values.specs.declared.object.FunctionObj.{FunctionObj}
use Rattle.py_values.specs.declared.rows.Param.{Param}
use Rattle.py_values.specs.declared.value.Value.{Value}
use Rattle.py_values.specs.Names.{bind_name}
use Rattle.py_values.specs.declared.value.Value.TheVariants as val
use Rattle.py_kinds.specs.Truth.{truth}
use Rattle.py_ops.specs.Binary.{binary_of}
use Rattle.py_ops.specs.Compare.{compare_of}
use Rattle.py_ops.specs.Unary.{unary_of}
use Rattle.machine_state.specs.py_world.declared.trace.TraceFrame.{TraceFrame}
use Rattle.machine_state.specs.py_world.declared.ended.Thrown.{Thrown}
use Rattle.machine_state.specs.py_core.declared.stmt.CoreFn.{CoreFn}
use Rattle.machine_state.specs.py_world.World.{Locals, FunctionCode, heap_of, state, temp}
use Rattle.machine_state.specs.py_world.Site.{trace_of}
use Rattle.machine_state.specs.py_world.Outcome.{Gave, call_end, made, on_value, operated}
use Rattle.machine_state.specs.py_world.Arguments.{Arguments, arguments_of, fitted, positional_arguments}
use Rattle.machine_state.specs.py_world.Expressions.{arguments, call_on, call_part, called, noted, name_part, constant, unary_part, binary_part, compare_part, compare_on, not_part, temp_part, temp_found, right_operand}
use Rattle.machine_state.specs.Found.{OnTrue}
use Rattle.machine_arguments.proofs.Shapes.{without_names}
use Rattle.machine_state.specs.core_meaning.Expressions.{CorePart, eval, eval_at}
use Rattle.machine_state.specs.declared.machine.Machine.{Machine}
use Rattle.machine_state.specs.declared.place.Location.{Location}
use Rattle.machine_state.specs.Places.{CoreState, CoreThen, at_line, ends, parts_from, site_of}
use Rattle.machine_state.specs.Frames.{handled_exception, machine_rest, outer_of, site_now, state_of, world_of}
use Rattle.machine_state.proofs.Costs.{ends_note}
use Rattle.machine_immediate.specs.declared.immediate.Immediate.{Immediate}
use Rattle.machine_immediate.specs.AtOnce.{AreBound, HasValueIn, IsImmediate, IsNameNow, IsOperated, IsRunNow, ended_at}
use Rattle.machine_immediate.specs.Opened.{IsCallee}
use Rattle.machine_immediate.proofs.Openings.{call_opened}
use Rattle.machine_immediate.proofs.Parts.{next_some, next_none, parts_items}

-- what follows where something was found
pub on_true : {P Q : Type 0} → (is : Bool) → (P → Q) → OnTrue is P → OnTrue is Q
on_true true f h = f h
on_true false f h = tt

pub when_true : {P : Type 0} → (is : Bool) → is ≡ true → OnTrue is P → P
when_true true e h = h
when_true false e h = absurd cc

param_at : (ps : List Param) (i : ℕ) (p : Param) → i < length ps → p ≡ get_or ps i p → drop i ps ≡ p ∷ drop (i + 1) ps
param_at ps i p w h = rw add-one (drop-cons ps i p w ∙ ap (λ q. q ∷ drop (suc i) ps) (sym h))

-- in a place with names and temporaries
module _ (m : Machine) (here : Location) (names : Locals) (temps : List (Option Value)) where
  abbrev There : CorePart → ℕ → Immediate → Type 0
  There part left d = HasValueIn part left d m here names temps

  abbrev the_state : CoreState
  the_state = state names temps (world_of m)

  operated_there : (what : Effect) (left : ℕ) (d : Immediate) → IsOperated what left d → There (operated what) left d
  operated_there what left d h = record { fewer = h.fewer; goes_on = λ outer handled line k. h.goes_on (site_of (at_line line here) outer handled) the_state k }

  -- parts without parts
  name_there : (name : List ℕ) (left : ℕ) (d : Immediate) → IsNameNow name left d m here names → There (name_part name) left d
  name_there name left d h =
      let free : d.left ≡ left = h.free in
      record {
        fewer = omega (arith, free);
        goes_on = λ outer handled line k.
            ap (λ (x : Effect). ends left (k (made x (trace_of (site_of (at_line line here) outer handled)) the_state))) h.bound ∙ ap (λ (n : ℕ). ends n (k (Gave d.value the_state))) (sym free);
      }

  constant_there : (v : Value) (left : ℕ) → There (constant v) left (ended_at v left)
  constant_there v left = record { fewer = omega arith; goes_on = λ outer handled line k. refl }

  temp_there : (t : ℕ) (v : Value) (left : ℕ) → ((s : CoreState) → s.temps ≡ temps → Gave v s ≡ temp_found (temp t s) s) → There (temp_part t) left (ended_at v left)
  temp_there t v left h = record { fewer = omega arith; goes_on = λ outer handled line k. ap (λ o. ends left (k o)) (sym (h the_state refl)) }

  -- a note changes nothing
  noted_one : (at : Pos) (part other : CorePart) (left : ℕ) (d : Immediate) → other ≡ noted at part → There part left d → There other left d
  noted_one at part other left d e h =
      record {
        fewer = h.fewer;
        goes_on = λ outer handled line k.
            ap (λ (x : CorePart). ends left (x (site_of (at_line line here) outer handled) the_state k)) e ∙ ends_note left at (part (site_of (at_line line here) outer handled) the_state k) ∙ h.goes_on outer handled line k;
      }

  noted_now : (at : Pos) (part other : CorePart) (left : ℕ) (is : Bool) (d : Immediate) → other ≡ noted at part → OnTrue is (There part left d) → OnTrue is (There other left d)
  noted_now at part other left is d e h = on_true is (noted_one at part other left d e) h

  -- what is there at no cost, in the place where it was put
  put_there : (part : CorePart) (left : ℕ) (is : Bool) (d : Immediate) (v : Value) → is ≡ true → d ≡ ended_at v left → There part left (ended_at v left) → OnTrue is (There part left d)
  put_there part left true d v e same h = subst (λ (x : Immediate). There part left x) (sym same) h
  put_there part left false d v e same h = tt

  module _ (at : Pos) (kind : CoreExprKind) (left : ℕ) (is : Bool) (d : Immediate) where
    pub name_form : (name : List ℕ) → kind ≡ v.Name name → OnTrue is (IsNameNow name left d m here names) → OnTrue is (There (eval_at at kind) left d)
    name_form name form h = noted_now at (name_part name) (eval_at at kind) left is d (ap (eval_at at) form) (on_true is (name_there name left d) h)

    pub number_form : (n : ℤ) → kind ≡ v.Number n → is ≡ true → d ≡ ended_at (val.Int n) left → OnTrue is (There (eval_at at kind) left d)
    number_form n form sure same = put_there (eval_at at kind) left is d (val.Int n) sure same (noted_one at (constant (val.Int n)) (eval_at at kind) left _ (ap (eval_at at) form) (constant_there (val.Int n) left))

    pub true_form : kind ≡ v.True → is ≡ true → d ≡ ended_at (val.Bool true) left → OnTrue is (There (eval_at at kind) left d)
    true_form form sure same = put_there (eval_at at kind) left is d (val.Bool true) sure same (noted_one at (constant (val.Bool true)) (eval_at at kind) left _ (ap (eval_at at) form) (constant_there (val.Bool true) left))

    pub false_form : kind ≡ v.False → is ≡ true → d ≡ ended_at (val.Bool false) left → OnTrue is (There (eval_at at kind) left d)
    false_form form sure same = put_there (eval_at at kind) left is d (val.Bool false) sure same (noted_one at (constant (val.Bool false)) (eval_at at kind) left _ (ap (eval_at at) form) (constant_there (val.Bool false) left))

    pub none_form : kind ≡ v.None → is ≡ true → d ≡ ended_at val.None left → OnTrue is (There (eval_at at kind) left d)
    none_form form sure same = put_there (eval_at at kind) left is d val.None sure same (noted_one at (constant val.None) (eval_at at kind) left _ (ap (eval_at at) form) (constant_there val.None left))

    pub temp_form : (t : ℕ) (x : Value) → kind ≡ v.Temp t → ((s : CoreState) → s.temps ≡ temps → Gave x s ≡ temp_found (temp t s) s) → is ≡ true → d ≡ ended_at x left → OnTrue is (There (eval_at at kind) left d)
    temp_form t x form h sure same = put_there (eval_at at kind) left is d x sure same (rw form (temp_there t x left h))

    pub paren_form : (a : Rc CoreExpr Global) → kind ≡ v.Paren a → OnTrue is (There (eval a.value) left d) → OnTrue is (There (eval_at at kind) left d)
    paren_form a form h = noted_now at (eval a.value) (eval_at at kind) left is d (ap (eval_at at) form) h

    pub unary_form : (op : UnOp) (a : Rc CoreExpr Global) → kind ≡ v.Unary op a → OnTrue is (There (unary_part op (eval a.value)) left d) → OnTrue is (There (eval_at at kind) left d)
    unary_form op a form h = noted_now at (unary_part op (eval a.value)) (eval_at at kind) left is d (ap (eval_at at) form) h

    pub binary_form : (a b : Rc CoreExpr Global) (op : BinOp) → kind ≡ v.Binary a op b → OnTrue is (There (binary_part (eval a.value) op (eval b.value)) left d) → OnTrue is (There (eval_at at kind) left d)
    binary_form a b op form h = noted_now at (binary_part (eval a.value) op (eval b.value)) (eval_at at kind) left is d (ap (eval_at at) form) h

    pub compare_form : (a : Rc CoreExpr Global) (ops : Rc (Vec CmpOp Global) Global) (es : Rc (Vec (Rc CoreExpr Global) Global) Global) → kind ≡ v.Compare a ops es → OnTrue is (There (compare_part (eval a.value) ops.value.items (parts_from 0 es)) left d) → OnTrue is (There (eval_at at kind) left d)
    compare_form a ops es form h =
        noted_now at (compare_part (eval a.value) ops.value.items (parts_from 0 es)) (eval_at at kind) left is d
        (ap (eval_at at) form ∙ ap (λ (ps : List CorePart). noted at (compare_part (eval a.value) ops.value.items ps)) (parts_items es.value)) h

    pub not_form : (a : Rc CoreExpr Global) → kind ≡ v.Not a → OnTrue is (There (not_part (eval a.value)) left d) → OnTrue is (There (eval_at at kind) left d)
    not_form a form h = noted_now at (not_part (eval a.value)) (eval_at at kind) left is d (ap (eval_at at) form) h

    pub call_form : (f : Rc CoreExpr Global) (es : Rc (Vec (Rc CoreExpr Global) Global) Global) (ns : Rc (Vec (Option ArgName) Global) Global) → kind ≡ v.Call f es ns
        → OnTrue is (There (call_part (eval f.value) (arguments_of ns.value.items) (parts_from 0 es)) left d) → OnTrue is (There (eval_at at kind) left d)
    call_form f es ns form h =
        noted_now at (call_part (eval f.value) (arguments_of ns.value.items) (parts_from 0 es)) (eval_at at kind) left is d
        (ap (eval_at at) form ∙ ap (λ (ps : List CorePart). noted at (call_part (eval f.value) (arguments_of ns.value.items) ps)) (parts_items es.value)) h

  -- parts behind one another
  behind : (part other whole : CorePart) (left : ℕ) (x d : Immediate) → There part left x
      → ((outer : List TraceFrame) (handled : Option Thrown) (line : ℕ) (k : CoreThen) → (l : CoreThen) × (ends left (whole (site_of (at_line line here) outer handled) the_state k) ≡ ends left (part (site_of (at_line line here) outer handled) the_state l)) × (l (Gave x.value the_state) ≡ other (site_of (at_line line here) outer handled) the_state k))
      → There other x.left d → There whole left d
  behind part other whole left x d h f g =
      let a : x.left ≤ left = h.fewer in
      let b : d.left ≤ x.left = g.fewer in
      record {
        fewer = omega arith;
        goes_on = λ outer handled line k. (f outer handled line k).1 ∙ h.goes_on outer handled line (f outer handled line k).0 ∙ ap (ends x.left) (f outer handled line k).2 ∙ g.goes_on outer handled line k;
      }

  unary_there : (op : UnOp) (a : CorePart) (left : ℕ) (x d : Immediate) → There a left x → IsOperated (unary_of op m.heap x.value) x.left d → There (unary_part op a) left d
  unary_there op a left x d h g =
      behind a (operated (unary_of op m.heap x.value)) (unary_part op a) left x d h (λ outer handled line k. (λ o. on_value o k (λ y s. operated (unary_of op (heap_of s) y) (site_of (at_line line here) outer handled) s k), refl, refl))
      (operated_there (unary_of op m.heap x.value) x.left d g)

  right_there : (op : BinOp) (v : Value) (b : CorePart) (left : ℕ) (y d : Immediate) → There b left y → IsOperated (binary_of op m.heap v y.value) y.left d → There (right_operand v op b) left d
  right_there op v b left y d h g =
      behind b (operated (binary_of op m.heap v y.value)) (right_operand v op b) left y d h (λ outer handled line k. (λ o. on_value o k (λ z s. operated (binary_of op (heap_of s) v z) (site_of (at_line line here) outer handled) s k), refl, refl))
      (operated_there (binary_of op m.heap v y.value) y.left d g)

  binary_there : (op : BinOp) (a b : CorePart) (left : ℕ) (x y d : Immediate) → There a left x → There b x.left y → IsOperated (binary_of op m.heap x.value y.value) y.left d → There (binary_part a op b) left d
  binary_there op a b left x y d h i g =
      behind a (right_operand x.value op b) (binary_part a op b) left x d h (λ outer handled line k. (λ o. on_value o k (λ z s. right_operand z op b (site_of (at_line line here) outer handled) s k), refl, refl))
      (right_there op x.value b x.left y d i g)

  compared_there : (op : CmpOp) (ops : List CmpOp) (a b : CorePart) (left : ℕ) (x y d : Immediate) → There a left x → There b x.left y → IsOperated (compare_of op m.heap x.value y.value) y.left d → There (compare_part a (op ∷ ops) (b ∷ [])) left d
  compared_there op ops a b left x y d h i g =
      behind a (compare_on (op ∷ ops) (b ∷ []) x.value) (compare_part a (op ∷ ops) (b ∷ [])) left x d h (λ outer handled line k. (λ o. on_value o k (λ z s. compare_on (op ∷ ops) (b ∷ []) z (site_of (at_line line here) outer handled) s k), refl, refl))
      (behind b (operated (compare_of op m.heap x.value y.value)) (compare_on (op ∷ ops) (b ∷ []) x.value) x.left y d i
      (λ outer handled line k. (λ o. on_value o k (λ z s. operated (compare_of op (heap_of s) x.value z) (site_of (at_line line here) outer handled) s k), refl, refl)) (operated_there (compare_of op m.heap x.value y.value) y.left d g))

  negated_there : (a : CorePart) (left : ℕ) (x d : Immediate) → There a left x → (b : Bool) → b ≡ truth m.heap x.value → d ≡ record { value = val.Bool (not b); left = x.left } → There (not_part a) left d
  negated_there a left x d h b e same =
      subst (λ (y : Immediate). There (not_part a) left y) (sym same)
      (record { fewer = h.fewer; goes_on = λ outer handled line k. h.goes_on outer handled line _ ∙ ap (λ (t : Bool). ends x.left (k (Gave (val.Bool (not t)) the_state))) (sym e) })

  -- the steps of helpers, from what they found
  pub unary_step : (op : UnOp) (a : Rc CoreExpr Global) (a' : CoreExpr) (left : ℕ) (ix : Bool) (x : Immediate) (is : Bool) (d : Immediate) → a' ≡ a.value → ix ≡ true → OnTrue ix (There (eval a') left x)
      → OnTrue is (IsOperated (unary_of op m.heap x.value) x.left d) → OnTrue is (There (unary_part op (eval a.value)) left d)
  unary_step op a a' left ix x is d ea sure h g =
      subst (λ (e : CoreExpr). OnTrue is (There (unary_part op (eval e)) left d)) ea (on_true is (unary_there op (eval a') left x d (when_true ix sure h)) g)

  pub binary_step : (op : BinOp) (a b : Rc CoreExpr Global) (a' b' : CoreExpr) (left : ℕ) (ix : Bool) (x : Immediate) (iy : Bool) (y : Immediate) (is : Bool) (d : Immediate) → a' ≡ a.value → b' ≡ b.value
      → ix ≡ true → OnTrue ix (There (eval a') left x) → iy ≡ true → OnTrue iy (There (eval b') x.left y)
      → OnTrue is (IsOperated (binary_of op m.heap x.value y.value) y.left d) → OnTrue is (There (binary_part (eval a.value) op (eval b.value)) left d)
  binary_step op a b a' b' left ix x iy y is d ea eb xs h ys i g =
      subst (λ (e : CoreExpr). OnTrue is (There (binary_part (eval a.value) op (eval e)) left d)) eb
      (subst (λ (e : CoreExpr). OnTrue is (There (binary_part (eval e) op (eval b')) left d)) ea
      (on_true is (binary_there op (eval a') (eval b') left x y d (when_true ix xs h) (when_true iy ys i)) g))

  pub comparison_step : (op : CmpOp) (ops more : List CmpOp) (a b : Rc CoreExpr Global) (es : Rc (Vec (Rc CoreExpr Global) Global) Global) (a' b' : CoreExpr) (left : ℕ) (ix : Bool) (x : Immediate) (iy : Bool) (y : Immediate) (is : Bool) (d : Immediate)
      → a' ≡ a.value → b' ≡ b.value → ops ≡ op ∷ more → parts_from 0 es ≡ eval b.value ∷ []
      → ix ≡ true → OnTrue ix (There (eval a') left x) → iy ≡ true → OnTrue iy (There (eval b') x.left y)
      → OnTrue is (IsOperated (compare_of op m.heap x.value y.value) y.left d) → OnTrue is (There (compare_part (eval a.value) ops (parts_from 0 es)) left d)
  comparison_step op ops more a b es a' b' left ix x iy y is d ea eb eo one xs h ys i g =
      subst (λ (ps : List CorePart). OnTrue is (There (compare_part (eval a.value) ops ps) left d)) (sym one)
      (subst (λ (os : List CmpOp). OnTrue is (There (compare_part (eval a.value) os (eval b.value ∷ [])) left d)) (sym eo)
      (subst (λ (e : CoreExpr). OnTrue is (There (compare_part (eval a.value) (op ∷ more) (eval e ∷ [])) left d)) eb
      (subst (λ (e : CoreExpr). OnTrue is (There (compare_part (eval e) (op ∷ more) (eval b' ∷ [])) left d)) ea
      (on_true is (compared_there op more (eval a') (eval b') left x y d (when_true ix xs h) (when_true iy ys i)) g))))

  pub negation_step : (a : Rc CoreExpr Global) (a' : CoreExpr) (left : ℕ) (ix : Bool) (x : Immediate) (b : Bool) (d : Immediate) → a' ≡ a.value → ix ≡ true → OnTrue ix (There (eval a') left x) → b ≡ truth m.heap x.value
      → d ≡ record { value = val.Bool (not b); left = x.left } → There (not_part (eval a.value)) left d
  negation_step a a' left ix x b d ea sure h e same =
      subst (λ (y : CoreExpr). There (not_part (eval y)) left d) ea (negated_there (eval a') left x d (when_true ix sure h) b e same)

  -- PARAMETERS, one after another: the rest have no arguments
  bound_over : (parts : List CorePart) (params : List Param) (so_far bound : Locals) (left : ℕ) → parts ≡ [] → fitted params [] [] so_far ≡ Some bound → AreBound parts params so_far bound left left m here names temps
  bound_over parts params so_far bound left none fits =
      record {
        values = [];
        fits = fits;
        fewer = omega arith;
        goes_on = λ before outer handled line k go.
            ap (λ (ps : List CorePart). ends left (arguments ps before (site_of (at_line line here) outer handled) the_state k go)) none
            ∙ ap (λ (vs : List Value). ends left (go vs the_state)) (sym (append-nil before));
      }

  pub defaults_bound : (es : Rc (Vec (Rc CoreExpr Global) Global) Global) (at : ℕ) (params : List Param) (so_far bound : Locals) (left : ℕ) (is : Bool) → length es.value.items ≤ at → OnTrue is (fitted params [] [] so_far ≡ Some bound)
      → OnTrue is (AreBound (parts_from at es) params so_far bound left left m here names temps)
  defaults_bound es at params so_far bound left is past h = on_true is (bound_over (parts_from at es) params so_far bound left (next_none es at past)) h

  -- one more has its argument
  bound_more : (e : CorePart) (parts rest : List CorePart) (p : Param) (params more : List Param) (so_far now bound : Locals) (left behind : ℕ) (x : Immediate) → parts ≡ e ∷ rest → params ≡ p ∷ more → There e left x → now ≡ bind_name p.name x.value so_far
      → AreBound rest more now bound x.left behind m here names temps → AreBound parts params so_far bound left behind m here names temps
  bound_more e parts rest p params more so_far now bound left behind x is first h put further =
      let a : x.left ≤ left = h.fewer in
      let b : behind ≤ x.left = further.fewer in
      record {
        values = x.value ∷ further.values;
        fits = ap (λ (ps : List Param). fitted ps (x.value ∷ further.values) [] so_far) first ∙ ap (fitted more further.values []) (sym put) ∙ further.fits;
        fewer = omega arith;
        goes_on = λ before outer handled line k go.
            ap (λ (ps : List CorePart). ends left (arguments ps before (site_of (at_line line here) outer handled) the_state k go)) is
            ∙ h.goes_on outer handled line (λ o. on_value o k (λ v s. arguments rest (before ++ v ∷ []) (site_of (at_line line here) outer handled) s k go))
            ∙ further.goes_on (before ++ x.value ∷ []) outer handled line k go
            ∙ ap (λ (vs : List Value). ends behind (go vs the_state)) (append_assoc before (x.value ∷ []) further.values);
      }

  pub argument_bound : (es : Rc (Vec (Rc CoreExpr Global) Global) Global) (e : Rc CoreExpr Global) (e' : CoreExpr) (at : ℕ) (ps : List Param) (p : Param) (so_far now bound : Locals) (left behind : ℕ) (ix : Bool) (x : Immediate) (is : Bool)
      → at < length es.value.items → e ≡ get_or es.value.items at e → e' ≡ e.value → at < length ps → p ≡ get_or ps at p → ix ≡ true → OnTrue ix (There (eval e') left x) → now ≡ bind_name p.name x.value so_far
      → OnTrue is (AreBound (parts_from (at + 1) es) (drop (at + 1) ps) now bound x.left behind m here names temps) → OnTrue is (AreBound (parts_from at es) (drop at ps) so_far bound left behind m here names temps)
  argument_bound es e e' at ps p so_far now bound left behind ix x is within same there within_params param sure h put further =
      on_true is
      (bound_more (eval e.value) (parts_from at es) (parts_from (at + 1) es) p (drop at ps) (drop (at + 1) ps) so_far now bound left behind x (next_some es at e e within same refl).0
      (param_at ps at p within_params param) (subst (λ (y : CoreExpr). There (eval y) left x) there (when_true ix sure h)) put)
      further

  -- A CALL: what is called, the arguments, and the run of its code
  call_there : (f : CorePart) (ns : List (Option ArgName)) (parts : List CorePart) (left n : ℕ) (x d : Immediate) (o : FunctionObj) (st : FunctionCode CoreFn) (around : ℕ) (bound : Locals)
      → There f left x → list_any (λ n. is_some n) ns ≡ false → IsCallee x.value o st around m here → AreBound parts o.params [] bound x.left n m here names temps → IsRunNow st around bound n d m → There (call_part f (arguments_of ns) parts) left d
  call_there f ns parts left n x d o st around bound hf plain callee given run =
      let a : x.left ≤ left = hf.fewer in
      let b : n ≤ x.left = given.fewer in
      let paid : n ≡ suc run.behind = run.paid in
      let c : d.left ≤ run.behind = run.fewer in
      record {
        fewer = omega (arith, a, b, c, paid);
        goes_on = λ outer handled line k.
            let p = site_of (at_line line here) outer handled in
            hf.goes_on outer handled line (λ o. on_value o k (λ c s. call_on c (arguments_of ns) parts [] p s k))
            ∙ given.goes_on [] outer handled line k (λ vs s. called x.value (arguments_of ns vs) p s k)
            ∙ ap (λ (y : Arguments). ends n (called x.value y p the_state k)) (sym (without_names ns given.values plain))
            ∙ ap (λ (l : ℕ). ends l (called x.value (positional_arguments given.values) p the_state k)) paid
            ∙ ap (ends run.behind) (call_opened m here x.value (positional_arguments given.values) o st around bound callee given.fits outer handled line names temps (λ o. k (call_end the_state o)))
            ∙ run.goes_on the_state (trace_of p) handled k refl;
      }

  pub call_step : (ns : List (Option ArgName)) (f : Rc CoreExpr Global) (f' : CoreExpr) (es : Rc (Vec (Rc CoreExpr Global) Global) Global) (left n : ℕ) (ix : Bool) (x : Immediate) (o : FunctionObj) (st : FunctionCode CoreFn) (around : ℕ) (params : List Param) (none bound : Locals) (ib : Bool) (is : Bool) (d : Immediate)
      → f' ≡ f.value → ix ≡ true → OnTrue ix (There (eval f') left x) → list_any (λ n. is_some n) ns ≡ false → IsCallee x.value o st around m here → params ≡ o.params → none ≡ []
      → ib ≡ true → OnTrue ib (AreBound (parts_from 0 es) params none bound x.left n m here names temps) → OnTrue is (IsRunNow st around bound n d m)
      → OnTrue is (There (call_part (eval f.value) (arguments_of ns) (parts_from 0 es)) left d)
  call_step ns f f' es left n ix x o st around params none bound ib is d ef sure h plain callee same empty given b run =
      subst (λ (e : CoreExpr). OnTrue is (There (call_part (eval e) (arguments_of ns) (parts_from 0 es)) left d)) ef
      (on_true is
      (call_there (eval f') ns (parts_from 0 es) left n x d o st around bound (when_true ix sure h) plain callee
      (subst (λ (ps : List Param). AreBound (parts_from 0 es) ps [] bound x.left n m here names temps) same (subst (λ (ls : Locals). AreBound (parts_from 0 es) params ls bound x.left n m here names temps) empty (when_true ib given b)))) run)

-- where the machine is
there_now : (m : Machine) (part : CorePart) (left : ℕ) (d : Immediate) → HasValueIn part left d m m.here m.locals m.temps.items → IsImmediate part left d m
there_now m part left d h = record { fewer = h.fewer; goes_on = λ k. h.goes_on (outer_of m.stack.own) (handled_exception m.stack.own) m.here.line k }

pub now_of_there : (m : Machine) (e : CoreExpr) (left : ℕ) (is : Bool) (d : Immediate) → is ≡ true → OnTrue is (HasValueIn (eval e) left d m m.here m.locals m.temps.items) → IsImmediate (eval e) left d m
now_of_there m e left is d sure h = there_now m (eval e) left d (when_true is sure h)

pub now_of_operated : (m : Machine) (what : Effect) (left : ℕ) (is : Bool) (d : Immediate) → is ≡ true → OnTrue is (IsOperated what left d) → IsImmediate (operated what) left d m
now_of_operated m what left is d sure h = let i : IsOperated what left d = when_true is sure h in record { fewer = i.fewer; goes_on = λ k. i.goes_on (site_now m) (state_of m) k }

-- the steps of helpers, from what they found
module _ (m : Machine) where
  pub found : (part : CorePart) (left : ℕ) (r : Option Immediate) (x : Immediate) → r ≡ Some x → IfSome r (λ d. IsImmediate part left d m) → IsImmediate part left x m
  found part left r x is h = subst (λ (o : Option Immediate). IfSome o (λ d. IsImmediate part left d m)) is h

  pub one_part : (es : Rc (Vec (Rc CoreExpr Global) Global) Global) (e : Rc CoreExpr Global) → length es.value.items ≡ 1 → e ≡ get_or es.value.items 0 e → parts_from 0 es ≡ eval e.value ∷ []
  one_part es e one is =
      let payable : 0 < length es.value.items = omega arith in
      let last : length es.value.items ≤ 1 = omega arith in
      (next_some es 0 e e payable is refl).0 ∙ ap (λ (ps : List CorePart). eval e.value ∷ ps) (next_none es 1 last)

  -- a call goes on with the value of what is called
  pub called_now : (shape : List Value → Arguments) (f : Rc CoreExpr Global) (f' : CoreExpr) (es es' : Rc (Vec (Rc CoreExpr Global) Global) Global) (rx : Option Immediate) (x : Immediate) → f' ≡ f.value → es'.value ≡ es.value → rx ≡ Some x → IfSome rx (λ d. IsImmediate (eval f') m.left d m)
      → ends x.left (call_on x.value shape (parts_from 0 es') [] (site_now m) (state_of m) (machine_rest m)) ≡ ends m.left (call_part (eval f.value) shape (parts_from 0 es) (site_now m) (state_of m) (machine_rest m))
  called_now shape f f' es es' rx x ef same is h =
      let i : IsImmediate (eval f') m.left x m = found (eval f') m.left rx x is h in
      sym (i.goes_on (λ o. on_value o (machine_rest m) (λ c s. call_on c shape (parts_from 0 es') [] (site_now m) s (machine_rest m))))
      ∙ ap (λ (v : Vec (Rc CoreExpr Global) Global). ends m.left (call_part (eval f') shape (map (λ (e : Rc CoreExpr Global). eval e.value) (drop 0 v.items)) (site_now m) (state_of m) (machine_rest m))) same
      ∙ ap (λ (e : CoreExpr). ends m.left (call_part (eval e) shape (parts_from 0 es) (site_now m) (state_of m) (machine_rest m))) ef

pub ruleset leaves = (name_form, number_form, true_form, false_form, none_form, temp_form)

pub ruleset compounds = (paren_form, unary_form, binary_form, compare_form, not_form, call_form)
