-- The parameters of functions and their defaults, for the tactics.
use Rattle.std.proofs.Common.{◌≡◌, ℕ, List, [], ◌∷◌, ◌++◌, Option, Some, None, refl, sym, ap, ◌∙◌, subst, ◌+◌, ◌<◌, ◌≤◌, length, take, get_or, Vec}
use Rattle.std.specs.Prelude.{is_some}
use Rattle.std.proofs.lemmas.List.{take_more, take_all}
use Rattle.std.specs.declared.alloc.Global.{Global}
use Rattle.std.specs.declared.rc.Rc.{Rc}
use Rattle.py_tree.specs.declared.expr.Expr.{Expr}
use Rattle.py_tree.specs.declared.stmt.Param.{Param}
use Rattle.py_tree.specs.Trees.{Tree, Absent, Present, some_tree}
use Rattle.py_tree.specs.Statements as st
use Rattle.py_tree.specs.Statements.{Parameter, parameter, parameters}
use Rattle.py_core.specs.declared.expr.CoreExpr.{CoreExpr}
use Rattle.py_core.specs.declared.stmt.CoreParam.{CoreParam}
use Rattle.lower_law.specs.core_meaning.Statements.{written as core_written}
use Rattle.lower_law.specs.source_meaning.Statements.{source_written, is_given}
use Rattle.lower_law.specs.Built.{BuiltParameters}
use Rattle.lower_law.specs.Lowered as low
use Rattle.lower_law.specs.Lowered.{LoweredEach, defaults_listed}
use Rattle.assert_rewrite.specs.Lowers.{Lowers, LowersDefaults}

parameters_more : (ps qs : List Param) → parameters (ps ++ qs) ≡ parameters ps ++ parameters qs
parameters_more [] qs = refl
parameters_more (p ∷ ps) qs = ap (λ r. parameter p ∷ r) (parameters_more ps qs)

-- names, and whether each has a default
core_written_more : (xs ys : List CoreParam) → core_written (xs ++ ys) ≡ core_written xs ++ core_written ys
core_written_more [] ys = refl
core_written_more (x ∷ xs) ys = ap (λ r. (x.name, x.has_default) ∷ r) (core_written_more xs ys)

written_more : (ps qs : List Parameter) → source_written (ps ++ qs) ≡ source_written ps ++ source_written qs
written_more [] qs = refl
written_more (st.Parameter_at at name annotation default ∷ ps) qs = ap (λ r. (name, is_given default) ∷ r) (written_more ps qs)

given_is : (e : Option (Rc Expr Global)) → is_some e ≡ is_given (some_tree e)
given_is None = refl
given_is (Some e) = refl

params_last : (all : List Param) (xs : List CoreParam) (p : Param) (x : CoreParam) → core_written xs ≡ source_written (parameters all) → x.name ≡ p.name → x.has_default ≡ is_some p.default → core_written (xs ++ x ∷ []) ≡ source_written (parameters (all ++ p ∷ []))
params_last all xs p x same name has =
    core_written_more xs (x ∷ []) ∙ (ap (λ r. r ++ (x.name, x.has_default) ∷ []) same ∙ (ap (λ n. source_written (parameters all) ++ (n, x.has_default) ∷ []) name ∙ (ap (λ b. source_written (parameters all) ++ (p.name, b) ∷ []) (has ∙ given_is p.default)
    ∙ (sym (written_more (parameters all) (parameter p ∷ [])) ∙ ap source_written (sym (parameters_more all (p ∷ [])))))))

-- one more parameter
pub params_more : (all : List Param) (xs : List CoreParam) (i : ℕ) (p : Param) (x : CoreParam) → i < length all → p ≡ get_or all i p → core_written xs ≡ source_written (parameters (take i all)) → x.name ≡ p.name → x.has_default ≡ is_some p.default → core_written (xs ++ x ∷ []) ≡ source_written (parameters (take (i + 1) all))
params_more all xs i p x lt is same name has = rw (take_more all i p lt, ← is) (params_last (take i all) xs p x same name has)

pub params_none : (xs : List CoreParam) → xs ≡ [] → core_written xs ≡ []
params_none xs is = ap core_written is

pub params_all : (all : List Param) (i : ℕ) (done : Vec CoreParam Global) (r : Rc (Vec CoreParam Global) Global) → length all ≤ i → core_written done.items ≡ source_written (parameters (take i all)) → r.value ≡ done → core_written r.value.items ≡ source_written (parameters all)
params_all all i done r le h is = rw is (h ∙ ap (λ ps. source_written (parameters ps)) (take_all i all le))

pub ruleset params = (params_more, params_none, params_all)

-- defaults
built_before : (ps qs : List Parameter) → BuiltParameters (ps ++ qs) → BuiltParameters ps
built_before [] qs b = tt
built_before (st.Parameter_at at name annotation default ∷ ps) qs b = (b.0, built_before ps qs b.1)

built_behind : (ps qs : List Parameter) → BuiltParameters (ps ++ qs) → BuiltParameters qs
built_behind [] qs b = b
built_behind (st.Parameter_at at name annotation default ∷ ps) qs b = built_behind ps qs b.1

defaults_more : (ps qs : List Parameter) → defaults_listed (ps ++ qs) ≡ defaults_listed ps ++ defaults_listed qs
defaults_more [] qs = refl
defaults_more (st.Parameter_at at name annotation Absent ∷ ps) qs = defaults_more ps qs
defaults_more (st.Parameter_at at name annotation (Present e) ∷ ps) qs = ap (λ r. e ∷ r) (defaults_more ps qs)

each_append : {es : List Tree} {xs : List (Rc CoreExpr Global)} {fs : List Tree} {ys : List (Rc CoreExpr Global)} → LoweredEach es xs → LoweredEach fs ys → LoweredEach (es ++ fs) (xs ++ ys)
each_append low.LoweredEach.nil h = h
each_append (low.LoweredEach.cons x xs) h = low.LoweredEach.cons x (each_append xs h)

defaults_last : (all : List Param) (xs : List (Rc CoreExpr Global)) (p : Param) (ys : List (Rc CoreExpr Global)) → LowersDefaults all xs → LowersDefaults (p ∷ []) ys → LowersDefaults (all ++ p ∷ []) (xs ++ ys)
defaults_last all xs p ys g h =
    record {
      by = subst (λ ps. BuiltParameters ps → LoweredEach (defaults_listed ps) (xs ++ ys)) (sym (parameters_more all (p ∷ [])))
          (λ b. subst (λ es. LoweredEach es (xs ++ ys)) (sym (defaults_more (parameters all) (parameter p ∷ []))) (each_append (g.by (built_before (parameters all) (parameter p ∷ []) b)) (h.by (built_behind (parameters all) (parameter p ∷ []) b))));
    }

given_one : (p : Param) (e : Rc Expr Global) (x : Rc CoreExpr Global) → p.default ≡ Some e → Lowers e.value x.value → LowersDefaults (p ∷ []) (x ∷ [])
given_one p e x is h = record { by = rw is (λ b. low.LoweredEach.cons (h.by b.0) low.LoweredEach.nil) }

not_given : (p : Param) → p.default ≡ None → LowersDefaults (p ∷ []) []
not_given p is = record { by = rw is (λ b. low.LoweredEach.nil) }

nothing_behind : (xs : List (Rc CoreExpr Global)) → xs ++ [] ≡ xs
nothing_behind [] = refl
nothing_behind (x ∷ xs) = ap (λ (r : List (Rc CoreExpr Global)). x ∷ r) (nothing_behind xs)

-- one more parameter, with its default or without
pub defaults_given : (all : List Param) (xs : List (Rc CoreExpr Global)) (i : ℕ) (p : Param) (e : Rc Expr Global) (x : Rc CoreExpr Global) → i < length all → p ≡ get_or all i p → p.default ≡ Some e → LowersDefaults (take i all) xs → Lowers e.value x.value → LowersDefaults (take (i + 1) all) (xs ++ x ∷ [])
defaults_given all xs i p e x lt at is g h = rw (take_more all i p lt, ← at) (defaults_last (take i all) xs p (x ∷ []) g (given_one p e x is h))

pub defaults_absent : (all : List Param) (xs : List (Rc CoreExpr Global)) (i : ℕ) (p : Param) → i < length all → p ≡ get_or all i p → p.default ≡ None → LowersDefaults (take i all) xs → LowersDefaults (take (i + 1) all) xs
defaults_absent all xs i p lt at is g =
    rw (take_more all i p lt, ← at) (subst (λ ys. LowersDefaults (take i all ++ p ∷ []) ys) (nothing_behind xs) (defaults_last (take i all) xs p [] g (not_given p is)))

pub defaults_none : (xs : List (Rc CoreExpr Global)) → xs ≡ [] → LowersDefaults [] xs
defaults_none xs is = subst (λ xs. LowersDefaults [] xs) (sym is) (record { by = λ b. low.LoweredEach.nil })

pub defaults_all : (all : List Param) (i : ℕ) (done : Vec (Rc CoreExpr Global) Global) (r : Rc (Vec (Rc CoreExpr Global) Global) Global) → length all ≤ i → LowersDefaults (take i all) done.items → r.value ≡ done → LowersDefaults all r.value.items
defaults_all all i done r le h is = rw is (subst (λ all. LowersDefaults all done.items) (take_all i all le) h)

pub ruleset defaults = (defaults_given, defaults_absent, defaults_none, defaults_all)
