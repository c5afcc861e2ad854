-- The defaults of parameters.
use Rattle.std.proofs.Common.{◌≡◌, ◌<◌, ◌≤◌, ◌+◌, ◌∙◌, ℕ, Bool, true, false, List, [], ◌∷◌, ◌++◌, Option, Some, None, length, drop, get_or, refl, sym, ap, append_assoc}
use Rattle.std.proofs.Math.ListN.{drop_of_length-le}
use Rattle.std.proofs.lemmas.List.{append-nil}
use Rattle.py_core.specs.declared.stmt.CoreParam.{CoreParam}
use Rattle.py_values.specs.declared.rows.Param.{Param}
use Rattle.py_values.specs.declared.value.Value.{Value}
use Rattle.machine_state.specs.py_world.Definitions.{with_defaults}
use Rattle.machine_state.specs.core_meaning.Statements.{written}
use Rattle.machine_unwind.proofs.machine_turns_lemmas.Lists.{drop_some}
use Rattle.machine_define.specs.Defaults.{takes_default}

-- a parameter without default
pub without : (has : Bool) (vs : List Value) (at : ℕ) → has ≡ false → takes_default has vs at None at
without has vs at none = λ name ps. rw none refl

-- one whose default has no value
pub unvalued : (has : Bool) (vs : List Value) (at : ℕ) → has ≡ true → length vs ≤ at → takes_default has vs at None at
unvalued has vs at one over = λ name ps. rw (one, drop_of_length-le vs over) refl

-- one whose default has the value at the place
pub valued : (has : Bool) (vs : List Value) (at : ℕ) (v : Value) → has ≡ true → at < length vs → v ≡ get_or vs at v → takes_default has vs at (Some v) (at + 1)
valued has vs at v one within is = λ name ps. rw (one, drop_some vs at v within is) refl

module _ (ws : List CoreParam) (vs : List Value) where
  -- a parameter more
  pub param_more : (i at next : ℕ) (p : CoreParam) (name : List ℕ) (d : Option Value) (ps out all : List Param)
      → i < length ws → p ≡ get_or ws i p → takes_default p.has_default vs at d next → name ≡ p.name
      → ps ++ with_defaults (written (drop i ws)) (drop at vs) ≡ all → out ≡ ps ++ record { name = name; default = d } ∷ []
      → out ++ with_defaults (written (drop (i + 1) ws)) (drop next vs) ≡ all
  param_more i at next p name d ps out all within is takes same so_far pushed =
      let rest : List Param = with_defaults (written (drop (i + 1) ws)) (drop next vs) in
      let whole : with_defaults (written (drop i ws)) (drop at vs) ≡ record { name = p.name; default = d } ∷ rest =
      ap (λ (xs : List CoreParam). with_defaults (written xs) (drop at vs)) (drop_some ws i p within is) ∙ takes p.name (written (drop (i + 1) ws)) in
      ap (λ (xs : List Param). xs ++ rest) pushed
      ∙ append_assoc ps (record { name = name; default = d } ∷ []) rest
      ∙ ap (λ (n : List ℕ). ps ++ record { name = n; default = d } ∷ rest) same
      ∙ ap (λ (xs : List Param). ps ++ xs) (sym whole) ∙ so_far

  -- behind the last one
  pub params_all : (i at : ℕ) (ps all : List Param) → length ws ≤ i → ps ++ with_defaults (written (drop i ws)) (drop at vs) ≡ all → ps ≡ all
  params_all i at ps all over so_far =
      sym (append-nil ps) ∙ ap (λ (xs : List CoreParam). ps ++ with_defaults (written xs) (drop at vs)) (sym (drop_of_length-le ws over)) ∙ so_far
