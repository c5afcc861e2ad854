-- What an expression means.
use Rattle.std.specs.Prelude.{◌≡◌, ℕ, Bool, true, false, not, ◌&&◌, ◌||◌, ◌⊎◌, List, [], ◌∷◌, ◌++◌, Any, map}
use Rattle.std.specs.Char.{to_ascii_lowercase, eq_ignore_ascii_case}
use Rattle.std.specs.List.{list_any, list_all}
use Rattle.std.specs.Str.{bytes_eq}
use Rattle.mark_expr.specs.declared.tree.MarkExpr.{MarkExpr}
use Rattle.mark_expr.specs.declared.matching.How.{How}
use Rattle.mark_expr.specs.declared.matching.How.TheVariants.{Part, Whole}
use Rattle.mark_expr.specs.Expression.{ExpressionTree, Name, Negation, Conjunction, Disjunction, view}

-- part stands somewhere in whole
pub record IsSubstring (part whole : List ℕ) : Type 0 where
  pub front : List ℕ
  pub back : List ℕ
  pub whole_is : whole ≡ front ++ (part ++ back)

-- a text without regard to the case of ASCII letters
abbrev pub lowered : List ℕ → List ℕ
lowered cs = map to_ascii_lowercase cs

-- whether an ident names a name
abbrev pub Names : How → List ℕ → List ℕ → Type 0
Names Part ident name = IsSubstring (lowered ident) (lowered name)
Names Whole ident name = name ≡ ident

-- THE MEANING, by cases
abbrev pub Holds : How → List (List ℕ) → ExpressionTree → Type 0
Holds how names (Name ident) = Any (Names how ident) names
Holds how names (Negation e) = Holds how names e → ⊥
Holds how names (Conjunction a b) = Holds how names a × Holds how names b
Holds how names (Disjunction a b) = Holds how names a ⊎ Holds how names b

-- The same as tests. Whether whole begins with part
abbrev pub begins_with : List ℕ → List ℕ → Bool
begins_with [] whole = true
begins_with (x ∷ part) [] = false
begins_with (x ∷ part) (y ∷ whole) = eq_ignore_ascii_case x y && begins_with part whole

abbrev pub has_part : List ℕ → List ℕ → Bool
has_part part [] = begins_with part []
has_part part (y ∷ whole) = begins_with part (y ∷ whole) || has_part part whole

abbrev pub names_it : How → List ℕ → List ℕ → Bool
names_it Part ident name = has_part ident name
names_it Whole ident name = bytes_eq name ident

abbrev pub truth : How → List (List ℕ) → ExpressionTree → Bool
truth how names (Name ident) = list_any (names_it how ident) names
truth how names (Negation e) = not (truth how names e)
truth how names (Conjunction a b) = truth how names a && truth how names b
truth how names (Disjunction a b) = truth how names a || truth how names b

-- each of the expressions, and one of them
abbrev pub all_true : How → List (List ℕ) → List MarkExpr → Bool
all_true how names es = list_all (λ e. truth how names (view e)) es

abbrev pub any_true : How → List (List ℕ) → List MarkExpr → Bool
any_true how names es = list_any (λ e. truth how names (view e)) es
