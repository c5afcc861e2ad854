-- The tests say what the meaning says.
use Rattle.std.proofs.Common.{◌≡◌, ℕ, ◌+◌, ◌-◌, ◌<◌, ◌≤◌, Bool, true, false, not, ◌&&◌, ◌||◌, ◌==◌, ◌⊎◌, inl, inr, List, [], ◌∷◌, ◌++◌, length, take, drop, get_or, refl, sym, ap, ◌∙◌, arith, add-one, drop-cons, Vec, Box, Global}
use Rattle.std.specs.Char.{to_ascii_lowercase, eq_ignore_ascii_case}
use Rattle.std.proofs.lemmas.Grind.{common_steps}
use Rattle.std.proofs.lemmas.List.Folds.{Any-from_list_any, list_any-from_Any}
use Rattle.std.proofs.lemmas.Slice.Eq.{bytes_eq-Decides}
use Rattle.mark_expr.specs.declared.matching.How.{How}
use Rattle.mark_expr.specs.declared.matching.How.TheVariants.{Part, Whole}
use Rattle.mark_expr.specs.declared.tree.MarkExpr.{MarkExpr}
use Rattle.mark_expr.specs.declared.tree.MarkExpr.TheVariants as exprs
use Rattle.mark_expr.proofs.Rows.{and_view, or_view}
use Rattle.mark_expr.specs.Expression.{ExpressionTree, Name, Negation, Conjunction, Disjunction, view, joined_left}
use Rattle.mark_expr.specs.Matching.{IsSubstring, lowered, Names, Holds, begins_with, has_part, names_it, truth, all_true, any_true}

and_true : (a b : Bool) → (a && b) ≡ true → (a ≡ true) × (b ≡ true)
and_true true b e = (refl, e)
and_true false b e = absurd (cc)

true_and : (a b : Bool) → a ≡ true → b ≡ true → (a && b) ≡ true
true_and true b d e = e
true_and false b d e = absurd (cc)

or_true : (a b : Bool) → (a || b) ≡ true → (a ≡ true) ⊎ (b ≡ true)
or_true true b e = inl refl
or_true false b e = inr e

true_or : (a b : Bool) → a ≡ true → (a || b) ≡ true
true_or true b e = refl
true_or false b e = absurd (cc)

or_right : (a b : Bool) → b ≡ true → (a || b) ≡ true
or_right true b e = refl
or_right false b e = e

same_letter : (x y : ℕ) → eq_ignore_ascii_case x y ≡ true → to_ascii_lowercase x ≡ to_ascii_lowercase y
same_letter x y e = grind (arith, common_steps)

letter_same : (x y : ℕ) → to_ascii_lowercase x ≡ to_ascii_lowercase y → eq_ignore_ascii_case x y ≡ true
letter_same x y e = grind (arith, common_steps)

begins_is : (part whole : List ℕ) → begins_with part whole ≡ true → (back : List ℕ) × (lowered whole ≡ lowered part ++ back)
begins_is [] whole e = (lowered whole, refl)
begins_is (x ∷ part) [] e = absurd (cc)
begins_is (x ∷ part) (y ∷ whole) e =
    let h = and_true (eq_ignore_ascii_case x y) (begins_with part whole) e in
    let r = begins_is part whole h.1 in
    let s : to_ascii_lowercase x ≡ to_ascii_lowercase y = same_letter x y h.0 in
    (r.0, ap (λ c. c ∷ lowered whole) (sym s) ∙ ap (λ v. to_ascii_lowercase x ∷ v) r.1)

is_begins : (part whole back : List ℕ) → lowered whole ≡ lowered part ++ back → begins_with part whole ≡ true
is_begins [] whole back e = refl
is_begins (x ∷ part) [] back e = absurd (cc)
is_begins (x ∷ part) (y ∷ whole) back e =
    let s : to_ascii_lowercase x ≡ to_ascii_lowercase y = cc in
    let t : lowered whole ≡ lowered part ++ back = cc in
    true_and (eq_ignore_ascii_case x y) (begins_with part whole) (letter_same x y s) (is_begins part whole back t)

at_begin : (part whole : List ℕ) → begins_with part whole ≡ true → IsSubstring (lowered part) (lowered whole)
at_begin part whole e = let r = begins_is part whole e in record { front = []; back = r.0; whole_is = r.1 }

part_is : (part whole : List ℕ) → has_part part whole ≡ true → IsSubstring (lowered part) (lowered whole)
part_is part [] e = at_begin part [] e
part_is part (y ∷ whole) e = elim (or_true (begins_with part (y ∷ whole)) (has_part part whole) e) [
  | inl b ↦ at_begin part (y ∷ whole) b
  | inr h ↦ let r = part_is part whole h in record { front = to_ascii_lowercase y ∷ r.front; back = r.back; whole_is = ap (λ v. to_ascii_lowercase y ∷ v) r.whole_is }
]

is_part : (part whole front back : List ℕ) → lowered whole ≡ front ++ (lowered part ++ back) → has_part part whole ≡ true
is_part part [] [] back e = is_begins part [] back e
is_part part [] (f ∷ front) back e = absurd (cc)
is_part part (y ∷ whole) [] back e = true_or (begins_with part (y ∷ whole)) (has_part part whole) (is_begins part (y ∷ whole) back e)
is_part part (y ∷ whole) (f ∷ front) back e = let t : lowered whole ≡ front ++ (lowered part ++ back) = cc in or_right (begins_with part (y ∷ whole)) (has_part part whole) (is_part part whole front back t)

names_is : (how : How) (ident name : List ℕ) → names_it how ident name ≡ true → Names how ident name
names_is Part ident name e = part_is ident name e
names_is Whole ident name e = (bytes_eq-Decides name ident).0 e

is_names : (how : How) (ident name : List ℕ) → Names how ident name → names_it how ident name ≡ true
is_names Part ident name n = is_part ident name n.front n.back n.whole_is
is_names Whole ident name n = (bytes_eq-Decides name ident).1 n

not_true : (b : Bool) → not b ≡ true → b ≡ true → ⊥
not_true true d e = cc
not_true false d e = cc

true_not : (b : Bool) → (b ≡ true → ⊥) → not b ≡ true
true_not true d = absurd (d refl)
true_not false d = refl

abbrev pub Decided : Bool → Type 0 → Type 0
Decided b P = (b ≡ true → P) × (P → b ≡ true)

pub truth_is : (how : How) (names : List (List ℕ)) (e : ExpressionTree) → Decided (truth how names e) (Holds how names e)
truth_is how names (Name ident) = (
  λ e. let a = Any-from_list_any (names_it how ident) names e in (a.0, a.1, a.2, a.3, names_is how ident a.1 a.4),
  λ a. list_any-from_Any (names_it how ident) names (a.0, a.1, a.2, a.3, is_names how ident a.1 a.4),
)
truth_is how names (Negation x) = let d = truth_is how names x in (λ e h. not_true (truth how names x) e (d.1 h), λ n. true_not (truth how names x) (λ e. n (d.0 e)))
truth_is how names (Conjunction a b) = let c = truth_is how names a in let d = truth_is how names b in (
  λ e. let h = and_true (truth how names a) (truth how names b) e in (c.0 h.0, d.0 h.1),
  λ h. true_and (truth how names a) (truth how names b) (c.1 h.0) (d.1 h.1),
)
truth_is how names (Disjunction a b) = let c = truth_is how names a in let d = truth_is how names b in (
  λ e. elim (or_true (truth how names a) (truth how names b) e) [ inl x ↦ inl (c.0 x) | inr y ↦ inr (d.0 y) ],
  λ h. elim h [ inl x ↦ true_or (truth how names a) (truth how names b) (c.1 x) | inr y ↦ or_right (truth how names a) (truth how names b) (d.1 y) ],
)

-- a row of parts
and_assoc : (a b c : Bool) → ((a && b) && c) ≡ (a && (b && c))
and_assoc true b c = refl
and_assoc false b c = refl

or_assoc : (a b c : Bool) → ((a || b) || c) ≡ (a || (b || c))
or_assoc true b c = refl
or_assoc false b c = refl

and_end : (a : Bool) → a ≡ (a && true)
and_end true = refl
and_end false = refl

or_end : (a : Bool) → a ≡ (a || false)
or_end true = refl
or_end false = refl

pub truth-all : (how : How) (names : List (List ℕ)) (a : ExpressionTree) (es : List MarkExpr) → truth how names (joined_left Conjunction a es) ≡ (truth how names a && all_true how names es)
truth-all how names a [] = and_end (truth how names a)
truth-all how names a (e ∷ es) = truth-all how names (Conjunction a (view e)) es ∙ and_assoc (truth how names a) (truth how names (view e)) (all_true how names es)

pub truth-any : (how : How) (names : List (List ℕ)) (a : ExpressionTree) (es : List MarkExpr) → truth how names (joined_left Disjunction a es) ≡ (truth how names a || any_true how names es)
truth-any how names a [] = or_end (truth how names a)
truth-any how names a (e ∷ es) = truth-any how names (Disjunction a (view e)) es ∙ or_assoc (truth how names a) (truth how names (view e)) (any_true how names es)

-- the answer for a row, from those for its first part and its further ones
module _ (how : How) (names : List (List ℕ)) (x : MarkExpr) (first : Box MarkExpr Global) (more : Vec MarkExpr Global) (p : MarkExpr) (a : Bool) (of_first : p ≡ first.value) (a_is : a ≡ truth how names (view p)) where
  first_is : a ≡ truth how names (view first.value)
  first_is = a_is ∙ ap (λ v. truth how names (view v)) of_first

  row_and : x ≡ exprs.And first more → truth how names (view x) ≡ (a && all_true how names more.items)
  row_and e = ap (λ v. truth how names (view v)) e ∙ ap (truth how names) (and_view first more) ∙ truth-all how names (view first.value) more.items ∙ ap (λ v. v && all_true how names more.items) (sym first_is)

  row_or : x ≡ exprs.Or first more → truth how names (view x) ≡ (a || any_true how names more.items)
  row_or e = ap (λ v. truth how names (view v)) e ∙ ap (truth how names) (or_view first more) ∙ truth-any how names (view first.value) more.items ∙ ap (λ v. v || any_true how names more.items) (sym first_is)

  pub and_rest : x ≡ exprs.And first more → a ≡ true → (b : Bool) (es : List MarkExpr) → es ≡ more.items → b ≡ all_true how names es → b ≡ truth how names (view x)
  and_rest e t b es f d = d ∙ ap (all_true how names) f ∙ sym (row_and e ∙ ap (λ v. v && all_true how names more.items) t)

  pub and_first : x ≡ exprs.And first more → a ≡ false → a ≡ truth how names (view x)
  and_first e t = t ∙ sym (row_and e ∙ ap (λ v. v && all_true how names more.items) t)

  pub or_rest : x ≡ exprs.Or first more → a ≡ false → (b : Bool) (es : List MarkExpr) → es ≡ more.items → b ≡ any_true how names es → b ≡ truth how names (view x)
  or_rest e t b es f d = d ∙ ap (any_true how names) f ∙ sym (row_or e ∙ ap (λ v. v || any_true how names more.items) t)

  pub or_first : x ≡ exprs.Or first more → a ≡ true → a ≡ truth how names (view x)
  or_first e t = t ∙ sym (row_or e ∙ ap (λ v. v || any_true how names more.items) t)

-- a part at the place i, or behind it
pub part_over : (part s : List ℕ) (i : ℕ) (b all : Bool) → i < length s → b ≡ begins_with part (take (length s - i) (drop i s)) → b ≡ false → has_part part (drop i s) ≡ all → has_part part (drop (i + 1) s) ≡ all
part_over part s i b all h d f a =
    let rest : take (length s - i) (drop i s) ≡ drop i s = grind (arith, common_steps) in
    let cons : drop i s ≡ get_or s i 0 ∷ drop (i + 1) s = rw (add-one, drop-cons s i 0) refl in
    let n : begins_with part (get_or s i 0 ∷ drop (i + 1) s) ≡ false = ap (begins_with part) (sym cons) ∙ ap (begins_with part) (sym rest) ∙ sym d ∙ f in
    ap (λ v. v || has_part part (drop (i + 1) s)) (sym n) ∙ ap (has_part part) (sym cons) ∙ a

begins_nothing : (part : List ℕ) → begins_with part [] ≡ (length part == 0)
begins_nothing [] = refl
begins_nothing (x ∷ part) = grind (arith, common_steps)

pub part_end : (part s : List ℕ) (i : ℕ) (b all : Bool) → length s ≤ i → b ≡ (length part == 0) → has_part part (drop i s) ≡ all → b ≡ all
part_end part s i b all h d a = let e : drop i s ≡ [] = grind (arith, common_steps) in d ∙ sym (begins_nothing part) ∙ ap (has_part part) (sym e) ∙ a
