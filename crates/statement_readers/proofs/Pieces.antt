-- What is read behind pieces of code, as the grammar has it.
use Rattle.std.proofs.Common.{◌≡◌, ℕ, suc, Bool, true, false, cond, Option, Some, None, List, [], ◌∷◌, ◌++◌, refl, sym, ap, ◌∙◌}
use Rattle.py_source.specs.declared.pos.Pos.{Pos}
use Rattle.py_cursor.specs.py_tokens.declared.token.Token.{Token}
use Rattle.py_tree.specs.Trees.{Maybe, Absent, Present}
use Rattle.parsing.specs.Reading.{Read, Found, Bad, Deep, ◌>>=◌, head_is, has}
use Rattle.parsing.proofs.Loops.{bind_assoc}
use Rattle.grammar_code.specs.Walk.{first_if, first_of, pick}
use Rattle.py_cursor.specs.token_kinds.Kinds.{kind, text_of}
use Rattle.py_cursor.specs.token_kinds.Numbers as k
use Rattle.py_cursor.specs.py_expressions.Sorts.{expr, exprs}
use Rattle.py_cursor.specs.py_expressions.Lines.{expr_begins}
use Rattle.statement_readers.specs.Reads.{reads_as}
use Rattle.statement_readers.specs.Words.{one_among, starts, one, optional_expr, optional_exprs, expr_behind, name_reader, alias_behind}

pub bind_if : {A B : Type 0} (b : Bool) (x y : Read Token A) (f : A × List Token → Read Token B) → (cond b x y >>= f) ≡ cond b (x >>= f) (y >>= f)
bind_if true x y f = refl
bind_if false x y f = refl

pub bind_pick : {X A B : Type 0} (o : Option X) (g : X → Read Token A) (z : Read Token A) (f : A × List Token → Read Token B) → (pick o g z >>= f) ≡ pick o (λ x. g x >>= f) (z >>= f)
bind_pick (Some x) g z f = refl
bind_pick None g z f = refl

pub picks : {X A : Type 0} (o : Option X) (f g : X → Read Token A) (z w : Read Token A) → ((x : X) → f x ≡ g x) → z ≡ w → pick o f z ≡ pick o g w
picks (Some x) f g z w e i = e x
picks None f g z w e i = i

pub chosen : {A : Type 0} (F : List ℕ) (f : Token × List Token → Read Token A) (z : Read Token A) (ts : List Token) → pick (first_of kind F ts) f z ≡ cond (starts F ts) (one_among F ts >>= f) z
chosen F f z [] = refl
chosen {A} F f z (t ∷ ts) = go (has (kind t) F)
  where
    go : (b : Bool) → pick {X = Token × List Token} (first_if b (t, ts)) f z ≡ cond b (pick {X = Token × List Token} (first_if b (t, ts)) (λ o. Found o.0 o.1) (Bad (t ∷ ts)) >>= f) z
    go true = refl
    go false = refl

pub none_head : (ts : List Token) → head_is (λ t. has (kind t) []) ts ≡ false
none_head [] = refl
none_head (t ∷ ts) = refl

pub optional_expr_on : {A : Type 0} (f : Maybe × List Token → Read Token A) (ts : List Token) → (optional_expr ts >>= f) ≡ cond (starts expr_begins ts) (reads_as 100 expr ts >>= λ y. f (Present y.0.0, y.1)) (f (Absent, ts))
unfolding optional_expr
optional_expr_on f ts = bind_if (starts expr_begins ts) _ _ f ∙ ap (λ v. cond (starts expr_begins ts) v (f (Absent, ts))) (bind_assoc (reads_as 100 expr ts) _ f)

pub optional_exprs_on : {A : Type 0} (f : Maybe × List Token → Read Token A) (ts : List Token) → (optional_exprs ts >>= f) ≡ cond (starts expr_begins ts) (reads_as 100 exprs ts >>= λ y. f (Present y.0.0, y.1)) (f (Absent, ts))
unfolding optional_exprs
optional_exprs_on f ts = bind_if (starts expr_begins ts) _ _ f ∙ ap (λ v. cond (starts expr_begins ts) v (f (Absent, ts))) (bind_assoc (reads_as 100 exprs ts) _ f)

pub behind_on : {A : Type 0} (c : ℕ) (f : Maybe × List Token → Read Token A) (ts : List Token) → (expr_behind c ts >>= f) ≡ pick (one c ts) (λ o. reads_as 100 expr o.1 >>= λ y. f (Present y.0.0, y.1)) (f (Absent, ts))
unfolding expr_behind
behind_on c f ts = bind_pick (one c ts) _ _ f ∙ picks (one c ts) _ _ _ _ (λ o. bind_assoc (reads_as 100 expr o.1) _ f) refl

pub name_on : {A : Type 0} (f : List ℕ × List Token → Read Token A) (ts : List Token) → (name_reader ts >>= f) ≡ (one_among (k.name ∷ []) ts >>= λ u. f (text_of u.0, u.1))
unfolding name_reader
name_on f ts = bind_assoc (one_among (k.name ∷ []) ts) _ f

pub alias_on : {A : Type 0} (f : Option (List ℕ) × List Token → Read Token A) (ts : List Token) → (alias_behind ts >>= f) ≡ pick (one k.as_word ts) (λ o. one_among (k.name ∷ []) o.1 >>= λ u. f (Some (text_of u.0), u.1)) (f (None, ts))
unfolding alias_behind
alias_on f ts = bind_pick (one k.as_word ts) _ _ f ∙ picks (one k.as_word ts) _ _ _ _ (λ o. bind_assoc (name_reader o.1) _ f ∙ name_on (λ n. f (Some n.0, n.1)) o.1) refl

-- FROM THE GRAMMAR'S FORM TO THE CODE'S: what is read behind a value, in one piece or in two
pub onward : {A B C : Type 0} {x : Read Token C} (r : Read Token A) (g : A × List Token → Read Token B) (h : B × List Token → Read Token C) → x ≡ (r >>= λ y. g y >>= h) → x ≡ ((r >>= g) >>= h)
onward r g h e = e ∙ sym (bind_assoc r g h)

pub next : {A B : Type 0} (r : Read Token A) (f g : A × List Token → Read Token B) → ((a : A) (rest : List Token) → f (a, rest) ≡ g (a, rest)) → (r >>= f) ≡ (r >>= g)
next (Found a rest) f g e = e a rest
next (Bad rest) f g e = refl
next (Deep rest) f g e = refl

pub either : {A B : Type 0} (b : Bool) (x y : Read Token B) (p q : Read Token A) (h : A × List Token → Read Token B) → x ≡ (p >>= h) → y ≡ (q >>= h) → cond b x y ≡ (cond b p q >>= h)
either true x y p q h e i = e
either false x y p q h e i = i

pub choice : {X A B : Type 0} (o : Option X) (f : X → Read Token B) (g : X → Read Token A) (z : Read Token B) (w : Read Token A) (h : A × List Token → Read Token B) → ((x : X) → f x ≡ (g x >>= h)) → z ≡ (w >>= h) → pick o f z ≡ (pick o g w >>= h)
choice (Some x) f g z w h e i = e x
choice None f g z w h e i = i

pub chosen_as : {A : Type 0} (F : List ℕ) (f : Token × List Token → Read Token A) (z : Read Token A) (ts : List Token) (y : Read Token A) → cond (starts F ts) (one_among F ts >>= f) z ≡ y → pick (first_of kind F ts) f z ≡ y
chosen_as F f z ts y e = chosen F f z ts ∙ e

pub followed : {A : Type 0} {x y z : A} → x ≡ y → y ≡ z → x ≡ z
followed e d = e ∙ d

pub both : {A B : Type 0} (r s : Read Token A) (f g : A × List Token → Read Token B) → r ≡ s → ((a : A) (rest : List Token) → f (a, rest) ≡ g (a, rest)) → (r >>= f) ≡ (s >>= g)
both r s f g e h = ap (λ v. v >>= f) e ∙ next s f g h
