-- LOOPS of code, one time round: a reader that takes steps in a row goes on by its equation.
use Rattle.std.proofs.Common.{◌≡◌, ℕ, ◌<◌, ◌≤◌, Bool, true, false, cond, Option, Some, None, List, [], ◌∷◌, length, refl, sym, ap, ◌∙◌, subst, arith}
use Rattle.py_tokens.specs.declared.token.Token.{Token}
use Rattle.parsing.specs.Reading.{Read, Found, Bad, Deep, ◌>>=◌, deep_at, has}
use Rattle.grammar_code.specs.Walk.{first_if, with_meaning, first_of, first_meant, pick, starts_with, wanted}
use Rattle.grammar.specs.Table.{lookup_key}
use Rattle.py_expressions.specs.token_kinds.Kinds.{kind}
use Rattle.py_cursor.specs.declared.stop.Stop.{Stop}
use Rattle.py_cursor.specs.declared.stop.Stop.TheVariants as stops
use Rattle.py_cursor.specs.Cursor.{FailsAs, IsBlocked}

-- a fault inside is the fault of the whole
pub fails_on : {A B : Type 0} (s : Stop) (read : Read Token A) (whole : Read Token B) (f : A × List Token → Read Token B) → FailsAs s read → (read >>= f) ≡ whole → FailsAs s whole
fails_on (stops.Bad s) read whole f e w = sym w ∙ ap (λ v. v >>= f) e
fails_on (stops.Deep s) read whole f e w = sym w ∙ ap (λ v. v >>= f) e
fails_on stops.Memory read whole f e w = tt

pub blocked_as : (A : Type 0) (F : List ℕ) (ts : List Token) (stop : Stop) → IsBlocked (starts_with kind F ts) ts stop → FailsAs {A = A} stop (deep_at (λ t. has (kind t) F) ts)
blocked_as A F [] (stops.Bad s) e = ap Bad (sym e)
blocked_as A F [] (stops.Deep s) e = absurd e
blocked_as A F [] stops.Memory e = absurd e
blocked_as A F (t ∷ ts) stop e = go (has (kind t) F) stop e
  where
    go : (b : Bool) (stop : Stop) → IsBlocked b (t ∷ ts) stop → FailsAs {A = A} stop (cond b (Deep (t ∷ ts)) (Bad (t ∷ ts)))
    go true (stops.Deep s) e = ap Deep (sym e)
    go false (stops.Bad s) e = ap Bad (sym e)
    go true (stops.Bad s) e = absurd e
    go false (stops.Deep s) e = absurd e
    go true stops.Memory e = absurd e
    go false stops.Memory e = absurd e

first_some : {X : Type 0} (b : Bool) (x y : X) → first_if b x ≡ Some y → x ≡ y
first_some true x y e = cc
first_some false x y e = absurd (cc)

-- the first token is taken
pub first_takes : (F : List ℕ) (ts : List Token) (o : Token) (after : List Token) → first_of kind F ts ≡ Some (o, after) → length after < length ts
first_takes F [] o after e = absurd (cc)
first_takes F (t ∷ ts) o after e = let h = first_some (has (kind t) F) (t, ts) (o, after) e in let d = ap (λ x. length x.1) h in omega arith

meant_rest : {V : Type 0} (t : Token) (ts : List Token) (v : Option V) (o : Token × V) (after : List Token) → with_meaning t ts v ≡ Some (o, after) → ts ≡ after
meant_rest t ts None o after e = absurd (cc)
meant_rest t ts (Some v) o after e = ap (λ x. x.1) (some_is ((t, v), ts) (o, after) e)
  where
    some_is : {X : Type 0} (x y : X) → Some x ≡ Some y → x ≡ y
    some_is x y e = cc

pub meant_takes : {V : Type 0} (rows : List (ℕ × V)) (ts : List Token) (o : Token × V) (after : List Token) → first_meant kind rows ts ≡ Some (o, after) → length after < length ts
meant_takes rows [] o after e = absurd (cc)
meant_takes rows (t ∷ ts) o after e = let d = ap length (meant_rest t ts (lookup_key rows (kind t)) o after e) in omega arith

-- A token, and what is read behind it, again and again
module _ {S X B R : Type 0} (M : S → List Token → Read Token R) (look : List Token → Option (X × List Token)) (ok : S → Bool) (r : List Token → Read Token B) (join : S → X → B → S) (done : S → List Token → Read Token R)
    (line : (s : S) (ts : List Token) → M s ts ≡ pick (look ts) (λ o. cond (ok s) (r o.1 >>= λ y. M (join s o.0 y.0) y.1) (Deep ts)) (done s ts)) where
  pub steps_over : (s : S) (ts : List Token) → look ts ≡ None → M s ts ≡ done s ts
  steps_over s ts e = line s ts ∙ ap (λ v. pick v (λ o. cond (ok s) (r o.1 >>= λ y. M (join s o.0 y.0) y.1) (Deep ts)) (done s ts)) e

  pub steps_goes : (s : S) (ts : List Token) (o : X) (after : List Token) → look ts ≡ Some (o, after) → M s ts ≡ cond (ok s) (r after >>= λ y. M (join s o y.0) y.1) (Deep ts)
  steps_goes s ts o after e = line s ts ∙ ap (λ v. pick v (λ o. cond (ok s) (r o.1 >>= λ y. M (join s o.0 y.0) y.1) (Deep ts)) (done s ts)) e

  pub steps_deep : (s : S) (ts : List Token) (o : X) (after : List Token) (whole : Read Token R) → look ts ≡ Some (o, after) → ok s ≡ false → M s ts ≡ whole → whole ≡ Deep ts
  steps_deep s ts o after whole e i w = sym w ∙ steps_goes s ts o after e ∙ ap (λ v. cond v (r after >>= λ y. M (join s o y.0) y.1) (Deep ts)) i

  pub steps_fails : (s : S) (ts : List Token) (o : X) (after : List Token) (stop : Stop) (whole : Read Token R) → look ts ≡ Some (o, after) → ok s ≡ true → FailsAs stop (r after) → M s ts ≡ whole → FailsAs stop whole
  steps_fails s ts o after stop whole e i d w = fails_on stop (r after) whole (λ y. M (join s o y.0) y.1) d (sym (ap (λ v. cond v (r after >>= λ y. M (join s o y.0) y.1) (Deep ts)) i) ∙ sym (steps_goes s ts o after e) ∙ w)

  pub steps_next : (s : S) (ts : List Token) (o : X) (after : List Token) (y : B) (rest : List Token) (t : S) (whole : Read Token R) → look ts ≡ Some (o, after) → ok s ≡ true → r after ≡ Found y rest → join s o y ≡ t → M s ts ≡ whole → M t rest ≡ whole
  steps_next s ts o after y rest t whole e i d j w = ap (λ v. M v rest) (sym j) ∙ sym (ap (λ v. v >>= λ y. M (join s o y.0) y.1) d) ∙ sym (ap (λ v. cond v (r after >>= λ y. M (join s o y.0) y.1) (Deep ts)) i) ∙ sym (steps_goes s ts o after e) ∙ w

-- What begins with one of a set, again and again
module _ {S R : Type 0} (M : S → List Token → Read Token R) (F : List ℕ) (ok : S → Bool) (r : S → List Token → Read Token S) (done : S → List Token → Read Token R)
    (line : (s : S) (ts : List Token) → M s ts ≡ cond (starts_with kind F ts) (cond (ok s) (r s ts >>= λ y. M y.0 y.1) (Deep ts)) (done s ts)) where
  pub begun_over : (s : S) (ts : List Token) → starts_with kind F ts ≡ false → M s ts ≡ done s ts
  begun_over s ts e = line s ts ∙ ap (λ v. cond v (cond (ok s) (r s ts >>= λ y. M y.0 y.1) (Deep ts)) (done s ts)) e

  begun_goes : (s : S) (ts : List Token) → starts_with kind F ts ≡ true → M s ts ≡ cond (ok s) (r s ts >>= λ y. M y.0 y.1) (Deep ts)
  begun_goes s ts e = line s ts ∙ ap (λ v. cond v (cond (ok s) (r s ts >>= λ y. M y.0 y.1) (Deep ts)) (done s ts)) e

  pub begun_deep : (s : S) (ts : List Token) (whole : Read Token R) → starts_with kind F ts ≡ true → ok s ≡ false → M s ts ≡ whole → whole ≡ Deep ts
  begun_deep s ts whole e i w = sym w ∙ begun_goes s ts e ∙ ap (λ v. cond v (r s ts >>= λ y. M y.0 y.1) (Deep ts)) i

  pub begun_fails : (s : S) (ts : List Token) (stop : Stop) (whole : Read Token R) → starts_with kind F ts ≡ true → ok s ≡ true → FailsAs stop (r s ts) → M s ts ≡ whole → FailsAs stop whole
  begun_fails s ts stop whole e i d w = fails_on stop (r s ts) whole (λ y. M y.0 y.1) d (sym (ap (λ v. cond v (r s ts >>= λ y. M y.0 y.1) (Deep ts)) i) ∙ sym (begun_goes s ts e) ∙ w)

  pub begun_next : (s : S) (ts : List Token) (t : S) (rest : List Token) (whole : Read Token R) → starts_with kind F ts ≡ true → ok s ≡ true → r s ts ≡ Found t rest → M s ts ≡ whole → M t rest ≡ whole
  begun_next s ts t rest whole e i d w = sym (ap (λ v. v >>= λ y. M y.0 y.1) d) ∙ sym (ap (λ v. cond v (r s ts >>= λ y. M y.0 y.1) (Deep ts)) i) ∙ sym (begun_goes s ts e) ∙ w

-- Items with a token between them, and maybe one at the end; p holds of a state that no token has ended
module _ {S R : Type 0} (M : S → List Token → Read Token R) (C F : List ℕ) (r : S → List Token → Read Token S) (end : S → S) (done : S → List Token → Read Token R) (p : S → Type 0)
    (line : (s : S) (ts : List Token) → p s → M s ts ≡ pick (first_of kind C ts) (λ o. cond (starts_with kind F o.1) (r s o.1 >>= λ y. M y.0 y.1) (done (end s) o.1)) (done s ts)) where
  pub items_over : (s : S) (ts : List Token) → p s → first_of kind C ts ≡ None → M s ts ≡ done s ts
  items_over s ts h e = line s ts h ∙ ap (λ v. pick v (λ o. cond (starts_with kind F o.1) (r s o.1 >>= λ y. M y.0 y.1) (done (end s) o.1)) (done s ts)) e

  items_goes : (s : S) (ts : List Token) (o : Token) (after : List Token) → p s → first_of kind C ts ≡ Some (o, after) → M s ts ≡ cond (starts_with kind F after) (r s after >>= λ y. M y.0 y.1) (done (end s) after)
  items_goes s ts o after h e = line s ts h ∙ ap (λ v. pick v (λ o. cond (starts_with kind F o.1) (r s o.1 >>= λ y. M y.0 y.1) (done (end s) o.1)) (done s ts)) e

  pub items_end : (s : S) (ts : List Token) (o : Token) (after : List Token) (t : S) (whole : Read Token R) → p s → first_of kind C ts ≡ Some (o, after) → starts_with kind F after ≡ false → end s ≡ t → M s ts ≡ whole → whole ≡ done t after
  items_end s ts o after t whole h e i j w = sym w ∙ items_goes s ts o after h e ∙ ap (λ v. cond v (r s after >>= λ y. M y.0 y.1) (done (end s) after)) i ∙ ap (λ v. done v after) j

  pub items_fails : (s : S) (ts : List Token) (o : Token) (after : List Token) (stop : Stop) (whole : Read Token R) → p s → first_of kind C ts ≡ Some (o, after) → starts_with kind F after ≡ true → FailsAs stop (r s after) → M s ts ≡ whole → FailsAs stop whole
  items_fails s ts o after stop whole h e i d w = fails_on stop (r s after) whole (λ y. M y.0 y.1) d (sym (ap (λ v. cond v (r s after >>= λ y. M y.0 y.1) (done (end s) after)) i) ∙ sym (items_goes s ts o after h e) ∙ w)

  pub items_next : (s : S) (ts : List Token) (o : Token) (after : List Token) (t : S) (rest : List Token) (whole : Read Token R) → p s → first_of kind C ts ≡ Some (o, after) → starts_with kind F after ≡ true → r s after ≡ Found t rest → M s ts ≡ whole → M t rest ≡ whole
  items_next s ts o after t rest whole h e i d w = sym (ap (λ v. v >>= λ y. M y.0 y.1) d) ∙ sym (ap (λ v. cond v (r s after >>= λ y. M y.0 y.1) (done (end s) after)) i) ∙ sym (items_goes s ts o after h e) ∙ w
