-- The local names with which a function begins are those that `bind` gives its parameters.
use Rattle.std.proofs.Common.{◌≡◌, ◌∙◌, ◌<◌, ◌≤◌, arith, ℕ, suc, Bool, true, false, cond, not, ◌&&◌, ◌||◌, List, [], ◌∷◌, ◌++◌, Option, Some, None, refl, sym, ap, append_assoc, append-nil}
use Rattle.std.specs.Prelude.{length, nat_lt, option_map}
use Rattle.std.specs.List.{list_all, list_any}
use Rattle.std.proofs.lemmas.Bool.{cond-false, or_parts, or_left, or_right, and_left, and_right, ltb-true, ltb-false, lt-ltb, le-ltb}
use Rattle.std.proofs.lemmas.Slice.Eq.{bytes_eq-Decides}
use Rattle.py_values.specs.declared.rows.Param.{Param}
use Rattle.py_values.specs.declared.value.Value.{Value}
use Rattle.py_values.specs.Names.{name_eq, find_name, bind_name, unbind_name}
use Rattle.py_bind.specs.Binding.{Named, values_named, value_of, prepend_value, values_of, is_parameter, bound, IsBound, IsWrong}
use Rattle.py_bind.proofs.Bindings.{right_by, wrong_by}
use Rattle.source_meaning.specs.py_world.World.{Locals}
use Rattle.source_meaning.specs.py_world.Arguments.{fitted, given_or}
use Rattle.core_rules.specs.Bindings.{formals, locals_with, NamesDiffer}

abbrev knows : List Param → Named → Bool
knows ps a = is_parameter (formals ps) a.0

name_is : (n m : List ℕ) → name_eq n m ≡ true → n ≡ m
name_is n m e = (bytes_eq-Decides n m).0 e

-- THE ARGUMENTS BY NAME, by the values that a name has among them
found_by : (n : List ℕ) (a : Named) (named : List Named) (w : Value) (rest : List Value) (b : Bool) → (values_named n named ≡ w ∷ rest → find_name n named ≡ Some w)
    → cond b (a.1 ∷ values_named n named) (values_named n named) ≡ w ∷ rest → cond b (Some a.1) (find_name n named) ≡ Some w
found_by n a named w rest true on h = cc
found_by n a named w rest false on h = on h

found : (n : List ℕ) (named : List Named) (w : Value) (rest : List Value) → values_named n named ≡ w ∷ rest → find_name n named ≡ Some w
found n [] w rest h = absurd cc
found n (a ∷ named) w rest h = found_by n a named w rest (name_eq n a.0) (found n named w rest) h

absent_by : (n : List ℕ) (a : Named) (named : List Named) (b : Bool) → (values_named n named ≡ [] → find_name n named ≡ None)
    → cond b (a.1 ∷ values_named n named) (values_named n named) ≡ [] → cond b (Some a.1) (find_name n named) ≡ None
absent_by n a named true on h = absurd cc
absent_by n a named false on h = on h

absent : (n : List ℕ) (named : List Named) → values_named n named ≡ [] → find_name n named ≡ None
absent n [] h = refl
absent n (a ∷ named) h = absent_by n a named (name_eq n a.0) (absent n named) h

-- one argument of a name is taken
rest_by : (n : List ℕ) (a : Named) (named : List Named) (w : Value) (rest : List Value) (b : Bool) → name_eq n a.0 ≡ b → (values_named n named ≡ w ∷ rest → values_named n (unbind_name n named) ≡ rest)
    → cond b (a.1 ∷ values_named n named) (values_named n named) ≡ w ∷ rest → values_named n (cond b named (a ∷ unbind_name n named)) ≡ rest
rest_by n a named w rest true e on h = cc
rest_by n a named w rest false e on h = cond-false (name_eq n a.0) (a.1 ∷ values_named n (unbind_name n named)) (values_named n (unbind_name n named)) e ∙ on h

rest_left : (n : List ℕ) (named : List Named) (w : Value) (rest : List Value) → values_named n named ≡ w ∷ rest → values_named n (unbind_name n named) ≡ rest
rest_left n [] w rest h = absurd cc
rest_left n (a ∷ named) w rest h = rest_by n a named w rest (name_eq n a.0) refl (rest_left n named w rest) h

other_by : (q n : List ℕ) (a : Named) (named : List Named) (b : Bool) → name_eq n a.0 ≡ b → name_eq q n ≡ false → values_named q (unbind_name n named) ≡ values_named q named
    → values_named q (cond b named (a ∷ unbind_name n named)) ≡ values_named q (a ∷ named)
other_by q n a named true e d on = sym (cond-false (name_eq q a.0) (a.1 ∷ values_named q named) (values_named q named) (ap (name_eq q) (sym (name_is n a.0 e)) ∙ d))
other_by q n a named false e d on = ap (λ (vs : List Value). cond (name_eq q a.0) (a.1 ∷ vs) vs) on

other_left : (q n : List ℕ) (named : List Named) → name_eq q n ≡ false → values_named q (unbind_name n named) ≡ values_named q named
other_left q n [] d = refl
other_left q n (a ∷ named) d = other_by q n a named (name_eq n a.0) refl d (other_left q n named d)

values_left : (ps : List Param) (n : List ℕ) (named : List Named) → is_parameter (formals ps) n ≡ false → values_of (formals ps) [] (unbind_name n named) ≡ values_of (formals ps) [] named
values_left [] n named d = refl
values_left (q ∷ ps) n named d =
    let o = or_parts (name_eq q.name n) (is_parameter (formals ps) n) d in
    λ i. prepend_value (value_of q.default (other_left q.name n named o.0 i)) (values_left ps n named o.1 i)

-- WHICH NAMES ARE PARAMETERS
known_by : (p : Param) (ps : List Param) (a : Named) (named : List Named) (b : Bool) → (values_named p.name named ≡ [] → list_all (knows (p ∷ ps)) named ≡ list_all (knows ps) named)
    → cond b (a.1 ∷ values_named p.name named) (values_named p.name named) ≡ [] → ((b || knows ps a) && list_all (knows (p ∷ ps)) named) ≡ (knows ps a && list_all (knows ps) named)
known_by p ps a named true on h = absurd cc
known_by p ps a named false on h = ap (λ (c : Bool). knows ps a && c) (on h)

known : (p : Param) (ps : List Param) (named : List Named) → values_named p.name named ≡ [] → list_all (knows (p ∷ ps)) named ≡ list_all (knows ps) named
known p ps [] h = refl
known p ps (a ∷ named) h = known_by p ps a named (name_eq p.name a.0) (known p ps named) h

unknown_by : (n : List ℕ) (ps : List Param) (a : Named) (named : List Named) (w : Value) (rest : List Value) (b : Bool) → name_eq n a.0 ≡ b → is_parameter (formals ps) n ≡ false
    → (values_named n named ≡ w ∷ rest → list_all (knows ps) named ≡ false) → cond b (a.1 ∷ values_named n named) (values_named n named) ≡ w ∷ rest → (knows ps a && list_all (knows ps) named) ≡ false
unknown_by n ps a named w rest true e d on h = and_left (knows ps a) (list_all (knows ps) named) (ap (is_parameter (formals ps)) (sym (name_is n a.0 e)) ∙ d)
unknown_by n ps a named w rest false e d on h = and_right (knows ps a) (list_all (knows ps) named) (on h)

unknown : (n : List ℕ) (ps : List Param) (named : List Named) (w : Value) (rest : List Value) → is_parameter (formals ps) n ≡ false → values_named n named ≡ w ∷ rest → list_all (knows ps) named ≡ false
unknown n ps [] w rest d h = absurd cc
unknown n ps (a ∷ named) w rest d h = unknown_by n ps a named w rest (name_eq n a.0) refl d (unknown n ps named w rest d) h

known_left_by : (p : Param) (ps : List Param) (a : Named) (named : List Named) (w : Value) (b : Bool) → (values_named p.name named ≡ w ∷ [] → list_all (knows ps) (unbind_name p.name named) ≡ list_all (knows (p ∷ ps)) named)
    → cond b (a.1 ∷ values_named p.name named) (values_named p.name named) ≡ w ∷ [] → list_all (knows ps) (cond b named (a ∷ unbind_name p.name named)) ≡ ((b || knows ps a) && list_all (knows (p ∷ ps)) named)
known_left_by p ps a named w true on h = let none : values_named p.name named ≡ [] = cc in sym (known p ps named none)
known_left_by p ps a named w false on h = ap (λ (c : Bool). knows ps a && c) (on h)

known_left : (p : Param) (ps : List Param) (named : List Named) (w : Value) → values_named p.name named ≡ w ∷ [] → list_all (knows ps) (unbind_name p.name named) ≡ list_all (knows (p ∷ ps)) named
known_left p ps [] w h = absurd cc
known_left p ps (a ∷ named) w h = known_left_by p ps a named w (name_eq p.name a.0) (known_left p ps named w) h

-- THE NAMES SO FAR, among which no parameter is that is left
abbrev Fresh : List Param → Locals → Type 0
Fresh [] acc = Unit {0}
Fresh (p ∷ ps) acc = (list_any (λ e. name_eq p.name e.0) acc ≡ false) × Fresh ps acc

fresh_none : (ps : List Param) → Fresh ps []
fresh_none [] = tt
fresh_none (p ∷ ps) = (refl, fresh_none ps)

any_more : (n m : List ℕ) (v : Value) (acc : Locals) → list_any (λ e. name_eq n e.0) acc ≡ false → name_eq n m ≡ false → list_any (λ e. name_eq n e.0) (acc ++ (m, v) ∷ []) ≡ false
any_more n m v [] h d = ap (λ (b : Bool). b || false) d
any_more n m v (e ∷ acc) h d =
    let o = or_parts (name_eq n e.0) (list_any (λ x. name_eq n x.0) acc) h in
    ap (λ (b : Bool). b || list_any (λ x. name_eq n x.0) (acc ++ (m, v) ∷ [])) o.0 ∙ any_more n m v acc o.1 d

fresh_more : (ps : List Param) (m : List ℕ) (v : Value) (acc : Locals) → Fresh ps acc → is_parameter (formals ps) m ≡ false → Fresh ps (acc ++ (m, v) ∷ [])
fresh_more [] m v acc f d = tt
fresh_more (p ∷ ps) m v acc f d =
    let o = or_parts (name_eq p.name m) (is_parameter (formals ps) m) d in
    (any_more p.name m v acc f.0 o.0, fresh_more ps m v acc f.1 o.1)

bound_last : (n : List ℕ) (v : Value) (acc : Locals) → list_any (λ e. name_eq n e.0) acc ≡ false → bind_name n v acc ≡ acc ++ (n, v) ∷ []
bound_last n v [] h = refl
bound_last n v (e ∷ acc) h =
    let o = or_parts (name_eq n e.0) (list_any (λ x. name_eq n x.0) acc) h in
    cond-false (name_eq n e.0) ((e.0, v) ∷ acc) (e ∷ bind_name n v acc) o.0 ∙ ap (λ (es : Locals). e ∷ es) (bound_last n v acc o.1)

-- THE LAW, behind the names so far
abbrev named_with : Locals → List Param → Option (List Value) → Option Locals
named_with acc ps o = option_map (λ vs. acc ++ locals_with ps vs) o

one_more : (acc : Locals) (p : Param) (ps : List Param) (v : Value) (b : Bool) (o : Option (List Value)) → named_with (acc ++ (p.name, v) ∷ []) ps (cond b None o) ≡ named_with acc (p ∷ ps) (cond b None (prepend_value (Some v) o))
one_more acc p ps v true o = refl
one_more acc p ps v false None = refl
one_more acc p ps v false (Some vs) = ap (λ (x : Locals). Some x) (append_assoc acc ((p.name, v) ∷ []) (locals_with ps vs))

no_values : (b : Bool) (acc : Locals) (ps : List Param) → named_with acc ps (cond b None None) ≡ None
no_values true acc ps = refl
no_values false acc ps = refl

refused : (b : Bool) (acc : Locals) (ps : List Param) (o : Option (List Value)) → b ≡ true → named_with acc ps (cond b None o) ≡ None
refused b acc ps o e = ap (λ (c : Bool). named_with acc ps (cond c None o)) e

-- NUMBERS
lt_both_by : (a b : ℕ) (c : Bool) → nat_lt a b ≡ c → nat_lt (suc a) (suc b) ≡ c
lt_both_by a b true e = lt-ltb (suc a) (suc b) (let lt : a < b = ltb-true a b e in omega (arith, lt))
lt_both_by a b false e = le-ltb (suc a) (suc b) (let le : b ≤ a = ltb-false a b e in omega (arith, le))

lt_both : (a b : ℕ) → nat_lt (suc a) (suc b) ≡ nat_lt a b
lt_both a b = lt_both_by a b (nat_lt a b) refl

none_over : (n : ℕ) → nat_lt n 0 ≡ false
none_over n = le-ltb n 0 (let le : 0 ≤ n = omega arith in le)

one_over : (n : ℕ) → nat_lt 0 (suc n) ≡ true
one_over n = lt-ltb 0 (suc n) (let lt : 0 < suc n = omega arith in lt)

-- more arguments than parameters, or one that is no parameter
abbrev is_over : List Param → List Value → List Named → Bool
is_over ps args named = nat_lt (length (formals ps)) (length args) || not (list_all (knows ps) named)

over_unknown : (ps : List Param) (args : List Value) (named : List Named) → list_all (knows ps) named ≡ false → is_over ps args named ≡ true
over_unknown ps args named h = or_right (nat_lt (length (formals ps)) (length args)) (not (list_all (knows ps) named)) (ap not h)

over_placed : (p : Param) (ps : List Param) (v : Value) (vs : List Value) (named : List Named) → values_named p.name named ≡ [] → is_over (p ∷ ps) (v ∷ vs) named ≡ is_over ps vs named
over_placed p ps v vs named h = λ i. lt_both (length (formals ps)) (length vs) i || not (known p ps named h i)

abbrev Fits : List Param → List Value → List Named → Locals → Type 0
Fits ps args named acc = fitted ps args named acc ≡ named_with acc ps (bound (formals ps) args named)

-- a parameter whose argument stands at its place
placed : (p : Param) (ps : List Param) (d : NamesDiffer (p ∷ ps)) (v : Value) (vs : List Value) (named : List Named) (acc : Locals) (f : Fresh (p ∷ ps) acc) (more : List Value) → values_named p.name named ≡ more
    → ((acc : Locals) → Fresh ps acc → Fits ps vs named acc) → Fits (p ∷ ps) (v ∷ vs) named acc
placed p ps d v vs named acc f [] e on =
    ap (fitted ps vs named) (bound_last p.name v acc f.0)
    ∙ on (acc ++ (p.name, v) ∷ []) (fresh_more ps p.name v acc f.1 d.0)
    ∙ one_more acc p ps v (is_over ps vs named) (values_of (formals ps) vs named)
    ∙ sym (λ i. named_with acc (p ∷ ps) (cond (over_placed p ps v vs named e i) None (prepend_value (value_of p.default (v ∷ e i)) (values_of (formals ps) vs named))))
placed p ps d v vs named acc f (w ∷ rest) e on =
    ap (fitted ps vs named) (bound_last p.name v acc f.0)
    ∙ on (acc ++ (p.name, v) ∷ []) (fresh_more ps p.name v acc f.1 d.0)
    ∙ refused (is_over ps vs named) (acc ++ (p.name, v) ∷ []) ps (values_of (formals ps) vs named) (over_unknown ps vs named (unknown p.name ps named w rest d.0 e))
    ∙ sym (ap (λ (x : List Value). named_with acc (p ∷ ps) (cond (is_over (p ∷ ps) (v ∷ vs) named) None (prepend_value (value_of p.default (v ∷ x)) (values_of (formals ps) vs named)))) e
    ∙ no_values (is_over (p ∷ ps) (v ∷ vs) named) acc (p ∷ ps))

-- one whose value is an argument by name, or its default
given_one : (p : Param) (ps : List Param) (d : NamesDiffer (p ∷ ps)) (named left : List Named) (v : Value) (acc : Locals) (f : Fresh (p ∷ ps) acc) → value_of p.default (values_named p.name named) ≡ Some v
    → list_all (knows ps) left ≡ list_all (knows (p ∷ ps)) named → values_of (formals ps) [] left ≡ values_of (formals ps) [] named → ((acc : Locals) → Fresh ps acc → Fits ps [] left acc)
    → fitted ps [] left (bind_name p.name v acc) ≡ named_with acc (p ∷ ps) (bound (formals (p ∷ ps)) [] named)
given_one p ps d named left v acc f value all same on =
    ap (fitted ps [] left) (bound_last p.name v acc f.0)
    ∙ on (acc ++ (p.name, v) ∷ []) (fresh_more ps p.name v acc f.1 d.0)
    ∙ (λ i. named_with (acc ++ (p.name, v) ∷ []) ps (cond ((none_over (length (formals ps)) ∙ sym (none_over (suc (length (formals ps))))) i || not (all i)) None (same i)))
    ∙ one_more acc p ps v (is_over (p ∷ ps) [] named) (values_of (formals ps) [] named)
    ∙ sym (ap (λ (o : Option Value). named_with acc (p ∷ ps) (cond (is_over (p ∷ ps) [] named) None (prepend_value o (values_of (formals ps) [] named)))) value)

by_default : (p : Param) (ps : List Param) (d : NamesDiffer (p ∷ ps)) (named : List Named) (acc : Locals) (f : Fresh (p ∷ ps) acc) (o : Option Value) → p.default ≡ o → values_named p.name named ≡ []
    → ((acc : Locals) → Fresh ps acc → Fits ps [] named acc)
    → given_or None o (λ v. fitted ps [] (unbind_name p.name named) (bind_name p.name v acc)) (λ v. fitted ps [] named (bind_name p.name v acc)) ≡ named_with acc (p ∷ ps) (bound (formals (p ∷ ps)) [] named)
by_default p ps d named acc f None is e on =
    sym (ap (λ (x : Option Value). named_with acc (p ∷ ps) (cond (is_over (p ∷ ps) [] named) None (prepend_value x (values_of (formals ps) [] named)))) (ap (value_of p.default) e ∙ is)
    ∙ no_values (is_over (p ∷ ps) [] named) acc (p ∷ ps))
by_default p ps d named acc f (Some v) is e on = given_one p ps d named named v acc f (ap (value_of p.default) e ∙ is) (sym (known p ps named e)) refl on

unplaced : (p : Param) (ps : List Param) (d : NamesDiffer (p ∷ ps)) (named : List Named) (acc : Locals) (f : Fresh (p ∷ ps) acc) (more : List Value) → values_named p.name named ≡ more
    → ((named : List Named) (acc : Locals) → Fresh ps acc → Fits ps [] named acc) → Fits (p ∷ ps) [] named acc
unplaced p ps d named acc f [] e on =
    ap (λ (o : Option Value). given_or o p.default (λ v. fitted ps [] (unbind_name p.name named) (bind_name p.name v acc)) (λ v. fitted ps [] named (bind_name p.name v acc))) (absent p.name named e)
    ∙ by_default p ps d named acc f p.default refl e (on named)
unplaced p ps d named acc f (w ∷ []) e on =
    ap (λ (o : Option Value). given_or o p.default (λ v. fitted ps [] (unbind_name p.name named) (bind_name p.name v acc)) (λ v. fitted ps [] named (bind_name p.name v acc))) (found p.name named w [] e)
    ∙ given_one p ps d named (unbind_name p.name named) w acc f (ap (value_of p.default) e) (known_left p ps named w e) (values_left ps p.name named d.0) (on (unbind_name p.name named))
unplaced p ps d named acc f (w ∷ x ∷ more) e on =
    ap (λ (o : Option Value). given_or o p.default (λ v. fitted ps [] (unbind_name p.name named) (bind_name p.name v acc)) (λ v. fitted ps [] named (bind_name p.name v acc))) (found p.name named w (x ∷ more) e)
    ∙ ap (fitted ps [] (unbind_name p.name named)) (bound_last p.name w acc f.0)
    ∙ on (unbind_name p.name named) (acc ++ (p.name, w) ∷ []) (fresh_more ps p.name w acc f.1 d.0)
    ∙ refused (is_over ps [] (unbind_name p.name named)) (acc ++ (p.name, w) ∷ []) ps (values_of (formals ps) [] (unbind_name p.name named))
    (over_unknown ps [] (unbind_name p.name named) (unknown p.name ps (unbind_name p.name named) x more d.0 (rest_left p.name named w (x ∷ more) e)))
    ∙ sym (ap (λ (vs : List Value). named_with acc (p ∷ ps) (cond (is_over (p ∷ ps) [] named) None (prepend_value (value_of p.default vs) (values_of (formals ps) [] named)))) e
    ∙ no_values (is_over (p ∷ ps) [] named) acc (p ∷ ps))

fits : (ps : List Param) → NamesDiffer ps → (args : List Value) (named : List Named) (acc : Locals) → Fresh ps acc → Fits ps args named acc
fits [] d [] [] acc f = ap (λ (x : Locals). Some x) (sym (append-nil acc))
fits [] d [] (a ∷ named) acc f = refl
fits [] d (v ∷ vs) [] acc f = sym (refused (is_over [] (v ∷ vs) []) acc [] (Some []) (or_left (nat_lt 0 (suc (length vs))) (not (list_all (knows []) [])) (one_over (length vs))))
fits [] d (v ∷ vs) (a ∷ named) acc f = sym (refused (is_over [] (v ∷ vs) (a ∷ named)) acc [] (Some []) (or_left (nat_lt 0 (suc (length vs))) (not (list_all (knows []) (a ∷ named))) (one_over (length vs))))
fits (p ∷ ps) d (v ∷ vs) named acc f = placed p ps d v vs named acc f (values_named p.name named) refl (λ acc f. fits ps d.1 vs named acc f)
fits (p ∷ ps) d [] named acc f = unplaced p ps d named acc f (values_named p.name named) refl (λ named acc f. fits ps d.1 [] named acc f)

-- BINDING IS ONE
pub fits_as_bound : (params : List Param) → NamesDiffer params → (args : List Value) (named : List Named) → fitted params args named [] ≡ option_map (locals_with params) (bound (formals params) args named)
fits_as_bound params d args named = fits params d args named [] (fresh_none params)

abbrev Right : List Param → List Value → List Named → Locals → Type 0
Right params args named names = (values : List Value) × (names ≡ locals_with params values) × IsBound (formals params) args named values

right_as : (params : List Param) (args : List Value) (named : List Named) (names : Locals) (o : Option (List Value)) → bound (formals params) args named ≡ o → option_map (locals_with params) o ≡ Some names → Right params args named names
right_as params args named names None is h = absurd cc
right_as params args named names (Some values) is h = let same : names ≡ locals_with params values = cc in (values, same, right_by (formals params) args named values is)

pub fits_right : (params : List Param) → NamesDiffer params → (args : List Value) (named : List Named) (names : Locals) → fitted params args named [] ≡ Some names → Right params args named names
fits_right params d args named names h = right_as params args named names (bound (formals params) args named) refl (sym (fits_as_bound params d args named) ∙ h)

wrong_as : (params : List Param) (args : List Value) (named : List Named) (o : Option (List Value)) → bound (formals params) args named ≡ o → option_map (locals_with params) o ≡ None → IsWrong (formals params) args named
wrong_as params args named None is h = wrong_by (formals params) args named is
wrong_as params args named (Some values) is h = absurd cc

pub fits_wrong : (params : List Param) → NamesDiffer params → (args : List Value) (named : List Named) → fitted params args named [] ≡ None → IsWrong (formals params) args named
fits_wrong params d args named h = wrong_as params args named (bound (formals params) args named) refl (sym (fits_as_bound params d args named) ∙ h)
