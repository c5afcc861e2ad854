-- What is bound, by its causes.
use Rattle.std.proofs.Common.{◌≡◌, ℕ, zero, suc, Bool, true, false, cond, not, ◌||◌, inl, inr, List, [], ◌∷◌, ◌++◌, length, drop, Option, Some, None, refl, sym, ap, ◌∙◌, subst}
use Rattle.std.specs.Prelude.{slice_get, nat_lt}
use Rattle.std.specs.List.{list_all}
use Rattle.std.proofs.lemmas.Bool.{false≢true, true≢false, ltb-true, ltb-false, or_cases, or_left, or_right, and_cases, and_parts}
use Rattle.std.proofs.lemmas.Slice.Eq.{bytes_eq-Decides}
use Rattle.py_values.specs.declared.value.Value.{Value}
use Rattle.py_values.specs.Names.{name_eq}
use Rattle.py_bind.specs.Binding.{Formal, Named, given_values, value_of, prepend_value, values_of, is_parameter, bound, IsParameter, IsWrong, TooMany, NoParameter, NoValue, TwoValues, IsBound}

parameter_is : (params : List Formal) (name : List ℕ) → is_parameter params name ≡ true → IsParameter params name
parameter_is [] name h = absurd (false≢true h)
parameter_is (p ∷ params) name h = elim (or_cases (name_eq p.0 name) (is_parameter params name) h) [
  | inl here ↦ record { at = 0; parameter = p; is = refl; name_is = (bytes_eq-Decides p.0 name).0 here }
  | inr on ↦ let r = parameter_is params name on in record { at = suc r.at; parameter = r.parameter; is = r.is; name_is = r.name_is }
]

is_one : (params : List Formal) (name : List ℕ) (at : ℕ) (p : Formal) → slice_get params at ≡ Some p → p.0 ≡ name → is_parameter params name ≡ true
is_one [] name at p h n = absurd (cc)
is_one (q ∷ params) name zero p h n =
    let same : q ≡ p = cc in
    or_left (name_eq q.0 name) (is_parameter params name) ((bytes_eq-Decides q.0 name).1 (ap (λ (x : Formal). x.0) same ∙ n))
is_one (q ∷ params) name (suc at) p h n = or_right (name_eq q.0 name) (is_parameter params name) (is_one params name at p h n)

each_known : (f : Named → Bool) (named : List Named) → list_all f named ≡ true → (at : ℕ) (a : Named) → slice_get named at ≡ Some a → f a ≡ true
each_known f [] h at a e = absurd (cc)
each_known f (x ∷ named) h zero a e = let same : x ≡ a = cc in sym (ap f same) ∙ (and_parts (f x) (list_all f named) h).0
each_known f (x ∷ named) h (suc at) a e = each_known f named (and_parts (f x) (list_all f named) h).1 at a e

one_unknown : (f : Named → Bool) (named : List Named) → list_all f named ≡ false → (at : ℕ) × (a : Named) × (slice_get named at ≡ Some a) × (f a ≡ false)
one_unknown f [] h = absurd (true≢false h)
one_unknown f (x ∷ named) h = elim (and_cases (f x) (list_all f named) h) [
  | inl here ↦ (0, x, refl, here)
  | inr on ↦ let r = one_unknown f named on in (suc r.0, r.1, r.2, r.3)
]

get_behind : (args : List Value) (at : ℕ) → slice_get (drop 1 args) at ≡ slice_get args (suc at)
get_behind [] at = refl
get_behind (v ∷ args) at = refl

-- the value at a place, and what is so where one or each has one
abbrev value_at : List Value → List Named → ℕ → Formal → Option Value
value_at args named at p = value_of p.1 (given_values p.0 (slice_get args at) named)

abbrev ValuesAre : List Formal → List Value → List Named → Option (List Value) → Type 0
ValuesAre params args named None = (at : ℕ) × (p : Formal) × (slice_get params at ≡ Some p) × (value_at args named at p ≡ None)
ValuesAre params args named (Some values) = (length values ≡ length params) × ((at : ℕ) (p : Formal) → slice_get params at ≡ Some p → slice_get values at ≡ value_at args named at p)

value_behind : (args : List Value) (named : List Named) (at : ℕ) (p : Formal) → value_at (drop 1 args) named at p ≡ value_at args named (suc at) p
value_behind args named at p = ap (λ (o : Option Value). value_of p.1 (given_values p.0 o named)) (get_behind args at)

each_more : (p : Formal) (params : List Formal) (args : List Value) (named : List Named) (v : Value) (values : List Value) → value_at args named 0 p ≡ Some v → ((at : ℕ) (q : Formal) → slice_get params at ≡ Some q → slice_get values at ≡ value_at (drop 1 args) named at q) → (at : ℕ) (q : Formal) → slice_get (p ∷ params) at ≡ Some q → slice_get (v ∷ values) at ≡ value_at args named at q
each_more p params args named v values e each zero q h =
    let same : p ≡ q = cc in
    sym e ∙ ap (λ (x : Formal). value_at args named 0 x) same
each_more p params args named v values e each (suc at) q h = each at q h ∙ value_behind args named at q

values_by : (p : Formal) (params : List Formal) (args : List Value) (named : List Named) (first : Option Value) (others : Option (List Value)) → value_at args named 0 p ≡ first → ValuesAre params (drop 1 args) named others → ValuesAre (p ∷ params) args named (prepend_value first others)
values_by p params args named None others e r = (0, p, refl, e)
values_by p params args named (Some v) None e r = (suc r.0, r.1, r.2, sym (value_behind args named r.0 r.1) ∙ r.3)
values_by p params args named (Some v) (Some values) e r = (ap suc r.0, each_more p params args named v values e r.1)

values_are : (params : List Formal) (args : List Value) (named : List Named) → ValuesAre params args named (values_of params args named)
values_are [] args named = (refl, λ at p h. absurd (cc))
values_are (p ∷ params) args named = values_by p params args named (value_at args named 0 p) (values_of params (drop 1 args) named) refl (values_are params (drop 1 args) named)

-- why a parameter has no value
cause : (params : List Formal) (args : List Value) (named : List Named) (at : ℕ) (p : Formal) (values : List Value) → slice_get params at ≡ Some p → given_values p.0 (slice_get args at) named ≡ values → value_of p.1 values ≡ None → IsWrong params args named
cause params args named at p [] is g h = NoValue at p is g h
cause params args named at p (v ∷ []) is g h = absurd (cc)
cause params args named at p (v ∷ w ∷ more) is g h = TwoValues at p v w more is g

abbrev BoundIs : List Formal → List Value → List Named → Option (List Value) → Type 0
BoundIs params args named None = IsWrong params args named
BoundIs params args named (Some values) = IsBound params args named values

abbrev knows : List Formal → Named → Bool
knows params argument = is_parameter params argument.0

bound_by : (params : List Formal) (args : List Value) (named : List Named) (over known : Bool) (values : Option (List Value)) → nat_lt (length params) (length args) ≡ over → list_all (knows params) named ≡ known → ValuesAre params args named values → BoundIs params args named (cond (over || not known) None values)
bound_by params args named true known values o k v = TooMany (ltb-true (length params) (length args) o)
bound_by params args named false false values o k v =
    let u = one_unknown (knows params) named k in
    NoParameter u.0 u.1 u.2 (λ h. false≢true (sym u.3 ∙ is_one params (u.1).0 h.at h.parameter h.is h.name_is))
bound_by params args named false true None o k v = cause params args named v.0 v.1 (given_values (v.1).0 (slice_get args v.0) named) v.2 refl v.3
bound_by params args named false true (Some values) o k v = record {
  few = ltb-false (length params) (length args) o;
  known = λ at a h. parameter_is params a.0 (each_known (knows params) named k at a h);
  count = v.0;
  each = v.1;
}

bound_is : (params : List Formal) (args : List Value) (named : List Named) → BoundIs params args named (bound params args named)
bound_is params args named = bound_by params args named (nat_lt (length params) (length args)) (list_all (knows params) named) (values_of params args named) refl refl (values_are params args named)

-- what `bind` answers
pub right_by : (params : List Formal) (args : List Value) (named : List Named) (values : List Value) → bound params args named ≡ Some values → IsBound params args named values
right_by params args named values h = subst (BoundIs params args named) h (bound_is params args named)

pub wrong_by : (params : List Formal) (args : List Value) (named : List Named) → bound params args named ≡ None → IsWrong params args named
wrong_by params args named h = subst (BoundIs params args named) h (bound_is params args named)

-- The loop over the parameters: the values so far, before those that are left
abbrev pub with_front : List Value → Option (List Value) → Option (List Value)
with_front front None = None
with_front front (Some values) = Some (front ++ values)
