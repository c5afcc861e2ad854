-- The arguments of a call by position and by name, one after another.
use Rattle.std.proofs.Common.{◌≡◌, ◌<◌, ◌≤◌, ◌+◌, ◌∙◌, ℕ, zero, suc, false, List, [], ◌∷◌, ◌++◌, drop, length, get_or, Option, Some, None, ap, sym, refl, arith, add-one, append_assoc, append-nil}
use Rattle.std.specs.Prelude.{is_some, slice_get}
use Rattle.std.specs.List.{list_any}
use Rattle.std.proofs.Math.ListN.{drop_of_length-le}
use Rattle.py_tree.specs.declared.expr.ArgName.{ArgName}
use Rattle.py_values.specs.declared.value.Value.{Value}
use Rattle.machine_state.specs.py_world.Arguments.{Arguments, arguments_of, positional_arguments, with_plain, with_named}
use Rattle.machine_arguments.specs.Shapes.{joined_arguments, name_given, with_given}

-- one argument before others
abbrev with_one : Option (List ℕ) → Value → Arguments → Arguments
with_one (Some name) v args = with_named name v args
with_one None v args = with_plain v args

first_step : (n : Option ArgName) (names : List (Option ArgName)) (v : Value) (vs : List Value) → arguments_of (n ∷ names) (v ∷ vs) ≡ with_one (name_given (Some n)) v (arguments_of names vs)
first_step None names v vs = refl
first_step (Some n) names v vs = refl

drop_none : (i : ℕ) → drop {A = Option ArgName} i [] ≡ []
drop_none zero = refl
drop_none (suc i) = refl

one_step : (names : List (Option ArgName)) (vs : List Value) (i : ℕ) (d : Value) → i < length vs
    → arguments_of (drop i names) (drop i vs) ≡ with_one (name_given (slice_get names i)) (get_or vs i d) (arguments_of (drop (suc i) names) (drop (suc i) vs))
one_step names [] i d w = absurd (omega arith)
one_step [] (x ∷ vs) zero d w = refl
one_step [] (x ∷ vs) (suc i) d w = sym (ap (λ (ns : List (Option ArgName)). arguments_of ns (drop i vs)) (drop_none i)) ∙ one_step [] vs i d (omega arith)
one_step (n ∷ names) (x ∷ vs) zero d w = first_step n names x vs
one_step (n ∷ names) (x ∷ vs) (suc i) d w = one_step names vs i d (omega arith)

behind_one : (o : Option (List ℕ)) (front : Arguments) (v : Value) (back : Arguments) → joined_arguments front (with_one o v back) ≡ joined_arguments (with_given o v front) back
behind_one None front v back = ap (λ (xs : List Value). record { plain = xs; named = front.named ++ back.named }) (sym (append_assoc front.plain (v ∷ []) back.plain))
behind_one (Some name) front v back = ap (λ (xs : List (List ℕ × Value)). record { plain = front.plain ++ back.plain; named = xs }) (sym (append_assoc front.named ((name, v) ∷ []) back.named))

none_left : (ms : List (Option ArgName)) → arguments_of ms [] ≡ positional_arguments []
none_left [] = refl
none_left (m ∷ ms) = refl

module _ (names : List (Option ArgName)) (vs : List Value) (i : ℕ) (front : Arguments) (before : arguments_of names vs ≡ joined_arguments front (arguments_of (drop i names) (drop i vs))) where
  -- an argument more
  pub shaped_more : (more : Arguments) (o : Option (List ℕ)) (d : Value) → i < length vs → o ≡ name_given (slice_get names i) → more ≡ with_given o (get_or vs i d) front
      → arguments_of names vs ≡ joined_arguments more (arguments_of (drop (i + 1) names) (drop (i + 1) vs))
  shaped_more more o d w n e =
      rw (add-one, e)
      (before
      ∙ ap (joined_arguments front)
      (one_step names vs i d w ∙ ap (λ (x : Option (List ℕ)). with_one x (get_or vs i d) (arguments_of (drop (suc i) names) (drop (suc i) vs))) (sym n))
      ∙ behind_one o front (get_or vs i d) (arguments_of (drop (suc i) names) (drop (suc i) vs)))

  -- none is left
  pub shaped_all : length vs ≤ i → front ≡ arguments_of names vs
  shaped_all w =
      let last : arguments_of (drop i names) (drop i vs) ≡ positional_arguments [] = ap (arguments_of (drop i names)) (drop_of_length-le vs w) ∙ none_left (drop i names) in
      sym
      (before ∙ ap (joined_arguments front) last
      ∙ (ap (λ (xs : List Value). record { plain = xs; named = front.named ++ [] }) (append-nil front.plain) ∙ ap (λ (xs : List (List ℕ × Value)). record { plain = front.plain; named = xs }) (append-nil front.named)))

-- no argument has a name
pub without_names : (names : List (Option ArgName)) (vs : List Value) → list_any (λ n. is_some n) names ≡ false → positional_arguments vs ≡ arguments_of names vs
without_names names [] h = sym (none_left names)
without_names [] (v ∷ vs) h = ap (with_plain v) (without_names [] vs h)
without_names (None ∷ names) (v ∷ vs) h = ap (with_plain v) (without_names names vs h)
without_names (Some n ∷ names) (v ∷ vs) h = absurd cc
