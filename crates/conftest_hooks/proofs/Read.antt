-- The names of a conftest are looked at one after another.
use Rattle.std.proofs.Common.{◌≡◌, ℕ, zero, suc, ◌+◌, List, [], ◌∷◌, ◌++◌, drop, None, Some, refl, sym, ap, ◌∙◌}
use Rattle.std.specs.Prelude.{Result, Ok, Err, slice_get}
use Rattle.std.proofs.lemmas.List.{append_assoc, append-nil, drop_more}
use Rattle.std.proofs.lemmas.Option.{get_or_from_slice_get, slice_get_within}
use Rattle.py_values.specs.declared.object.Obj.{Obj}
use Rattle.py_values.specs.declared.value.Value.{Value}
use Rattle.conftest_hooks.specs.Reading.{hook_before, hooks_among, looked_at, looked_before}
use Rattle.conftest_hooks.specs.declared.looking.FoundHook.{FoundHook}
use Rattle.conftest_hooks.specs.declared.looking.HookFault.{HookFault}
use Rattle.conftest_hooks.specs.declared.looking.Looked.{Looked}
use Rattle.conftest_hooks.specs.declared.looking.Looked.TheVariants as looked

-- behind those that were found
abbrev pub behind : List FoundHook → Result (List FoundHook) HookFault → Result (List FoundHook) HookFault
behind hs (Ok rest) = Ok (hs ++ rest)
behind hs (Err fault) = Err fault

pub none_behind : (r : Result (List FoundHook) HookFault) → behind [] r ≡ r
none_behind (Ok rest) = refl
none_behind (Err fault) = refl

one_behind : (hs : List FoundHook) (h : FoundHook) (r : Result (List FoundHook) HookFault) → behind hs (hook_before h r) ≡ behind (hs ++ h ∷ []) r
one_behind hs h (Ok rest) = ap (λ (l : List FoundHook). Ok l) (sym (append_assoc hs (h ∷ []) rest))
one_behind hs h (Err fault) = refl

module _ (heap : List Obj) (folder : List ℕ) where
  none_left : (names : List (List ℕ × Value)) (i : ℕ) → None ≡ slice_get names i → hooks_among heap folder (drop i names) ≡ Ok []
  none_left [] zero e = refl
  none_left [] (suc i) e = refl
  none_left (x ∷ xs) zero e = absurd (cc e)
  none_left (x ∷ xs) (suc i) e = none_left xs i e

  one_left : (names : List (List ℕ × Value)) (i : ℕ) (e : List ℕ × Value) → Some e ≡ slice_get names i → hooks_among heap folder (drop i names) ≡ looked_before (looked_at heap folder e) (hooks_among heap folder (drop (i + 1) names))
  one_left names i e is =
      ap (hooks_among heap folder) (drop_more names i e (slice_get_within names i e (sym is)))
      ∙ ap (λ (y : List ℕ × Value). looked_before (looked_at heap folder y) (hooks_among heap folder (drop (i + 1) names))) (get_or_from_slice_get names i e e (sym is))

  module _ (names : List (List ℕ × Value)) (i : ℕ) (hs : List FoundHook) (all : Result (List FoundHook) HookFault) (is : behind hs (hooks_among heap folder (drop i names)) ≡ all) where
    pub whole : None ≡ slice_get names i → Ok hs ≡ all
    whole e = ap (λ (l : List FoundHook). Ok l) (sym (append-nil hs)) ∙ (ap (behind hs) (sym (none_left names i e)) ∙ is)

    further : (e : List ℕ × Value) (l : Looked) → Some e ≡ slice_get names i → l ≡ looked_at heap folder e → behind hs (looked_before l (hooks_among heap folder (drop (i + 1) names))) ≡ all
    further e l q k = ap (λ (x : Looked). behind hs (looked_before x (hooks_among heap folder (drop (i + 1) names)))) k ∙ (ap (behind hs) (sym (one_left names i e q)) ∙ is)

    pub other : (e : List ℕ × Value) (l : Looked) → Some e ≡ slice_get names i → l ≡ looked_at heap folder e → l ≡ looked.Other → behind hs (hooks_among heap folder (drop (i + 1) names)) ≡ all
    other e l q k s = further e looked.Other q (sym s ∙ k)

    pub found : (e : List ℕ × Value) (l : Looked) (h : FoundHook) (more : List FoundHook) → Some e ≡ slice_get names i → l ≡ looked_at heap folder e → l ≡ looked.Found h → more ≡ hs ++ h ∷ [] → behind more (hooks_among heap folder (drop (i + 1) names)) ≡ all
    found e l h more q k s p =
        ap (λ (x : List FoundHook). behind x (hooks_among heap folder (drop (i + 1) names))) p
        ∙ (sym (one_behind hs h (hooks_among heap folder (drop (i + 1) names))) ∙ further e (looked.Found h) q (sym s ∙ k))

    pub faulty : (e : List ℕ × Value) (l : Looked) (f : HookFault) → Some e ≡ slice_get names i → l ≡ looked_at heap folder e → l ≡ looked.Faulty f → Err f ≡ all
    faulty e l f q k s = further e (looked.Faulty f) q (sym s ∙ k)
