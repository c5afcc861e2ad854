-- Dotted names as they are written.
use Rattle.std.proofs.Common.{◌≡◌, ◌<◌, ◌≤◌, ◌-◌, ◌∙◌, ℕ, List, [], ◌∷◌, ◌++◌, length, drop, take, get_or, refl, sym, ap, arith}
use Rattle.std.proofs.lemmas.List.{append-nil, append_assoc, take_rest}
use Rattle.std.specs.List.{flat_map}
use Rattle.std.specs.Prelude.{codes}
use Rattle.machine_state.specs.py_world.Imports.{dotted_text}
use Rattle.machine_import.specs.Dotted.{dotted_part}

dotted_by_parts : (name : List ℕ) (names : List (List ℕ)) → dotted_text (name ∷ names) ≡ name ++ flat_map dotted_part names
dotted_by_parts name [] = sym (append-nil name)
dotted_by_parts name (next ∷ names) =
    ap (λ (text : List ℕ). name ++ (codes "." ++ text)) (dotted_by_parts next names)
    ∙ ap (λ (text : List ℕ). name ++ text) (sym (append_assoc (codes ".") next (flat_map dotted_part names)))

-- a dotted name with its first part shown
pub dotted_cut : (names : List (List ℕ)) (first : List ℕ) → 1 ≤ length names → first ≡ get_or names 0 first → dotted_text names ≡ first ++ flat_map dotted_part (take (length names - 1) (drop 1 names))
dotted_cut [] first some is = absurd (omega (arith, some))
dotted_cut (name ∷ names) first some is =
    dotted_by_parts name names
    ∙ ap (λ (n : List ℕ). n ++ flat_map dotted_part names) (sym is)
    ∙ ap (λ (ns : List (List ℕ)). first ++ flat_map dotted_part ns) (sym (take_rest (name ∷ names) 1))

pub dotted_none : (names : List (List ℕ)) → length names < 1 → dotted_text names ≡ []
dotted_none [] none = refl
dotted_none (name ∷ names) none = absurd (omega arith)
