-- Where a name of a call stands.
use Rattle.std.specs.Prelude.{◌≡◌, ◌<◌, ℕ, zero, suc, List, [], ◌∷◌, ◌++◌, length, get_or, Option, Some, None, false, slice_set}
use Rattle.std.specs.List.{remove}
use Rattle.py_values.specs.declared.value.Value.{Value}
use Rattle.py_values.specs.Names.{bind_name, find_name, unbind_name, name_eq}

abbrev pub Bindings : Type 0
Bindings = List (List ℕ × Value)

-- none of the names before a place is this one
abbrev pub NoneBefore : List ℕ → ℕ → Bindings → Type 0
NoneBefore name zero es = Unit {0}
NoneBefore name (suc i) [] = Unit {0}
NoneBefore name (suc i) (e ∷ es) = (name_eq name e.0 ≡ false) × NoneBefore name i es

-- a name is found, bound and taken away at its place, or bound last
abbrev pub IsPlaceOf : List ℕ → Bindings → Option ℕ → Type 0
IsPlaceOf name es (Some i) =
    (i < length es)
    × (((e : List ℕ × Value) → e ≡ get_or es i e → (find_name name es ≡ Some e.1) × ((v : Value) → bind_name name v es ≡ slice_set es i (e.0, v)))
    × (unbind_name name es ≡ remove es i))
IsPlaceOf name es None = (find_name name es ≡ None) × (((v : Value) → bind_name name v es ≡ es ++ (name, v) ∷ []) × (unbind_name name es ≡ es))

-- a name stands at a place
abbrev pub IsAt : List ℕ → ℕ → Bindings → Type 0
IsAt name at es = (at < length es) × ((e : List ℕ × Value) → e ≡ get_or es at e → e.0 ≡ name)
