-- Paths behind their parts, as they are sorted.
use Rattle.std.specs.Prelude.{◌≡◌, ℕ, List, [], ◌∷◌, ◌++◌, false, Option, None, Some, map, bytes_eq, string_bytes, String}
use denote.Ref.{Bor}
use Rattle.std.specs.declared.vec.Vec.{Vec}
use Rattle.std.specs.declared.alloc.Global.{Global}
use Rattle.collect_words.specs.Paths.{parts}

abbrev pub Key : Type 0
Key = Vec (Vec ℕ Global) Global × String Global

abbrev pub key_paths : List Key → List (List ℕ)
key_paths keys = map (λ key. string_bytes key.1) keys

-- the parts are those of the path
abbrev pub IsKeyed : Key → Type 0
IsKeyed key = map (λ part. part.items) key.0.items ≡ parts (string_bytes key.1)

-- a text before the parts of what follows it
abbrev pub before_parts : List ℕ → List (List ℕ) → List (List ℕ)
before_parts name [] = name ∷ []
before_parts name (part ∷ parts) = (name ++ part) ∷ parts

-- the names that are done, and the one that is begun, before the parts of what is left of a path
abbrev pub parts_with : List (Vec ℕ Global) → List ℕ → List ℕ → List (List ℕ)
parts_with names name rest = map (λ done. done.items) names ++ before_parts name (parts rest)

-- what is left of a text behind a front, if it begins so: a text that goes on behind the front is compared with what is left
abbrev pub Leaves : List ℕ → List ℕ → Option (Bor (List ℕ)) → Type 0
Leaves front text None = (rest : List ℕ) → bytes_eq (front ++ rest) text ≡ false
Leaves front text (Some left) = (rest : List ℕ) → bytes_eq (front ++ rest) text ≡ bytes_eq rest left.now
