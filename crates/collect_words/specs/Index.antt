-- The index of a walk: the first place of each path.
use Rattle.std.specs.Prelude.{◌≡◌, ℕ, List, Option, bytes_eq, drop}
use Rattle.std.specs.List.{position_from}
use Rattle.std.specs.Map.{lookup}
use Rattle.std.specs.declared.vec.Vec.{Vec}
use Rattle.std.specs.declared.alloc.Global.{Global}
use Rattle.collect_words.specs.Walks.{place_of}

abbrev pub Entries : Type 0
Entries = List (Vec ℕ Global × ℕ)

-- what an index has for a path
abbrev pub indexed : List ℕ → Entries → Option ℕ
indexed path es = lookup (λ (k : Vec ℕ Global). bytes_eq path k.items) es

-- an index has the first place of each path, among those from a place on
abbrev pub IsIndexFrom : ℕ → List (List ℕ) → Entries → Type 0
IsIndexFrom place paths es = (path : List ℕ) → indexed path es ≡ position_from (λ (file : List ℕ). bytes_eq file path) place (drop place paths)

abbrev pub IsIndex : List (List ℕ) → Entries → Type 0
IsIndex paths es = (path : List ℕ) → indexed path es ≡ place_of paths path
