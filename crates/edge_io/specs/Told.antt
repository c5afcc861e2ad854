use Rattle.std.specs.Prelude.{◌≡◌, ℕ, List, ◌++◌, Option, None, Some}

-- where the bytes are told, those at the end are those before and the piece
abbrev pub Appends : Option (List ℕ) → Option (List ℕ) → List ℕ → Type 0
Appends None new piece = Unit {0}
Appends (Some old) new piece = new ≡ Some (old ++ piece)

-- a prefix of the text was appended, and perhaps all
pub record AppendsPrefix (old new : Option (List ℕ)) (text : List ℕ) : Type 0 where
  pub front : List ℕ
  pub rest : List ℕ
  pub whole : text ≡ front ++ rest
  pub told : Appends old new front
