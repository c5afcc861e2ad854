-- The body of a text literal as a row of items (Language Reference, string literals: `stringitem`).
use Rattle.std.specs.Prelude.{◌≡◌, ℕ, ◌<◌, Bool, List, [], ◌∷◌, ◌++◌, length, flat_map, Ok}
use Rattle.std.specs.Option.{option_to_list}
use Rattle.py_literals.specs.Literals.{item_at}
use Rattle.py_literals.specs.declared.escape.Item.{Item}

-- an item: the characters that spell it, and those that it stands for
pub record Piece : Type 0 where
  pub spelled : List ℕ
  pub means : List ℕ

-- what pieces spell, one behind the other, and what they stand for
abbrev pub spelling : List Piece → List ℕ
spelling pieces = flat_map (λ piece. piece.spelled) pieces

abbrev pub meaning : List Piece → List ℕ
meaning pieces = flat_map (λ piece. piece.means) pieces

-- the item that stands at the head of a text is spelled like this and stands for that
pub record IsPieceAt (is_raw : Bool) (text : List ℕ) (piece : Piece) : Type 0 where
  pub item : Item
  pub found : item_at is_raw text ≡ Ok item
  pub spelled : item.len ≡ length piece.spelled
  pub means : piece.means ≡ option_to_list item.stands_for

-- a body that falls into these pieces, each being the item that stands at its place
pub data FallsInto (is_raw : Bool) : List ℕ → List Piece → Type 0 where
  at_end : FallsInto is_raw [] []
  one_more : {body : List ℕ} (piece : Piece) (rest : List ℕ) (pieces : List Piece) → 0 < length piece.spelled → body ≡ piece.spelled ++ rest → IsPieceAt is_raw body piece → FallsInto is_raw rest pieces → FallsInto is_raw body (piece ∷ pieces)
