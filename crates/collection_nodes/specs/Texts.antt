-- Texts by number: the number of a text is its place among all that are mentioned, each once, in the order of their first mention.
use Rattle.std.specs.Prelude.{ℕ, List, [], fold, position, slice_index_or}
use Rattle.std.specs.Option.{unwrap_or}
use Rattle.indexmap.specs.IndexSet.{insert_key}
use Rattle.py_values.specs.Names.{name_eq}

-- one more text is mentioned
abbrev pub with_mention : List (List ℕ) → List ℕ → List (List ℕ)
with_mention texts text = insert_key name_eq texts text

-- others are mentioned behind these
abbrev pub with_mentions : List (List ℕ) → List (List ℕ) → List (List ℕ)
with_mentions texts more = fold with_mention texts more

-- the number of a text; 0 where it isn't there
abbrev pub number_among : List (List ℕ) → List ℕ → ℕ
number_among texts text = unwrap_or (position (name_eq text) texts) 0

-- the text with a number
abbrev pub text_numbered : List (List ℕ) → ℕ → List ℕ
text_numbered texts number = slice_index_or texts number []
