-- Which texts are patterns (Python library reference, re, "Regular Expression Syntax"; the choice of forms is own).
use Rattle.std.specs.Prelude.{◌≡◌, ℕ, ◌==◌, Bool, not, IsTrue, ◌⊎◌, List, [], ◌∷◌, ◌++◌, length, codes, if◌then◌else◌}
use Rattle.std.specs.Char.{is_ascii_alphanumeric}
use Rattle.std.specs.List.{list_any}
use Rattle.match_pattern.specs.declared.pattern.Atom.{Atom}
use Rattle.match_pattern.specs.declared.pattern.Atom.TheVariants.{AnyCharacter, Character}
use Rattle.match_pattern.specs.declared.pattern.Times.{Times}
use Rattle.match_pattern.specs.declared.pattern.Times.TheVariants.{Once, ZeroOrMore, OneOrMore}
use Rattle.match_pattern.specs.declared.pattern.Item.{Item}
use Rattle.match_pattern.specs.declared.pattern.Pattern.{Pattern}

-- characters with a meaning of their own
abbrev pub is_special : ℕ → Bool
is_special c = list_any (λ special. c == special) (codes ".\\*+?()[]{}|^$")

-- the text is this atom: a dot, a character that has no meaning of its own, or one behind a backslash that is no ASCII letter or digit
abbrev pub IsAtom : List ℕ → Atom → Type 0
IsAtom text AnyCharacter = text ≡ codes "."
IsAtom text (Character c) = (IsTrue (not (is_special c)) × (text ≡ c ∷ [])) ⊎ (IsTrue (not (is_ascii_alphanumeric c)) × (text ≡ codes "\\" ++ c ∷ []))

-- what stands behind an atom
abbrev pub sign_of : Times → List ℕ
sign_of Once = []
sign_of ZeroOrMore = codes "*"
sign_of OneOrMore = codes "+"

-- the text is this item
pub record IsItem (text : List ℕ) (item : Item) : Type 0 where
  pub front : List ℕ
  pub atom : IsAtom front item.atom
  pub text_is : text ≡ front ++ sign_of item.times

-- the text is these items, one behind the other
abbrev pub AreItems : List ℕ → List Item → Type 0
AreItems text [] = text ≡ []
AreItems text (item ∷ items) = (front : List ℕ) × (back : List ℕ) × (text ≡ front ++ back) × IsItem front item × AreItems back items

abbrev pub start_sign : Bool → List ℕ
start_sign at_start = if at_start then codes "^" else []

abbrev pub end_sign : Bool → List ℕ
end_sign at_end = if at_end then codes "$" else []

-- THE TEXT IS THIS PATTERN
pub record IsPattern (text : List ℕ) (pattern : Pattern) : Type 0 where
  pub middle : List ℕ
  pub text_is : text ≡ start_sign pattern.at_start ++ (middle ++ end_sign pattern.at_end)
  pub items : AreItems middle pattern.items
  pub length_is : pattern.length ≡ length text
