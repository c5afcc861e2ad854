-- Which texts a pattern matches (Python library reference, re, "Regular Expression Syntax" and search; that `$` is the very end alone
-- is own).
use Rattle.std.specs.Prelude.{◌≡◌, ℕ, ◌≤◌, ◌==◌, Bool, not, IsTrue, List, [], ◌∷◌, ◌++◌, length}
use Rattle.std.specs.List.{AllByRecursion}
use Rattle.match_pattern.specs.declared.pattern.Atom.{Atom}
use Rattle.match_pattern.specs.declared.pattern.Atom.TheVariants.{AnyCharacter, Character}
use Rattle.match_pattern.specs.declared.pattern.Times.{Times}
use Rattle.match_pattern.specs.declared.pattern.Times.TheVariants.{Once, ZeroOrMore, OneOrMore}
use Rattle.match_pattern.specs.declared.pattern.Item.{Item}
use Rattle.match_pattern.specs.declared.pattern.Pattern.{Pattern}

-- the line end is 10
abbrev pub stands_for : Atom → ℕ → Bool
stands_for AnyCharacter c = not (c == 10)
stands_for (Character wanted) c = c == wanted

abbrev pub IsCount : Times → ℕ → Type 0
IsCount Once count = count ≡ 1
IsCount ZeroOrMore count = 0 ≤ count
IsCount OneOrMore count = 1 ≤ count

-- an item matches a text: as many characters as it may, and its atom stands for each
pub record Matches (item : Item) (text : List ℕ) : Type 0 where
  pub count : IsCount item.times (length text)
  pub each : AllByRecursion (λ c. IsTrue (stands_for item.atom c)) text

-- items match a text that is cut into a text for each of them
abbrev pub AllMatch : List Item → List ℕ → Type 0
AllMatch [] text = text ≡ []
AllMatch (item ∷ items) text = (front : List ℕ) × (back : List ℕ) × (text ≡ front ++ back) × Matches item front × AllMatch items back

-- THE PATTERN IS FOUND: it matches somewhere in the text, at the places where it may
pub record IsMatch (pattern : Pattern) (text : List ℕ) : Type 0 where
  pub before : List ℕ
  pub middle : List ℕ
  pub behind : List ℕ
  pub text_is : text ≡ before ++ (middle ++ behind)
  pub matches : AllMatch pattern.items middle
  pub at_start : IsTrue pattern.at_start → before ≡ []
  pub at_end : IsTrue pattern.at_end → behind ≡ []
