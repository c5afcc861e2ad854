-- What is read at the head of a text.
use Rattle.std.specs.Prelude.{◌≡◌, ℕ, zero, suc, ◌==◌, Bool, true, false, cond, List, [], ◌∷◌, ◌++◌, length, Option, Some, None}
use Rattle.std.specs.Char.{is_ascii_alphanumeric}
use Rattle.match_pattern.specs.declared.pattern.Atom.{Atom}
use Rattle.match_pattern.specs.declared.pattern.Atom.TheVariants.{AnyCharacter, Character}
use Rattle.match_pattern.specs.declared.pattern.Times.{Times}
use Rattle.match_pattern.specs.declared.pattern.Times.TheVariants.{Once, ZeroOrMore, OneOrMore}
use Rattle.match_pattern.specs.declared.pattern.Item.{Item}
use Rattle.match_pattern.specs.declared.pattern.Pattern.{Pattern}
use Rattle.match_pattern.specs.Pattern.{is_special, end_sign, AreItems}

abbrev pub escaped_at : List ℕ → Option (Atom × List ℕ)
escaped_at [] = None
escaped_at (c ∷ rest) = cond (is_ascii_alphanumeric c) None (Some (Character c, rest))

abbrev pub atom_at : List ℕ → Option (Atom × List ℕ)
atom_at [] = None
atom_at (c ∷ rest) = cond (c == 46) (Some (AnyCharacter, rest)) (cond (c == 92) (escaped_at rest) (cond (is_special c) None (Some (Character c, rest))))

abbrev pub times_at : List ℕ → Times × List ℕ
times_at [] = (Once, [])
times_at (c ∷ rest) = cond (c == 42) (ZeroOrMore, rest) (cond (c == 43) (OneOrMore, rest) (Once, c ∷ rest))

abbrev pub timed : Atom → Times × List ℕ → Item × List ℕ
timed atom x = (record { atom = atom; times = x.0 }, x.1)

abbrev pub timed_item : Option (Atom × List ℕ) → Option (Item × List ℕ)
timed_item None = None
timed_item (Some x) = Some (timed x.0 (times_at x.1))

abbrev pub item_at : List ℕ → Option (Item × List ℕ)
item_at text = timed_item (atom_at text)

abbrev pub start_at : List ℕ → Bool × List ℕ
start_at [] = (false, [])
start_at (c ∷ rest) = cond (c == 94) (true, rest) (false, c ∷ rest)

abbrev pub end_at : List ℕ → Option Bool
end_at [] = Some false
end_at (c ∷ []) = cond (c == 36) (Some true) None
end_at (c ∷ d ∷ rest) = None

-- the text is these items, and then the end
abbrev pub Goes : List ℕ → List Item → Bool → Type 0
Goes text items at_end = (middle : List ℕ) × (text ≡ middle ++ end_sign at_end) × AreItems middle items

-- what a text is, up to a place: these items, and then what the rest is
pub record UpTo (text : List ℕ) (items : List Item) (rest : List ℕ) : Type 0 where
  pub on : (more : List Item) (at_end : Bool) → Goes rest more at_end → Goes text (items ++ more) at_end
  pub all : (whole : List Item) (at_end : Bool) → Goes text whole at_end → (more : List Item) × (whole ≡ items ++ more) × Goes rest more at_end

-- the same, and no item begins there
abbrev pub ReadsUpTo : List ℕ → List Item → List ℕ → Type 0
ReadsUpTo text items rest = UpTo text items rest × (item_at rest ≡ None)

-- an item before others
abbrev pub item_before : Item → List Item × List ℕ → List Item × List ℕ
item_before item x = (item ∷ x.0, x.1)

abbrev pub items_then : List ℕ → (List ℕ → List Item × List ℕ) → Option (Item × List ℕ) → List Item × List ℕ
items_then text more None = ([], text)
items_then text more (Some x) = item_before x.0 (more x.1)

-- the items at the head of a text, so many at most, and what stands behind them
abbrev pub items_from : ℕ → List ℕ → List Item × List ℕ
items_from zero text = ([], text)
items_from (suc n) text = items_then text (items_from n) (item_at text)

abbrev pub with_end : ℕ → Bool → List Item → Option Bool → Option Pattern
with_end n at_start items (Some at_end) = Some (record { at_start = at_start; items = items; at_end = at_end; length = n })
with_end n at_start items None = None

abbrev pub with_items_read : ℕ → Bool → List Item × List ℕ → Option Pattern
with_items_read n at_start x = with_end n at_start x.0 (end_at x.1)

abbrev pub behind_start : ℕ → Bool × List ℕ → Option Pattern
behind_start n x = with_items_read n x.0 (items_from (length x.1) x.1)

-- THE PATTERN THAT A TEXT IS, where it is one: `^` or not, items, of which a text has no more than characters, `$` or not
unfoldable pub pattern_of : List ℕ → Option Pattern
pattern_of text = behind_start (length text) (start_at text)
