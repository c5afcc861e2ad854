-- The search as a plain program: an item, and behind it a test of what is left of the text.
use Rattle.std.specs.Prelude.{ℕ, ◌*◌, Bool, true, false, not, ◌&&◌, ◌||◌, nat_lt, List, [], ◌∷◌, length, map, Option, Some, None, if◌then◌else◌}
use Rattle.match_pattern.specs.declared.pattern.Atom.{Atom}
use Rattle.match_pattern.specs.declared.pattern.Times.{Times}
use Rattle.match_pattern.specs.declared.pattern.Times.TheVariants.{Once, ZeroOrMore, OneOrMore}
use Rattle.match_pattern.specs.declared.pattern.Item.{Item}
use Rattle.match_pattern.specs.declared.pattern.Pattern.{Pattern}
use Rattle.match_pattern.specs.declared.searching.SearchEnd.{SearchEnd}
use Rattle.match_pattern.specs.declared.searching.SearchEnd.TheVariants.{Found, NotFound, Exhausted}
use Rattle.match_pattern.specs.Matching.{stands_for}

abbrev pub atom_begins : Atom → List ℕ → Bool
atom_begins atom [] = false
atom_begins atom (c ∷ text) = stands_for atom c

-- one character that the atom stands for, and then what passes the test
abbrev pub one_then : Atom → (List ℕ → Bool) → List ℕ → Bool
one_then atom test [] = false
one_then atom test (c ∷ text) = stands_for atom c && test text

-- any number of them, and then what passes the test
abbrev pub any_then : Atom → (List ℕ → Bool) → List ℕ → Bool
any_then atom test [] = test []
any_then atom test (c ∷ text) = test (c ∷ text) || (stands_for atom c && any_then atom test text)

abbrev pub times_then : Times → Atom → (List ℕ → Bool) → List ℕ → Bool
times_then Once atom test text = one_then atom test text
times_then ZeroOrMore atom test text = any_then atom test text
times_then OneOrMore atom test text = one_then atom (any_then atom test) text

abbrev pub is_end : Bool → List ℕ → Bool
is_end at_end [] = true
is_end at_end (c ∷ text) = not at_end

-- whether items match at the beginning of a text, and at its very end where they have to
abbrev pub match_at : Bool → List Item → List ℕ → Bool
match_at at_end [] text = is_end at_end text
match_at at_end (item ∷ items) text = times_then item.times item.atom (match_at at_end items) text

-- whether what is left of a text from some place on passes the test
abbrev pub anywhere : (List ℕ → Bool) → List ℕ → Bool
anywhere test [] = test []
anywhere test (c ∷ text) = test (c ∷ text) || anywhere test text

-- THE SEARCH
abbrev pub found : Pattern → List ℕ → Bool
found pattern text = if pattern.at_start then match_at pattern.at_end pattern.items text else anywhere (match_at pattern.at_end pattern.items) text

-- its cost in steps: the product of both lengths
abbrev pub match_cost : Pattern → List ℕ → ℕ
match_cost pattern text = pattern.length * length text

-- the cost, where it is within a budget
abbrev pub affordable : ℕ → ℕ → Option ℕ
affordable budget cost = if nat_lt budget cost then None else Some cost

-- how a search ends
abbrev pub search_end : Option ℕ → Bool → SearchEnd
search_end None answer = Exhausted
search_end (Some cost) answer = if answer then Found cost else NotFound cost

-- The same by marks at all places at once: a mark where an item may begin, moved to where it may end. Whether a place is marked
-- behind an item, by its mark before it and by whether the item has come there
abbrev pub kept : Times → Bool → Bool → Bool
kept Once here inside = inside
kept ZeroOrMore here inside = here || inside
kept OneOrMore here inside = inside

-- whether the item may match the next character
abbrev pub goes_on : Times → Bool → Bool → Bool
goes_on Once here inside = here
goes_on ZeroOrMore here inside = here || inside
goes_on OneOrMore here inside = here || inside

abbrev pub rest_of : List ℕ → List ℕ
rest_of [] = []
rest_of (c ∷ text) = text

abbrev pub passed : Item → Bool → List Bool → List ℕ → List Bool
passed item inside [] text = []
passed item inside (here ∷ marks) text = kept item.times here inside ∷ passed item (goes_on item.times here inside && atom_begins item.atom text) marks (rest_of text)

-- the places at which a pattern may begin
abbrev pub first_marks : Bool → List ℕ → List Bool
first_marks at_start text = true ∷ map (λ c. not at_start) text

-- whether what is left of the text from a marked place on passes the test
abbrev pub marked : (List ℕ → Bool) → List Bool → List ℕ → Bool
marked test [] text = false
marked test (here ∷ marks) text = (here && test text) || marked test marks (rest_of text)
