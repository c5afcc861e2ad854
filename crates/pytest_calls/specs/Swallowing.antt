-- What `with raises(E, match=P)` raises (pytest's reference, `pytest.raises`): where nothing was raised, and where the pattern isn't found
-- in the message of what was.
use Rattle.std.specs.Prelude.{ℕ, Bool, true, false, List, ◌++◌, codes, if◌then◌else◌, Option, Some, None}
use Rattle.match_pattern.specs.Reading.{pattern_of}
use Rattle.match_pattern.specs.Searching.{found, match_cost}
use Rattle.match_pattern.specs.declared.pattern.Pattern.{Pattern}
use Rattle.match_pattern.specs.declared.searching.SearchEnd.{SearchEnd}
use Rattle.match_pattern.specs.declared.searching.SearchEnd.TheVariants.{Found, NotFound, Exhausted}
use Rattle.py_repr.specs.Repr.{repr_of, message_of}
use Rattle.py_repr.specs.Symbols.{shown}
use Rattle.py_repr.specs.Words.{quoted_text}
use Rattle.py_repr.specs.declared.shown.Shown.{Shown}
use Rattle.py_values.specs.Limits.{most_elements}
use Rattle.py_values.specs.Raises.{text_raise}
use Rattle.py_values.specs.declared.class.ExcClass.TheVariants.{AssertionError, Failed, MemoryError, RecursionError, ValueError}
use Rattle.py_values.specs.declared.end.Effect.{Effect}
use Rattle.py_values.specs.declared.end.Effect.TheVariants.{Give, Fail}
use Rattle.py_values.specs.declared.end.Raise.{Raise}
use Rattle.py_values.specs.declared.object.Obj.{Obj}
use Rattle.py_values.specs.declared.value.Value.{Value}
use Rattle.py_values.specs.declared.value.Value.TheVariants as val

-- what is shown can lie too deep, or be too long
abbrev pub refused_shown : Shown → Option Raise
refused_shown s =
    if s.deep then Some (text_raise RecursionError (codes "nesting too deep"))
    else if s.cut then Some (text_raise MemoryError (codes "sequence too long"))
    else None

abbrev pub refusal_or : Option Raise → Raise → Raise
refusal_or (Some r) other = r
refusal_or None other = other

abbrev pub unraised : Shown → Raise
unraised s = refusal_or (refused_shown s) (text_raise Failed (codes "DID NOT RAISE " ++ s.text))

-- WHAT IS RAISED WHERE NOTHING WAS, by the repr of the classes
unfoldable pub did_not_raise : List Obj → Value → Raise
did_not_raise heap classes = unraised (shown most_elements (repr_of heap classes))

unfoldable pub not_found_text : List ℕ → List ℕ → List ℕ
not_found_text pattern message = codes "pattern " ++ (quoted_text pattern ++ (codes " not found in " ++ quoted_text message))

abbrev pub pattern_missing : List ℕ → List ℕ → Raise
pattern_missing pattern message = text_raise AssertionError (not_found_text pattern message)

-- what a search gives, behind its cost
abbrev pub search_made : List ℕ → List ℕ → Bool → ℕ → Effect
search_made pattern message true n = Give val.None n
search_made pattern message false n = Fail (pattern_missing pattern message) n

-- the search in a message costs the product of both lengths
abbrev pub searched_with : List ℕ → List ℕ → Pattern → Effect
searched_with pattern message p = search_made pattern message (found p message) (match_cost p message)

abbrev pub searched_by : List ℕ → List ℕ → Option Pattern → Effect
searched_by pattern message (Some p) = searched_with pattern message p
searched_by pattern message None = Fail (text_raise ValueError (codes "unsupported pattern")) 0

abbrev pub searched_unless : Option Raise → List ℕ → List ℕ → Effect
searched_unless (Some r) pattern message = Fail r 0
searched_unless None pattern message = searched_by pattern message (pattern_of pattern)

abbrev pub searched_in : List ℕ → Shown → Effect
searched_in pattern s = searched_unless (refused_shown s) pattern s.text

abbrev pub message_searched : List Obj → Value → List ℕ → Effect
message_searched heap exception pattern = searched_in pattern (shown most_elements (message_of heap exception))

-- THE SEARCH OF A PATTERN, where there is one, in the message of an exception that was taken: None where it is found
unfoldable pub pattern_end : List Obj → Option (List ℕ) → Value → Effect
pattern_end heap (Some pattern) exception = message_searched heap exception pattern
pattern_end heap None exception = Give val.None 0

-- what the end of a search under a budget makes, if anything
abbrev pub search_ended : List ℕ → List ℕ → SearchEnd → Option Effect
search_ended pattern message (Found n) = Some (search_made pattern message true n)
search_ended pattern message (NotFound n) = Some (search_made pattern message false n)
search_ended pattern message Exhausted = None
