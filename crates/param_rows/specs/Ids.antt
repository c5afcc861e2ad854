-- Ids of parameter sets, and how equal ones are told apart (pytest's reference, "ids" of `parametrize`; the numbers are the
-- project's own).
use Rattle.std.specs.Prelude.{ℕ, Bool, false, not, List, [], ◌∷◌, ◌++◌, length, map, find, unwrap_or, suc, ◌-◌, nat_eq, nat_lt, slice_get, count_by, if◌then◌else◌}
use Rattle.std.specs.Option.{option_map_or}
use Rattle.std.specs.List.{list_any, range_with_len}
use Rattle.std.specs.Cmp.Lexicographic.{pointwise}
use Rattle.std.specs.Char.{is_ascii_digit}
use Rattle.std.specs.Fmt.{decimal}

-- an id is its characters
abbrev pub Id : Type 0
Id = List ℕ

abbrev pub same_id : Id → Id → Bool
same_id one other = pointwise nat_eq one other

abbrev pub has_id : Id → List Id → Bool
has_id id ids = list_any (λ one. same_id one id) ids

-- how often it stands there
abbrev pub count_of : Id → List Id → ℕ
count_of id ids = count_by (λ one. same_id one id) ids

-- it stands there more than once
abbrev pub is_repeated : Id → List Id → Bool
is_repeated id ids = nat_lt 1 (count_of id ids)

abbrev pub ends_in_digit : Id → Bool
ends_in_digit id = option_map_or is_ascii_digit (slice_get id (length id - 1)) false

-- `_` where the id ends in a digit
abbrev pub joint : Id → Id
joint id = if ends_in_digit id then 95 ∷ [] else []

-- the id with a number behind it
unfoldable pub numbered : Id → ℕ → Id
numbered id number = id ++ joint id ++ decimal number

-- the id with each of the numbers from 0 on, one more than there are in a list
abbrev pub id_candidates : Id → List Id → List Id
id_candidates id taken = map (numbered id) (range_with_len 0 (suc (length taken)))

-- the first of these that isn't taken; there is one
abbrev pub first_free : List Id → Id → Id
first_free taken id = unwrap_or (find (λ one. not (has_id one taken)) (id_candidates id taken)) id

-- what an occurrence of an id becomes: itself where it stands among the given ids once, else the id with the first number whose
-- result is neither among the ids given nor already made
abbrev pub made_of : List Id → List Id → Id → Id
made_of ids made id = if is_repeated id ids then first_free (ids ++ made) id else id

-- the occurrences in order, behind those that were made
abbrev pub made_from : List Id → List Id → List Id → List Id
made_from ids made [] = []
made_from ids made (id ∷ rest) = made_of ids made id ∷ made_from ids (made ++ made_of ids made id ∷ []) rest

abbrev pub unique_of : List Id → List Id
unique_of ids = made_from ids [] ids
