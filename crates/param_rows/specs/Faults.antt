-- The first fault of a test's parameters (pytest's reference, "pytest.mark.parametrize"; the order is the project's own).
use Rattle.std.specs.Prelude.{ℕ, Bool, not, List, [], ◌∷◌, ◌++◌, length, Option, None, Some, find, nat_lt, ◌==◌, if◌then◌else◌}
use Rattle.std.specs.Option.{option_map, option_or}
use Rattle.std.specs.List.{list_any}
use Rattle.std.specs.declared.alloc.Global.{Global}
use Rattle.std.specs.declared.vec.Vec.{Vec}
use Rattle.param_rows.specs.declared.param.ParamMark.{ParamMark}
use Rattle.param_rows.specs.declared.fault.RowFault.{RowFault}
use Rattle.param_rows.specs.declared.fault.RowFault.TheVariants.{Width, Duplicate, NoArgument, TooMany}
use Rattle.param_rows.specs.Ids.{Id}
use Rattle.param_rows.specs.Limits.{most_rows}
use Rattle.param_rows.specs.Rows.{rows_of}

abbrev pub among : ℕ → List ℕ → Bool
among name names = list_any (λ one. one == name) names

-- the first set that has another number of values than there are names
abbrev pub width_fault : {V : Type 0} → ParamMark V → Option RowFault
width_fault mark = option_map (λ set. Width (length mark.names) (length set.values)) (find (λ set. not (length set.values == length mark.names)) mark.sets)

-- the first name that stands before it
abbrev pub first_repeated : List ℕ → List ℕ → Option ℕ
first_repeated earlier [] = None
first_repeated earlier (name ∷ names) = if among name earlier then Some name else first_repeated (earlier ++ name ∷ []) names

-- the first name that nobody asks for
abbrev pub first_unknown : List ℕ → List ℕ → Option ℕ
first_unknown known names = find (λ name. not (among name known)) names

-- within a mark: width, then a name that stands before, then a name that nobody asks for
abbrev pub mark_fault : {V : Type 0} → List ℕ → List ℕ → ParamMark V → Option RowFault
mark_fault known earlier mark =
    option_or (width_fault mark)
    (option_or (option_map (λ name. Duplicate name) (first_repeated earlier mark.names)) (option_map (λ name. NoArgument name) (first_unknown known mark.names)))

-- mark by mark, behind the names of the earlier ones
abbrev pub marks_fault : {V : Type 0} → List ℕ → List ℕ → List (ParamMark V) → Option RowFault
marks_fault known earlier [] = None
marks_fault known earlier (mark ∷ marks) = option_or (mark_fault known earlier mark) (marks_fault known (earlier ++ mark.names) marks)

abbrev pub size_fault : ℕ → Option RowFault
size_fault many = if nat_lt most_rows many then Some TooMany else None

-- the faults of the marks, and then that there are too many rows
abbrev pub first_fault : {V : Type 0} → List (ℕ × Vec Id Global) → List (ParamMark V) → List ℕ → Option RowFault
first_fault fixtures marks known = option_or (marks_fault known [] marks) (size_fault (length (rows_of fixtures marks)))
