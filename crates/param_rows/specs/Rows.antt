-- The rows of a parametrised test: the product of its lists of values (pytest's how-to guide, "How to parametrize fixtures and test
-- functions": stacked decorators give all combinations; its reference, "pytest.param").
use Rattle.std.specs.Prelude.{ℕ, Bool, List, [], ◌∷◌, ◌++◌, Option, None, Some, map, is_some, if◌then◌else◌}
use Rattle.std.specs.List.{flat_map, enumerate_from, zip, list_all}
use Rattle.std.specs.declared.alloc.Global.{Global}
use Rattle.std.specs.declared.vec.Vec.{Vec}
use Rattle.param_rows.specs.declared.param.ParamMark.{ParamMark}
use Rattle.param_rows.specs.declared.param.ParamSet.{ParamSet}
use Rattle.param_rows.specs.declared.param.ParamRow.{ParamRow}
use Rattle.param_rows.specs.Ids.{Id}

-- one value of a list: the names that it binds, with their values; which parameter of which fixture it is; its id and its marks
pub record ParameterSet (V : Type 0) : Type 0 where
  pub bound : List (ℕ × V)
  pub fixture_params : List (ℕ × ℕ)
  pub id : Option Id
  pub marks : List V

-- a parameter of a fixture, with its number
abbrev pub param_choice : {V : Type 0} → ℕ → ℕ × Id → ParameterSet V
param_choice fixture param = record { bound = []; fixture_params = (fixture, param.0) ∷ []; id = Some param.1; marks = [] }

-- a fixture's list: its parameters, numbered from 0
abbrev pub fixture_choices : {V : Type 0} → ℕ × Vec Id Global → List (ParameterSet V)
fixture_choices fixture = map (param_choice fixture.0) (enumerate_from 0 fixture.1.items)

-- a set of a mark: each name with its value
abbrev pub set_choice : {V : Type 0} → List ℕ → ParamSet V → ParameterSet V
set_choice names set = record { bound = zip names set.values; fixture_params = []; id = set.id; marks = set.marks }

abbrev pub mark_choices : {V : Type 0} → ParamMark V → List (ParameterSet V)
mark_choices mark = map (set_choice mark.names) mark.sets

-- the lists of a test: those of its fixtures, then those of its marks
abbrev pub choice_lists : {V : Type 0} → List (ℕ × Vec Id Global) → List (ParamMark V) → List (List (ParameterSet V))
choice_lists fixtures marks = map fixture_choices fixtures ++ map mark_choices marks

-- one of each list, in every way, the first list outermost
abbrev pub product : {A : Type 0} → List (List A) → List (List A)
product [] = [] ∷ []
product (xs ∷ rest) = flat_map (λ x. map (λ ys. x ∷ ys) (product rest)) xs

-- an id before what follows, with `-` between; what has no id adds nothing
abbrev pub dash_joined : Option Id → Option Id → Option Id
dash_joined None rest = rest
dash_joined (Some id) None = Some id
dash_joined (Some id) (Some rest) = Some (id ++ 45 ∷ rest)

abbrev pub joined : List (Option Id) → Option Id
joined [] = None
joined (id ∷ ids) = dash_joined id (joined ids)

-- the row of what was chosen; without id where not all ids are made
abbrev pub chosen_row : {V : Type 0} → Bool → List (ParameterSet V) → ParamRow V
chosen_row named choices = record {
  bound = flat_map (λ choice. choice.bound) choices;
  fixture_params = flat_map (λ choice. choice.fixture_params) choices;
  id = if named then joined (map (λ choice. choice.id) choices) else None;
  marks = flat_map (λ choice. choice.marks) choices;
}

-- each set of each mark has an id
abbrev pub is_named : {V : Type 0} → List (ParamMark V) → Bool
is_named marks = list_all (λ mark. list_all (λ set. is_some set.id) mark.sets) marks

abbrev pub rows_of : {V : Type 0} → List (ℕ × Vec Id Global) → List (ParamMark V) → List (ParamRow V)
rows_of fixtures marks = map (chosen_row (is_named marks)) (product (choice_lists fixtures marks))
