-- Lists as `param_rows` has them.
use Rattle.std.proofs.Common.{◌≡◌, ℕ, ◌+◌, ◌<◌, Bool, true, cond, List, [], ◌∷◌, ◌++◌, Option, Some, None, length, map, drop, get_or, nat_eq, refl, sym, ap, ◌∙◌}
use Rattle.std.specs.Prelude.{slice_get}
use Rattle.std.proofs.lemmas.List.{drop_more}
use Rattle.std.specs.Option.{option_or}
use Rattle.std.specs.declared.alloc.Global.{Global}
use Rattle.std.specs.declared.vec.Vec.{Vec}
use Rattle.fixture_definitions.specs.collect_params.param_rows.Faults.{first_fault, marks_fault, size_fault}
use Rattle.fixture_definitions.specs.collect_params.param_rows.Ids.{Id}
use Rattle.fixture_definitions.specs.collect_params.param_rows.Rows.{chosen_row, fixture_choices, is_named, mark_choices, product, rows_of}
use Rattle.fixture_definitions.specs.collect_params.param_rows.declared.fault.RowFault.{RowFault}
use Rattle.fixture_definitions.specs.collect_params.param_rows.declared.param.ParamMark.{ParamMark}
use Rattle.fixture_definitions.specs.collect_params.param_rows.declared.param.ParamRow.{ParamRow}
use Rattle.py_values.specs.declared.value.Value.{Value}
use Rattle.collect_rows.specs.Rows.{id_among, id_or_empty, list_choices, rows_fault, rows_over}
use Rattle.collect_rows.specs.Seen.{seen_list}

choices_seen : (fixtures : List (ℕ × Vec Id Global)) → map (fixture_choices {V = Value}) fixtures ≡ map list_choices (map seen_list fixtures)
choices_seen [] = refl
choices_seen (fixture ∷ fixtures) = ap (λ lists. fixture_choices fixture ∷ lists) (choices_seen fixtures)

pub rows_seen : (fixtures : List (ℕ × Vec Id Global)) (marks : List (ParamMark Value)) → rows_of fixtures marks ≡ rows_over (map seen_list fixtures) marks
rows_seen fixtures marks = ap (λ lists. map (chosen_row (is_named marks)) (product (lists ++ map mark_choices marks))) (choices_seen fixtures)

pub fault_seen : (fixtures : List (ℕ × Vec Id Global)) (marks : List (ParamMark Value)) (known : List ℕ) → first_fault fixtures marks known ≡ rows_fault (map seen_list fixtures) marks known
fault_seen fixtures marks known = ap (λ (rows : List (ParamRow Value)). option_or (marks_fault known [] marks) (size_fault (length rows))) (rows_seen fixtures marks)

nothing_else : (fault : Option RowFault) → option_or fault None ≡ fault
nothing_else (Some f) = refl
nothing_else None = refl

-- beside an empty list there is no row, and so none too many
pub fault_beside_none : (ids : Vec Id Global) (marks : List (ParamMark Value)) (known : List ℕ) → ids.items ≡ [] → first_fault ((0, ids) ∷ []) marks known ≡ marks_fault known [] marks
fault_beside_none ids marks known e =
    fault_seen ((0, ids) ∷ []) marks known ∙ (ap (λ (xs : List Id). rows_fault ((0, xs) ∷ []) marks known) e ∙ nothing_else (marks_fault known [] marks))

-- the list at a place is that of the definition
pub id_here : (lists : List (ℕ × Vec Id Global)) (i : ℕ) (one : ℕ × Vec Id Global) (def number : ℕ) (all : Id) → i < length lists → one ≡ get_or lists i one
    → nat_eq def one.0 ≡ true → id_among (map seen_list (drop i lists)) def number ≡ all → id_or_empty (slice_get one.1.items number) ≡ all
id_here lists i one def number all l e same is =
    let rest = map seen_list (drop (i + 1) lists) in
    ap (λ (b : Bool). cond b (id_or_empty (slice_get one.1.items number)) (id_among rest def number)) (sym same)
    ∙ (ap (λ (x : ℕ × Vec Id Global). id_among (seen_list x ∷ rest) def number) e
    ∙ (ap (λ (xs : List (ℕ × Vec Id Global)). id_among (map seen_list xs) def number) (sym (drop_more lists i one l)) ∙ is))
