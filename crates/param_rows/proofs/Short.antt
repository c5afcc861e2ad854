-- No list of values is longer than the number of rows allows.
use Rattle.std.proofs.Common.{ℕ, ◌<◌, ◌≤◌, List, [], ◌∷◌, ◌++◌, length, map, arith}
use Rattle.std.specs.Prelude.{All}
use Rattle.std.specs.declared.alloc.Global.{Global}
use Rattle.std.specs.declared.vec.Vec.{Vec}
use Rattle.std.proofs.lemmas.List.Elements.{All-nil, All-cons, All-head, All-tail, All-weaker}
use Rattle.param_rows.specs.Ids.{Id}
use Rattle.param_rows.specs.Rows.{ParameterSet, product, choice_lists, fixture_choices, mark_choices}
use Rattle.param_rows.specs.declared.param.ParamMark.{ParamMark}
use Rattle.param_rows.proofs.Product.{product_bounds}

all_front : {A V : Type 0} (P : List (ParameterSet V) → Type 0) (f : A → List (ParameterSet V)) (xs : List A) (rest : List (List (ParameterSet V))) → All P (map f xs ++ rest) → All (λ x. P (f x)) xs
all_front P f [] rest h = All-nil (λ x. P (f x))
all_front P f (x ∷ xs) rest h = All-cons (λ y. P (f y)) x xs (All-head P (f x) (map f xs ++ rest) h) (all_front P f xs rest (All-tail P (f x) (map f xs ++ rest) h))

-- where there are rows, and not too many, no fixture has too many parameters
pub short_lists : {V : Type 0} (fixtures : List (ℕ × Vec Id Global)) (marks : List (ParamMark V)) → 0 < length (product (choice_lists fixtures marks)) → length (product (choice_lists fixtures marks)) ≤ 65536 → All (λ fixture. length (fixture_choices {V = V} fixture) ≤ 65536) fixtures
short_lists fixtures marks some small =
    all_front (λ xs. length xs ≤ 65536) fixture_choices fixtures (map mark_choices marks)
    (All-weaker (λ xs. length xs ≤ length (product (choice_lists fixtures marks))) (λ xs. length xs ≤ 65536) (λ xs le. omega (arith, le, small)) (choice_lists fixtures marks) (product_bounds (choice_lists fixtures marks) some))
