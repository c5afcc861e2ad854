-- A file without names has no tests.
use Rattle.std.proofs.Common.{◌≡◌, ℕ, List, [], map, refl, sym, ap, ◌∙◌}
use Rattle.collect_names.specs.Found.{test_functions}
use Rattle.collection_nodes.specs.Tree.{names_of_file}
use Rattle.collection_nodes.specs.declared.placed_file.PlacedFile.{PlacedFile}
use Rattle.fixture_definitions.specs.Tests.{test_in, tests_of}
use Rattle.py_values.specs.declared.object.Obj.{Obj}
use Rattle.py_values.specs.declared.value.Value.{Value}

none_found : (heap : List Obj) → [] ≡ test_functions heap []
unfolding test_functions
none_found heap = refl

pub no_tests : (heap : List Obj) (placed : PlacedFile) → names_of_file heap placed.file ≡ [] → [] ≡ tests_of heap placed
unfolding tests_of
no_tests heap placed e =
    ap (map (test_in heap placed)) (none_found heap)
    ∙ ap (λ (names : List (List ℕ × Value)). map (test_in heap placed) (test_functions heap names)) (sym e)
