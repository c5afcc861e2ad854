-- THE ERRORS OF COLLECTION, in the order of the files: a load that has failed, or else the first fault of the rows of a file's tests, which is
-- told behind all loads.
use Rattle.std.specs.Prelude.{ℕ, List, [], ◌∷◌, ◌++◌, Option, Some, None}
use Rattle.collect_items.specs.collect_rows.declared.items.RowsFault.{RowsFault}
use Rattle.collect_words.specs.Walks.{path_at}
use Rattle.collection_nodes.specs.declared.test_file.TestFile.{TestFile}
use Rattle.report_parts.specs.declared.report.CollectReport.{CollectReport}
use Rattle.fixture_world.specs.tracebacks.Frames.{told}
use Rattle.fixture_world.specs.tracebacks.source_meaning.Meaning.{SourceWorld}
use Rattle.collect_tree.specs.declared.loads.LoadEnd.{LoadEnd}

-- what is told of a fault of rows; what was printed is that of the load
abbrev pub rows_error : List ℕ → List ℕ → RowsFault → SourceWorld → CollectReport
rows_error path captured fault w = record { file = path; told = told w.sources fault.trace fault.text; captured = captured }

abbrev pub rows_errors : List ℕ → List ℕ → Option RowsFault → SourceWorld → List CollectReport
rows_errors path captured (Some fault) w = rows_error path captured fault w ∷ []
rows_errors path captured None w = []

abbrev pub load_errors : Option CollectReport → List CollectReport → List CollectReport
load_errors (Some error) others = error ∷ []
load_errors None others = others

module _ (walk : List (List ℕ)) (w : SourceWorld) where
  -- of one file
  abbrev pub file_errors : TestFile → LoadEnd → Option RowsFault → List CollectReport
  file_errors file end fault = load_errors end.error (rows_errors (path_at walk file.place) end.captured fault w)

  -- of all files
  abbrev pub all_errors : List TestFile → List LoadEnd → List (Option RowsFault) → List CollectReport
  all_errors [] ends faults = []
  all_errors (file ∷ files) [] faults = []
  all_errors (file ∷ files) (end ∷ ends) [] = []
  all_errors (file ∷ files) (end ∷ ends) (fault ∷ faults) = file_errors file end fault ++ all_errors files ends faults
