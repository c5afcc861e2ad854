-- What is written where a conftest can't be loaded.
use Rattle.std.specs.Prelude.{ℕ, List, ◌++◌, codes}
use Rattle.report_parts.specs.Exceptions.{told_lines}
use Rattle.report_parts.specs.declared.report.Told.{Told}

-- the line that names the file, and the frames and `E   ` lines of its exception
unfoldable pub conftest_text : List ℕ → Told → List ℕ
conftest_text path told = codes "ImportError while loading conftest '" ++ (path ++ (codes "'.\n" ++ told_lines told))
