-- The line of a fact.
use Rattle.std.specs.Prelude.{ℕ, Bool, List, [], ◌++◌, codes, nat_lt, if◌then◌else◌}
use Rattle.py_world.specs.Explained.{Fact, fact_indent}

abbrev pub fact_word : Bool → List ℕ
fact_word is_deeper = if is_deeper then codes "where " else codes "and   "

abbrev pub fact_line : ℕ → Fact → List ℕ
fact_line above f = codes "\n +" ++ (fact_indent [] [] f.depth ++ (fact_word (nat_lt above f.depth) ++ f.text))
