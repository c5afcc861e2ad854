-- FILES AS THEY ARE LOADED, one after another, in one world: each with what it printed.
use Rattle.std.specs.Prelude.{ℕ, List, [], chars}
use Rattle.py_world.specs.World.{world_with_printed}
use Rattle.assert_rewrite.specs.source_meaning.Meaning.{SourceWorld}
use Rattle.py_load.specs.Loading.{LoadEnd, load_of}
use Rattle.py_load.specs.declared.file.LoadedFile.{LoadedFile}

-- what is known of a file behind its load: how it ended, and what was printed meanwhile
abbrev pub FileEnd : Type 0
FileEnd = LoadEnd × List ℕ

abbrev pub file_told : LoadedFile → FileEnd
file_told file = (file.end, file.printed.items)

-- what was printed is taken
abbrev pub taken_behind : LoadEnd × SourceWorld → FileEnd × SourceWorld
taken_behind x = ((x.0, x.1.printed), world_with_printed [] x.1)

-- THE LOAD OF THE FILE with this path, within a step limit
abbrev pub file_load : ℕ → List ℕ → SourceWorld → FileEnd × SourceWorld
file_load limit path w = taken_behind (load_of (chars path) limit w)
