use Rattle.std.proofs.Common.{◌≡◌, map, take}
use Rattle.std.specs.Prelude.{string_bytes}
use Rattle.edge_io.specs.Files.{paths_of, files_of}
use Rattle.edge_io.proofs.memory.paths_in.Given as goal

abbrev pub invariant-loop-file : goal.invariant-loop-file
invariant-loop-file l = map string_bytes l.paths.items ≡ paths_of (files_of (take l.file-index l.files))
