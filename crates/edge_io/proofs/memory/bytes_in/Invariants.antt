use Rattle.std.proofs.Common.{◌≡◌, drop}
use Rattle.edge_io.specs.Files.{file_at, files_of}
use Rattle.edge_io.proofs.memory.bytes_in.Given as goal

abbrev pub invariant-loop-file : goal.invariant-loop-file
invariant-loop-file l = file_at l.path (files_of l.files) ≡ file_at l.path (files_of (drop l.file-index l.files))
