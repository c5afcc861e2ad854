use Rattle.std.proofs.Common.{◌≡◌, map, take}
use Rattle.std.specs.Prelude.{string_bytes}
use Rattle.collect_words.specs.Keys.{key_paths}
use Rattle.collect_words.proofs.walk.paths_in.Given as goal

abbrev pub invariant-loop-key : goal.invariant-loop-key
invariant-loop-key l = map string_bytes l.paths.items ≡ key_paths (take l.key-index l.keys)
