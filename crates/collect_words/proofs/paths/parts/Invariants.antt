use Rattle.std.proofs.Common.{◌≡◌, drop}
use Rattle.collect_words.specs.Paths.{parts}
use Rattle.collect_words.specs.Keys.{parts_with}
use Rattle.collect_words.proofs.paths.parts.Given as goal

abbrev pub invariant-loop-byte : goal.invariant-loop-byte
invariant-loop-byte l = parts_with l.names.items l.name.items (drop l.byte-index l.path) ≡ parts l.path
