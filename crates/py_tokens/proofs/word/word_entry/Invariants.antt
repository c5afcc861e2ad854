use Rattle.std.proofs.Common.{◌≡◌, drop, map}
use Rattle.py_tokens.specs.Words.{word_entry, op_entry}
use Rattle.py_tokens.proofs.word.word_entry.Given as goal

abbrev pub invariant-loop-entry : goal.invariant-loop-entry
invariant-loop-entry l = word_entry (map op_entry (drop l.entry-index l.table)) l.chars ≡ word_entry (map op_entry l.table) l.chars
