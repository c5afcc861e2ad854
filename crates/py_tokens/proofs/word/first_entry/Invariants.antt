use Rattle.std.proofs.Common.{◌≡◌, drop, map}
use Rattle.py_tokens.specs.Words.{first_entry, entry_of}
use Rattle.py_tokens.proofs.word.first_entry.Given as goal

abbrev pub invariant-loop-entry : goal.invariant-loop-entry
invariant-loop-entry l = first_entry (map entry_of (drop l.entry-index l.table)) l.text ≡ first_entry (map entry_of l.table) l.text
