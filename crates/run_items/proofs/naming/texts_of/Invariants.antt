use Rattle.std.proofs.Common.{◌≡◌, ◌++◌, drop}
use Rattle.run_items.specs.Texts.{texts_of}
use Rattle.run_items.proofs.naming.texts_of.Given as goal

abbrev pub invariant-loop-name : goal.invariant-loop-name
invariant-loop-name l = l.texts ++ texts_of (drop l.name-index l.names) ≡ texts_of l.names
