use Rattle.std.specs.Prelude.{IsUtf8}
use Rattle.acceptance.proofs.check.has_all.Given as goal

abbrev pub invariant-loop-one : goal.invariant-loop-one
invariant-loop-one l = IsUtf8 l.rest
