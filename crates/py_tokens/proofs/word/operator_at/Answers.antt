use Rattle.std.proofs.Common.{subst, sym, ℕ, Option, ◌≤◌}
use Rattle.std.specs.Prelude.{IfSome}
use Rattle.py_tokens.specs.declared.op.Op.{Op}
use Rattle.py_tokens.specs.Words.{operator_at, operators}
use Rattle.py_tokens.proofs.Words.{found_operator}
use Rattle.py_tokens.proofs.word.operator_at.Goals as goal

pub returns-clause-size : goal.returns-clause-size
unfolding operator_at operators
returns-clause-size c = subst (λ (found : Option (ℕ × Op)). IfSome found (λ (entry : ℕ × Op). 1 ≤ entry.0)) (sym c.first_entry.ensures) (found_operator c.args.text.now)
