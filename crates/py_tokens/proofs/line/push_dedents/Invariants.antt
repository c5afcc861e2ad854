use Rattle.std.proofs.Common.{◌≡◌, ◌++◌}
use Rattle.std.specs.Prelude.{replicate}
use Rattle.py_tokens.specs.declared.token.TokenKind.TheVariants as kind
use Rattle.py_tokens.specs.Layout.{token_at}
use Rattle.py_tokens.proofs.line.push_dedents.Given as goal

abbrev pub invariant-loop : goal.invariant-loop
invariant-loop l = l.tokens.items ≡ l.fn.tokens.items ++ replicate l.counter (token_at kind.Dedent l.at l.at)
