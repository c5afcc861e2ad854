-- WHAT AN ANSWER SAYS: the verdict that it is, or, where memory ran out, nothing.
use Rattle.std.specs.Prelude.{◌≡◌, List, Option, Some, None, Result, Ok, Err}
use Rattle.py_tokens.specs.declared.token.Token.{Token}
use Rattle.py_tree.specs.declared.stmt.Module.{Module}
use Rattle.py_tree.specs.Statements.{module_tree}
use Rattle.statement_readers.specs.py_grammar.Verdict.{Verdict, Accepted, Unexpected, Unsupported, Context, Nesting, IsVerdict}
use Rattle.py_parse.specs.declared.fault.SyntaxFault.{SyntaxFault}
use Rattle.py_parse.specs.declared.fault.SyntaxFault.TheVariants as f

abbrev pub verdict_of : Result Module SyntaxFault → Option Verdict
verdict_of (Ok m) = Some (Accepted (module_tree m))
verdict_of (Err (f.Unexpected at)) = Some (Unexpected at)
verdict_of (Err (f.Unsupported at)) = Some (Unsupported at)
verdict_of (Err (f.Context at)) = Some (Context at)
verdict_of (Err (f.Nesting at)) = Some (Nesting at)
verdict_of (Err f.OutOfMemory) = None

-- the answer is a verdict on the tokens
abbrev pub IsOn : List Token → Option Verdict → Type 0
IsOn tokens None = Unit {0}
IsOn tokens (Some v) = IsVerdict tokens v

abbrev pub IsJudged : List Token → Result Module SyntaxFault → Type 0
IsJudged tokens answer = IsOn tokens (verdict_of answer)

-- the answer is this verdict
abbrev pub IsSame : Option Verdict → Option Verdict → Type 0
IsSame None v = Unit {0}
IsSame (Some u) v = Some u ≡ v

abbrev pub Answers : Option Verdict → Result Module SyntaxFault → Type 0
Answers v answer = IsSame (verdict_of answer) v
