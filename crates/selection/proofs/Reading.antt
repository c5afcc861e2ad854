-- The answer that is computed for a text is the one that its grammar allows.
use Rattle.std.proofs.Common.{◌≡◌, ℕ, List, [], refl, sym, ap, ◌∙◌}
use Rattle.parsing.specs.Answer.{Ever, Settled, finish}
use Rattle.parsing.specs.Reading.{Read, Found, Bad, Deep}
use Rattle.parsing.proofs.Answers.{settled, settled_only}
use Rattle.mark_expr.specs.Answer.{ParseResult, IsParseResult, Reads, Wrong, TooDeep, most_nested}
use Rattle.mark_expr.specs.Expression.{ExpressionTree, NestedWithin}
use Rattle.mark_expr.specs.Grammar.{or_at}
use Rattle.mark_expr.specs.Text.{tokens_of}
use Rattle.mark_expr.specs.declared.token.Token.{Token}
use Rattle.mark_expr.proofs.Main.{whole_rule}
use Rattle.selection.specs.Reading.{expression_answer, read_answer}

settled_is : (cs : List ℕ) (r : Read Token ExpressionTree) → Settled (NestedWithin most_nested) (Ever NestedWithin) (tokens_of cs) r → IsParseResult cs (read_answer cs r)
settled_is cs (Found tree rest) s = s.1
settled_is cs (Bad rest) s = record { rest = rest; fault = s; column_is = refl }
settled_is cs (Deep rest) s = record { rest = rest; deep = s }

pub answer_is : (cs : List ℕ) → IsParseResult cs (expression_answer cs)
unfolding expression_answer
answer_is cs = settled_is cs (finish (or_at most_nested (tokens_of cs))) (settled (whole_rule most_nested) (tokens_of cs))

-- what the reader gives, where that is answered
record As (cs : List ℕ) (other : ParseResult) : Type 0 where
  read : Read Token ExpressionTree
  settles : Settled (NestedWithin most_nested) (Ever NestedWithin) (tokens_of cs) read
  is : other ≡ read_answer cs read

as_read : (cs : List ℕ) (other : ParseResult) → IsParseResult cs other → As cs other
as_read cs (Reads tree) a = record { read = Found tree []; settles = (refl, a); is = refl }
as_read cs (Wrong column) a = record { read = Bad a.rest; settles = a.fault; is = ap Wrong a.column_is }
as_read cs TooDeep a = record { read = Deep a.rest; settles = a.deep; is = refl }

pub answer_only : (cs : List ℕ) (other : ParseResult) → IsParseResult cs other → other ≡ expression_answer cs
unfolding expression_answer
answer_only cs other a =
    let r = as_read cs other a in
    r.is ∙ sym (ap (read_answer cs) (settled_only (whole_rule most_nested) (tokens_of cs) r.read r.settles))
