-- THE LAWS of the grammar.
use Rattle.std.proofs.Common.{◌≡◌, ℕ, suc, true, List, refl}
use Rattle.py_expressions.specs.py_tokens.declared.token.Token.{Token}
use Rattle.py_tree.specs.Statements.{Block}
use Rattle.parsing.specs.Reading.{Read}
use Rattle.grammar.specs.Table.{Line}
use Rattle.grammar.specs.Answer.{Without}
use Rattle.grammar.proofs.Lines.{FarRules}
use Rattle.grammar.proofs.Answers.{line_rule, is_answer, one_answer, one_reading}
use Rattle.py_expressions.specs.Lines.{expressions, no_fars, no_reader}
use Rattle.py_grammar.specs.Sorts.{source}
use Rattle.py_grammar.specs.Lines.{statements}
use Rattle.py_grammar.specs.Sources.{limited, unlimited, expression_readers, IsSourceReading, source_read}
use Rattle.py_expressions.proofs.Good.{good_expressions, inside, no_end_within}
use Rattle.py_grammar.proofs.Good.{good_statements, below_source, no_end_below}
use Rattle.grammar.proofs.Tokens.{without}
use Rattle.py_grammar.proofs.Forks.{never_both, goes_on}
use Rattle.py_expressions.specs.token_kinds.Kinds.{kind}
use Rattle.py_expressions.specs.token_kinds.Numbers as k
use Rattle.py_expressions.specs.Sorts.{Name, El, sort}
use Rattle.py_grammar.specs.Sorts as s

pub expression_rules : (n : ℕ) → FarRules statements (Unit {0}) (limited (suc n)) unlimited (expression_readers (suc n))
expression_rules n = λ q. record { rule = line_rule expressions good_expressions no_fars no_fars no_reader (λ r. absurd r) q n; never_both = never_both q; goes_on = λ _. goes_on n q }

-- THE ANSWER for a list of tokens is the reader's, and it is the only one.
pub source_answer : (n : ℕ) (ts : List Token) → IsSourceReading (suc n) ts (source_read (suc n) ts)
source_answer n ts = is_answer statements good_statements (limited (suc n)) unlimited (expression_readers (suc n)) (expression_rules n) source (suc n) ts

pub source_only : (n : ℕ) (ts : List Token) (x : Read Token (Block × ℕ)) → IsSourceReading (suc n) ts x → source_read (suc n) ts ≡ x
source_only n ts x s = one_answer statements good_statements (limited (suc n)) unlimited (expression_readers (suc n)) (expression_rules n) source (suc n) ts x s

-- A LIST OF TOKENS HAS AT MOST ONE READING
pub one_source : (ts : List Token) (x y : Block × ℕ) → Line statements unlimited source ts x → Line statements unlimited source ts y → x ≡ y
one_source ts x y a b = one_reading statements good_statements (limited 1) unlimited (expression_readers 1) (expression_rules 0) source ts x y a b

-- so a source has it at its end alone
no_end_expressions : (q : Name) (w : List Token) (t : El (sort q) × ℕ) → unlimited q w t → Without kind k.end w
no_end_expressions q w t d = without expressions no_fars k.end inside no_end_within (λ q. absurd q) q refl w t d

pub no_end_inside : (r : s.BlockName) → below_source r ≡ true → (w : List Token) (y : statements.El (s.block_sort r) × ℕ) → Line statements unlimited r w y → Without kind k.end w
no_end_inside r e w y d = without statements unlimited k.end below_source no_end_below no_end_expressions r e w y d
