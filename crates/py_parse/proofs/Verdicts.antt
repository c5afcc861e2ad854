-- From what the code reads to the verdict.
use Rattle.std.proofs.Common.{◌≡◌, ℕ, Option, Some, None, List, [], ◌∷◌, Result, refl, sym, ap, ◌∙◌}
use Rattle.py_tokens.specs.declared.token.Token.{Token}
use Rattle.py_tree.specs.Statements.{Block}
use Rattle.py_tree.specs.declared.stmt.Module.{Module}
use Rattle.parsing.specs.Reading.{Read, Found, Bad, Deep}
use Rattle.parsing.specs.Answer.{finish}
use Rattle.grammar.specs.Levels.{readers}
use Rattle.grammar_code.specs.Plain.{plain}
use Rattle.py_source.specs.Limits.{most_levels}
use Rattle.statement_readers.specs.py_grammar.Context.{misplaced, in_module}
use Rattle.statement_readers.specs.py_grammar.Lines.{statements}
use Rattle.statement_readers.specs.py_grammar.Sorts as v
use Rattle.statement_readers.specs.py_grammar.Sources.{source_read, expression_readers}
use Rattle.statement_readers.specs.py_grammar.Verdict.{Verdict, IsVerdict, verdict_on, verdict_by}
use Rattle.statement_readers.proofs.py_grammar_lemmas.Verdicts.{read_verdict, verdict_read}
use Rattle.statement_readers.specs.Words.{source}
use Rattle.statement_readers.proofs.BlockLines.{source_is}
use Rattle.py_parse.specs.declared.fault.SyntaxFault.{SyntaxFault}
use Rattle.py_parse.specs.Judged.{verdict_of, IsOn, IsJudged, IsSame, Answers}

plain_finish : {A : Type 0} (r : Read Token (A × ℕ)) → plain (finish r) ≡ finish (plain r)
plain_finish (Found x []) = refl
plain_finish (Found x (t ∷ ts)) = refl
plain_finish (Bad ts) = refl
plain_finish (Deep ts) = refl

read_is : (ts : List Token) → plain (source_read most_levels ts) ≡ finish (source ts)
read_is ts = plain_finish (readers statements (expression_readers 100) 101 v.source ts) ∙ ap finish (source_is ts)

pub found_verdict : (ts : List Token) (b : Block) (left : List Token) → finish (source ts) ≡ Found b left → verdict_by (source_read most_levels ts) ≡ Some (verdict_on b (misplaced in_module b))
found_verdict ts b left e = go (source_read most_levels ts) (read_is ts ∙ e)
  where
    go : (r : Read Token (Block × ℕ)) → plain r ≡ Found b left → verdict_by r ≡ Some (verdict_on b (misplaced in_module b))
    go (Found x rest) i = let j : x.0 ≡ b = cc in ap (λ b. Some (verdict_on b (misplaced in_module b))) j
    go (Bad rest) i = absurd (cc)
    go (Deep rest) i = absurd (cc)

pub bad_verdict : (ts rest : List Token) → finish (source ts) ≡ Bad rest → verdict_by (source_read most_levels ts) ≡ verdict_by (Bad rest)
bad_verdict ts rest e = go (source_read most_levels ts) (read_is ts ∙ e)
  where
    go : (r : Read Token (Block × ℕ)) → plain r ≡ Bad rest → verdict_by r ≡ verdict_by (Bad rest)
    go (Found x z) i = absurd (cc)
    go (Bad z) i = let j : z ≡ rest = cc in ap (λ z. verdict_by (Bad z)) j
    go (Deep z) i = absurd (cc)

pub deep_verdict : (ts rest : List Token) → finish (source ts) ≡ Deep rest → verdict_by (source_read most_levels ts) ≡ verdict_by (Deep rest)
deep_verdict ts rest e = go (source_read most_levels ts) (read_is ts ∙ e)
  where
    go : (r : Read Token (Block × ℕ)) → plain r ≡ Deep rest → verdict_by r ≡ verdict_by (Deep rest)
    go (Found x z) i = absurd (cc)
    go (Bad z) i = absurd (cc)
    go (Deep z) i = let j : z ≡ rest = cc in ap (λ z. verdict_by (Deep z)) j

pub judged_is : (ts : List Token) (r : Result Module SyntaxFault) → Answers (verdict_by (source_read most_levels ts)) r → IsJudged ts r
judged_is ts r a = go (verdict_of r) a
  where
    go : (o : Option Verdict) → IsSame o (verdict_by (source_read most_levels ts)) → IsOn ts o
    go None a = tt
    go (Some v) a = read_verdict ts v (sym a)

pub only_is : (ts : List Token) (r : Result Module SyntaxFault) (v : Verdict) → Answers (verdict_by (source_read most_levels ts)) r → IsVerdict ts v → Answers (Some v) r
only_is ts r v a i = go (verdict_of r) a
  where
    go : (o : Option Verdict) → IsSame o (verdict_by (source_read most_levels ts)) → IsSame o (Some v)
    go None a = tt
    go (Some u) a = a ∙ verdict_read ts v i

pub ruleset verdict_rules = (found_verdict, bad_verdict, deep_verdict)

pub ruleset parse_rules = (judged_is, only_is)
