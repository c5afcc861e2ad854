-- What the answers about single tokens and places say.
use Rattle.std.proofs.Common.{◌≡◌, true, false, Some, None, List, [], ◌∷◌, refl, ap, sym, ◌∙◌, ◌≤◌, length, get_or, arith}
use Rattle.py_source.specs.declared.pos.Pos.{Pos}
use Rattle.py_tokens.specs.declared.token.Token.{Token}
use Rattle.py_tree.specs.Statements.{Block}
use Rattle.parsing.specs.Reading.{Bad}
use Rattle.grammar_code.specs.Walk.{starts_with}
use Rattle.py_cursor.specs.token_kinds.Kinds.{kind}
use Rattle.statement_readers.specs.py_grammar.Context.{first_pos}
use Rattle.statement_readers.specs.py_grammar.Verdict.{Accepted, Unexpected, Unsupported, Context, unsupported, verdict_on, verdict_by}

pub unsupported_is : (t : Token) (ts : List Token) → starts_with kind unsupported (t ∷ ts) ≡ true → Some (Unsupported t.at) ≡ verdict_by (Bad (t ∷ ts))
unsupported_is t ts e = rw e refl

pub unexpected_is : (t : Token) (ts : List Token) → starts_with kind unsupported (t ∷ ts) ≡ false → Some (Unexpected t.at) ≡ verdict_by (Bad (t ∷ ts))
unexpected_is t ts e = rw e refl

pub unexpected_at : (ts : List Token) (t : Token) → 1 ≤ length ts → t ≡ get_or ts 0 t → false ≡ starts_with kind unsupported ts → Some (Unexpected t.at) ≡ verdict_by (Bad ts)
unexpected_at [] t h p e = absurd (omega (arith, h))
unexpected_at (x ∷ ts) t h p e = ap (λ t. Some (Unexpected t.at)) p ∙ unexpected_is x ts (sym e)

pub accepted_is : (b : Block) (ps : List Pos) → None ≡ first_pos ps → Some (Accepted b) ≡ Some (verdict_on b ps)
accepted_is b [] e = refl
accepted_is b (p ∷ ps) e = absurd (cc)

pub context_is : (b : Block) (ps : List Pos) (at : Pos) → Some at ≡ first_pos ps → Some (Context at) ≡ Some (verdict_on b ps)
context_is b [] at e = absurd (cc)
context_is b (p ∷ ps) at e = let i : at ≡ p = cc in ap (λ a. Some (Context a)) i

pub ruleset fault_rules = (unsupported_is, unexpected_at)

pub ruleset place_rules = (accepted_is, context_is)
