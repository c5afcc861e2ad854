-- THE VERDICT on a list of tokens: the tree that they are, or why and where they are none.
use Rattle.std.specs.Prelude.{◌≡◌, ◌≤◌, ◌<◌, ℕ, Bool, true, false, cond, List, [], ◌∷◌, ◌++◌, Option, Some, None}
use Rattle.py_source.specs.Limits.{most_levels}
use Rattle.py_source.specs.declared.pos.Pos.{Pos}
use Rattle.py_expressions.specs.py_tokens.declared.token.Token.{Token}
use Rattle.py_tree.specs.Statements.{Block}
use Rattle.parsing.specs.Reading.{Read, Found, Bad, Deep, CanStart, CanGoOn, CannotGoOn, has}
use Rattle.grammar.specs.Table.{Line}
use Rattle.py_expressions.specs.token_kinds.Kinds.{kind}
use Rattle.py_expressions.specs.token_kinds.Numbers as k
use Rattle.py_grammar.specs.Context.{misplaced, in_module, first_pos}
use Rattle.py_grammar.specs.Depth.{deepest}
use Rattle.py_grammar.specs.Lines.{statements}
use Rattle.py_grammar.specs.Sorts.{source}
use Rattle.py_grammar.specs.Sources.{unlimited}

-- THE TOKENS ARE THIS BLOCK, however deep. The number is the reading's height, which is the block's.
abbrev pub Source : List Token → Block → Type 0
Source tokens block = (height : ℕ) × Line statements unlimited source tokens (block, height)

-- and it is no deeper than it may be
abbrev pub Shallow : List Token → Block → Type 0
Shallow tokens block = Source tokens block × (deepest block ≤ most_levels)

-- THE TOKENS ARE THIS SOURCE: a reading in which all stands where it may. No list of tokens has two.
abbrev pub Parses : List Token → Block → Type 0
Parses tokens block = Shallow tokens block × (misplaced in_module block ≡ [])

-- The tokens have a reading, and here stands the first that may not stand there.
pub record IsMisplaced (tokens : List Token) (at : Pos) : Type 0 where
  pub block : Block
  pub reads : Shallow tokens block
  pub first : first_pos (misplaced in_module block) ≡ Some at

-- The first token at which no reading goes on: those before it are the beginning of a list with a reading.
pub record UnexpectedToken (tokens : List Token) (at : Token) : Type 0 where
  pub front : List Token
  pub behind : List Token
  pub whole : tokens ≡ front ++ at ∷ behind
  pub start : CanStart Shallow front
  pub stops : CannotGoOn Source front at

-- The first token with which the tokens are the beginning of a list with a reading, and each reading of each such list is deeper than it may be.
pub record FirstTooDeep (tokens : List Token) (at : Token) : Type 0 where
  pub front : List Token
  pub behind : List Token
  pub whole : tokens ≡ front ++ at ∷ behind
  pub start : CanStart Shallow front
  pub begins : CanGoOn Source front at
  pub deep : (more : List Token) (block : Block) → Source (front ++ at ∷ more) block → most_levels < deepest block

-- words and signs of the whole language that this one doesn't have, or not there
abbrev pub unsupported : List ℕ
unsupported = k.async ∷ k.await ∷ k.lambda ∷ k.nonlocal ∷ k.for ∷ k.with ∷ k.from ∷ k.star ∷ k.double_star ∷ k.colon_equal ∷ k.at ∷ k.slash ∷ k.slash_equal ∷ k.at_equal ∷ k.ellipsis ∷ []

abbrev pub is_unsupported : Token → Bool
is_unsupported t = has (kind t) unsupported

pub data Verdict : Type 0 where
  Accepted : Block → Verdict
  Unexpected : Pos → Verdict
  Unsupported : Pos → Verdict
  Context : Pos → Verdict
  Nesting : Pos → Verdict

abbrev pub IsVerdict : List Token → Verdict → Type 0
IsVerdict tokens (Accepted block) = Parses tokens block
IsVerdict tokens (Unexpected at) = (t : Token) × UnexpectedToken tokens t × (is_unsupported t ≡ false) × (at ≡ t.at)
IsVerdict tokens (Unsupported at) = (t : Token) × UnexpectedToken tokens t × (is_unsupported t ≡ true) × (at ≡ t.at)
IsVerdict tokens (Context at) = IsMisplaced tokens at
IsVerdict tokens (Nesting at) = (t : Token) × FirstTooDeep tokens t × (at ≡ t.at)

-- THE VERDICT BY THE READER: what it gives for a whole list. There is none where the tokens run out before a reading ends.
abbrev pub verdict_on : Block → List Pos → Verdict
verdict_on block [] = Accepted block
verdict_on block (at ∷ rest) = Context at

abbrev pub fault_at : Token → Verdict
fault_at t = cond (is_unsupported t) (Unsupported t.at) (Unexpected t.at)

abbrev pub verdict_by : Read Token (Block × ℕ) → Option Verdict
verdict_by (Found x rest) = Some (verdict_on x.0 (misplaced in_module x.0))
verdict_by (Bad []) = None
verdict_by (Bad (t ∷ rest)) = Some (fault_at t)
verdict_by (Deep []) = None
verdict_by (Deep (t ∷ rest)) = Some (Nesting t.at)
