-- THE SOURCE OF A FILE: the tree that its bytes are, or the first fault.
use Rattle.std.specs.Prelude.{◌≡◌, ◌==◌, ◌+◌, ◌-◌, ◌^◌, ℕ, List, Result, Ok, Err, IsUtf8, chars, count_by, min, take}
use Rattle.std.specs.Str.Lossy.{utf8_valid_len}
use Rattle.py_source.specs.Faults.{syntax_kind_of}
use Rattle.py_source.specs.declared.fault.LexKind.{LexKind}
use Rattle.py_source.specs.declared.fault.SourceFault.{SourceFault}
use Rattle.py_source.specs.declared.fault.SourceFault.TheVariants.{Syntax, NotUtf8}
use Rattle.py_source.specs.declared.fault.SyntaxKind.TheVariants as kind
use Rattle.py_source.specs.declared.pos.Pos.{Pos}
use Rattle.py_tokens.specs.Layout.{layout}
use Rattle.py_tokens.specs.declared.token.LexFault.TheVariants.{Bad}
use Rattle.py_tokens.specs.declared.token.Token.{Token}
use Rattle.py_tree.specs.Statements.{Block}
use Rattle.py_parse.specs.py_grammar.Verdict.{Verdict, Accepted, Unexpected, Unsupported, Context, Nesting, IsVerdict}

-- what a verdict on the tokens says of the source
abbrev pub source_by : Verdict → Result Block SourceFault
source_by (Accepted block) = Ok block
source_by (Unexpected at) = Err (Syntax at kind.Unexpected)
source_by (Unsupported at) = Err (Syntax at kind.Unsupported)
source_by (Context at) = Err (Syntax at kind.Context)
source_by (Nesting at) = Err (Syntax at kind.Nesting)

-- the line, from 1, of a place with these bytes before it; a count that reaches the end of its type stands still there
abbrev pub line_behind : List ℕ → ℕ
line_behind front = min (count_by (λ b. b == 10) front + 1) (2 ^ 32 - 1)

-- the line of the first byte that is not UTF-8
abbrev pub bad_line : List ℕ → ℕ
bad_line bytes = line_behind (take (utf8_valid_len bytes) bytes)

-- WHAT BYTES SAY: a text whose tokens have a verdict, a text without tokens, or no text
pub data IsSource (bytes : List ℕ) (said : Result Block SourceFault) : Type 0 where
  judged : (tokens : List Token) (verdict : Verdict) → IsUtf8 bytes → layout (chars bytes) ≡ Ok tokens → IsVerdict tokens verdict → said ≡ source_by verdict → IsSource bytes said
  misspelled : (at : Pos) (fault : LexKind) → IsUtf8 bytes → layout (chars bytes) ≡ Err (Bad at fault) → said ≡ Err (Syntax at (syntax_kind_of fault)) → IsSource bytes said
  no_text : (IsUtf8 bytes → ⊥) → said ≡ Err (NotUtf8 (bad_line bytes)) → IsSource bytes said

-- a source as it is read: its bytes, and what they say
abbrev pub ReadSource : Type 0
ReadSource = List ℕ × Result Block SourceFault

-- bytes, read
abbrev pub HoldsSource : List ℕ → ReadSource → Type 0
HoldsSource bytes source = (source.0 ≡ bytes) × IsSource bytes source.1
