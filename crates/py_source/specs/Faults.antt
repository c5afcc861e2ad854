-- The kinds of fault of a source, and the messages of its SyntaxError.
use Rattle.std.specs.Prelude.{ℕ, List, codes}
use Rattle.py_source.specs.declared.fault.LexKind.{LexKind}
use Rattle.py_source.specs.declared.fault.LexKind.TheVariants as lex
use Rattle.py_source.specs.declared.fault.SyntaxKind.{SyntaxKind}
use Rattle.py_source.specs.declared.fault.SyntaxKind.TheVariants.{Unexpected, Unsupported, Context, Nesting, Tab, Dedent, Character, Unterminated, Unclosed, Mismatch, Escape, NumberForm, NumberRange, NotNfkc}
use Rattle.py_source.specs.declared.fault.SourceFault.{SourceFault}
use Rattle.py_source.specs.declared.fault.SourceFault.TheVariants.{Syntax, NotUtf8}

-- a fault of the tokens is one of the source of the same name
abbrev pub syntax_kind_of : LexKind → SyntaxKind
syntax_kind_of lex.Unsupported = Unsupported
syntax_kind_of lex.Nesting = Nesting
syntax_kind_of lex.Tab = Tab
syntax_kind_of lex.Dedent = Dedent
syntax_kind_of lex.Character = Character
syntax_kind_of lex.Unterminated = Unterminated
syntax_kind_of lex.Unclosed = Unclosed
syntax_kind_of lex.Mismatch = Mismatch
syntax_kind_of lex.Escape = Escape
syntax_kind_of lex.NumberForm = NumberForm
syntax_kind_of lex.NumberRange = NumberRange
syntax_kind_of lex.NotNfkc = NotNfkc

-- the message of a fault that has a place
abbrev pub syntax_text : SyntaxKind → List ℕ
syntax_text Unexpected = codes "invalid syntax"
syntax_text Unsupported = codes "unsupported syntax"
syntax_text Context = codes "statement not allowed here"
syntax_text Nesting = codes "nesting too deep"
syntax_text Tab = codes "tab in indentation"
syntax_text Dedent = codes "unindent matches no open block"
syntax_text Character = codes "invalid character"
syntax_text Unterminated = codes "text literal not closed"
syntax_text Unclosed = codes "bracket not closed"
syntax_text Mismatch = codes "unmatched closing bracket"
syntax_text Escape = codes "invalid escape"
syntax_text NumberForm = codes "invalid number"
syntax_text NumberRange = codes "number out of range"
syntax_text NotNfkc = codes "name is not in normal form"

-- the message of a fault
abbrev pub source_text : SourceFault → List ℕ
source_text (Syntax at kind) = syntax_text kind
source_text (NotUtf8 line) = codes "source is not UTF-8"

-- the line of a fault
abbrev pub source_line : SourceFault → ℕ
source_line (Syntax at kind) = at.line
source_line (NotUtf8 line) = line
