-- What is read of a file's bytes.
use Rattle.std.specs.Prelude.{◌≡◌, ℕ, List, Result, Ok, Err, chars, IsUtf8}
use Rattle.std.specs.declared.alloc.Global.{Global}
use Rattle.std.specs.declared.vec.Vec.{Vec}
use Rattle.py_source.specs.declared.fault.SourceFault.{SourceFault}
use Rattle.py_tokens.specs.Layout.{EndsText, layout}
use Rattle.py_tokens.specs.declared.token.Token.{Token}
use Rattle.py_tree.specs.declared.stmt.Module.{Module}
use Rattle.py_tree.specs.Statements.{Block, module_tree}
use Rattle.py_parse.specs.py_grammar.Verdict.{Verdict, IsVerdict}
use Rattle.file_source.specs.Sources.{IsSource, source_by}

-- a source without where it lies in memory
abbrev pub source_seen : Result Module SourceFault → Result Block SourceFault
source_seen (Ok m) = Ok (module_tree m)
source_seen (Err fault) = Err fault

-- the verdict on tokens, as a source
pub record IsSourceVerdict (tokens : List Token) (said : Result Block SourceFault) : Type 0 where
  pub verdict : Verdict
  pub holds : IsVerdict tokens verdict
  pub same : said ≡ source_by verdict

-- the tokens of bytes, or the fault for which there are none
pub record AreTokens (bytes : List ℕ) (tokens : List Token) : Type 0 where
  pub text : IsUtf8 bytes
  pub same : layout (chars bytes) ≡ Ok tokens
  pub ended : EndsText tokens

abbrev pub HasTokens : List ℕ → Result (Vec Token Global) SourceFault → Type 0
HasTokens bytes (Ok tokens) = AreTokens bytes tokens.items
HasTokens bytes (Err fault) = IsSource bytes (Err fault)
