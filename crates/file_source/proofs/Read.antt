-- What is read of a file's bytes, from what its parts gave.
use Rattle.std.proofs.Common.{◌≡◌, ℕ, List, refl, sym, ap, subst}
use Rattle.std.specs.Prelude.{Result, Ok, Err, IsUtf8, chars}
use Rattle.std.specs.declared.alloc.Global.{Global}
use Rattle.std.specs.declared.vec.Vec.{Vec}
use Rattle.py_source.specs.Faults.{syntax_kind_of}
use Rattle.py_source.specs.declared.fault.LexKind.{LexKind}
use Rattle.py_source.specs.declared.fault.SourceFault.{SourceFault}
use Rattle.py_source.specs.declared.fault.SourceFault.TheVariants.{Syntax}
use Rattle.py_source.specs.declared.fault.SyntaxKind.{SyntaxKind}
use Rattle.py_source.specs.declared.fault.SyntaxKind.TheVariants as kind
use Rattle.py_source.specs.declared.pos.Pos.{Pos}
use Rattle.py_tokens.specs.Layout.{layout}
use Rattle.py_tokens.specs.declared.token.LexFault.TheVariants.{Bad}
use Rattle.py_tokens.specs.declared.token.Token.{Token}
use Rattle.py_tree.specs.Statements.{Block}
use Rattle.py_parse.specs.py_grammar.Verdict.{Accepted, Unexpected, Unsupported, Context, Nesting, IsVerdict}
use Rattle.file_source.specs.Sources.{IsSource, judged, misspelled}
use Rattle.file_source.specs.Reading.{AreTokens, HasTokens, IsSourceVerdict}

-- a text without tokens
pub bad_tokens : (bytes : List ℕ) (at : Pos) (fault : LexKind) (k : SyntaxKind) → IsUtf8 bytes → layout (chars bytes) ≡ Err (Bad at fault) → k ≡ syntax_kind_of fault → IsSource bytes (Err (Syntax at k))
bad_tokens bytes at fault k u laid is = misspelled at fault u laid (ap (λ (k : SyntaxKind). Err (Syntax at k)) is)

-- a verdict on tokens
module _ (tokens : List Token) where
  pub accepted : (block : Block) → IsVerdict tokens (Accepted block) → IsSourceVerdict tokens (Ok block)
  accepted block h = record { verdict = Accepted block; holds = h; same = refl }

  pub unexpected : (at : Pos) → IsVerdict tokens (Unexpected at) → IsSourceVerdict tokens (Err (Syntax at kind.Unexpected))
  unexpected at h = record { verdict = Unexpected at; holds = h; same = refl }

  pub unsupported : (at : Pos) → IsVerdict tokens (Unsupported at) → IsSourceVerdict tokens (Err (Syntax at kind.Unsupported))
  unsupported at h = record { verdict = Unsupported at; holds = h; same = refl }

  pub context : (at : Pos) → IsVerdict tokens (Context at) → IsSourceVerdict tokens (Err (Syntax at kind.Context))
  context at h = record { verdict = Context at; holds = h; same = refl }

  pub nesting : (at : Pos) → IsVerdict tokens (Nesting at) → IsSourceVerdict tokens (Err (Syntax at kind.Nesting))
  nesting at h = record { verdict = Nesting at; holds = h; same = refl }

pub ruleset verdicts = (accepted, unexpected, unsupported, context, nesting)

-- tokens and their verdict
pub are_tokens : (bytes : List ℕ) (found : Result (Vec Token Global) SourceFault) (tokens : Vec Token Global) (items : List Token) → HasTokens bytes found → found ≡ Ok tokens → items ≡ tokens.items → AreTokens bytes items
are_tokens bytes found tokens items has is same = subst (AreTokens bytes) (sym same) (subst (HasTokens bytes) is has)

pub is_read : (bytes : List ℕ) (tokens : List Token) (said : Result Block SourceFault) → AreTokens bytes tokens → IsSourceVerdict tokens said → IsSource bytes said
is_read bytes tokens said are is = judged tokens is.verdict are.text are.same is.holds is.same
