-- BYTES HAVE ONE SOURCE, and no other.
use Rattle.std.proofs.Common.{◌≡◌, ◌∙◌, ℕ, List, Bool, true, false, refl, sym, ap, subst}
use Rattle.std.specs.Prelude.{Result, Ok, Err, chars, IsUtf8}
use Rattle.std.specs.Str.{is_utf8}
use Rattle.std.proofs.lemmas.Str.{IsUtf8-from_is_utf8, is_utf8-from_IsUtf8}
use Rattle.py_source.specs.Faults.{syntax_kind_of}
use Rattle.py_source.specs.declared.fault.SourceFault.{SourceFault}
use Rattle.py_source.specs.declared.fault.SourceFault.TheVariants.{Syntax, NotUtf8}
use Rattle.py_tokens.specs.Layout.{layout}
use Rattle.py_tokens.specs.declared.token.LexFault.{LexFault}
use Rattle.py_tokens.specs.declared.token.LexFault.TheVariants.{Bad, OutOfMemory}
use Rattle.py_tokens.specs.declared.token.Token.{Token}
use Rattle.py_tree.specs.Statements.{Block}
use Rattle.py_parse.specs.py_grammar.Verdict.{IsVerdict}
use Rattle.py_parse.proofs.py_grammar_lemmas.Verdicts.{has_verdict, one_verdict}
use Rattle.file_source.specs.Sources.{IsSource, judged, misspelled, no_text, source_by, bad_line}
use Rattle.file_source.proofs.Laid.{Laid, text_laid}

abbrev Tokens : Type 0
Tokens = Result (List Token) LexFault

abbrev Said : Type 0
Said = Result Block SourceFault

one_list : (ts us : List Token) → ◌≡◌ {A = Tokens} (Ok ts) (Ok us) → ts ≡ us
one_list ts us e = cc

no_both : {P : Type 0} (ts : List Token) (f : LexFault) → ◌≡◌ {A = Tokens} (Ok ts) (Err f) → P
no_both ts f e = absurd (cc)

-- the same fault
abbrev fault_said : Tokens → Said → Said
fault_said (Ok ts) other = other
fault_said (Err (Bad at fault)) other = Err (Syntax at (syntax_kind_of fault))
fault_said (Err OutOfMemory) other = other

pub one_source : (bytes : List ℕ) (a b : Said) → IsSource bytes a → IsSource bytes b → a ≡ b
one_source bytes a b (judged ts v u laid holds is) (judged us w t other held same) =
    is ∙ ap source_by (one_verdict ts v w holds (subst (λ ts. IsVerdict ts w) (sym (one_list ts us (sym laid ∙ other))) held)) ∙ sym same
one_source bytes a b (judged ts v u laid holds is) (misspelled at fault t other same) = no_both ts (Bad at fault) (sym laid ∙ other)
one_source bytes a b (judged ts v u laid holds is) (no_text none same) = absurd (none u)
one_source bytes a b (misspelled at fault u laid is) (judged us w t other held same) = no_both us (Bad at fault) (sym other ∙ laid)
one_source bytes a b (misspelled at fault u laid is) (misspelled place kind t other same) = is ∙ ap (λ (x : Tokens). fault_said x a) (sym laid ∙ other) ∙ sym same
one_source bytes a b (misspelled at fault u laid is) (no_text none same) = absurd (none u)
one_source bytes a b (no_text none is) (judged us w t other held same) = absurd (none t)
one_source bytes a b (no_text none is) (misspelled place kind t other same) = absurd (none t)
one_source bytes a b (no_text none is) (no_text nothing same) = is ∙ sym same

-- a text has one
text_source : (bytes : List ℕ) → IsUtf8 bytes → (x : Tokens) → layout (chars bytes) ≡ x → Laid x → (said : Said) × IsSource bytes said
text_source bytes u (Ok ts) is laid = let v = has_verdict ts laid in (source_by v.0, judged ts v.0 u is v.1 refl)
text_source bytes u (Err (Bad at fault)) is laid = (Err (Syntax at (syntax_kind_of fault)), misspelled at fault u is refl)
text_source bytes u (Err OutOfMemory) is laid = elim laid [ ]

bytes_source : (bytes : List ℕ) (b : Bool) → is_utf8 bytes ≡ b → (said : Said) × IsSource bytes said
bytes_source bytes true e = text_source bytes (IsUtf8-from_is_utf8 bytes e) (layout (chars bytes)) refl (text_laid (chars bytes))
bytes_source bytes false e = (Err (NotUtf8 (bad_line bytes)), no_text (λ u. no_true (sym e ∙ is_utf8-from_IsUtf8 bytes u)) refl)
  where
    no_true : false ≡ true → ⊥
    no_true e = absurd (cc)

pub has_source : (bytes : List ℕ) → (said : Said) × IsSource bytes said
has_source bytes = bytes_source bytes (is_utf8 bytes) refl
