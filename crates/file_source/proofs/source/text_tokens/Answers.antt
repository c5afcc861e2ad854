use Rattle.std.proofs.Common.{subst, chars}
use Rattle.std.specs.Prelude.{Err}
use Rattle.py_tokens.specs.Layout.{IsLayout, layout}
use Rattle.file_source.proofs.Read.{bad_tokens}
use Rattle.file_source.proofs.source.text_tokens.Goals as goal

pub returns-in-Err-Bad : goal.returns-in-Err-Bad
returns-in-Err-Bad c =
    bad_tokens c.args.text.now c.in-Err-Bad.at c.in-Err-Bad.kind c.from.result c.utf8.text
    (subst (λ fault. IsLayout (layout (chars c.args.text.now)) (Err fault)) c.in-Err-Bad.field-0-is c.in-Err-Bad.ensures.value) c.from.ensures
