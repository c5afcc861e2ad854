use Rattle.std.proofs.lemmas.Result.{IfOk-weaker}
use Rattle.file_source.specs.Reading.{source_seen}
use Rattle.file_source.proofs.Read.{are_tokens, is_read}
use Rattle.file_source.proofs.source.source_of.Goals as goal

pub returns-in-Ok : goal.returns-in-Ok
returns-in-Ok c =
    IfOk-weaker c.tree_of.result _ _
    (λ m h. is_read c.args.bytes.now c.deref.result.now (source_seen m) (are_tokens c.args.bytes.now c.in_ok-tokens.field-0 c.in-Ok.tokens c.deref.result.now c.in_ok-tokens.ensures c.in-Ok.is c.deref.ensures.value) h)
    c.tree_of.ensures
