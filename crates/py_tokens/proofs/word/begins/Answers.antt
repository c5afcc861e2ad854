use Rattle.std.proofs.Common.{◌∙◌, sym}
use Rattle.py_tokens.proofs.Words.{ends_short}
use Rattle.py_tokens.proofs.word.begins.Goals as goal

pub returns-in_default : goal.returns-in_default
returns-in_default c =
    sym (ends_short c.as_bytes-bytes.result.now c.loop-byte.rest.now c.loop-byte.byte-index c.loop-byte-test.true c.in_default.len_below)
    ∙ c.loop-byte.invariant
