use Rattle.std.proofs.Common.{◌∙◌, arith}
use Rattle.py_tokens.proofs.Words.{begins_whole}
use Rattle.py_tokens.proofs.word.is_word.Goals as goal

pub returns-then-chars-word : goal.returns-then-chars-word
returns-then-chars-word c = c.begins.ensures ∙ begins_whole c.args.word.now c.args.chars.now (omega arith)
