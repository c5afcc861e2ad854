use Rattle.std.proofs.Common.{◌≡◌, true, drop}
use Rattle.py_calls.specs.Printing.{line_of}
use Rattle.py_calls.specs.Texts.{append_text}
use Rattle.py_calls.specs.declared.made.TextResult.TheVariants.{Text}
use Rattle.py_calls.proofs.line.line.Given as goal

abbrev pub invariant-loop-v : goal.invariant-loop-v
invariant-loop-v l =
    line_of l.heap true l.sep l.end l.args ≡ append_text (Text l.chars.items) (line_of l.heap l.first l.sep l.end (drop l.v-index l.args))
