use Rattle.py_grammar.specs.Sorts.{source}
use Rattle.py_grammar.proofs.Heights.{reading_depth}
use Rattle.py_grammar.proofs.a_reading_is_as_high_as_its_tree.Goals as goal

pub returns : goal.returns
returns c = λ tokens block height d. reading_depth source tokens (block, height) d
