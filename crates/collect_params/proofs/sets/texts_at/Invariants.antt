use Rattle.std.proofs.Common.{◌≡◌, map, take}
use Rattle.pytest_arguments.specs.py_operands.Texts.{text_of}
use Rattle.collect_params.proofs.sets.texts_at.Given as goal

abbrev pub invariant-loop-v : goal.invariant-loop-v
invariant-loop-v l = l.ids.items ≡ map (text_of l.heap) (take l.v-index l.values)
