use Rattle.std.proofs.Common.{◌≡◌, ◌++◌, drop}
use Rattle.std.specs.List.{filter_map}
use Rattle.pytest_arguments.specs.py_operands.Texts.{text_of}
use Rattle.collect_params.proofs.names.texts_among.Given as goal

abbrev pub invariant-loop-v : goal.invariant-loop-v
invariant-loop-v l = l.names ++ filter_map (text_of l.heap) (drop l.v-index l.values) ≡ filter_map (text_of l.heap) l.values
