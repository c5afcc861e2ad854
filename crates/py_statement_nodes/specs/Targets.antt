-- What a tuple of expressions is as a target.
use Rattle.std.specs.Prelude.{Option, None}
use Rattle.py_tree.specs.Trees.{Trees, Empty, More}
use Rattle.py_tree.specs.Statements.{Taker}
use Rattle.py_nodes.specs.py_expressions.Values.{places_in, several_taker}

abbrev pub parts_in : Trees → Option Taker
parts_in Empty = None
parts_in (More es e) = several_taker (places_in (More es e))
