-- The parts of nodes, without where they lie in memory.
use Rattle.std.specs.Prelude.{ℕ, Option, Some, None, true, false}
use Rattle.py_source.specs.declared.pos.Pos.{Pos}
use Rattle.py_tree.specs.declared.op.CmpOp.{CmpOp}
use Rattle.py_tree.specs.Trees.{Tree, Maybe, Absent, Present, Empty, More, tree, trees}
use Rattle.py_expressions.specs.Values as v
use Rattle.py_nodes.specs.declared.node.Node.{Node}
use Rattle.py_nodes.specs.declared.parts.Row.{Row}
use Rattle.py_nodes.specs.declared.parts.Pairs.{Pairs}
use Rattle.py_nodes.specs.declared.parts.Arguments.{Arguments}
use Rattle.py_nodes.specs.declared.parts.Chain.{Chain}

abbrev pub row_of : Row → v.Row
row_of r = record { at = r.at; all = trees r.all.items.items; ended = r.ended }

abbrev pub pairs_of : Pairs → v.Pairs
pairs_of p = record { at = p.at; names = trees p.names.items.items; values = trees p.values.items.items; ended = p.ended }

abbrev pub args_of : Arguments → v.Args
args_of a = record { all = trees a.all.items.items; names = a.names.items; ended = a.ended }

abbrev pub chain_of : Chain → v.OperandChain
chain_of c = record { head = tree c.head.expr.value; ops = c.ops.items; more = trees c.more.items.items }

abbrev pub maybe_of : Option Node → Maybe
maybe_of None = Absent
maybe_of (Some n) = Present (tree n.expr.value)

abbrev pub high_of : Option Node → ℕ
high_of None = 0
high_of (Some n) = n.height

abbrev pub no_pairs : Pos → v.Pairs
no_pairs at = record { at = at; names = Empty; values = Empty; ended = false }

abbrev pub more_pairs : v.Pairs → Tree → Tree → v.Pairs
more_pairs p n e = record { at = p.at; names = More p.names n; values = More p.values e; ended = p.ended }

abbrev pub end_pairs : v.Pairs → v.Pairs
end_pairs p = record { at = p.at; names = p.names; values = p.values; ended = true }

-- a chain with an operator behind it, if one is kept
abbrev pub with_op : v.OperandChain → Option CmpOp → v.OperandChain
with_op c None = c
with_op c (Some o) = v.op_more c o
