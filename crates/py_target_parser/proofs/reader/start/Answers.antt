use Rattle.std.proofs.Common.{refl, sym}
use Rattle.py_tree.specs.Trees.{tree}
use Rattle.py_expression_parser.proofs.Made.{part_fails}
use Rattle.py_target_parser.proofs.Aims.{name_aim}
use Rattle.py_target_parser.proofs.reader.start.Goals as goal

pub returns-in_default-made-clause-reads : goal.returns-in_default-made-clause-reads
returns-in_default-made-clause-reads c = rw (c.in_default-made.ensures.makes) tt

pub returns-in_default-made-2-clause-reads : goal.returns-in_default-made-2-clause-reads
returns-in_default-made-2-clause-reads c = rw (c.in_default-made-2.ensures.makes) tt

pub returns-in-Some-clause-reads : goal.returns-in-Some-clause-reads
returns-in-Some-clause-reads c = let e = rw c.in-Some-made-2.ensures.makes.0 at c.leaf_node.ensures.tree in let h = rw c.in-Some-made-2.ensures.makes.0 at c.leaf_node.ensures.height in let n = rw c.in-Some-made.ensures.makes.0 at c.name_of.ensures in rw (c.in-Some-made-2.ensures.makes.1, c.in-Some-made.ensures.makes.1, c.in-Some.ensures, name_aim (tree c.in-Some-made-2.node.expr.value) _ _ e, n, h) refl

pub returns-in_default-other_atom-clause-reads : goal.returns-in_default-other_atom-clause-reads
returns-in_default-other_atom-clause-reads c = rw (c.in_default.ensures.0, sym c.in_default.ensures.1) (part_fails c.other_atom.new.p.stop _ _ c.in_default-other_atom.ensures.reads)

pub returns-clause-reads : goal.returns-clause-reads
returns-clause-reads c = rw (c.in_default.ensures.0, sym c.in_default.ensures.1, c.in-Some-other_atom.ensures.reads) refl
