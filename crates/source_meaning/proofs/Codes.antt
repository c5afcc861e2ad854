-- Codes of trees, by which values of a model are told apart.
use Rattle.std.proofs.Common.{◌≡◌, ℕ, ℤ, List, Option, false, refl, ap, arith}
use Rattle.std.proofs.lemmas.Grind.{common_steps}
use Rattle.std.specs.Prelude.{eqb}
use Rattle.std.specs.Coded.{codes}
use base.Stored.{Gv, gnil, gnum, gcons, Coded}
use Rattle.py_source.specs.declared.pos.Pos.{Pos}
use Rattle.py_tree.specs.declared.op.BinOp.{BinOp}
use Rattle.py_tree.specs.declared.op.UnOp.{UnOp}
use Rattle.py_tree.specs.declared.op.CmpOp.{CmpOp}
use Rattle.py_tree.specs.declared.expr.ArgName.{ArgName}
use Rattle.py_tree.specs.declared.stmt.Alias.{Alias}
use Rattle.py_tree.specs.Trees as tr
use Rattle.py_tree.specs.Trees.{Tree, Trees, Maybe}
use Rattle.py_tree.specs.Statements as st
use Rattle.py_tree.specs.Statements.{Statement, Block, Branches, Handlers, Place, Taker, Parameter}
use Rattle.source_meaning.specs.Requests.{Use, SourceLayer, Script, Function}
use Rattle.source_meaning.specs.py_world.World.{Frozen}
use Rattle.source_meaning.specs.Meaning.{SourceWorld}

head : Gv → Gv
head gnil = gnil
head (gnum n) = gnil
head (gcons a b) = a

tail : Gv → Gv
tail gnil = gnil
tail (gnum n) = gnil
tail (gcons a b) = b

num : Gv → ℕ
num gnil = 0
num (gnum n) = n
num (gcons a b) = 0

first : {a b c d : Gv} → gcons a b ≡ gcons c d → a ≡ c
unfolding head
first e = ap head e

second : {a b c d : Gv} → gcons a b ≡ gcons c d → b ≡ d
unfolding tail
second e = ap tail e

apart : (m n : ℕ) (a b : Gv) → gcons (gnum m) a ≡ gcons (gnum n) b → eqb m n ≡ false → ⊥
apart m n a b e h = grind (arith, common_steps, ap num (first e), h)

pub pos_code : Coded Pos
pos_code = hlevel codes

text_code : Coded (List ℕ)
text_code = hlevel codes

int_code : Coded ℤ
int_code = hlevel codes

names_code : Coded (List (List ℕ))
names_code = hlevel codes

name_code : Coded (Option (List ℕ))
name_code = hlevel codes

args_code : Coded (List (Option ArgName))
args_code = hlevel codes

unop_code : Coded UnOp
unop_code = hlevel codes

binop_code : Coded BinOp
binop_code = hlevel codes

cmpops_code : Coded (List CmpOp)
cmpops_code = hlevel codes

aliases_code : Coded (List Alias)
aliases_code = hlevel codes

abbrev mutual
  to_Tree : Tree → Gv
  to_Tree (tr.Name x0 x1) = gcons (gnum 0) (gcons (pos_code.code x0) (gcons (text_code.code x1) gnil))
  to_Tree (tr.Number x0 x1) = gcons (gnum 1) (gcons (pos_code.code x0) (gcons (int_code.code x1) gnil))
  to_Tree (tr.Text x0 x1) = gcons (gnum 2) (gcons (pos_code.code x0) (gcons (text_code.code x1) gnil))
  to_Tree (tr.True x0) = gcons (gnum 3) (gcons (pos_code.code x0) gnil)
  to_Tree (tr.False x0) = gcons (gnum 4) (gcons (pos_code.code x0) gnil)
  to_Tree (tr.NoneTree x0) = gcons (gnum 5) (gcons (pos_code.code x0) gnil)
  to_Tree (tr.Paren x0 x1) = gcons (gnum 6) (gcons (pos_code.code x0) (gcons (to_Tree x1) gnil))
  to_Tree (tr.Tuple x0 x1) = gcons (gnum 7) (gcons (pos_code.code x0) (gcons (to_Trees x1) gnil))
  to_Tree (tr.Listed x0 x1) = gcons (gnum 8) (gcons (pos_code.code x0) (gcons (to_Trees x1) gnil))
  to_Tree (tr.Dict x0 x1 x2) = gcons (gnum 9) (gcons (pos_code.code x0) (gcons (to_Trees x1) (gcons (to_Trees x2) gnil)))
  to_Tree (tr.Attribute x0 x1 x2) = gcons (gnum 10) (gcons (pos_code.code x0) (gcons (to_Tree x1) (gcons (text_code.code x2) gnil)))
  to_Tree (tr.Call x0 x1 x2 x3) = gcons (gnum 11) (gcons (pos_code.code x0) (gcons (to_Tree x1) (gcons (to_Trees x2) (gcons (args_code.code x3) gnil))))
  to_Tree (tr.Subscript x0 x1 x2) = gcons (gnum 12) (gcons (pos_code.code x0) (gcons (to_Tree x1) (gcons (to_Tree x2) gnil)))
  to_Tree (tr.Slice x0 x1 x2 x3 x4) = gcons (gnum 13) (gcons (pos_code.code x0) (gcons (to_Tree x1) (gcons (to_Maybe x2) (gcons (to_Maybe x3) (gcons (to_Maybe x4) gnil)))))
  to_Tree (tr.Unary x0 x1 x2) = gcons (gnum 14) (gcons (pos_code.code x0) (gcons (unop_code.code x1) (gcons (to_Tree x2) gnil)))
  to_Tree (tr.Binary x0 x1 x2 x3) = gcons (gnum 15) (gcons (pos_code.code x0) (gcons (to_Tree x1) (gcons (binop_code.code x2) (gcons (to_Tree x3) gnil))))
  to_Tree (tr.Compare x0 x1 x2 x3) = gcons (gnum 16) (gcons (pos_code.code x0) (gcons (to_Tree x1) (gcons (cmpops_code.code x2) (gcons (to_Trees x3) gnil))))
  to_Tree (tr.Not x0 x1) = gcons (gnum 17) (gcons (pos_code.code x0) (gcons (to_Tree x1) gnil))
  to_Tree (tr.And x0 x1 x2) = gcons (gnum 18) (gcons (pos_code.code x0) (gcons (to_Tree x1) (gcons (to_Trees x2) gnil)))
  to_Tree (tr.Or x0 x1 x2) = gcons (gnum 19) (gcons (pos_code.code x0) (gcons (to_Tree x1) (gcons (to_Trees x2) gnil)))
  to_Tree (tr.IfElse x0 x1 x2 x3) = gcons (gnum 20) (gcons (pos_code.code x0) (gcons (to_Tree x1) (gcons (to_Tree x2) (gcons (to_Tree x3) gnil))))

  to_Trees : Trees → Gv
  to_Trees tr.Empty = gcons (gnum 0) gnil
  to_Trees (tr.More x0 x1) = gcons (gnum 1) (gcons (to_Trees x0) (gcons (to_Tree x1) gnil))

  to_Maybe : Maybe → Gv
  to_Maybe tr.Absent = gcons (gnum 0) gnil
  to_Maybe (tr.Present x0) = gcons (gnum 1) (gcons (to_Tree x0) gnil)

mutual
  inj_Tree : (x y : Tree) → to_Tree x ≡ to_Tree y → x ≡ y
  inj_Tree (tr.Name x0 x1) (tr.Name y0 y1) e = λ i. tr.Name (pos_code.inj x0 y0 (first (second e)) i) (text_code.inj x1 y1 (first (second (second e))) i)
  inj_Tree (tr.Name _ _) _ e = absurd (apart _ _ _ _ e refl)
  inj_Tree (tr.Number x0 x1) (tr.Number y0 y1) e = λ i. tr.Number (pos_code.inj x0 y0 (first (second e)) i) (int_code.inj x1 y1 (first (second (second e))) i)
  inj_Tree (tr.Number _ _) _ e = absurd (apart _ _ _ _ e refl)
  inj_Tree (tr.Text x0 x1) (tr.Text y0 y1) e = λ i. tr.Text (pos_code.inj x0 y0 (first (second e)) i) (text_code.inj x1 y1 (first (second (second e))) i)
  inj_Tree (tr.Text _ _) _ e = absurd (apart _ _ _ _ e refl)
  inj_Tree (tr.True x0) (tr.True y0) e = λ i. tr.True (pos_code.inj x0 y0 (first (second e)) i)
  inj_Tree (tr.True _) _ e = absurd (apart _ _ _ _ e refl)
  inj_Tree (tr.False x0) (tr.False y0) e = λ i. tr.False (pos_code.inj x0 y0 (first (second e)) i)
  inj_Tree (tr.False _) _ e = absurd (apart _ _ _ _ e refl)
  inj_Tree (tr.NoneTree x0) (tr.NoneTree y0) e = λ i. tr.NoneTree (pos_code.inj x0 y0 (first (second e)) i)
  inj_Tree (tr.NoneTree _) _ e = absurd (apart _ _ _ _ e refl)
  inj_Tree (tr.Paren x0 x1) (tr.Paren y0 y1) e = λ i. tr.Paren (pos_code.inj x0 y0 (first (second e)) i) (inj_Tree x1 y1 (first (second (second e))) i)
  inj_Tree (tr.Paren _ _) _ e = absurd (apart _ _ _ _ e refl)
  inj_Tree (tr.Tuple x0 x1) (tr.Tuple y0 y1) e = λ i. tr.Tuple (pos_code.inj x0 y0 (first (second e)) i) (inj_Trees x1 y1 (first (second (second e))) i)
  inj_Tree (tr.Tuple _ _) _ e = absurd (apart _ _ _ _ e refl)
  inj_Tree (tr.Listed x0 x1) (tr.Listed y0 y1) e = λ i. tr.Listed (pos_code.inj x0 y0 (first (second e)) i) (inj_Trees x1 y1 (first (second (second e))) i)
  inj_Tree (tr.Listed _ _) _ e = absurd (apart _ _ _ _ e refl)
  inj_Tree (tr.Dict x0 x1 x2) (tr.Dict y0 y1 y2) e = λ i. tr.Dict (pos_code.inj x0 y0 (first (second e)) i) (inj_Trees x1 y1 (first (second (second e))) i) (inj_Trees x2 y2 (first (second (second (second e)))) i)
  inj_Tree (tr.Dict _ _ _) _ e = absurd (apart _ _ _ _ e refl)
  inj_Tree (tr.Attribute x0 x1 x2) (tr.Attribute y0 y1 y2) e = λ i. tr.Attribute (pos_code.inj x0 y0 (first (second e)) i) (inj_Tree x1 y1 (first (second (second e))) i) (text_code.inj x2 y2 (first (second (second (second e)))) i)
  inj_Tree (tr.Attribute _ _ _) _ e = absurd (apart _ _ _ _ e refl)
  inj_Tree (tr.Call x0 x1 x2 x3) (tr.Call y0 y1 y2 y3) e = λ i. tr.Call (pos_code.inj x0 y0 (first (second e)) i) (inj_Tree x1 y1 (first (second (second e))) i) (inj_Trees x2 y2 (first (second (second (second e)))) i) (args_code.inj x3 y3 (first (second (second (second (second e))))) i)
  inj_Tree (tr.Call _ _ _ _) _ e = absurd (apart _ _ _ _ e refl)
  inj_Tree (tr.Subscript x0 x1 x2) (tr.Subscript y0 y1 y2) e = λ i. tr.Subscript (pos_code.inj x0 y0 (first (second e)) i) (inj_Tree x1 y1 (first (second (second e))) i) (inj_Tree x2 y2 (first (second (second (second e)))) i)
  inj_Tree (tr.Subscript _ _ _) _ e = absurd (apart _ _ _ _ e refl)
  inj_Tree (tr.Slice x0 x1 x2 x3 x4) (tr.Slice y0 y1 y2 y3 y4) e = λ i. tr.Slice (pos_code.inj x0 y0 (first (second e)) i) (inj_Tree x1 y1 (first (second (second e))) i) (inj_Maybe x2 y2 (first (second (second (second e)))) i) (inj_Maybe x3 y3 (first (second (second (second (second e))))) i) (inj_Maybe x4 y4 (first (second (second (second (second (second e)))))) i)
  inj_Tree (tr.Slice _ _ _ _ _) _ e = absurd (apart _ _ _ _ e refl)
  inj_Tree (tr.Unary x0 x1 x2) (tr.Unary y0 y1 y2) e = λ i. tr.Unary (pos_code.inj x0 y0 (first (second e)) i) (unop_code.inj x1 y1 (first (second (second e))) i) (inj_Tree x2 y2 (first (second (second (second e)))) i)
  inj_Tree (tr.Unary _ _ _) _ e = absurd (apart _ _ _ _ e refl)
  inj_Tree (tr.Binary x0 x1 x2 x3) (tr.Binary y0 y1 y2 y3) e = λ i. tr.Binary (pos_code.inj x0 y0 (first (second e)) i) (inj_Tree x1 y1 (first (second (second e))) i) (binop_code.inj x2 y2 (first (second (second (second e)))) i) (inj_Tree x3 y3 (first (second (second (second (second e))))) i)
  inj_Tree (tr.Binary _ _ _ _) _ e = absurd (apart _ _ _ _ e refl)
  inj_Tree (tr.Compare x0 x1 x2 x3) (tr.Compare y0 y1 y2 y3) e = λ i. tr.Compare (pos_code.inj x0 y0 (first (second e)) i) (inj_Tree x1 y1 (first (second (second e))) i) (cmpops_code.inj x2 y2 (first (second (second (second e)))) i) (inj_Trees x3 y3 (first (second (second (second (second e))))) i)
  inj_Tree (tr.Compare _ _ _ _) _ e = absurd (apart _ _ _ _ e refl)
  inj_Tree (tr.Not x0 x1) (tr.Not y0 y1) e = λ i. tr.Not (pos_code.inj x0 y0 (first (second e)) i) (inj_Tree x1 y1 (first (second (second e))) i)
  inj_Tree (tr.Not _ _) _ e = absurd (apart _ _ _ _ e refl)
  inj_Tree (tr.And x0 x1 x2) (tr.And y0 y1 y2) e = λ i. tr.And (pos_code.inj x0 y0 (first (second e)) i) (inj_Tree x1 y1 (first (second (second e))) i) (inj_Trees x2 y2 (first (second (second (second e)))) i)
  inj_Tree (tr.And _ _ _) _ e = absurd (apart _ _ _ _ e refl)
  inj_Tree (tr.Or x0 x1 x2) (tr.Or y0 y1 y2) e = λ i. tr.Or (pos_code.inj x0 y0 (first (second e)) i) (inj_Tree x1 y1 (first (second (second e))) i) (inj_Trees x2 y2 (first (second (second (second e)))) i)
  inj_Tree (tr.Or _ _ _) _ e = absurd (apart _ _ _ _ e refl)
  inj_Tree (tr.IfElse x0 x1 x2 x3) (tr.IfElse y0 y1 y2 y3) e = λ i. tr.IfElse (pos_code.inj x0 y0 (first (second e)) i) (inj_Tree x1 y1 (first (second (second e))) i) (inj_Tree x2 y2 (first (second (second (second e)))) i) (inj_Tree x3 y3 (first (second (second (second (second e))))) i)
  inj_Tree (tr.IfElse _ _ _ _) _ e = absurd (apart _ _ _ _ e refl)

  inj_Trees : (x y : Trees) → to_Trees x ≡ to_Trees y → x ≡ y
  inj_Trees tr.Empty tr.Empty e = refl
  inj_Trees tr.Empty _ e = absurd (apart _ _ _ _ e refl)
  inj_Trees (tr.More x0 x1) (tr.More y0 y1) e = λ i. tr.More (inj_Trees x0 y0 (first (second e)) i) (inj_Tree x1 y1 (first (second (second e))) i)
  inj_Trees (tr.More _ _) _ e = absurd (apart _ _ _ _ e refl)

  inj_Maybe : (x y : Maybe) → to_Maybe x ≡ to_Maybe y → x ≡ y
  inj_Maybe tr.Absent tr.Absent e = refl
  inj_Maybe tr.Absent _ e = absurd (apart _ _ _ _ e refl)
  inj_Maybe (tr.Present x0) (tr.Present y0) e = λ i. tr.Present (inj_Tree x0 y0 (first (second e)) i)
  inj_Maybe (tr.Present _) _ e = absurd (apart _ _ _ _ e refl)

tree_code : Coded Tree
tree_code = record { code = to_Tree; inj = inj_Tree }

trees_code : Coded Trees
trees_code = record { code = to_Trees; inj = inj_Trees }

maybe_code : Coded Maybe
maybe_code = record { code = to_Maybe; inj = inj_Maybe }

place_code : Coded Place
place_code = hlevel (codes, pos_code, text_code, tree_code)

taker_code : Coded Taker
taker_code = hlevel (codes, place_code)

takers_code : Coded (List Taker)
takers_code = hlevel (codes, taker_code)

parameter_code : Coded Parameter
parameter_code = hlevel (codes, pos_code, text_code, maybe_code)

parameters_code : Coded (List Parameter)
parameters_code = hlevel (codes, parameter_code)

abbrev mutual
  to_Statement : Statement → Gv
  to_Statement (st.Do x0 x1) = gcons (gnum 0) (gcons (pos_code.code x0) (gcons (tree_code.code x1) gnil))
  to_Statement (st.Assign x0 x1 x2) = gcons (gnum 1) (gcons (pos_code.code x0) (gcons (takers_code.code x1) (gcons (tree_code.code x2) gnil)))
  to_Statement (st.AssignYield x0 x1 x2 x3) = gcons (gnum 2) (gcons (pos_code.code x0) (gcons (takers_code.code x1) (gcons (pos_code.code x2) (gcons (maybe_code.code x3) gnil))))
  to_Statement (st.AugAssign x0 x1 x2 x3) = gcons (gnum 3) (gcons (pos_code.code x0) (gcons (place_code.code x1) (gcons (binop_code.code x2) (gcons (tree_code.code x3) gnil))))
  to_Statement (st.Return x0 x1) = gcons (gnum 4) (gcons (pos_code.code x0) (gcons (maybe_code.code x1) gnil))
  to_Statement (st.ReturnYield x0 x1 x2) = gcons (gnum 5) (gcons (pos_code.code x0) (gcons (pos_code.code x1) (gcons (maybe_code.code x2) gnil)))
  to_Statement (st.Raise x0 x1) = gcons (gnum 6) (gcons (pos_code.code x0) (gcons (maybe_code.code x1) gnil))
  to_Statement (st.Assert x0 x1 x2) = gcons (gnum 7) (gcons (pos_code.code x0) (gcons (tree_code.code x1) (gcons (maybe_code.code x2) gnil)))
  to_Statement (st.Del x0 x1) = gcons (gnum 8) (gcons (pos_code.code x0) (gcons (place_code.code x1) gnil))
  to_Statement (st.GlobalOf x0 x1) = gcons (gnum 9) (gcons (pos_code.code x0) (gcons (names_code.code x1) gnil))
  to_Statement (st.Pass x0) = gcons (gnum 10) (gcons (pos_code.code x0) gnil)
  to_Statement (st.Break x0) = gcons (gnum 11) (gcons (pos_code.code x0) gnil)
  to_Statement (st.Continue x0) = gcons (gnum 12) (gcons (pos_code.code x0) gnil)
  to_Statement (st.YieldOf x0 x1 x2) = gcons (gnum 13) (gcons (pos_code.code x0) (gcons (pos_code.code x1) (gcons (maybe_code.code x2) gnil)))
  to_Statement (st.Import x0 x1 x2) = gcons (gnum 14) (gcons (pos_code.code x0) (gcons (names_code.code x1) (gcons (name_code.code x2) gnil)))
  to_Statement (st.ImportFrom x0 x1 x2) = gcons (gnum 15) (gcons (pos_code.code x0) (gcons (names_code.code x1) (gcons (aliases_code.code x2) gnil)))
  to_Statement (st.If x0 x1 x2) = gcons (gnum 16) (gcons (pos_code.code x0) (gcons (to_Branches x1) (gcons (to_Block x2) gnil)))
  to_Statement (st.While x0 x1 x2) = gcons (gnum 17) (gcons (pos_code.code x0) (gcons (tree_code.code x1) (gcons (to_Block x2) gnil)))
  to_Statement (st.For x0 x1 x2 x3) = gcons (gnum 18) (gcons (pos_code.code x0) (gcons (taker_code.code x1) (gcons (tree_code.code x2) (gcons (to_Block x3) gnil))))
  to_Statement (st.Try x0 x1 x2 x3 x4) = gcons (gnum 19) (gcons (pos_code.code x0) (gcons (to_Block x1) (gcons (to_Handlers x2) (gcons (to_Block x3) (gcons (to_Block x4) gnil)))))
  to_Statement (st.With x0 x1 x2 x3) = gcons (gnum 20) (gcons (pos_code.code x0) (gcons (tree_code.code x1) (gcons (name_code.code x2) (gcons (to_Block x3) gnil))))
  to_Statement (st.Def x0 x1 x2 x3 x4 x5 x6) = gcons (gnum 21) (gcons (pos_code.code x0) (gcons (trees_code.code x1) (gcons (pos_code.code x2) (gcons (text_code.code x3) (gcons (parameters_code.code x4) (gcons (maybe_code.code x5) (gcons (to_Block x6) gnil)))))))
  to_Statement (st.Class x0 x1 x2 x3 x4 x5) = gcons (gnum 22) (gcons (pos_code.code x0) (gcons (trees_code.code x1) (gcons (pos_code.code x2) (gcons (text_code.code x3) (gcons (maybe_code.code x4) (gcons (to_Block x5) gnil))))))

  to_Block : Block → Gv
  to_Block st.NoStatement = gcons (gnum 0) gnil
  to_Block (st.Next x0 x1) = gcons (gnum 1) (gcons (to_Block x0) (gcons (to_Statement x1) gnil))

  to_Branches : Branches → Gv
  to_Branches st.NoBranch = gcons (gnum 0) gnil
  to_Branches (st.Branch x0 x1 x2 x3) = gcons (gnum 1) (gcons (to_Branches x0) (gcons (pos_code.code x1) (gcons (tree_code.code x2) (gcons (to_Block x3) gnil))))

  to_Handlers : Handlers → Gv
  to_Handlers st.NoHandler = gcons (gnum 0) gnil
  to_Handlers (st.Handler x0 x1 x2 x3 x4) = gcons (gnum 1) (gcons (to_Handlers x0) (gcons (pos_code.code x1) (gcons (maybe_code.code x2) (gcons (name_code.code x3) (gcons (to_Block x4) gnil)))))

mutual
  inj_Statement : (x y : Statement) → to_Statement x ≡ to_Statement y → x ≡ y
  inj_Statement (st.Do x0 x1) (st.Do y0 y1) e = λ i. st.Do (pos_code.inj x0 y0 (first (second e)) i) (tree_code.inj x1 y1 (first (second (second e))) i)
  inj_Statement (st.Do _ _) _ e = absurd (apart _ _ _ _ e refl)
  inj_Statement (st.Assign x0 x1 x2) (st.Assign y0 y1 y2) e = λ i. st.Assign (pos_code.inj x0 y0 (first (second e)) i) (takers_code.inj x1 y1 (first (second (second e))) i) (tree_code.inj x2 y2 (first (second (second (second e)))) i)
  inj_Statement (st.Assign _ _ _) _ e = absurd (apart _ _ _ _ e refl)
  inj_Statement (st.AssignYield x0 x1 x2 x3) (st.AssignYield y0 y1 y2 y3) e = λ i. st.AssignYield (pos_code.inj x0 y0 (first (second e)) i) (takers_code.inj x1 y1 (first (second (second e))) i) (pos_code.inj x2 y2 (first (second (second (second e)))) i) (maybe_code.inj x3 y3 (first (second (second (second (second e))))) i)
  inj_Statement (st.AssignYield _ _ _ _) _ e = absurd (apart _ _ _ _ e refl)
  inj_Statement (st.AugAssign x0 x1 x2 x3) (st.AugAssign y0 y1 y2 y3) e = λ i. st.AugAssign (pos_code.inj x0 y0 (first (second e)) i) (place_code.inj x1 y1 (first (second (second e))) i) (binop_code.inj x2 y2 (first (second (second (second e)))) i) (tree_code.inj x3 y3 (first (second (second (second (second e))))) i)
  inj_Statement (st.AugAssign _ _ _ _) _ e = absurd (apart _ _ _ _ e refl)
  inj_Statement (st.Return x0 x1) (st.Return y0 y1) e = λ i. st.Return (pos_code.inj x0 y0 (first (second e)) i) (maybe_code.inj x1 y1 (first (second (second e))) i)
  inj_Statement (st.Return _ _) _ e = absurd (apart _ _ _ _ e refl)
  inj_Statement (st.ReturnYield x0 x1 x2) (st.ReturnYield y0 y1 y2) e = λ i. st.ReturnYield (pos_code.inj x0 y0 (first (second e)) i) (pos_code.inj x1 y1 (first (second (second e))) i) (maybe_code.inj x2 y2 (first (second (second (second e)))) i)
  inj_Statement (st.ReturnYield _ _ _) _ e = absurd (apart _ _ _ _ e refl)
  inj_Statement (st.Raise x0 x1) (st.Raise y0 y1) e = λ i. st.Raise (pos_code.inj x0 y0 (first (second e)) i) (maybe_code.inj x1 y1 (first (second (second e))) i)
  inj_Statement (st.Raise _ _) _ e = absurd (apart _ _ _ _ e refl)
  inj_Statement (st.Assert x0 x1 x2) (st.Assert y0 y1 y2) e = λ i. st.Assert (pos_code.inj x0 y0 (first (second e)) i) (tree_code.inj x1 y1 (first (second (second e))) i) (maybe_code.inj x2 y2 (first (second (second (second e)))) i)
  inj_Statement (st.Assert _ _ _) _ e = absurd (apart _ _ _ _ e refl)
  inj_Statement (st.Del x0 x1) (st.Del y0 y1) e = λ i. st.Del (pos_code.inj x0 y0 (first (second e)) i) (place_code.inj x1 y1 (first (second (second e))) i)
  inj_Statement (st.Del _ _) _ e = absurd (apart _ _ _ _ e refl)
  inj_Statement (st.GlobalOf x0 x1) (st.GlobalOf y0 y1) e = λ i. st.GlobalOf (pos_code.inj x0 y0 (first (second e)) i) (names_code.inj x1 y1 (first (second (second e))) i)
  inj_Statement (st.GlobalOf _ _) _ e = absurd (apart _ _ _ _ e refl)
  inj_Statement (st.Pass x0) (st.Pass y0) e = λ i. st.Pass (pos_code.inj x0 y0 (first (second e)) i)
  inj_Statement (st.Pass _) _ e = absurd (apart _ _ _ _ e refl)
  inj_Statement (st.Break x0) (st.Break y0) e = λ i. st.Break (pos_code.inj x0 y0 (first (second e)) i)
  inj_Statement (st.Break _) _ e = absurd (apart _ _ _ _ e refl)
  inj_Statement (st.Continue x0) (st.Continue y0) e = λ i. st.Continue (pos_code.inj x0 y0 (first (second e)) i)
  inj_Statement (st.Continue _) _ e = absurd (apart _ _ _ _ e refl)
  inj_Statement (st.YieldOf x0 x1 x2) (st.YieldOf y0 y1 y2) e = λ i. st.YieldOf (pos_code.inj x0 y0 (first (second e)) i) (pos_code.inj x1 y1 (first (second (second e))) i) (maybe_code.inj x2 y2 (first (second (second (second e)))) i)
  inj_Statement (st.YieldOf _ _ _) _ e = absurd (apart _ _ _ _ e refl)
  inj_Statement (st.Import x0 x1 x2) (st.Import y0 y1 y2) e = λ i. st.Import (pos_code.inj x0 y0 (first (second e)) i) (names_code.inj x1 y1 (first (second (second e))) i) (name_code.inj x2 y2 (first (second (second (second e)))) i)
  inj_Statement (st.Import _ _ _) _ e = absurd (apart _ _ _ _ e refl)
  inj_Statement (st.ImportFrom x0 x1 x2) (st.ImportFrom y0 y1 y2) e = λ i. st.ImportFrom (pos_code.inj x0 y0 (first (second e)) i) (names_code.inj x1 y1 (first (second (second e))) i) (aliases_code.inj x2 y2 (first (second (second (second e)))) i)
  inj_Statement (st.ImportFrom _ _ _) _ e = absurd (apart _ _ _ _ e refl)
  inj_Statement (st.If x0 x1 x2) (st.If y0 y1 y2) e = λ i. st.If (pos_code.inj x0 y0 (first (second e)) i) (inj_Branches x1 y1 (first (second (second e))) i) (inj_Block x2 y2 (first (second (second (second e)))) i)
  inj_Statement (st.If _ _ _) _ e = absurd (apart _ _ _ _ e refl)
  inj_Statement (st.While x0 x1 x2) (st.While y0 y1 y2) e = λ i. st.While (pos_code.inj x0 y0 (first (second e)) i) (tree_code.inj x1 y1 (first (second (second e))) i) (inj_Block x2 y2 (first (second (second (second e)))) i)
  inj_Statement (st.While _ _ _) _ e = absurd (apart _ _ _ _ e refl)
  inj_Statement (st.For x0 x1 x2 x3) (st.For y0 y1 y2 y3) e = λ i. st.For (pos_code.inj x0 y0 (first (second e)) i) (taker_code.inj x1 y1 (first (second (second e))) i) (tree_code.inj x2 y2 (first (second (second (second e)))) i) (inj_Block x3 y3 (first (second (second (second (second e))))) i)
  inj_Statement (st.For _ _ _ _) _ e = absurd (apart _ _ _ _ e refl)
  inj_Statement (st.Try x0 x1 x2 x3 x4) (st.Try y0 y1 y2 y3 y4) e = λ i. st.Try (pos_code.inj x0 y0 (first (second e)) i) (inj_Block x1 y1 (first (second (second e))) i) (inj_Handlers x2 y2 (first (second (second (second e)))) i) (inj_Block x3 y3 (first (second (second (second (second e))))) i) (inj_Block x4 y4 (first (second (second (second (second (second e)))))) i)
  inj_Statement (st.Try _ _ _ _ _) _ e = absurd (apart _ _ _ _ e refl)
  inj_Statement (st.With x0 x1 x2 x3) (st.With y0 y1 y2 y3) e = λ i. st.With (pos_code.inj x0 y0 (first (second e)) i) (tree_code.inj x1 y1 (first (second (second e))) i) (name_code.inj x2 y2 (first (second (second (second e)))) i) (inj_Block x3 y3 (first (second (second (second (second e))))) i)
  inj_Statement (st.With _ _ _ _) _ e = absurd (apart _ _ _ _ e refl)
  inj_Statement (st.Def x0 x1 x2 x3 x4 x5 x6) (st.Def y0 y1 y2 y3 y4 y5 y6) e = λ i. st.Def (pos_code.inj x0 y0 (first (second e)) i) (trees_code.inj x1 y1 (first (second (second e))) i) (pos_code.inj x2 y2 (first (second (second (second e)))) i) (text_code.inj x3 y3 (first (second (second (second (second e))))) i) (parameters_code.inj x4 y4 (first (second (second (second (second (second e)))))) i) (maybe_code.inj x5 y5 (first (second (second (second (second (second (second e))))))) i) (inj_Block x6 y6 (first (second (second (second (second (second (second (second e)))))))) i)
  inj_Statement (st.Def _ _ _ _ _ _ _) _ e = absurd (apart _ _ _ _ e refl)
  inj_Statement (st.Class x0 x1 x2 x3 x4 x5) (st.Class y0 y1 y2 y3 y4 y5) e = λ i. st.Class (pos_code.inj x0 y0 (first (second e)) i) (trees_code.inj x1 y1 (first (second (second e))) i) (pos_code.inj x2 y2 (first (second (second (second e)))) i) (text_code.inj x3 y3 (first (second (second (second (second e))))) i) (maybe_code.inj x4 y4 (first (second (second (second (second (second e)))))) i) (inj_Block x5 y5 (first (second (second (second (second (second (second e))))))) i)
  inj_Statement (st.Class _ _ _ _ _ _) _ e = absurd (apart _ _ _ _ e refl)

  inj_Block : (x y : Block) → to_Block x ≡ to_Block y → x ≡ y
  inj_Block st.NoStatement st.NoStatement e = refl
  inj_Block st.NoStatement _ e = absurd (apart _ _ _ _ e refl)
  inj_Block (st.Next x0 x1) (st.Next y0 y1) e = λ i. st.Next (inj_Block x0 y0 (first (second e)) i) (inj_Statement x1 y1 (first (second (second e))) i)
  inj_Block (st.Next _ _) _ e = absurd (apart _ _ _ _ e refl)

  inj_Branches : (x y : Branches) → to_Branches x ≡ to_Branches y → x ≡ y
  inj_Branches st.NoBranch st.NoBranch e = refl
  inj_Branches st.NoBranch _ e = absurd (apart _ _ _ _ e refl)
  inj_Branches (st.Branch x0 x1 x2 x3) (st.Branch y0 y1 y2 y3) e = λ i. st.Branch (inj_Branches x0 y0 (first (second e)) i) (pos_code.inj x1 y1 (first (second (second e))) i) (tree_code.inj x2 y2 (first (second (second (second e)))) i) (inj_Block x3 y3 (first (second (second (second (second e))))) i)
  inj_Branches (st.Branch _ _ _ _) _ e = absurd (apart _ _ _ _ e refl)

  inj_Handlers : (x y : Handlers) → to_Handlers x ≡ to_Handlers y → x ≡ y
  inj_Handlers st.NoHandler st.NoHandler e = refl
  inj_Handlers st.NoHandler _ e = absurd (apart _ _ _ _ e refl)
  inj_Handlers (st.Handler x0 x1 x2 x3 x4) (st.Handler y0 y1 y2 y3 y4) e = λ i. st.Handler (inj_Handlers x0 y0 (first (second e)) i) (pos_code.inj x1 y1 (first (second (second e))) i) (maybe_code.inj x2 y2 (first (second (second (second e)))) i) (name_code.inj x3 y3 (first (second (second (second (second e))))) i) (inj_Block x4 y4 (first (second (second (second (second (second e)))))) i)
  inj_Handlers (st.Handler _ _ _ _ _) _ e = absurd (apart _ _ _ _ e refl)

pub block_code : Coded Block
block_code = record { code = to_Block; inj = inj_Block }

function_code : Coded Function
function_code = hlevel (codes, block_code, parameters_code)

script_code : Coded Script
script_code = hlevel (codes, block_code)

handlers_code : Coded Handlers
handlers_code = record { code = to_Handlers; inj = inj_Handlers }

statement_code : Coded Statement
statement_code = record { code = to_Statement; inj = inj_Statement }

use_code : Coded Use
use_code = hlevel (codes, takers_code)

layer_code : Coded SourceLayer
layer_code = hlevel (codes, statement_code, handlers_code, use_code)

frozen_code : Coded (Frozen (List SourceLayer))
frozen_code = hlevel (codes, layer_code)

pub world_code : Coded SourceWorld
world_code = hlevel (codes, script_code, function_code, frozen_code)
