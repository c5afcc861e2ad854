-- Every form has a meaning.
use Rattle.std.proofs.Common.{List, [], ◌∷◌}
use Rattle.py_tree.specs.Trees as t
use Rattle.py_tree.specs.Trees.{Tree, Trees, Empty, More, Maybe, Absent, Present}
use Rattle.py_tree.specs.Statements as s
use Rattle.py_tree.specs.Statements.{Statement, Block, NoStatement, Next, Branches, NoBranch, Branch, Handlers, NoHandler, Handler, Place, NamePlace, AttributePlace, SubscriptPlace, Taker, One, Unpack, Parameter, Parameter_at}
use Rattle.lower_law.specs.Built.{Built, BuiltAll, BuiltSome, BuiltPlace, BuiltPlaces, BuiltTaker, BuiltTakers, BuiltParameters, BuiltStatement, BuiltBlock, BuiltBranches, BuiltHandlers}

-- every expression has a meaning
mutual
  built_is : (x : Tree) → Built x
  built_is (t.Name at n) = tt
  built_is (t.Number at n) = tt
  built_is (t.Text at x) = tt
  built_is (t.True at) = tt
  built_is (t.False at) = tt
  built_is (t.NoneTree at) = tt
  built_is (t.Paren at x) = built_is x
  built_is (t.Tuple at xs) = all_is xs
  built_is (t.Listed at xs) = all_is xs
  built_is (t.Dict at ks xs) = (all_is ks, all_is xs)
  built_is (t.Attribute at x n) = built_is x
  built_is (t.Call at f xs names) = (built_is f, all_is xs)
  built_is (t.Subscript at x i) = (built_is x, built_is i)
  built_is (t.Slice at x u v w) = (built_is x, some_is u, some_is v, some_is w)
  built_is (t.Unary at op x) = built_is x
  built_is (t.Binary at l op r) = (built_is l, built_is r)
  built_is (t.Compare at x ops xs) = (built_is x, all_is xs)
  built_is (t.Not at x) = built_is x
  built_is (t.And at x xs) = (built_is x, all_is xs)
  built_is (t.Or at x xs) = (built_is x, all_is xs)
  built_is (t.IfElse at x c o) = (built_is x, built_is c, built_is o)

  all_is : (xs : Trees) → BuiltAll xs
  all_is Empty = tt
  all_is (More xs x) = (all_is xs, built_is x)

  some_is : (x : Maybe) → BuiltSome x
  some_is Absent = tt
  some_is (Present x) = built_is x

place_is : (p : Place) → BuiltPlace p
place_is (NamePlace at n) = tt
place_is (AttributePlace at x n) = built_is x
place_is (SubscriptPlace at x i) = (built_is x, built_is i)

places_is : (ps : List Place) → BuiltPlaces ps
places_is [] = tt
places_is (p ∷ ps) = (place_is p, places_is ps)

taker_is : (u : Taker) → BuiltTaker u
taker_is (One p) = place_is p
taker_is (Unpack ps) = places_is ps

takers_is : (us : List Taker) → BuiltTakers us
takers_is [] = tt
takers_is (u ∷ us) = (taker_is u, takers_is us)

params_is : (params : List Parameter) → BuiltParameters params
params_is [] = tt
params_is (Parameter_at at name annotation default ∷ rest) = (some_is default, params_is rest)

-- so has every statement
mutual
  statement_is : (x : Statement) → BuiltStatement x
  statement_is (s.Do at x) = built_is x
  statement_is (s.Assign at us x) = (takers_is us, built_is x)
  statement_is (s.AssignYield at us w x) = (takers_is us, some_is x)
  statement_is (s.AugAssign at p op x) = (place_is p, built_is x)
  statement_is (s.Return at x) = some_is x
  statement_is (s.ReturnYield at w x) = some_is x
  statement_is (s.Raise at x) = some_is x
  statement_is (s.Assert at x m) = (built_is x, some_is m)
  statement_is (s.Del at p) = place_is p
  statement_is (s.GlobalOf at names) = tt
  statement_is (s.Pass at) = tt
  statement_is (s.Break at) = tt
  statement_is (s.Continue at) = tt
  statement_is (s.YieldOf at w x) = some_is x
  statement_is (s.Import at names alias) = tt
  statement_is (s.ImportFrom at names all) = tt
  statement_is (s.If at bs other) = (branches_is bs, block_is other)
  statement_is (s.While at x body) = (built_is x, block_is body)
  statement_is (s.For at u x body) = (taker_is u, built_is x, block_is body)
  statement_is (s.Try at body hs other last) = (block_is body, handlers_is hs, block_is other, block_is last)
  statement_is (s.With at x name body) = (built_is x, block_is body)
  statement_is (s.Def at ds word name params returns body) = (all_is ds, params_is params, block_is body)
  statement_is (s.Class at ds word name base body) = (all_is ds, some_is base, block_is body)

  pub block_is : (b : Block) → BuiltBlock b
  block_is NoStatement = tt
  block_is (Next before x) = (block_is before, statement_is x)

  branches_is : (bs : Branches) → BuiltBranches bs
  branches_is NoBranch = tt
  branches_is (Branch before at x body) = (branches_is before, built_is x, block_is body)

  handlers_is : (hs : Handlers) → BuiltHandlers hs
  handlers_is NoHandler = tt
  handlers_is (Handler before at class name body) = (handlers_is before, some_is class, block_is body)
