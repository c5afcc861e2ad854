-- The sorts of values, and the lines of expressions.
use Rattle.std.specs.Prelude.{ℕ, ◌+◌, max, List}
use Rattle.py_source.specs.declared.pos.Pos.{Pos}
use Rattle.token_kinds.specs.py_tokens.declared.token.Token.{Token}
use Rattle.py_tree.specs.declared.expr.ArgName.{ArgName}
use Rattle.py_tree.specs.declared.op.BinOp.{BinOp}
use Rattle.py_tree.specs.declared.op.UnOp.{UnOp}
use Rattle.py_tree.specs.Statements.{Place, Taker}
use Rattle.py_tree.specs.Trees as t
use Rattle.py_expressions.specs.Values.{Aim, Args, OperandChain, Pairs, Places, Row, aim_height, place_height, places_height, taker_height, height, heights, high}

pub data Sort : Type 0 where
  nothing : Sort
  word : Sort
  position : Sort
  tree : Sort
  quoted : Sort
  left : Sort
  operands : Sort
  prefix : Sort
  signed : Sort
  held : Sort
  chain : Sort
  row : Sort
  pairs : Sort
  args : Sort
  naming : Sort
  finished : Sort
  upto : Sort
  sliced : Sort
  named : Sort
  aim : Sort
  place : Sort
  places : Sort
  taker : Sort
  -- two values; and one that is counted with its node already
  both : Sort → Sort → Sort
  opened : Sort → Sort

abbrev pub El : Sort → Type 0
El nothing = Unit {0}
El word = Token
El position = Pos
El tree = t.Tree
El quoted = Pos × List ℕ
El left = t.Tree × BinOp
El operands = (t.Tree × BinOp) × t.Tree
El prefix = Pos × UnOp
El signed = (Pos × UnOp) × t.Tree
El held = Pos × t.Tree
El chain = OperandChain
El row = Row
El pairs = Pairs
El args = Args
El naming = Args × ArgName
El finished = Args
El upto = t.Maybe
El sliced = t.Maybe × t.Maybe
El named = t.Tree × List ℕ
El aim = Aim
El place = Place
El places = Places
El taker = Taker
El (both S T) = El S × El T
El (opened S) = El S

-- how high a value is: a tree, or the parts of one
abbrev pub size : (S : Sort) → El S → ℕ
size nothing x = 0
size word x = 0
size position x = 0
size tree x = height x
size quoted x = 0
size left x = height x.0
size operands x = max (height x.0.0) (height x.1)
size prefix x = 0
size signed x = height x.1
size held x = height x.1
size chain x = max (height x.head) (heights x.more)
size row x = heights x.all
size pairs x = max (heights x.names) (heights x.values)
size args x = heights x.all
size naming x = max (heights x.0.all) 1
size finished x = 1 + heights x.all
size upto x = high x
size sliced x = 1 + max (high x.0) (high x.1)
size named x = height x.0
size aim x = aim_height x
size place x = place_height x
size places x = places_height x.all
size taker x = taker_height x
size (both S T) x = max (size S x.0) (size T x.1)
size (opened S) x = 1 + size S x

pub data Name : Type 0 where
  other : Name
  atom : Name
  arguments : Name
  slice : Name
  primary : Name
  single : Name
  power : Name
  unary : Name
  prod : Name
  sum : Name
  shift : Name
  band : Name
  xor : Name
  bitor : Name
  compare : Name
  negation : Name
  conjunct : Name
  disjunct : Name
  expr : Name
  exprs : Name
  targets : Name

-- what a line reads
abbrev pub sort : Name → Sort
sort other = tree
sort atom = tree
sort arguments = finished
sort slice = sliced
sort primary = tree
sort single = place
sort power = tree
sort unary = tree
sort prod = tree
sort sum = tree
sort shift = tree
sort band = tree
sort xor = tree
sort bitor = tree
sort compare = tree
sort negation = tree
sort conjunct = tree
sort disjunct = tree
sort expr = tree
sort exprs = tree
sort targets = taker

-- each line is made of those before it
abbrev pub rank : Name → ℕ
rank other = 0
rank atom = 1
rank arguments = 2
rank slice = 3
rank primary = 4
rank single = 5
rank power = 6
rank unary = 7
rank prod = 8
rank sum = 9
rank shift = 10
rank band = 11
rank xor = 12
rank bitor = 13
rank compare = 14
rank negation = 15
rank conjunct = 16
rank disjunct = 17
rank expr = 18
rank exprs = 19
rank targets = 20
