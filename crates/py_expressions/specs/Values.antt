-- WHAT LINES READ: the values between the parts of a line, and the trees made of them.
use Rattle.std.specs.Prelude.{ℕ, ℤ, pos, ◌+◌, max, Bool, true, false, List, [], ◌∷◌, ◌++◌, Option, Some, None}
use Rattle.py_source.specs.declared.pos.Pos.{Pos}
use Rattle.token_kinds.specs.py_tokens.declared.token.TokenKind.{TokenKind}
use Rattle.token_kinds.specs.py_tokens.declared.token.TokenKind.TheVariants as kinds
use Rattle.py_tree.specs.declared.op.CmpOp.{CmpOp}
use Rattle.py_tree.specs.declared.expr.ArgName.{ArgName}
use Rattle.py_tree.specs.Trees.{Tree, Trees, Maybe, Absent, Present, Name, Number, Text, True, False, NoneTree, Paren, Tuple, Listed, Dict, Attribute, Call, Subscript, Slice, Unary, Binary, Compare, Not, And, Or, IfElse, Empty, More}
use Rattle.py_tree.specs.Statements.{Place, NamePlace, AttributePlace, SubscriptPlace, Taker, One, Unpack}

abbrev pub at_of : Tree → Pos
at_of (Name at n) = at
at_of (Number at n) = at
at_of (Text at t) = at
at_of (True at) = at
at_of (False at) = at
at_of (NoneTree at) = at
at_of (Paren at e) = at
at_of (Tuple at es) = at
at_of (Listed at es) = at
at_of (Dict at ks es) = at
at_of (Attribute at e n) = at
at_of (Call at f es names) = at
at_of (Subscript at e i) = at
at_of (Slice at e x y z) = at
at_of (Unary at op e) = at
at_of (Binary at l op r) = at
at_of (Compare at l ops es) = at
at_of (Not at e) = at
at_of (And at e es) = at
at_of (Or at e es) = at
at_of (IfElse at a c b) = at

-- the number of a number's token; no other holds one
abbrev pub number_in : TokenKind → ℤ
number_in (kinds.Number n) = n
number_in (kinds.Name name) = pos 0
number_in (kinds.Text text) = pos 0
number_in kinds.Newline = pos 0
number_in kinds.Indent = pos 0
number_in kinds.Dedent = pos 0
number_in kinds.End = pos 0
number_in (kinds.Op o) = pos 0

-- HOW HIGH A TREE IS
abbrev mutual
  pub height : Tree → ℕ
  height (Name at n) = 1
  height (Number at n) = 1
  height (Text at t) = 1
  height (True at) = 1
  height (False at) = 1
  height (NoneTree at) = 1
  height (Paren at e) = 1 + height e
  height (Tuple at es) = 1 + heights es
  height (Listed at es) = 1 + heights es
  height (Dict at ks es) = 1 + max (heights ks) (heights es)
  height (Attribute at e n) = 1 + height e
  height (Call at f es names) = 1 + max (height f) (heights es)
  height (Subscript at e i) = 1 + max (height e) (height i)
  height (Slice at e x y z) = 1 + max (max (height e) (high x)) (max (high y) (high z))
  height (Unary at op e) = 1 + height e
  height (Binary at l op r) = 1 + max (height l) (height r)
  height (Compare at l ops es) = 1 + max (height l) (heights es)
  height (Not at e) = 1 + height e
  height (And at e es) = 1 + max (height e) (heights es)
  height (Or at e es) = 1 + max (height e) (heights es)
  height (IfElse at a c b) = 1 + max (max (height a) (height c)) (height b)

  -- the highest of some
  pub heights : Trees → ℕ
  heights Empty = 0
  heights (More es e) = max (heights es) (height e)

  pub high : Maybe → ℕ
  high Absent = 0
  high (Present e) = height e

-- operands with operators between them, the first apart
pub record OperandChain : Type 0 where
  pub head : Tree
  pub ops : List CmpOp
  pub more : Trees

abbrev pub operand_chain : Tree → OperandChain
operand_chain e = record { head = e; ops = []; more = Empty }

abbrev pub op_more : OperandChain → CmpOp → OperandChain
op_more c o = record { head = c.head; ops = c.ops ++ o ∷ []; more = c.more }

abbrev pub operand : OperandChain → Tree → OperandChain
operand c e = record { head = c.head; ops = c.ops; more = More c.more e }

-- items with commas between them
pub record Row : Type 0 where
  pub at : Pos
  pub all : Trees
  pub ended : Bool

abbrev pub row : Pos → Row
row at = record { at = at; all = Empty; ended = false }

abbrev pub item : Row → Tree → Row
item r e = record { at = r.at; all = More r.all e; ended = false }

abbrev pub close_row : Row → Row
close_row r = record { at = r.at; all = r.all; ended = true }

-- pairs of a dictionary
pub record Pairs : Type 0 where
  pub at : Pos
  pub names : Trees
  pub values : Trees
  pub ended : Bool

-- arguments
pub record Args : Type 0 where
  pub all : Trees
  pub names : List (Option ArgName)
  pub ended : Bool

abbrev pub no_args : Args
no_args = record { all = Empty; names = []; ended = false }

abbrev pub plain_arg : Args × Tree → Args
plain_arg x = record { all = More x.0.all x.1; names = x.0.names ++ None ∷ []; ended = false }

-- what is a name, and so may name an argument
abbrev pub name_in : Tree → Option ArgName
name_in (Name at n) = Some (record { at = at; name = n })
name_in (Number at n) = None
name_in (Text at t) = None
name_in (True at) = None
name_in (False at) = None
name_in (NoneTree at) = None
name_in (Paren at e) = None
name_in (Tuple at es) = None
name_in (Listed at es) = None
name_in (Dict at ks es) = None
name_in (Attribute at e n) = None
name_in (Call at f es names) = None
name_in (Subscript at e i) = None
name_in (Slice at e x y z) = None
name_in (Unary at op e) = None
name_in (Binary at l op r) = None
name_in (Compare at l ops es) = None
name_in (Not at e) = None
name_in (And at e es) = None
name_in (Or at e es) = None
name_in (IfElse at a c b) = None

-- arguments before an expression, where that is a name
abbrev pub with_name : Args → Option ArgName → Option (Args × ArgName)
with_name a None = None
with_name a (Some n) = Some (a, n)

abbrev pub named_by : Args × Tree → Option (Args × ArgName)
named_by x = with_name x.0 (name_in x.1)

abbrev pub named_arg : Args × ArgName → Tree → Args
named_arg x e = record { all = More x.0.all e; names = x.0.names ++ Some x.1 ∷ []; ended = false }

abbrev pub end_args : Args → Args
end_args a = record { all = a.all; names = a.names; ended = true }

abbrev pub call : Tree → Args → Tree
call f a = Call (at_of f) f a.all a.names

-- TARGETS. What takes one value is the expression of its tokens.
abbrev pub tree_of : Place → Tree
tree_of (NamePlace at n) = Name at n
tree_of (AttributePlace at e n) = Attribute at e n
tree_of (SubscriptPlace at e i) = Subscript at e i

abbrev pub place_height : Place → ℕ
place_height (NamePlace at n) = 1
place_height (AttributePlace at e n) = 1 + height e
place_height (SubscriptPlace at e i) = 1 + max (height e) (height i)

abbrev pub places_height : List Place → ℕ
places_height [] = 0
places_height (p ∷ ps) = max (place_height p) (places_height ps)

abbrev pub taker_height : Taker → ℕ
taker_height (One p) = place_height p
taker_height (Unpack ps) = 1 + places_height ps

-- What is read where only a target may stand: a target, or what must become a part of one
pub data Aim : Type 0 where
  Target : Place → Aim
  Carrier : Tree → Aim

abbrev pub target_in : Aim → Option Place
target_in (Target p) = Some p
target_in (Carrier e) = None

abbrev pub aimed : Aim → Tree
aimed (Target p) = tree_of p
aimed (Carrier e) = e

-- a carrier is counted with the node that it must become a part of
abbrev pub aim_height : Aim → ℕ
aim_height (Target p) = place_height p
aim_height (Carrier e) = 1 + height e

-- targets with commas between them
pub record Places : Type 0 where
  pub all : List Place
  pub ended : Bool

abbrev pub places_from : Place → Places
places_from p = record { all = p ∷ []; ended = false }

abbrev pub one_place : Places → Place → Places
one_place r p = record { all = r.all ++ p ∷ []; ended = false }

abbrev pub no_place : Places → Places
no_place r = record { all = r.all; ended = true }

-- the place that an expression is, if it is one
abbrev pub place_in : Tree → Option Place
place_in (Name at n) = Some (NamePlace at n)
place_in (Attribute at e n) = Some (AttributePlace at e n)
place_in (Subscript at e i) = Some (SubscriptPlace at e i)
place_in (Number at n) = None
place_in (Text at t) = None
place_in (True at) = None
place_in (False at) = None
place_in (NoneTree at) = None
place_in (Paren at e) = None
place_in (Tuple at es) = None
place_in (Listed at es) = None
place_in (Dict at ks es) = None
place_in (Call at f es names) = None
place_in (Slice at e x y z) = None
place_in (Unary at op e) = None
place_in (Binary at l op r) = None
place_in (Compare at l ops es) = None
place_in (Not at e) = None
place_in (And at e es) = None
place_in (Or at e es) = None
place_in (IfElse at a c b) = None

-- both, where both are there
abbrev pub behind_places : Option (List Place) → Option Place → Option (List Place)
behind_places None p = None
behind_places (Some ps) None = None
behind_places (Some ps) (Some p) = Some (ps ++ p ∷ [])

abbrev pub places_in : Trees → Option (List Place)
places_in Empty = Some []
places_in (More es e) = behind_places (places_in es) (place_in e)

abbrev pub one_taker : Option Place → Option Taker
one_taker None = None
one_taker (Some p) = Some (One p)

abbrev pub several_taker : Option (List Place) → Option Taker
several_taker None = None
several_taker (Some ps) = Some (Unpack ps)

-- the target that an expression is, if it is one: a place, or places with commas
abbrev pub taker_in : Tree → Option Taker
taker_in (Tuple at Empty) = None
taker_in (Tuple at (More es e)) = several_taker (places_in (More es e))
taker_in e = one_taker (place_in e)
