-- THE GRAMMAR OF EXPRESSIONS (Python Language Reference, expressions), a line each. `line` stands for what a lower line reads, `inner` for an expression that is a part of the one being read; `node` makes the tree; `room` stands where an operator wants a level below it.
use Rattle.std.specs.Prelude.{ℕ, true, false, not, List, [], ◌∷◌, ◌++◌}
use Rattle.token_kinds.specs.py_tokens.declared.token.Token.{Token}
use Rattle.py_tree.specs.declared.op.BinOp.{BinOp}
use Rattle.py_tree.specs.declared.op.BinOp.TheVariants as binary
use Rattle.py_tree.specs.declared.op.CmpOp.{CmpOp}
use Rattle.py_tree.specs.declared.op.CmpOp.TheVariants as comparison
use Rattle.py_tree.specs.declared.op.UnOp.{UnOp}
use Rattle.py_tree.specs.declared.op.UnOp.TheVariants as signs
use Rattle.py_tree.specs.Statements.{NamePlace, AttributePlace, SubscriptPlace, One, Unpack}
use Rattle.py_tree.specs.Trees as t
use Rattle.std.proofs.Common.{refl}
use Rattle.grammar.specs.Table.{Part, one_of, keys, token, give, node, line, inner, join, ◌⨾◌, ◌∣◌, many, when, room, lift, seen, until, Grammar, Fars}
use Rattle.grammar.specs.Levels.{FarReaders}
use Rattle.parsing.specs.Reading.{Bad}
use Rattle.token_kinds.specs.Kinds.{kind, text_of, sample}
use Rattle.token_kinds.specs.Numbers as k
use Rattle.py_expressions.specs.Values as v
use Rattle.py_expressions.specs.Sorts.{Sort, nothing, word, position, tree, quoted, left, operands, prefix, signed, held, chain, row, pairs, args, naming, finished, upto, sliced, named, aim, place, places, both, opened, El, Name, other, atom, arguments, slice, primary, single, power, unary, prod, sum, shift, band, xor, bitor, compare, negation, conjunct, disjunct, expr, exprs, targets, sort, rank}

abbrev pub P : Sort → Sort → Type 0
P S A = Part Token Sort Name ⊥ El sort (λ q. absurd q) S A

-- SMALL PARTS. A token that only stands there; one that makes something; the end of a node
abbrev pub key : {S : Sort} → ℕ → P S S
key c = token (c ∷ []) (λ s _. s)

-- what changes the value, and leaves its sort
abbrev pub mark : {S : Sort} → List ℕ → (El S → Token → El S) → P S S
mark F f = token F f

abbrev pub part : {S : Sort} (r : Name) → (El S → El (sort r) → El S) → P S S
part r f = inner r f

-- one token, kept for the node
abbrev pub leaf : ℕ → (Token → t.Tree) → P nothing tree
leaf c f = token {A = word} (c ∷ []) (λ _ u. u) ⨾ node f

-- what a line below reads, and no more
abbrev pub only : (r : Name) → P nothing (sort r)
only r = line r (λ _ e. e)

-- an operator behind what stands left of it: the operators of a rank, the first apart
abbrev pub OpRow : Type 0
OpRow = (ℕ × BinOp) × List (ℕ × BinOp)

abbrev pub operator : OpRow → P tree left
operator ops = one_of (λ l _ o. (l, o)) ops.0 ops.1

abbrev pub binary_node : P operands tree
binary_node = node (λ x. t.Binary (v.at_of x.0.0) x.0.0 x.0.1 x.1)

-- lower { operator lower }, grouped to the left
abbrev pub left_associative : OpRow → (lower : P nothing tree) → (right : P left operands) → P nothing tree
left_associative ops lower right = lower ⨾ many (room (operator ops ⨾ right ⨾ binary_node))

-- one comma and what may stand behind it
abbrev pub commas : P row row → P row row
commas one = many (when (λ r. not r.ended) (key k.comma ⨾ (one ∣ give v.close_row)))

-- "(" ")" | "(" exprs ")"
abbrev pub group : P nothing tree
group = token {A = position} (k.left_paren ∷ []) (λ _ u. u.at) ⨾ (key k.right_paren ⨾ node (λ at. t.Tuple at t.Empty) ∣ inner {A = held} exprs (λ at e. (at, e)) ⨾ key k.right_paren ⨾ node (λ x. t.Paren x.0 x.1))

-- "[" [ exprs ] "]"
abbrev pub listed : P row tree
listed = key k.right_bracket ⨾ node (λ r. t.Listed r.at r.all)

abbrev pub list : P nothing tree
list = token {A = row} (k.left_bracket ∷ []) (λ _ u. v.row u.at) ⨾ (listed ∣ part expr v.item ⨾ commas (part expr v.item) ⨾ listed)

-- "{" [ pair { "," pair } [ "," ] ] "}", pair = expr ":" expr
abbrev pub pair : P pairs pairs
pair = part expr (λ d e. record { at = d.at; names = t.More d.names e; values = d.values; ended = d.ended }) ⨾ key k.colon
    ⨾ part expr (λ d e. record { at = d.at; names = d.names; values = t.More d.values e; ended = d.ended })

abbrev pub dict_end : P pairs tree
dict_end = key k.right_brace ⨾ node (λ d. t.Dict d.at d.names d.values)

abbrev pub no_more : v.Pairs → v.Pairs
no_more d = record { at = d.at; names = d.names; values = d.values; ended = true }

abbrev pub dict : P nothing tree
dict = token {A = pairs} (k.left_brace ∷ []) (λ _ u. record { at = u.at; names = t.Empty; values = t.Empty; ended = false }) ⨾ (dict_end ∣ pair ⨾ many (when (λ d. not d.ended) (key k.comma ⨾ (pair ∣ give no_more))) ⨾ dict_end)

abbrev pub texts : P nothing tree
texts = token {A = quoted} (k.text ∷ []) (λ _ u. (u.at, text_of u)) ⨾ many (mark (k.text ∷ []) (λ s u. (s.0, s.1 ++ text_of u))) ⨾ node (λ s. t.Text s.0 s.1)

-- "." NAME
abbrev pub attribute : P tree tree
attribute = key k.dot ⨾ token {A = named} (k.name ∷ []) (λ e u. (e, text_of u)) ⨾ node (λ x. t.Attribute (v.at_of x.0) x.0 x.1)

-- arg = expr | NAME "=" expr
abbrev pub arg : P args args
arg = inner {A = both args tree} expr (λ a e. (a, e)) ⨾ (seen {B = naming} v.named_by (key k.equal ⨾ inner expr v.named_arg) ∣ give v.plain_arg)

abbrev pub args_end : P args finished
args_end = key k.right_paren ⨾ node (λ a. a)

-- what may stand behind the first ":" of a slice
abbrev pub slice_end : P (both upto upto) sliced
slice_end = node (λ x. x)

abbrev pub second : {S : Sort} → (El S → t.Maybe) → P S sliced
second to = token {A = both upto upto} (k.right_bracket ∷ []) (λ s _. (to s, t.Absent)) ⨾ slice_end
    ∣ token {A = upto} (k.colon ∷ []) (λ s _. to s) ⨾ (token {A = both upto upto} (k.right_bracket ∷ []) (λ m _. (m, t.Absent)) ⨾ slice_end ∣ inner {A = both upto upto} expr (λ m e. (m, t.Present e)) ⨾ key k.right_bracket ⨾ slice_end)

abbrev pub slice_of : t.Tree → t.Maybe → t.Maybe × t.Maybe → t.Tree
slice_of e x s = t.Slice (v.at_of e) e x s.0 s.1

-- "[" index "]", index = expr | [ expr ] ":" [ expr ] [ ":" [ expr ] ]
abbrev pub subscript : P tree tree
subscript = key k.left_bracket ⨾ (join slice (λ e s. slice_of e t.Absent s)
    ∣ inner {A = both tree tree} expr (λ e i. (e, i)) ⨾ (key k.right_bracket ⨾ node {A = tree} (λ x. t.Subscript (v.at_of x.0) x.0 x.1) ∣ join slice (λ x s. slice_of x.0 (t.Present x.1) s)))

-- WHERE ONLY A TARGET MAY STAND: what makes no target is counted with the node that it must become a part of, and must leave a level for it
abbrev pub carrier : P tree aim
carrier = node v.Carrier

-- "." NAME
abbrev pub attribute_place : P tree place
attribute_place = key k.dot ⨾ token {A = named} (k.name ∷ []) (λ e u. (e, text_of u)) ⨾ node (λ x. AttributePlace (v.at_of x.0) x.0 x.1)

abbrev pub aim_step : P tree aim
aim_step = room (key k.left_bracket ⨾ (lift {B = opened tree} (λ e. e) (inner {A = tree} slice (λ e s. slice_of e t.Absent s) ⨾ carrier)
    ∣ inner {A = both tree tree} expr (λ e i. (e, i)) ⨾ (key k.right_bracket ⨾ node {A = aim} (λ x. v.Target (SubscriptPlace (v.at_of x.0) x.0 x.1)) ∣ lift {B = opened (both tree tree)} (λ x. x) (inner {A = tree} slice (λ x s. slice_of x.0 (t.Present x.1) s) ⨾ carrier))))
    ∣ lift {B = opened tree} (λ e. e) (inner {A = tree} arguments v.call ⨾ carrier)

-- comparisons
abbrev pub comparisons : (ℕ × CmpOp) × List (ℕ × CmpOp)
comparisons = ((k.equal_equal, comparison.Equal), (k.not_equal, comparison.NotEqual) ∷ (k.less_than, comparison.Less) ∷ (k.less_equal, comparison.LessEqual) ∷ (k.greater, comparison.Greater) ∷ (k.greater_equal, comparison.GreaterEqual) ∷ (k.in_word, comparison.In) ∷ [])

-- a step goes on from a chain, or begins one
abbrev pub comparison_link : {S : Sort} → (El S → v.OperandChain) → P S chain
comparison_link to = (one_of {A = chain} (λ c _ o. v.op_more (to c) o) comparisons.0 comparisons.1
    ∣ key k.not ⨾ token {A = chain} (k.in_word ∷ []) (λ c _. v.op_more (to c) comparison.NotIn)
    ∣ token {A = chain} (k.is ∷ []) (λ c _. to c) ⨾ (mark (k.not ∷ []) (λ c _. v.op_more c comparison.IsNot) ∣ give (λ c. v.op_more c comparison.Is)))
    ⨾ part bitor v.operand

abbrev pub worded : {S : Sort} → ℕ → (El S → v.OperandChain) → P chain chain → P S chain
worded c to right = token {A = chain} (c ∷ []) (λ s _. to s) ⨾ right

-- first { step step .. }, as one expression where there is a step
abbrev pub linked : (lower : P nothing tree) → (first : P tree chain) → (step : P chain chain) → (v.OperandChain → t.Tree) → P nothing tree
linked lower first step f = lower ⨾ (room (first ⨾ many step ⨾ node {A = tree} f) ∣ give (λ e. e))

abbrev pub prefixes : (ℕ × UnOp) × List (ℕ × UnOp)
prefixes = ((k.minus, signs.Minus), (k.plus, signs.Plus) ∷ (k.tilde, signs.Invert) ∷ [])

abbrev pub commaed : P row row → P tree tree
commaed one = room (token {A = row} (k.comma ∷ []) (λ e _. v.item (v.row (v.at_of e)) e) ⨾ (one ∣ give v.close_row) ⨾ commas one ⨾ node (λ r. t.Tuple r.at r.all)) ∣ give (λ e. e)

abbrev pub two_sides : t.Tree × BinOp → t.Tree → (t.Tree × BinOp) × t.Tree
two_sides x e = (x, e)

-- the operators of each rank
abbrev pub powers : OpRow
powers = ((k.double_star, binary.Pow), [])

abbrev pub products : OpRow
products = ((k.star, binary.Mul), (k.double_slash, binary.FloorDiv) ∷ (k.percent, binary.Mod) ∷ [])

abbrev pub sums : OpRow
sums = ((k.plus, binary.Add), (k.minus, binary.Sub) ∷ [])

abbrev pub shifts : OpRow
shifts = ((k.left_shift, binary.LShift), (k.right_shift, binary.RShift) ∷ [])

abbrev pub ands : OpRow
ands = ((k.ampersand, binary.BitAnd), [])

abbrev pub xors : OpRow
xors = ((k.caret, binary.BitXor), [])

abbrev pub ors : OpRow
ors = ((k.bar, binary.BitOr), [])

-- THE LINES
abbrev pub body : (r : Name) → P nothing (sort r)
-- atom = NAME | other, other = NUMBER | TEXT { TEXT } | "True" | "False" | "None" | "(" ")" | "(" exprs ")" | "[" [ exprs ] "]" | "{" [ pair { "," pair } [ "," ] ] "}"
body other = leaf k.number (λ u. t.Number u.at (v.number_in u.kind)) ∣ leaf k.true (λ u. t.True u.at) ∣ leaf k.false (λ u. t.False u.at) ∣ leaf k.none (λ u. t.NoneTree u.at) ∣ texts ∣ group ∣ list ∣ dict
body atom = leaf k.name (λ u. t.Name u.at (text_of u)) ∣ only other
-- arguments = "(" [ arg { "," arg } [ "," ] ] ")"
body arguments = token {A = args} (k.left_paren ∷ []) (λ _ _. v.no_args) ⨾ (args_end ∣ arg ⨾ many (when (λ a. not a.ended) (key k.comma ⨾ (arg ∣ give v.end_args))) ⨾ args_end)
-- slice = ":" [ expr ] [ ":" [ expr ] ] "]"
body slice = key k.colon ⨾ (second (λ _. t.Absent) ∣ inner {A = upto} expr (λ _ e. t.Present e) ⨾ second (λ m. m))
-- primary = atom { "." NAME | arguments | "[" index "]" }
body primary = only atom ⨾ many (room (attribute ∣ join arguments v.call ∣ subscript))
-- single = NAME | primary "." NAME | primary "[" expr "]"
body single = (token {A = word} (k.name ∷ []) (λ _ u. u) ⨾ node {A = aim} (λ u. v.Target (NamePlace u.at (text_of u))) ∣ inner {A = tree} other (λ _ e. e) ⨾ carrier) ⨾ until v.target_in v.aimed v.Target (λ _. refl) attribute_place aim_step
-- power = primary [ "**" unary ]
body power = only primary ⨾ (room (operator powers ⨾ inner unary two_sides ⨾ binary_node) ∣ give (λ e. e))
-- unary = ( "-" | "+" | "~" ) unary | power
body unary = room (one_of {A = prefix} (λ _ u o. (u.at, o)) prefixes.0 prefixes.1 ⨾ inner {A = signed} unary (λ o e. (o, e)) ⨾ node (λ x. t.Unary x.0.0 x.0.1 x.1)) ∣ only power
-- prod = unary { ( "*" | "//" | "%" ) unary }
body prod = left_associative products (only unary) (inner unary two_sides)
-- sum = prod { ( "+" | "-" ) prod }
body sum = left_associative sums (only prod) (inner prod two_sides)
-- shift = sum { ( "<<" | ">>" ) sum }
body shift = left_associative shifts (only sum) (inner sum two_sides)
-- band = shift { "&" shift }
body band = left_associative ands (only shift) (inner shift two_sides)
-- xor = band { "^" band }
body xor = left_associative xors (only band) (inner band two_sides)
-- bitor = xor { "|" xor }
body bitor = left_associative ors (only xor) (inner xor two_sides)
-- compare = bitor { ( "==" | "!=" | "<" | "<=" | ">" | ">=" | "in" | "not" "in" | "is" | "is" "not" ) bitor }
body compare = linked (only bitor) (comparison_link v.operand_chain) (comparison_link (λ c. c)) (λ c. t.Compare (v.at_of c.head) c.head c.ops c.more)
-- not = "not" not | compare
body negation = room (token {A = position} (k.not ∷ []) (λ _ u. u.at) ⨾ inner {A = held} negation (λ at e. (at, e)) ⨾ node (λ x. t.Not x.0 x.1)) ∣ only compare
-- and = not { "and" not }
body conjunct = linked (only negation) (worded k.and v.operand_chain (part negation v.operand)) (worded k.and (λ c. c) (part negation v.operand)) (λ c. t.And (v.at_of c.head) c.head c.more)
-- or = and { "or" and }
body disjunct = linked (only conjunct) (worded k.or v.operand_chain (part conjunct v.operand)) (worded k.or (λ c. c) (part conjunct v.operand)) (λ c. t.Or (v.at_of c.head) c.head c.more)
-- expr = or [ "if" or "else" expr ]
body expr = only disjunct ⨾ (room (key k.if ⨾ inner {A = both tree tree} disjunct (λ a c. (a, c)) ⨾ key k.else ⨾ inner {A = both (both tree tree) tree} expr (λ x b. (x, b)) ⨾ node (λ x. t.IfElse (v.at_of x.0.0) x.0.0 x.0.1 x.1)) ∣ give (λ e. e))
-- exprs = expr { "," expr } [ "," ]
body exprs = only expr ⨾ commaed (part expr v.item)
-- target = single { "," single } [ "," ]
body targets = only single ⨾ (room (token {A = places} (k.comma ∷ []) (λ p _. v.places_from p) ⨾ (part single v.one_place ∣ give v.no_place) ⨾ many (when (λ r. not r.ended) (key k.comma ⨾ (part single v.one_place ∣ give v.no_place))) ⨾ node (λ r. Unpack r.all)) ∣ give One)

-- SETS: what a line begins with, and what goes on behind what it has read
abbrev pub literal_begins : List ℕ
literal_begins = k.number ∷ k.true ∷ k.false ∷ k.none ∷ k.text ∷ k.left_paren ∷ k.left_bracket ∷ k.left_brace ∷ []

abbrev pub atom_begins : List ℕ
atom_begins = k.name ∷ literal_begins

abbrev pub unary_begins : List ℕ
unary_begins = k.minus ∷ k.plus ∷ k.tilde ∷ atom_begins

abbrev pub expr_begins : List ℕ
expr_begins = k.not ∷ unary_begins

abbrev pub begins : Name → List ℕ
begins other = literal_begins
begins atom = atom_begins
begins arguments = k.left_paren ∷ []
begins slice = k.colon ∷ []
begins single = atom_begins
begins targets = atom_begins
begins primary = atom_begins
begins power = atom_begins
begins unary = unary_begins
begins prod = unary_begins
begins sum = unary_begins
begins shift = unary_begins
begins band = unary_begins
begins xor = unary_begins
begins bitor = unary_begins
begins compare = unary_begins
begins negation = expr_begins
begins conjunct = expr_begins
begins disjunct = expr_begins
begins expr = expr_begins
begins exprs = expr_begins

abbrev pub atom_goes : List ℕ
atom_goes = k.dot ∷ k.left_paren ∷ k.left_bracket ∷ k.text ∷ []

abbrev pub power_goes : List ℕ
power_goes = k.double_star ∷ atom_goes

abbrev pub prod_goes : List ℕ
prod_goes = k.star ∷ k.double_slash ∷ k.percent ∷ power_goes

abbrev pub sum_goes : List ℕ
sum_goes = k.plus ∷ k.minus ∷ prod_goes

abbrev pub band_goes : List ℕ
band_goes = k.ampersand ∷ k.left_shift ∷ k.right_shift ∷ sum_goes

abbrev pub bitor_goes : List ℕ
bitor_goes = k.bar ∷ k.caret ∷ band_goes

abbrev pub compare_goes : List ℕ
compare_goes = keys (comparisons.0 ∷ comparisons.1) ++ k.not ∷ k.is ∷ bitor_goes

abbrev pub choice_goes : List ℕ
choice_goes = k.if ∷ k.or ∷ k.and ∷ compare_goes

abbrev pub exprs_goes : List ℕ
exprs_goes = k.comma ∷ choice_goes ++ expr_begins

abbrev pub expr_goes : Name → List ℕ
expr_goes other = k.text ∷ []
expr_goes atom = k.text ∷ []
expr_goes arguments = []
expr_goes slice = []
expr_goes single = atom_goes
expr_goes targets = k.comma ∷ atom_begins ++ atom_goes
expr_goes primary = atom_goes
expr_goes power = power_goes
expr_goes unary = power_goes
expr_goes prod = prod_goes
expr_goes sum = sum_goes
expr_goes shift = k.left_shift ∷ k.right_shift ∷ sum_goes
expr_goes band = band_goes
expr_goes xor = k.caret ∷ band_goes
expr_goes bitor = bitor_goes
expr_goes compare = compare_goes
expr_goes negation = compare_goes
expr_goes conjunct = k.and ∷ compare_goes
expr_goes disjunct = k.or ∷ k.and ∷ compare_goes
expr_goes expr = choice_goes
expr_goes exprs = exprs_goes

-- THE GRAMMAR OF EXPRESSIONS; it names no other
abbrev pub expressions : Grammar
expressions = record { Tok = Token; kind = kind; sample = sample; Sort = Sort; El = El; start = nothing; empty = tt; Name = Name; sort = sort; rank = rank; ranks = 21; Far = ⊥; far_sort = λ q. absurd q; far_begins = λ q. absurd q; far_goes = λ q. absurd q; forked = λ q. absurd q; begins = begins; goes = expr_goes; body = body }

-- the lines of other grammars, which are none
abbrev pub no_fars : Fars expressions
no_fars = λ q w t. ⊥

abbrev pub no_reader : FarReaders expressions
no_reader = λ q ts. Bad ts
