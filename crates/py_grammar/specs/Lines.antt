-- THE GRAMMAR OF STATEMENTS (Python Language Reference, simple and compound statements), a line each. `far` stands for a line of expressions. Levels count blocks: a statement without blocks is 1 high.
use Rattle.std.specs.Prelude.{ℕ, ◌==◌, ◌&&◌, Bool, true, false, not, List, [], ◌∷◌, ◌++◌, Some, None}
use Rattle.py_expressions.specs.py_tokens.declared.token.Token.{Token}
use Rattle.py_tree.specs.declared.op.BinOp.TheVariants as binary
use Rattle.py_tree.specs.Trees.{Absent, Present, Empty, More}
use Rattle.py_tree.specs.Statements.{Statement, Block, NoStatement, Next, NoBranch, NoHandler, Do, Assign, AssignYield, AugAssign, Return, ReturnYield, Raise, Assert, Del, GlobalOf, Pass, Break, Continue, YieldOf, Import, ImportFrom, If, While, For, Try, With, Def, Class}
use Rattle.grammar.specs.Table.{Part, one_of, keys, token, give, node, line, inner, far, fork, ◌⨾◌, ◌∣◌, many, when, room, seen, Grammar}
use Rattle.py_expressions.specs.token_kinds.Kinds.{kind, text_of, sample}
use Rattle.py_expressions.specs.token_kinds.Numbers as k
use Rattle.py_expressions.specs.Sorts as e
use Rattle.py_expressions.specs.Lines as l
use Rattle.py_expressions.specs.Values.{at_of}
use Rattle.py_grammar.specs.Sorts.{DefinitionStart, branches_of, caught, changed_in, end_params, with_alias, one_more, targets_in, with_param, BlockSort, nothing, position, twice, read, plain, targeted, changing, change, yielding, tested, names, listing, aliasing, statement, run, block, opening, testing, choice, repeated, aiming, looped, looping, context, holding, attempt, catching, classing, catch, begun, decor, head, param, function, titled, maybe, classed, both, BlockValue, BlockName, simple, simples, stmt, stmts, body, source, block_sort, block_rank}

abbrev pub BlockPart : BlockSort → BlockSort → Type 0
BlockPart S A = Part Token BlockSort BlockName e.Name BlockValue block_sort (λ q. read (e.sort q)) S A

-- AUG
abbrev pub changes : l.OpRow
changes = (
  (k.plus_equal, binary.Add),
  (k.minus_equal, binary.Sub) ∷ (k.star_equal, binary.Mul) ∷ (k.double_slash_equal, binary.FloorDiv) ∷ (k.percent_equal, binary.Mod) ∷ (k.double_star_equal, binary.Pow) ∷ (k.left_shift_equal, binary.LShift) ∷ (k.right_shift_equal, binary.RShift) ∷ (k.ampersand_equal, binary.BitAnd) ∷ (k.bar_equal, binary.BitOr) ∷ (k.caret_equal, binary.BitXor) ∷ [],
)

-- SMALL PARTS. A token that only stands there; one that changes the value; a word that begins a statement
abbrev pub require : {S : BlockSort} → ℕ → BlockPart S S
require c = token (c ∷ []) (λ s _. s)

abbrev pub on_token : {S : BlockSort} → ℕ → (BlockValue S → Token → BlockValue S) → BlockPart S S
on_token c f = token (c ∷ []) f

abbrev pub word : ℕ → BlockPart nothing position
word c = token {A = position} (c ∷ []) (λ _ u. u.at)

-- SIMPLE STATEMENTS
-- exprs | target "=" { target "=" } ( exprs | yield ) | single AUG expr; a target is the expression of its tokens
abbrev pub assigned : BlockPart targeted plain
assigned = require k.equal ⨾ (far {A = plain} e.exprs (λ t x. Assign t.0 t.1 x.0)
    ∣ token {A = yielding} (k.yield ∷ []) (λ t u. (t, u.at)) ⨾ (far {A = plain} e.exprs (λ y x. AssignYield y.0.0 y.0.1 y.1 (Present x.0)) ∣ give (λ y. AssignYield y.0.0 y.0.1 y.1 Absent)))

abbrev pub augmented_assignment : BlockPart changing plain
augmented_assignment = one_of {A = change} (λ p _ o. (p, o)) changes.0 changes.1 ⨾ far {A = plain} e.expr (λ c x. AugAssign c.0.0 c.0.1 c.1 x.0)

abbrev pub valued : BlockPart nothing plain
valued = far {A = plain} e.exprs (λ _ x. Do (at_of x.0) x.0) ⨾ (seen changed_in augmented_assignment ∣ many (seen targets_in assigned))

-- "return" [ exprs | "(" yield ")" ]
abbrev pub returning : BlockPart nothing plain
returning = word k.return
    ⨾ (fork {B = twice} k.left_paren k.yield (λ at _ u. (at, u.at)) (far {A = plain} e.exprs (λ x y. ReturnYield x.0 x.1 (Present y.0)) ⨾ require k.right_paren ∣ token {A = plain} (k.right_paren ∷ []) (λ x _. ReturnYield x.0 x.1 Absent)) e.exprs (λ at x. Return at (Present x.0))
    ∣ give (λ at. Return at Absent))

-- "raise" [ expr ]
abbrev pub raising : BlockPart nothing plain
raising = word k.raise ⨾ (far {A = plain} e.expr (λ at x. Raise at (Present x.0)) ∣ give (λ at. Raise at Absent))

-- "assert" expr [ "," expr ]
abbrev pub asserting : BlockPart nothing plain
asserting = word k.assert ⨾ far {A = tested} e.expr (λ at x. (at, x.0)) ⨾ (require k.comma ⨾ far {A = plain} e.expr (λ x y. Assert x.0 x.1 (Present y.0)) ∣ give (λ x. Assert x.0 x.1 Absent))

-- "del" single
abbrev pub deleting : BlockPart nothing plain
deleting = word k.del ⨾ far {A = plain} e.single (λ at x. Del at x.0)

-- NAME { ( "." | "," ) NAME }
abbrev pub names_by : ℕ → BlockPart position names
names_by c = token {A = names} (k.name ∷ []) (λ at u. (at, text_of u ∷ [])) ⨾ many (require c ⨾ on_token {S = names} k.name (λ d u. (d.0, d.1 ++ text_of u ∷ [])))

-- "global" NAME { "," NAME }
abbrev pub declaring : BlockPart nothing plain
declaring = word k.global ⨾ names_by k.comma ⨾ give {A = plain} (λ d. GlobalOf d.0 d.1)

-- "yield" [ exprs ]
abbrev pub yields : BlockPart nothing plain
yields = word k.yield ⨾ (far {A = plain} e.exprs (λ at x. YieldOf at at (Present x.0)) ∣ give (λ at. YieldOf at at Absent))

-- "import" dotted [ "as" NAME ], dotted = NAME { "." NAME }
abbrev pub importing : BlockPart nothing plain
importing = word k.import ⨾ names_by k.dot ⨾ (require k.as_word ⨾ token {A = plain} (k.name ∷ []) (λ d u. Import d.0 d.1 (Some (text_of u))) ∣ give (λ d. Import d.0 d.1 None))

-- NAME [ "as" NAME ]
abbrev pub one_name : BlockPart listing listing
one_name = token {A = aliasing} (k.name ∷ []) (λ l u. (l, u.at, text_of u)) ⨾ (require k.as_word ⨾ token {A = listing} (k.name ∷ []) (λ x u. with_alias x.0 x.1 x.2 (Some (text_of u))) ∣ give (λ x. with_alias x.0 x.1 x.2 None))

-- "from" dotted "import" ( names | "(" names [ "," ] ")" ), names = NAME [ "as" NAME ] { "," NAME [ "as" NAME ] }
abbrev pub taking : BlockPart nothing plain
taking = word k.from ⨾ names_by k.dot ⨾ token {A = listing} (k.import ∷ []) (λ d _. record { at = d.0; from = d.1; all = []; ended = false })
    ⨾ (one_name ⨾ many (require k.comma ⨾ one_name)
    ∣ require k.left_paren ⨾ one_name ⨾ many (when (λ l. not l.ended) (require k.comma ⨾ (one_name ∣ give (λ l. record { at = l.at; from = l.from; all = l.all; ended = true })))) ⨾ require k.right_paren)
    ⨾ give {A = plain} (λ l. ImportFrom l.at l.from l.all)

-- COMPOUND STATEMENTS. One makes a block of its own
abbrev pub alone : Statement → Block
alone s = Next NoStatement s

-- expr ":" block
abbrev pub condition_clause : BlockPart opening choice
condition_clause = far {A = testing} e.expr (λ o x. (o, x.0)) ⨾ require k.colon ⨾ inner {A = choice} body (λ x b. record { at = x.0.at; before = x.0.before; here = x.0.here; test = x.1; body = b })

-- "if" expr ":" block { "elif" expr ":" block } [ "else" ":" block ]
abbrev pub choosing : BlockPart nothing block
choosing = token {A = opening} (k.if ∷ []) (λ _ u. record { at = u.at; before = NoBranch; here = u.at }) ⨾ condition_clause
    ⨾ many (token {A = opening} (k.elif ∷ []) (λ c u. record { at = c.at; before = branches_of c; here = u.at }) ⨾ condition_clause)
    ⨾ (require k.else ⨾ require k.colon ⨾ inner {A = both choice block} body (λ c b. (c, b)) ∣ give (λ c. (c, NoStatement))) ⨾ node (λ x. alone (If x.0.at (branches_of x.0) x.1))

-- "while" expr ":" block
abbrev pub repeating : BlockPart nothing block
repeating = word k.while ⨾ far {A = tested} e.expr (λ at x. (at, x.0)) ⨾ require k.colon ⨾ inner {A = repeated} body (λ x b. (x, b)) ⨾ node (λ x. alone (While x.0.0 x.0.1 x.1))

-- "for" target "in" exprs ":" block
abbrev pub running : BlockPart nothing block
running = word k.for ⨾ far {A = aiming} e.targets (λ at x. (at, x.0)) ⨾ require k.in_word ⨾ far {A = looped} e.exprs (λ x y. (x, y.0)) ⨾ require k.colon
    ⨾ inner {A = looping} body (λ x b. (x, b)) ⨾ node (λ x. alone (For x.0.0.0 x.0.0.1 x.0.1 x.1))

-- "with" expr [ "as" NAME ] ":" block
abbrev pub raises : BlockPart nothing block
raises = word k.with ⨾ far {A = context} e.expr (λ at x. record { at = at; of = x.0; name = None })
    ⨾ (require k.as_word ⨾ on_token k.name (λ c u. record { at = c.at; of = c.of; name = Some (text_of u) }) ∣ give (λ c. c))
    ⨾ require k.colon ⨾ inner {A = holding} body (λ c b. (c, b)) ⨾ node (λ x. alone (With x.0.at x.0.of x.0.name x.1))

-- "except" [ expr [ "as" NAME ] ] ":" block
abbrev pub excepting : BlockPart attempt attempt
excepting = token {A = catching} (k.except ∷ []) (λ a u. (a, u.at))
    ⨾ (far {A = classing} e.expr (λ c x. (c, x.0)) ⨾ (require k.as_word ⨾ token {A = catch} (k.name ∷ []) (λ c u. record { of = c.0.0; here = c.0.1; class = Present c.1; name = Some (text_of u) }) ∣ give (λ c. record { of = c.0.0; here = c.0.1; class = Present c.1; name = None }))
    ∣ give (λ c. record { of = c.0; here = c.1; class = Absent; name = None }))
    ⨾ require k.colon ⨾ inner {A = attempt} body caught

-- "try" ":" block ( except { except } [ "else" ":" block ] [ finally ] | finally ), finally = "finally" ":" block
abbrev pub attempting : BlockPart nothing block
attempting = word k.try ⨾ require k.colon ⨾ inner {A = attempt} body (λ at b. record { at = at; tried = b; handlers = NoHandler })
    ⨾ (excepting ⨾ many excepting ⨾ (require k.else ⨾ require k.colon ⨾ inner {A = both attempt block} body (λ a b. (a, b)) ∣ give (λ a. (a, NoStatement))) ⨾ (require k.finally ⨾ require k.colon ⨾ inner {A = both (both attempt block) block} body (λ x b. (x, b)) ∣ give (λ x. (x, NoStatement)))
    ∣ require k.finally ⨾ require k.colon ⨾ inner {A = both (both attempt block) block} body (λ a b. ((a, NoStatement), b)))
    ⨾ node (λ x. alone (Try x.0.0.at x.0.0.tried x.0.0.handlers x.0.1 x.1))

-- param = NAME [ ":" expr ] [ "=" expr ]
abbrev pub parameter_rule : BlockPart head head
parameter_rule = token {A = param} (k.name ∷ []) (λ h u. record { head = h; at = u.at; name = text_of u })
    ⨾ (require k.colon ⨾ far {A = both param maybe} e.expr (λ p x. (p, Present x.0)) ∣ give (λ p. (p, Absent)))
    ⨾ (require k.equal ⨾ far {A = head} e.expr (λ p x. with_param p (Present x.0)) ∣ give (λ p. with_param p Absent))

-- "def" NAME "(" [ params ] ")" [ "->" expr ] ":" block, params = param { "," param } [ "," ]
abbrev pub defining : BlockPart begun block
defining = token {A = head} (k.name ∷ []) (λ d u. record { begun = d; name = text_of u; params = []; ended = false })
    ⨾ require k.left_paren ⨾ (require k.right_paren ∣ parameter_rule ⨾ many (when (λ h. not h.ended) (require k.comma ⨾ (parameter_rule ∣ give end_params))) ⨾ require k.right_paren)
    ⨾ (require k.arrow ⨾ far {A = both head maybe} e.expr (λ h x. (h, Present x.0)) ∣ give (λ h. (h, Absent)))
    ⨾ require k.colon ⨾ inner {A = function} body (λ s b. (s, b)) ⨾ node (λ x. alone (Def x.0.0.begun.at x.0.0.begun.decorators x.0.0.begun.word x.0.0.name x.0.0.params x.0.1 x.1))

-- "class" NAME [ "(" [ expr ] ")" ] ":" block
abbrev pub naming : BlockPart begun block
naming = token {A = titled} (k.name ∷ []) (λ d u. (d, text_of u))
    ⨾ (require k.left_paren ⨾ (token {A = both titled maybe} (k.right_paren ∷ []) (λ d _. (d, Absent)) ∣ far {A = both titled maybe} e.expr (λ d x. (d, Present x.0)) ⨾ require k.right_paren) ∣ give (λ d. (d, Absent)))
    ⨾ require k.colon ⨾ inner {A = classed} body (λ s b. (s, b)) ⨾ node (λ x. alone (Class x.0.0.0.at x.0.0.0.decorators x.0.0.0.word x.0.0.1 x.0.1 x.1))

-- { "@" expr NEWLINE } ( def | class )
abbrev pub definition : {S : BlockSort} → (BlockValue S → Token → DefinitionStart) → BlockPart S block
definition begin = token {A = begun} (k.def ∷ []) begin ⨾ defining ∣ token {A = begun} (k.class ∷ []) begin ⨾ naming

abbrev pub decorated_definition : BlockPart nothing block
decorated_definition = token {A = decor} (k.at ∷ []) (λ _ u. (u.at, Empty)) ⨾ far {A = decor} e.expr (λ d x. (d.0, More d.1 x.0)) ⨾ require k.newline ⨾ many (require k.at ⨾ far {A = decor} e.expr (λ d x. (d.0, More d.1 x.0)) ⨾ require k.newline)
    ⨾ definition (λ d u. record { at = d.0; decorators = d.1; word = u.at })

-- statements behind others
abbrev pub behind : Block → Block → Block
behind b NoStatement = b
behind b (Next c s) = Next (behind b c) s

-- THE LINES
abbrev pub lines : (r : BlockName) → BlockPart nothing (block_sort r)
-- simple = exprs | target "=" { target "=" } ( exprs | yield ) | single AUG expr | "return" [ exprs | "(" yield ")" ] | "raise" [ expr ] | "assert" expr [ "," expr ] | "del" single | "global" NAME { "," NAME } | "pass" | "break" | "continue" | yield | "import" dotted [ "as" NAME ] | "from" dotted "import" ( names | "(" names [ "," ] ")" )
lines simple = (word k.pass ⨾ give {A = plain} Pass ∣ word k.break ⨾ give {A = plain} Break ∣ word k.continue ⨾ give {A = plain} Continue ∣ returning ∣ raising ∣ asserting ∣ deleting ∣ declaring ∣ yields ∣ importing ∣ taking ∣ valued) ⨾ node {A = statement} (λ s. s)
-- simples = simple { ";" simple } [ ";" ] NEWLINE
lines simples = line {A = run} simple (λ _ s. record { all = alone s; ended = false })
    ⨾ many (when (λ r. not r.ended) (require k.semicolon ⨾ (line simple one_more ∣ give (λ r. record { all = r.all; ended = true })))) ⨾ token (k.newline ∷ []) (λ r _. r.all)
-- stmt = simples | if | while | for | try | raises | def | class
lines stmt = room (choosing ∣ repeating ∣ running ∣ attempting ∣ raises ∣ definition (λ _ u. record { at = u.at; decorators = Empty; word = u.at }) ∣ decorated_definition) ∣ line simples (λ _ b. b)
-- stmts = stmt { stmt }
lines stmts = line {A = block} stmt (λ _ b. b) ⨾ many (line stmt behind)
-- block = simples | NEWLINE INDENT stmts DEDENT
lines body = require k.newline ⨾ require k.indent ⨾ line {A = block} stmts (λ _ b. b) ⨾ require k.dedent ∣ line simples (λ _ b. b)
-- module = [ stmts ] END
lines source = require k.end ⨾ node (λ _. NoStatement) ∣ line {A = block} stmts (λ _ b. b) ⨾ require k.end

-- SETS
abbrev pub simple_begins : List ℕ
simple_begins = k.del ∷ k.pass ∷ k.break ∷ k.continue ∷ k.return ∷ k.assert ∷ k.global ∷ k.raise ∷ k.yield ∷ k.import ∷ k.from ∷ l.expr_begins

abbrev pub stmt_begins : List ℕ
stmt_begins = k.if ∷ k.while ∷ k.for ∷ k.try ∷ k.with ∷ k.def ∷ k.class ∷ k.at ∷ simple_begins

abbrev pub block_begins : BlockName → List ℕ
block_begins simple = simple_begins
block_begins simples = simple_begins
block_begins stmt = stmt_begins
block_begins stmts = stmt_begins
block_begins body = k.newline ∷ simple_begins
block_begins source = k.end ∷ stmt_begins

abbrev pub clause_words : List ℕ
clause_words = k.elif ∷ k.else ∷ k.except ∷ k.finally ∷ []

abbrev pub block_goes : BlockName → List ℕ
block_goes simple = k.yield ∷ keys (changes.0 ∷ changes.1) ++ k.equal ∷ k.as_word ∷ l.exprs_goes
block_goes simples = []
block_goes stmt = clause_words
block_goes stmts = clause_words ++ stmt_begins
block_goes body = []
block_goes source = []

-- where two tokens decide
abbrev pub forked : e.Name → (c d : ℕ) → Bool
forked e.exprs c d = (c == k.left_paren) && (d == k.yield)
forked e.other c d = false
forked e.atom c d = false
forked e.arguments c d = false
forked e.slice c d = false
forked e.primary c d = false
forked e.single c d = false
forked e.power c d = false
forked e.unary c d = false
forked e.prod c d = false
forked e.sum c d = false
forked e.shift c d = false
forked e.band c d = false
forked e.xor c d = false
forked e.bitor c d = false
forked e.compare c d = false
forked e.negation c d = false
forked e.conjunct c d = false
forked e.disjunct c d = false
forked e.expr c d = false
forked e.targets c d = false

abbrev pub statements : Grammar
statements = record { Tok = Token; kind = kind; sample = sample; Sort = BlockSort; El = BlockValue; start = nothing; empty = tt; Name = BlockName; sort = block_sort; rank = block_rank; ranks = 6; Far = e.Name; far_sort = λ q. read (e.sort q); far_begins = l.begins; far_goes = l.expr_goes; forked = forked; begins = block_begins; goes = block_goes; body = lines }
