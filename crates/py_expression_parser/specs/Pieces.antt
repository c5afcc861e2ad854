-- Parts of lines, as code has them: what is read behind a token or a value.
use Rattle.std.specs.Prelude.{◌≡◌, ℕ, ◌-◌, ◌+◌, max, cond, not, List, [], ◌∷◌, ◌++◌, Option, Some, None}
use Rattle.py_source.specs.declared.pos.Pos.{Pos}
use Rattle.py_tokens.specs.declared.token.Token.{Token}
use Rattle.py_tree.specs.declared.expr.ArgName.{ArgName}
use Rattle.py_tree.specs.declared.op.CmpOp.{CmpOp}
use Rattle.py_tree.specs.declared.op.CmpOp.TheVariants as comparison
use Rattle.py_tree.specs.Trees.{Tree, Maybe, Absent, Present, Name, Number, Text, True, False, NoneTree, Paren, Tuple, Listed, Dict, Attribute, Subscript, Compare, And, Or, Empty}
use Rattle.parsing.specs.Reading.{Read, Found, Bad, Deep, ◌>>=◌}
use Rattle.grammar.specs.Table.{give, ◌⨾◌, ◌∣◌, when, join}
use Rattle.grammar_code.specs.Walk.{first_of, first_meant, starts_with, wanted, pick}
use Rattle.py_cursor.specs.token_kinds.Kinds.{kind, text_of}
use Rattle.py_cursor.specs.token_kinds.Numbers as k
use Rattle.py_cursor.specs.py_expressions.Values as v
use Rattle.py_cursor.specs.py_expressions.Values.{at_of, number_in}
use Rattle.py_cursor.specs.py_expressions.Sorts.{row, chain, pairs, args, quoted, upto, tree, exprs, expr, slice, arguments, bitor, compare, negation, conjunct, disjunct}
use Rattle.py_cursor.specs.py_expressions.Lines.{key, mark, part, pair, no_more, arg, second, slice_of, attribute, subscript, comparisons, comparison_link, worded}
use Rattle.py_nodes.specs.Parts.{no_pairs, more_pairs, with_op}
use Rattle.py_cursor.specs.declared.parser.Parser.{Parser}
use Rattle.py_cursor.specs.declared.stop.Stop.{Stop}
use Rattle.py_cursor.specs.declared.stop.Stop.TheVariants as stops
use Rattle.py_cursor.specs.Parser.{Takes}
use Rattle.py_expression_parser.specs.declared.links.Link.{Link}
use Rattle.py_expression_parser.specs.declared.links.Link.TheVariants as link
use Rattle.py_expression_parser.specs.Reads.{reads, reads_part, reads_all, operator_list}

-- LEAVES
abbrev pub name_on : Token → List Token → Read Token (Tree × ℕ)
name_on t ts = Found (Name t.at (text_of t), 1) ts

abbrev pub constant_on : List Token → Option (Tree × List Token)
constant_on ts = pick (first_of kind (k.true ∷ []) ts) (λ o. Some (True o.0.at, o.1)) (pick (first_of kind (k.false ∷ []) ts) (λ o. Some (False o.0.at, o.1)) (pick (first_of kind (k.none ∷ []) ts) (λ o. Some (NoneTree o.0.at, o.1)) None))

-- a text so far, and those behind it
abbrev pub texts_more : Pos × List ℕ → List Token → Read Token (Tree × ℕ)
texts_more s ts = reads_all 0 {S = quoted} (mark (k.text ∷ []) (λ s u. (s.0, s.1 ++ text_of u))) (s, 0) ts >>= λ y. Found (Text y.0.0.0 y.0.0.1, 1 + y.0.1) y.1

abbrev pub texts_on : List Token → Read Token (Tree × ℕ)
texts_on ts = wanted kind (k.text ∷ []) ts >>= λ o. texts_more (o.0.at, text_of o.0) o.1

abbrev pub leaf_on : List Token → Option (Read Token (Tree × ℕ))
leaf_on ts = pick (first_of kind (k.number ∷ []) ts) (λ o. Some (Found (Number o.0.at (number_in o.0.kind), 1) o.1))
    (pick (constant_on ts) (λ o. Some (Found (o.0, 1) o.1)) (cond (starts_with kind (k.text ∷ []) ts) (Some (texts_on ts)) None))

-- what a function that may find nothing gives
abbrev pub FailsMaybe : {A : Type 0} → Stop → Option (Read Token A) → Type 0
FailsMaybe (stops.Bad s) read = read ≡ Some (Bad s.now)
FailsMaybe (stops.Deep s) read = read ≡ Some (Deep s.now)
FailsMaybe stops.Memory read = Unit {0}

abbrev pub GivesMaybe : {X A : Type 0} → (X → A) → Option (Option X) → Parser → Parser → Option (Read Token A) → Type 0
GivesMaybe seen (Some None) old p read = (read ≡ None) × (p.rest.now ≡ old.rest.now)
GivesMaybe seen (Some (Some x)) old p read = read ≡ Some (Found (seen x) p.rest.now)
GivesMaybe seen None old p read = FailsMaybe p.stop read

-- what is found at the next tokens and taken, or nothing is; or memory ran out
abbrev pub Finds : {X : Type 0} → Option (X × List Token) → Option (Option X) → Parser → Parser → Type 0
Finds look (Some found) old p = Takes (λ x. x) look found old p
Finds look None old p = p.stop ≡ stops.Memory

-- ITEMS with commas between them, behind the first
abbrev pub items : ℕ → v.Row × ℕ → List Token → Read Token (v.Row × ℕ)
items m s ts = reads_all m {S = row} (when (λ r. not r.ended) (key k.comma ⨾ (part expr v.item ∣ give v.close_row))) s ts

-- "(" and what stands behind it
abbrev pub group_on : ℕ → Pos → List Token → Read Token (Tree × ℕ)
group_on m at ts = pick (first_of kind (k.right_paren ∷ []) ts) (λ c. Found (Tuple at Empty, 1) c.1) (reads (m - 1) exprs ts >>= λ e. wanted kind (k.right_paren ∷ []) e.1 >>= λ c. Found (Paren at e.0.0, 1 + e.0.1) c.1)

abbrev pub list_on : ℕ → Pos → List Token → Read Token (Tree × ℕ)
list_on m at ts = pick (first_of kind (k.right_bracket ∷ []) ts) (λ c. Found (Listed at Empty, 1) c.1)
    (reads (m - 1) expr ts >>= λ e. items m (v.item (v.row at) e.0.0, e.0.1) e.1 >>= λ r. wanted kind (k.right_bracket ∷ []) r.1 >>= λ c. Found (Listed r.0.0.at r.0.0.all, 1 + r.0.1) c.1)

-- a key, ":" and a value
abbrev pub pair_on : ℕ → v.Pairs × ℕ → List Token → Read Token (v.Pairs × ℕ)
pair_on m s ts = reads (m - 1) expr ts >>= λ n. wanted kind (k.colon ∷ []) n.1 >>= λ c. reads (m - 1) expr c.1 >>= λ e. Found (more_pairs s.0 n.0.0 e.0.0, max (max s.1 n.0.1) e.0.1) e.1

abbrev pub pairs_more : ℕ → v.Pairs × ℕ → List Token → Read Token (v.Pairs × ℕ)
pairs_more m s ts = reads_all m {S = pairs} (when (λ d. not d.ended) (key k.comma ⨾ (pair ∣ give no_more))) s ts

abbrev pub dict_on : ℕ → Pos → List Token → Read Token (Tree × ℕ)
dict_on m at ts = pick (first_of kind (k.right_brace ∷ []) ts) (λ c. Found (Dict at Empty Empty, 1) c.1)
    (pair_on m (no_pairs at, 0) ts >>= λ p. pairs_more m p.0 p.1 >>= λ d. wanted kind (k.right_brace ∷ []) d.1 >>= λ c. Found (Dict d.0.0.at d.0.0.names d.0.0.values, 1 + d.0.1) c.1)

-- an argument, with its name or without
unfoldable pub arg_on : ℕ → v.Args × ℕ → List Token → Read Token (v.Args × ℕ)
arg_on m s ts = reads_part m arg s ts

abbrev pub args_more : ℕ → v.Args × ℕ → List Token → Read Token (v.Args × ℕ)
args_more m s ts = reads_all m {S = args} (when (λ a. not a.ended) (key k.comma ⨾ (arg ∣ give v.end_args))) s ts

-- the name that a value is, where "=" stands behind it
abbrev pub assigned_on : Tree → List Token → Option (ArgName × List Token)
assigned_on e ts = pick (first_of kind (k.equal ∷ []) ts) (λ o. pick (v.name_in e) (λ n. Some (n, o.1)) None) None

-- what may stand behind the first ":" of a slice and a value there
unfoldable pub slice_more : ℕ → Maybe × ℕ → List Token → Read Token ((Maybe × Maybe) × ℕ)
slice_more m s ts = reads_part m {S = upto} (second (λ x. x)) s ts

-- with which tokens more begins behind a value
abbrev pub trailer_marks : List ℕ
trailer_marks = k.dot ∷ k.left_paren ∷ k.left_bracket ∷ []

-- a name behind "."
abbrev pub attribute_on : Tree × ℕ → List Token → Read Token (Tree × ℕ)
attribute_on s ts = wanted kind (k.name ∷ []) ts >>= λ u. Found (Attribute (at_of s.0) s.0 (text_of u.0), 1 + s.1) u.1

-- ".", "(" or "[" behind a value
abbrev pub trailer_on : ℕ → Tree × ℕ → List Token → Read Token (Tree × ℕ)
trailer_on m s ts = reads_part m {S = tree} {A = tree} (attribute ∣ join arguments v.call ∣ subscript) s ts

-- an index behind "["
abbrev pub index_on : ℕ → Tree × ℕ → List Token → Read Token (Tree × ℕ)
index_on m s ts = cond (starts_with kind (k.colon ∷ []) ts) (reads m slice ts >>= λ b. Found (slice_of s.0 Absent b.0.0, max (1 + s.1) b.0.1) b.1)
    (reads (m - 1) expr ts >>= λ i. pick (first_of kind (k.right_bracket ∷ []) i.1) (λ c. Found (Subscript (at_of s.0) s.0 i.0.0, 1 + max s.1 i.0.1) c.1)
    (reads m slice i.1 >>= λ b. Found (slice_of s.0 (Present i.0.0) b.0.0, max (1 + max s.1 i.0.1) b.0.1) b.1))

-- LINKS: comparisons, `and`, `or`
abbrev pub operand_of : ℕ → Link → List Token → Read Token (Tree × ℕ)
operand_of m link.Compare ts = reads m bitor ts
operand_of m link.And ts = reads m negation ts
operand_of m link.Or ts = reads m conjunct ts

abbrev pub linkage : ℕ → Link → List Token → Read Token (Tree × ℕ)
linkage m link.Compare ts = reads m compare ts
linkage m link.And ts = reads m conjunct ts
linkage m link.Or ts = reads m disjunct ts

-- from the tightest
abbrev pub links_place : Link → ℕ
links_place link.Compare = 0
links_place link.And = 3
links_place link.Or = 5

-- with which tokens a link begins
abbrev pub links_of : Link → List ℕ
links_of link.Compare = k.equal_equal ∷ k.not_equal ∷ k.less_than ∷ k.less_equal ∷ k.greater ∷ k.greater_equal ∷ k.in_word ∷ k.not ∷ k.is ∷ []
links_of link.And = k.and ∷ []
links_of link.Or = k.or ∷ []

-- a comparison of one or two words
abbrev pub comparison_on : List Token → Read Token CmpOp
comparison_on ts = pick (first_meant kind (operator_list comparisons) ts) (λ o. Found o.0.1 o.1)
    (pick (first_of kind (k.not ∷ []) ts) (λ o. wanted kind (k.in_word ∷ []) o.1 >>= λ i. Found comparison.NotIn i.1)
    (wanted kind (k.is ∷ []) ts >>= λ o. pick (first_of kind (k.not ∷ []) o.1) (λ t. Found comparison.IsNot t.1) (Found comparison.Is o.1)))

abbrev pub link_on : Link → List Token → Read Token (Option CmpOp)
link_on link.Compare ts = comparison_on ts >>= λ o. Found (Some o.0) o.1
link_on link.And ts = wanted kind (k.and ∷ []) ts >>= λ o. Found None o.1
link_on link.Or ts = wanted kind (k.or ∷ []) ts >>= λ o. Found None o.1

-- a link and an operand behind a chain
abbrev pub link_step : ℕ → Link → v.OperandChain × ℕ → List Token → Read Token (v.OperandChain × ℕ)
link_step m l s ts = link_on l ts >>= λ o. operand_of (m - 1) l o.1 >>= λ y. Found (v.operand (with_op s.0 o.0) y.0.0, max s.1 y.0.1) y.1

-- the tree of a chain
abbrev pub chain_tree : Link → v.OperandChain → Tree
chain_tree link.Compare c = Compare (at_of c.head) c.head c.ops c.more
chain_tree link.And c = And (at_of c.head) c.head c.more
chain_tree link.Or c = Or (at_of c.head) c.head c.more

-- links and operands behind a chain
abbrev pub links_more : ℕ → Link → v.OperandChain × ℕ → List Token → Read Token (v.OperandChain × ℕ)
links_more m link.Compare s ts = reads_all m {S = chain} (comparison_link (λ c. c)) s ts
links_more m link.And s ts = reads_all m {S = chain} (worded k.and (λ c. c) (part negation v.operand)) s ts
links_more m link.Or s ts = reads_all m {S = chain} (worded k.or (λ c. c) (part conjunct v.operand)) s ts
