-- CHAINS: comparisons, `and`, `or`.
use Rattle.std.proofs.Common.{◌≡◌, ℕ, ◌-◌, ◌+◌, ◌<◌, ◌≤◌, max, true, false, cond, Option, List, [], ◌∷◌, length, refl, sym, ap, ◌∙◌, subst, arith}
use Rattle.py_tokens.specs.declared.token.Token.{Token}
use Rattle.parsing.specs.Reading.{Read, Found, Deep, ◌>>=◌}
use Rattle.parsing.proofs.Loops.{bind_assoc}
use Rattle.grammar.specs.Levels.{readers, fits}
use Rattle.grammar_code.specs.Walk.{up, tall, above, pick, first_of, first_meant, starts_with, wanted, whole}
use Rattle.py_cursor.specs.token_kinds.Kinds.{kind}
use Rattle.py_cursor.specs.token_kinds.Numbers as k
use Rattle.py_cursor.specs.py_expressions.Values as v
use Rattle.py_cursor.specs.declared.stop.Stop.{Stop}
use Rattle.py_cursor.specs.Cursor.{FailsAs}
use Rattle.grammar_code.proofs.Walk.{bind_eq, pick_bind, pick_eq, round_once, part_eats, chain_read, walk_one_of, walked}
use Rattle.grammar.specs.Table.{room, give, node, many, ◌⨾◌, ◌∣◌}
use Rattle.py_tree.specs.declared.op.CmpOp.{CmpOp}
use Rattle.py_tree.specs.declared.op.CmpOp.TheVariants as comparison
use Rattle.py_tree.specs.Trees.{Tree}
use Rattle.py_cursor.specs.py_expressions.Sorts.{tree, chain, compare, negation, conjunct, disjunct, bitor}
use Rattle.py_cursor.specs.py_expressions.Lines.{P, expressions, no_reader, comparison_link, worded, part, comparisons}
use Rattle.py_nodes.specs.Parts.{with_op}
use Rattle.py_cursor.proofs.Loops.{begun_over, begun_fails, begun_next, fails_on}
use Rattle.py_expression_parser.specs.declared.links.Link.{Link}
use Rattle.py_expression_parser.specs.declared.links.Link.TheVariants as link
use Rattle.py_expression_parser.specs.Reads.{reads, reads_part, operator_list}
use Rattle.py_expression_parser.specs.Pieces.{operand_of, linkage, links_of, comparison_on, link_on, link_step, links_more, chain_tree}
use Rattle.py_expression_parser.proofs.Lines.{line, takes, all_eat, room_goes, room_stays}

-- a comparison with what is read behind it
comparison_then : {B : Type 0} (ts : List Token) (k1 : CmpOp × List Token → Read Token B) → (comparison_on ts >>= k1) ≡ pick (first_meant kind (operator_list comparisons) ts) (λ o. k1 (o.0.1, o.1))
    (pick (first_of kind (k.not ∷ []) ts) (λ o. wanted kind (k.in_word ∷ []) o.1 >>= λ i. k1 (comparison.NotIn, i.1)) (wanted kind (k.is ∷ []) ts >>= λ o. pick (first_of kind (k.not ∷ []) o.1) (λ t. k1 (comparison.IsNot, t.1)) (k1 (comparison.Is, o.1))))
comparison_then ts k1 = pick_bind (first_meant kind (operator_list comparisons) ts) _ _ k1
    ∙ ap (λ z. pick (first_meant kind (operator_list comparisons) ts) (λ o. k1 (o.0.1, o.1)) z)
    (pick_bind (first_of kind (k.not ∷ []) ts) _ _ k1
    ∙ pick_eq (first_of kind (k.not ∷ []) ts) _ _ _ (λ o. bind_assoc (wanted kind (k.in_word ∷ []) o.1) _ k1)
    ∙ ap (λ z. pick (first_of kind (k.not ∷ []) ts) (λ o. wanted kind (k.in_word ∷ []) o.1 >>= λ i. k1 (comparison.NotIn, i.1)) z)
    (bind_assoc (wanted kind (k.is ∷ []) ts) _ k1 ∙ bind_eq (wanted kind (k.is ∷ []) ts) _ _ (λ o rest. pick_bind (first_of kind (k.not ∷ []) rest) _ _ k1)))

abbrev link_part : Link → P chain chain
link_part link.Compare = comparison_link (λ c. c)
link_part link.And = worded k.and (λ c. c) (part negation v.operand)
link_part link.Or = worded k.or (λ c. c) (part conjunct v.operand)

-- a step of a chain, as the code takes it
step_is : (m : ℕ) (l : Link) (c : v.OperandChain × ℕ) (ts : List Token) → reads_part m (link_part l) c ts ≡ link_step m l c ts
step_is m link.And c ts = walked expressions (m - 1) no_reader (readers expressions no_reader m) (readers expressions no_reader (m - 1)) {S = chain} {A = chain} (link_part link.And) (c.0, up c.1) ts ∙ sym (bind_assoc (wanted kind (k.and ∷ []) ts) _ _)
step_is m link.Or c ts = walked expressions (m - 1) no_reader (readers expressions no_reader m) (readers expressions no_reader (m - 1)) {S = chain} {A = chain} (link_part link.Or) (c.0, up c.1) ts ∙ sym (bind_assoc (wanted kind (k.or ∷ []) ts) _ _)
step_is m link.Compare c ts = walked expressions (m - 1) no_reader (readers expressions no_reader m) (readers expressions no_reader (m - 1)) {S = chain} {A = chain} (link_part link.Compare) (c.0, up c.1) ts
    ∙ walk_one_of expressions (m - 1) no_reader (readers expressions no_reader m) (readers expressions no_reader (m - 1)) true {S = chain} {A = chain} {B = chain} (λ c _ o. v.op_more c o) comparisons.0 comparisons.1 (c.0, up c.1) ts (λ y. reads (m - 1) bitor y.1 >>= λ e. Found (v.operand y.0.0 e.0.0, tall (above y.0.1 e.0.1)) e.1) _
    ∙ sym (comparison_then ts (λ o. reads (m - 1) bitor o.1 >>= λ e. Found (v.operand (v.op_more c.0 o.0) e.0.0, max c.1 e.0.1) e.1))
    ∙ sym (bind_assoc (comparison_on ts) _ _)

links_line : (m : ℕ) (l : Link) (c : v.OperandChain × ℕ) (ts : List Token) → links_more m l c ts ≡ cond (starts_with kind (links_of l) ts) (cond true (link_step m l c ts >>= λ y. links_more m l y.0 y.1) (Deep ts)) (Found c ts)
links_line m link.Compare c ts = round_once expressions (m - 1) no_reader (readers expressions no_reader m) (readers expressions no_reader (m - 1)) (all_eat m) (all_eat (m - 1)) (λ q. absurd q) {S = chain} (link_part link.Compare) refl c ts ∙ ap (λ r. cond (starts_with kind (links_of link.Compare) ts) (r >>= λ y. links_more m link.Compare y.0 y.1) (Found c ts)) (step_is m link.Compare c ts)
links_line m link.And c ts = round_once expressions (m - 1) no_reader (readers expressions no_reader m) (readers expressions no_reader (m - 1)) (all_eat m) (all_eat (m - 1)) (λ q. absurd q) {S = chain} (link_part link.And) refl c ts ∙ ap (λ r. cond (starts_with kind (links_of link.And) ts) (r >>= λ y. links_more m link.And y.0 y.1) (Found c ts)) (step_is m link.And c ts)
links_line m link.Or c ts = round_once expressions (m - 1) no_reader (readers expressions no_reader m) (readers expressions no_reader (m - 1)) (all_eat m) (all_eat (m - 1)) (λ q. absurd q) {S = chain} (link_part link.Or) refl c ts ∙ ap (λ r. cond (starts_with kind (links_of link.Or) ts) (r >>= λ y. links_more m link.Or y.0 y.1) (Found c ts)) (step_is m link.Or c ts)

pub links_over : (m : ℕ) (l : Link) (c : v.OperandChain × ℕ) (ts : List Token) → starts_with kind (links_of l) ts ≡ false → links_more m l c ts ≡ Found c ts
links_over m l c ts e = begun_over (links_more m l) (links_of l) (λ _. true) (link_step m l) (λ s ts. Found s ts) (links_line m l) c ts e

-- a fault of the link, or of what stands behind it
pub link_fails : (m : ℕ) (l : Link) (c : v.OperandChain × ℕ) (ts : List Token) (stop : Stop) (whole : Read Token (v.OperandChain × ℕ)) → starts_with kind (links_of l) ts ≡ true → FailsAs stop (link_on l ts) → links_more m l c ts ≡ whole → FailsAs stop whole
link_fails m l c ts stop whole e d w = begun_fails (links_more m l) (links_of l) (λ _. true) (link_step m l) (λ s ts. Found s ts) (links_line m l) c ts stop whole e refl (fails_on stop (link_on l ts) (link_step m l c ts) _ d refl) w

pub operand_fails : (m : ℕ) (l : Link) (c : v.OperandChain × ℕ) (ts : List Token) (o : Option CmpOp) (after : List Token) (stop : Stop) (whole : Read Token (v.OperandChain × ℕ)) → starts_with kind (links_of l) ts ≡ true → link_on l ts ≡ Found o after → FailsAs stop (operand_of (m - 1) l after) → links_more m l c ts ≡ whole → FailsAs stop whole
operand_fails m l c ts o after stop whole e i d w = begun_fails (links_more m l) (links_of l) (λ _. true) (link_step m l) (λ s ts. Found s ts) (links_line m l) c ts stop whole e refl
    (fails_on stop (operand_of (m - 1) l after) (link_step m l c ts) (λ y. Found (v.operand (with_op c.0 o) y.0.0, max c.1 y.0.1) y.1) d (sym (ap (λ r. r >>= λ o. operand_of (m - 1) l o.1 >>= λ y. Found (v.operand (with_op c.0 o.0) y.0.0, max c.1 y.0.1) y.1) i))) w

pub links_next : (m : ℕ) (l : Link) (c : v.OperandChain × ℕ) (ts : List Token) (o : Option CmpOp) (after : List Token) (y : Tree × ℕ) (rest : List Token) (t : v.OperandChain) (h : ℕ) (whole : Read Token (v.OperandChain × ℕ)) → starts_with kind (links_of l) ts ≡ true → link_on l ts ≡ Found o after → operand_of (m - 1) l after ≡ Found y rest
    → t ≡ v.operand (with_op c.0 o) y.0 → h ≡ max c.1 y.1 → links_more m l c ts ≡ whole → links_more m l (t, h) rest ≡ whole
links_next m l c ts o after y rest t h whole e i d a b w = begun_next (links_more m l) (links_of l) (λ _. true) (link_step m l) (λ s ts. Found s ts) (links_line m l) c ts (t, h) rest whole e refl
    (ap (λ r. r >>= λ o. operand_of (m - 1) l o.1 >>= λ y. Found (v.operand (with_op c.0 o.0) y.0.0, max c.1 y.0.1) y.1) i ∙ ap (λ r. r >>= λ y. Found (v.operand (with_op c.0 o) y.0.0, max c.1 y.0.1) y.1) d ∙ rw (a, b) refl) w

-- operand { link operand }
abbrev chained : ℕ → Link → Tree × ℕ → List Token → Read Token (Tree × ℕ)
chained m l y ts = cond (starts_with kind (links_of l) ts) (cond (fits (m - 1) y.1) (links_more m l (v.operand_chain y.0, y.1) ts >>= λ c. Found (chain_tree l c.0.0, 1 + c.0.1) c.1) (Deep ts)) (Found y ts)

pub chained_shape : (m : ℕ) (l : Link) (ts : List Token) → 0 < m → linkage m l ts ≡ (operand_of m l ts >>= λ y. chained m l y.0 y.1)
chained_shape m link.Compare ts h = line m compare ts h ∙ bind_eq (reads m bitor ts) _ _ (λ y rest. sym (walked expressions (m - 1) no_reader (readers expressions no_reader m) (readers expressions no_reader (m - 1)) {S = tree} {A = tree} (room ((comparison_link v.operand_chain) ⨾ many (link_part link.Compare) ⨾ node (chain_tree link.Compare)) ∣ give (λ e. e)) (y.0, up y.1) rest)
    ∙ chain_read expressions (m - 1) no_reader (readers expressions no_reader m) (readers expressions no_reader (m - 1)) (all_eat m) (all_eat (m - 1)) (λ q. absurd q) {S = tree} {A = chain} (comparison_link v.operand_chain) (link_part link.Compare) (chain_tree link.Compare) v.operand_chain refl y rest refl (walked expressions (m - 1) no_reader (readers expressions no_reader m) (readers expressions no_reader (m - 1)) {S = tree} {A = chain} (comparison_link v.operand_chain) (y.0, up y.1) rest ∙ sym (walked expressions (m - 1) no_reader (readers expressions no_reader m) (readers expressions no_reader (m - 1)) {S = chain} {A = chain} (link_part link.Compare) (v.operand_chain y.0, up y.1) rest)))
chained_shape m link.And ts h = line m conjunct ts h ∙ bind_eq (reads m negation ts) _ _ (λ y rest. sym (walked expressions (m - 1) no_reader (readers expressions no_reader m) (readers expressions no_reader (m - 1)) {S = tree} {A = tree} (room ((worded k.and v.operand_chain (part negation v.operand)) ⨾ many (link_part link.And) ⨾ node (chain_tree link.And)) ∣ give (λ e. e)) (y.0, up y.1) rest)
    ∙ chain_read expressions (m - 1) no_reader (readers expressions no_reader m) (readers expressions no_reader (m - 1)) (all_eat m) (all_eat (m - 1)) (λ q. absurd q) {S = tree} {A = chain} (worded k.and v.operand_chain (part negation v.operand)) (link_part link.And) (chain_tree link.And) v.operand_chain refl y rest refl refl)
chained_shape m link.Or ts h = line m disjunct ts h ∙ bind_eq (reads m conjunct ts) _ _ (λ y rest. sym (walked expressions (m - 1) no_reader (readers expressions no_reader m) (readers expressions no_reader (m - 1)) {S = tree} {A = tree} (room ((worded k.or v.operand_chain (part conjunct v.operand)) ⨾ many (link_part link.Or) ⨾ node (chain_tree link.Or)) ∣ give (λ e. e)) (y.0, up y.1) rest)
    ∙ chain_read expressions (m - 1) no_reader (readers expressions no_reader m) (readers expressions no_reader (m - 1)) (all_eat m) (all_eat (m - 1)) (λ q. absurd q) {S = tree} {A = chain} (worded k.or v.operand_chain (part conjunct v.operand)) (link_part link.Or) (chain_tree link.Or) v.operand_chain refl y rest refl refl)

chained_begun : (m : ℕ) (l : Link) (ts : List Token) (y : Tree × ℕ) (rest : List Token) → 0 < y.1 → y.1 < m → operand_of m l ts ≡ Found y rest → starts_with kind (links_of l) rest ≡ true → linkage m l ts ≡ (links_more m l (v.operand_chain y.0, y.1) rest >>= λ c. Found (chain_tree l c.0.0, 1 + c.0.1) c.1)
chained_begun m l ts y rest i j d b = chained_shape m l ts (omega arith)
    ∙ ap (λ r. r >>= λ y. chained m l y.0 y.1) d
    ∙ ap (λ w. cond w (cond (fits (m - 1) y.1) (links_more m l (v.operand_chain y.0, y.1) rest >>= λ c. Found (chain_tree l c.0.0, 1 + c.0.1) c.1) (Deep rest)) (Found y rest)) b
    ∙ ap (λ w. cond w (links_more m l (v.operand_chain y.0, y.1) rest >>= λ c. Found (chain_tree l c.0.0, 1 + c.0.1) c.1) (Deep rest)) (room_goes m y.1 i j)

abbrev with_height : v.OperandChain → ℕ → v.OperandChain × ℕ
with_height c h = (c, h)

begun_alike : (c d : v.OperandChain) (h l : ℕ) → c ≡ d → h ≡ l → with_height c h ≡ with_height d l
begun_alike c d h l p e = rw (p, e) refl

-- links and operands behind the first operand, as the code meets them
pub chained_stops : (m : ℕ) (l : Link) (ts : List Token) (y : Tree × ℕ) (rest : List Token) (c : v.OperandChain) (h : ℕ) (stop : Stop) → 0 < y.1 → y.1 < m → operand_of m l ts ≡ Found y rest → starts_with kind (links_of l) rest ≡ true → c ≡ v.operand_chain y.0 → h ≡ y.1 → FailsAs stop (links_more m l (c, h) rest) → FailsAs stop (linkage m l ts)
chained_stops m l ts y rest c h stop i j d b p e f = subst (λ r. FailsAs stop r) (sym (chained_begun m l ts y rest i j d b)) (fails_on stop (links_more m l (c, h) rest) (links_more m l (v.operand_chain y.0, y.1) rest >>= λ c. Found (chain_tree l c.0.0, 1 + c.0.1) c.1) (λ c. Found (chain_tree l c.0.0, 1 + c.0.1) c.1) f (ap (λ x. links_more m l x rest >>= λ c. Found (chain_tree l c.0.0, 1 + c.0.1) c.1) (begun_alike c (v.operand_chain y.0) h y.1 p e)))

pub chained_whole : (m : ℕ) (l : Link) (ts : List Token) (y : Tree × ℕ) (rest : List Token) (c : v.OperandChain) (h : ℕ) (z : v.OperandChain) (n : ℕ) (after : List Token) → 0 < y.1 → y.1 < m → operand_of m l ts ≡ Found y rest → starts_with kind (links_of l) rest ≡ true → c ≡ v.operand_chain y.0 → h ≡ y.1 → links_more m l (c, h) rest ≡ Found (z, n) after → linkage m l ts ≡ Found (chain_tree l z, 1 + n) after
chained_whole m l ts y rest c h z n after i j d b p e f = chained_begun m l ts y rest i j d b
    ∙ ap (λ x. links_more m l x rest >>= λ c. Found (chain_tree l c.0.0, 1 + c.0.1) c.1) (sym (begun_alike c (v.operand_chain y.0) h y.1 p e))
    ∙ ap (λ r. r >>= λ c. Found (chain_tree l c.0.0, 1 + c.0.1) c.1) f

pub operand_takes : (m : ℕ) (l : Link) (ts : List Token) (y : Tree × ℕ) (rest : List Token) → operand_of m l ts ≡ Found y rest → length rest < length ts
operand_takes m link.Compare ts y rest e = takes m bitor ts y rest e
operand_takes m link.And ts y rest e = takes m negation ts y rest e
operand_takes m link.Or ts y rest e = takes m conjunct ts y rest e

step_takes : (m : ℕ) (l : Link) (c : v.OperandChain × ℕ) (ts : List Token) (y : v.OperandChain × ℕ) (rest : List Token) → link_step m l c ts ≡ Found y rest → length rest < length ts
step_takes m link.Compare c ts y rest e = part_eats expressions (m - 1) no_reader (readers expressions no_reader m) (readers expressions no_reader (m - 1)) (all_eat m) (all_eat (m - 1)) (λ q. absurd q) {S = chain} {A = chain} (link_part link.Compare) refl c ts y rest (step_is m link.Compare c ts ∙ e)
step_takes m link.And c ts y rest e = part_eats expressions (m - 1) no_reader (readers expressions no_reader m) (readers expressions no_reader (m - 1)) (all_eat m) (all_eat (m - 1)) (λ q. absurd q) {S = chain} {A = chain} (link_part link.And) refl c ts y rest (step_is m link.And c ts ∙ e)
step_takes m link.Or c ts y rest e = part_eats expressions (m - 1) no_reader (readers expressions no_reader m) (readers expressions no_reader (m - 1)) (all_eat m) (all_eat (m - 1)) (λ q. absurd q) {S = chain} {A = chain} (link_part link.Or) refl c ts y rest (step_is m link.Or c ts ∙ e)

pub link_takes : (m : ℕ) (l : Link) (c : v.OperandChain × ℕ) (ts : List Token) (o : Option CmpOp) (after : List Token) (y : Tree × ℕ) (rest : List Token) → link_on l ts ≡ Found o after → operand_of (m - 1) l after ≡ Found y rest → length rest < length ts
link_takes m l c ts o after y rest i d = step_takes m l c ts (v.operand (with_op c.0 o) y.0, max c.1 y.1) rest
    (ap (λ r. r >>= λ o. operand_of (m - 1) l o.1 >>= λ y. Found (v.operand (with_op c.0 o.0) y.0.0, max c.1 y.0.1) y.1) i ∙ ap (λ r. r >>= λ y. Found (v.operand (with_op c.0 o) y.0.0, max c.1 y.0.1) y.1) d)

pub ruleset chained_rules = (chained_shape, room_goes, room_stays)
