-- THE LINES without a loop of their own, as the code goes along them; m levels are left.
use Rattle.std.proofs.Common.{◌≡◌, ℕ, ◌-◌, ◌+◌, ◌<◌, ◌≤◌, max, nat_le, Bool, true, false, cond, not, Option, Some, None, List, [], ◌∷◌, ◌++◌, refl, sym, ap, ◌∙◌, subst, arith}
use Rattle.py_source.specs.declared.pos.Pos.{Pos}
use Rattle.py_tokens.specs.declared.token.Token.{Token}
use Rattle.parsing.specs.Reading.{Read, Found, Deep, ◌>>=◌, deep_at, has}
use Rattle.grammar.specs.Levels.{readers, fits}
use Rattle.grammar_code.specs.Walk.{round, ground, up, tall, above, pick, first_of, first_meant, starts_with, wanted, walk}
use Rattle.py_cursor.specs.token_kinds.Kinds.{kind, text_of}
use Rattle.py_cursor.specs.token_kinds.Numbers as k
use Rattle.py_cursor.specs.py_expressions.Values as v
use Rattle.py_cursor.specs.py_expressions.Values.{at_of, number_in}
use Rattle.py_cursor.specs.declared.stop.Stop.{Stop}
use Rattle.py_cursor.specs.Cursor.{FailsAs, IsBlocked}
use Rattle.py_cursor.proofs.Loops.{blocked_as, fails_on}
use Rattle.grammar.proofs.Along.{no_levels}
use Rattle.grammar_code.proofs.Walk.{bind_eq, bind_found_same, walk_one_of, walked, walked_on, pick_begins, pick_wanted, round_walk}
use Rattle.py_tree.specs.declared.op.BinOp.TheVariants as binary
use Rattle.py_tree.specs.Trees.{Tree, Empty, Text, Dict, Name, Number, True, False, NoneTree, Tuple, Unary, Binary, Not, IfElse}
use Rattle.py_cursor.specs.py_expressions.Sorts.{other, atom, primary, power, unary, negation, compare, disjunct, expr, exprs, nothing, prefix, tree, quoted, row, pairs}
use Rattle.grammar.specs.Table.{when, give, ◌⨾◌, ◌∣◌}
use Rattle.py_cursor.specs.py_expressions.Lines.{expressions, no_reader, prefixes, pair, key, mark, part, expr_begins, literal_begins}
use Rattle.py_nodes.specs.Parts.{no_pairs}
use Rattle.py_expression_parser.specs.Reads.{reads, reads_all, reads_part, operator_list}
use Rattle.py_expression_parser.specs.Pieces.{constant_on, leaf_on, texts_on, texts_more, group_on, list_on, dict_on, items, pairs_more, pair_on}
use Rattle.py_expression_parser.proofs.Lines.{line, all_eat, room_goes, room_stays, two_goes, two_stays}

-- no level is left
pub expr_none : (m : ℕ) (ts : List Token) → m ≡ 0 → reads m expr ts ≡ deep_at (λ t. has (kind t) expr_begins) ts
expr_none m ts e = ap (λ v. reads v expr ts) e ∙ no_levels expressions no_reader expr ts

pub exprs_none : (m : ℕ) (ts : List Token) → m ≡ 0 → reads m exprs ts ≡ deep_at (λ t. has (kind t) expr_begins) ts
exprs_none m ts e = ap (λ v. reads v exprs ts) e ∙ no_levels expressions no_reader exprs ts

pub other_none : (m : ℕ) (ts : List Token) → m ≡ 0 → reads m other ts ≡ deep_at (λ t. has (kind t) literal_begins) ts
other_none m ts e = ap (λ v. reads v other ts) e ∙ no_levels expressions no_reader other ts

pub expr_blocked : (m : ℕ) (ts : List Token) (stop : Stop) → m ≡ 0 → IsBlocked (starts_with kind expr_begins ts) ts stop → FailsAs stop (reads m expr ts)
expr_blocked m ts stop e b = subst (λ r. FailsAs stop r) (sym (expr_none m ts e)) (blocked_as (Tree × ℕ) expr_begins ts stop b)

pub exprs_blocked : (m : ℕ) (ts : List Token) (stop : Stop) → m ≡ 0 → IsBlocked (starts_with kind expr_begins ts) ts stop → FailsAs stop (reads m exprs ts)
exprs_blocked m ts stop e b = subst (λ r. FailsAs stop r) (sym (exprs_none m ts e)) (blocked_as (Tree × ℕ) expr_begins ts stop b)

pub other_blocked : (m : ℕ) (ts : List Token) (stop : Stop) → m ≡ 0 → IsBlocked (starts_with kind literal_begins ts) ts stop → FailsAs stop (reads m other ts)
other_blocked m ts stop e b = subst (λ r. FailsAs stop r) (sym (other_none m ts e)) (blocked_as (Tree × ℕ) literal_begins ts stop b)

-- expr = or [ "if" or "else" expr ]
pub expr_shape : (m : ℕ) (ts : List Token) → 0 < m → reads m expr ts ≡ (reads m disjunct ts >>= λ y. pick (first_of kind (k.if ∷ []) y.1) (λ o. cond (fits (m - 1) y.0.1)
    (reads (m - 1) disjunct o.1 >>= λ c. wanted kind (k.else ∷ []) c.1 >>= λ e. reads (m - 1) expr e.1 >>= λ b. Found (IfElse (at_of y.0.0) y.0.0 c.0.0 b.0.0, 1 + max (max y.0.1 c.0.1) b.0.1) b.1) (Deep y.1)) (Found y.0 y.1))
expr_shape m ts h = line m expr ts h

-- power = primary [ "**" unary ]
pub power_shape : (m : ℕ) (ts : List Token) → 0 < m → reads m power ts ≡ (reads m primary ts >>= λ y. pick (first_of kind (k.double_star ∷ []) y.1) (λ o. cond (fits (m - 1) y.0.1)
    (reads (m - 1) unary o.1 >>= λ r. Found (Binary (at_of y.0.0) y.0.0 binary.Pow r.0.0, 1 + max y.0.1 r.0.1) r.1) (Deep y.1)) (Found y.0 y.1))
power_shape m ts h = line m power ts h

-- not = "not" not | compare
pub not_shape : (m : ℕ) (ts : List Token) → 0 < m → reads m negation ts ≡ pick (first_of kind (k.not ∷ []) ts) (λ o. cond (nat_le 1 (m - 1)) (reads (m - 1) negation o.1 >>= λ y. Found (Not o.0.at y.0.0, 1 + y.0.1) y.1) (Deep ts)) (reads m compare ts)
not_shape m ts h = line m negation ts h ∙ ap (λ v. pick (first_of kind (k.not ∷ []) ts) (λ o. cond (nat_le 1 (m - 1)) (reads (m - 1) negation o.1 >>= λ y. Found (Not o.0.at y.0.0, 1 + y.0.1) y.1) (Deep ts)) v) (bind_found_same (reads m compare ts))

-- unary = ( "-" | "+" | "~" ) unary | power
pub unary_shape : (m : ℕ) (ts : List Token) → 0 < m → reads m unary ts ≡ pick (first_meant kind (operator_list prefixes) ts) (λ o. cond (nat_le 1 (m - 1)) (reads (m - 1) unary o.1 >>= λ y. Found (Unary o.0.0.at o.0.1 y.0.0, 1 + y.0.1) y.1) (Deep ts)) (reads m power ts)
unary_shape m ts h = line m unary ts h
    ∙ walk_one_of expressions (m - 1) no_reader (readers expressions no_reader m) (readers expressions no_reader (m - 1)) (nat_le 1 (m - 1)) {S = nothing} {A = prefix} {B = tree} (λ _ u o. (u.at, o)) prefixes.0 prefixes.1 (tt, ground) ts (λ y. reads (m - 1) unary y.1 >>= λ e. Found (Unary y.0.0.0 y.0.0.1 e.0.0, 1 + tall (above y.0.1 e.0.1)) e.1) (reads m power ts >>= λ y. Found y.0 y.1)
    ∙ ap (λ v. pick (first_meant kind (operator_list prefixes) ts) (λ o. cond (nat_le 1 (m - 1)) (reads (m - 1) unary o.1 >>= λ y. Found (Unary o.0.0.at o.0.1 y.0.0, 1 + y.0.1) y.1) (Deep ts)) v) (bind_found_same (reads m power ts))

-- atom = NAME | other
pub atom_shape : (m : ℕ) (ts : List Token) → 0 < m → reads m atom ts ≡ pick (first_of kind (k.name ∷ []) ts) (λ o. Found (Name o.0.at (text_of o.0), 1) o.1) (reads m other ts)
atom_shape m ts h = line m atom ts h ∙ ap (λ v. pick (first_of kind (k.name ∷ []) ts) (λ o. Found (Name o.0.at (text_of o.0), 1) o.1) v) (bind_found_same (reads m other ts))

-- exprs = expr { "," expr } [ "," ]
pub exprs_shape : (m : ℕ) (ts : List Token) → 0 < m → reads m exprs ts ≡ (reads m expr ts >>= λ y. cond (starts_with kind (k.comma ∷ []) y.1) (cond (fits (m - 1) y.0.1)
    (items m (v.item (v.row (at_of y.0.0)) y.0.0, y.0.1) y.1 >>= λ r. Found (Tuple r.0.0.at r.0.0.all, 1 + r.0.1) r.1) (Deep y.1)) (Found y.0 y.1))
exprs_shape m ts h = line m exprs ts h ∙ bind_eq (reads m expr ts) _ _ (λ y rest.
    pick_begins kind (k.comma ∷ []) rest (fits (m - 1) y.1) _ (Deep rest) (Found (Tuple (at_of y.0) (v.item (v.row (at_of y.0)) y.0).all, 1 + y.1) rest) (Found y rest)
    ∙ ap (λ v. cond (starts_with kind (k.comma ∷ []) rest) (cond (fits (m - 1) y.1) v (Deep rest)) (Found y rest)) (sym (round_walk expressions (m - 1) no_reader (readers expressions no_reader m) (readers expressions no_reader (m - 1)) (all_eat m) (all_eat (m - 1)) (λ q. absurd q) {S = row} {B = tree} (when (λ r. not r.ended) (key k.comma ⨾ (part expr v.item ∣ give v.close_row))) refl (v.item (v.row (at_of y.0)) y.0, y.1) rest (λ r. Found (Tuple r.0.0.at r.0.0.all, 1 + r.0.1) r.1))))

-- other = NUMBER | "True" | "False" | "None" | TEXT { TEXT } | "(" ")" | "(" exprs ")" | "[" [ exprs ] "]" | "{" [ pair { "," pair } [ "," ] ] "}"
abbrev brackets : ℕ → List Token → Read Token (Tree × ℕ)
brackets m ts = pick (first_of kind (k.left_paren ∷ []) ts) (λ o. group_on m o.0.at o.1) (pick (first_of kind (k.left_bracket ∷ []) ts) (λ o. list_on m o.0.at o.1) (wanted kind (k.left_brace ∷ []) ts >>= λ o. dict_on m o.0.at o.1))

pick_out : {X Y Z : Type 0} (o : Option X) (f : X → Option Y) (d : Option Y) (g : Y → Z) (z : Z) → pick (pick o f d) g z ≡ pick o (λ x. pick (f x) g z) (pick d g z)
pick_out None f d g z = refl
pick_out (Some x) f d g z = refl

pick_cond : {Y Z : Type 0} (b : Bool) (y : Y) (g : Y → Z) (z : Z) → pick (cond b (Some y) None) g z ≡ cond b (g y) z
pick_cond true y g z = refl
pick_cond false y g z = refl

leaf_or : (ts : List Token) (z : Read Token (Tree × ℕ)) → pick (leaf_on ts) (λ r. r) z
    ≡ pick (first_of kind (k.number ∷ []) ts) (λ o. Found (Number o.0.at (number_in o.0.kind), 1) o.1) (pick (first_of kind (k.true ∷ []) ts) (λ o. Found (True o.0.at, 1) o.1) (pick (first_of kind (k.false ∷ []) ts) (λ o. Found (False o.0.at, 1) o.1) (pick (first_of kind (k.none ∷ []) ts) (λ o. Found (NoneTree o.0.at, 1) o.1)
    (cond (starts_with kind (k.text ∷ []) ts) (texts_on ts) z))))
leaf_or ts z = pick_out (first_of kind (k.number ∷ []) ts) _ _ (λ r. r) z
    ∙ ap (λ v. pick (first_of kind (k.number ∷ []) ts) (λ o. Found (Number o.0.at (number_in o.0.kind), 1) o.1) v)
    (pick_out (constant_on ts) _ _ (λ r. r) z
    ∙ pick_out (first_of kind (k.true ∷ []) ts) _ _ (λ o. Found (o.0, 1) o.1) (pick (cond (starts_with kind (k.text ∷ []) ts) (Some (texts_on ts)) None) (λ r. r) z)
    ∙ ap (λ v. pick (first_of kind (k.true ∷ []) ts) (λ o. Found (True o.0.at, 1) o.1) v)
    (pick_out (first_of kind (k.false ∷ []) ts) _ _ (λ o. Found (o.0, 1) o.1) (pick (cond (starts_with kind (k.text ∷ []) ts) (Some (texts_on ts)) None) (λ r. r) z)
    ∙ ap (λ v. pick (first_of kind (k.false ∷ []) ts) (λ o. Found (False o.0.at, 1) o.1) v)
    (pick_out (first_of kind (k.none ∷ []) ts) _ _ (λ o. Found (o.0, 1) o.1) (pick (cond (starts_with kind (k.text ∷ []) ts) (Some (texts_on ts)) None) (λ r. r) z)
    ∙ ap (λ v. pick (first_of kind (k.none ∷ []) ts) (λ o. Found (NoneTree o.0.at, 1) o.1) v) (pick_cond (starts_with kind (k.text ∷ []) ts) (texts_on ts) (λ r. r) z))))

abbrev leaves : List Token → Read Token (Tree × ℕ) → Read Token (Tree × ℕ)
leaves ts z = pick (first_of kind (k.number ∷ []) ts) (λ o. Found (Number o.0.at (number_in o.0.kind), 1) o.1) (pick (first_of kind (k.true ∷ []) ts) (λ o. Found (True o.0.at, 1) o.1) (pick (first_of kind (k.false ∷ []) ts) (λ o. Found (False o.0.at, 1) o.1) (pick (first_of kind (k.none ∷ []) ts) (λ o. Found (NoneTree o.0.at, 1) o.1) z)))

-- texts are read alike at whatever level
texts_same : (m : ℕ) (s : Pos × List ℕ) (ts : List Token) → (reads_all m {S = quoted} (mark (k.text ∷ []) (λ s u. (s.0, s.1 ++ text_of u))) (s, 0) ts >>= λ y. Found (Text y.0.0.0 y.0.0.1, 1 + y.0.1) y.1) ≡ texts_more s ts
unfolding round
texts_same m s ts = refl

pub pair_is : (m : ℕ) (s : v.Pairs × ℕ) (ts : List Token) → reads_part m pair s ts ≡ pair_on m s ts
pair_is m s ts = walked expressions (m - 1) no_reader (readers expressions no_reader m) (readers expressions no_reader (m - 1)) pair (s.0, up s.1) ts

abbrev dict_behind : ℕ → v.Pairs × ℕ → List Token → Read Token (Tree × ℕ)
dict_behind m p ts = pairs_more m p ts >>= λ d. wanted kind (k.right_brace ∷ []) d.1 >>= λ c. Found (Dict d.0.0.at d.0.0.names d.0.0.values, 1 + d.0.1) c.1

first_pair : (m : ℕ) (at : Pos) (ts : List Token) → walk expressions (m - 1) no_reader (readers expressions no_reader m) (readers expressions no_reader (m - 1)) true {S = pairs} {A = pairs} {B = tree} pair (no_pairs at, ground) ts (λ y. dict_behind m (y.0.0, tall y.0.1) y.1) None ≡ (pair_on m (no_pairs at, 0) ts >>= λ p. dict_behind m p.0 p.1)
first_pair m at ts = sym (walked_on expressions (m - 1) no_reader (readers expressions no_reader m) (readers expressions no_reader (m - 1)) {S = pairs} {A = pairs} {B = tree} pair (no_pairs at, ground) ts (λ p. dict_behind m p.0 p.1)) ∙ ap (λ r. r >>= λ p. dict_behind m p.0 p.1) (pair_is m (no_pairs at, 0) ts)

pub other_shape : (m : ℕ) (ts : List Token) → 0 < m → reads m other ts ≡ pick (leaf_on ts) (λ r. r) (brackets m ts)
other_shape m ts h = line m other ts h
    ∙ ap (leaves ts)
    (ap (λ z. pick (first_of kind (k.text ∷ []) ts) (λ o. reads_all m {S = quoted} (mark (k.text ∷ []) (λ s u. (s.0, s.1 ++ text_of u))) ((o.0.at, text_of o.0), 0) o.1 >>= λ y. Found (Text y.0.0.0 y.0.0.1, 1 + y.0.1) y.1)
    (pick (first_of kind (k.left_paren ∷ []) ts) (λ o. group_on m o.0.at o.1) (pick (first_of kind (k.left_bracket ∷ []) ts) (λ o. list_on m o.0.at o.1) z)))
    (bind_eq (wanted kind (k.left_brace ∷ []) ts) _ _ (λ o rest. ap (λ z. pick (first_of kind (k.right_brace ∷ []) rest) (λ c. Found (Dict o.at Empty Empty, 1) c.1) z) (first_pair m o.at rest)))
    ∙ pick_wanted kind (k.text ∷ []) ts _ (brackets m ts)
    ∙ ap (λ z. cond (starts_with kind (k.text ∷ []) ts) z (brackets m ts)) (bind_eq (wanted kind (k.text ∷ []) ts) _ _ (λ o rest. texts_same m (o.at, text_of o) rest)))
    ∙ sym (leaf_or ts (brackets m ts))

abbrev pair_of : v.Row → ℕ → v.Row × ℕ
pair_of r l = (r, l)

exprs_begun : (m : ℕ) (ts : List Token) (e : Tree) (h : ℕ) (rest : List Token) → 0 < h → h < m → reads m expr ts ≡ Found (e, h) rest → starts_with kind (k.comma ∷ []) rest ≡ true → reads m exprs ts ≡ (items m (v.item (v.row (at_of e)) e, h) rest >>= λ r. Found (Tuple r.0.0.at r.0.0.all, 1 + r.0.1) r.1)
exprs_begun m ts e h rest i j d b = exprs_shape m ts (omega arith)
    ∙ ap (λ r. r >>= λ y. cond (starts_with kind (k.comma ∷ []) y.1) (cond (fits (m - 1) y.0.1) (items m (v.item (v.row (at_of y.0.0)) y.0.0, y.0.1) y.1 >>= λ r. Found (Tuple r.0.0.at r.0.0.all, 1 + r.0.1) r.1) (Deep y.1)) (Found y.0 y.1)) d
    ∙ ap (λ w. cond w (cond (fits (m - 1) h) (items m (v.item (v.row (at_of e)) e, h) rest >>= λ r. Found (Tuple r.0.0.at r.0.0.all, 1 + r.0.1) r.1) (Deep rest)) (Found (e, h) rest)) b
    ∙ ap (λ w. cond w (items m (v.item (v.row (at_of e)) e, h) rest >>= λ r. Found (Tuple r.0.0.at r.0.0.all, 1 + r.0.1) r.1) (Deep rest)) (room_goes m h i j)

-- the tuple of items behind the first, as the code meets it
pub exprs_stops : (m : ℕ) (ts : List Token) (e : Tree) (h : ℕ) (rest : List Token) (r : v.Row) (l : ℕ) (stop : Stop) → 0 < h → h < m → reads m expr ts ≡ Found (e, h) rest → starts_with kind (k.comma ∷ []) rest ≡ true → r ≡ v.item (v.row (at_of e)) e → l ≡ h → FailsAs stop (items m (r, l) rest) → FailsAs stop (reads m exprs ts)
exprs_stops m ts e h rest r l stop i j d b p q f = subst (λ x. FailsAs stop x) (sym (exprs_begun m ts e h rest i j d b)) (fails_on stop (items m (r, l) rest) (items m (v.item (v.row (at_of e)) e, h) rest >>= λ r. Found (Tuple r.0.0.at r.0.0.all, 1 + r.0.1) r.1) (λ r. Found (Tuple r.0.0.at r.0.0.all, 1 + r.0.1) r.1) f (ap (λ x. items m x rest >>= λ r. Found (Tuple r.0.0.at r.0.0.all, 1 + r.0.1) r.1) (both p q)))
  where
    both : r ≡ v.item (v.row (at_of e)) e → l ≡ h → pair_of r l ≡ pair_of (v.item (v.row (at_of e)) e) h
    both p q = rw (p, q) refl

pub exprs_whole : (m : ℕ) (ts : List Token) (e : Tree) (h : ℕ) (rest : List Token) (r : v.Row) (l : ℕ) (z : v.Row) (j : ℕ) (after : List Token) (x : Tree) (y : ℕ) → 0 < h → h < m → reads m expr ts ≡ Found (e, h) rest → starts_with kind (k.comma ∷ []) rest ≡ true → r ≡ v.item (v.row (at_of e)) e → l ≡ h → items m (r, l) rest ≡ Found (z, j) after
    → x ≡ Tuple z.at z.all → y ≡ 1 + j → reads m exprs ts ≡ Found (x, y) after
exprs_whole m ts e h rest r l z j after x y i g d b p q f u w = exprs_begun m ts e h rest i g d b
    ∙ ap (λ s. items m s rest >>= λ r. Found (Tuple r.0.0.at r.0.0.all, 1 + r.0.1) r.1) (both p q)
    ∙ ap (λ s. s >>= λ r. Found (Tuple r.0.0.at r.0.0.all, 1 + r.0.1) r.1) f
    ∙ rw (u, w) refl
  where
    both : r ≡ v.item (v.row (at_of e)) e → l ≡ h → pair_of (v.item (v.row (at_of e)) e) h ≡ pair_of r l
    both p q = rw (p, q) refl

pub ruleset expr_rules = (expr_blocked, expr_shape, room_goes, room_stays)

pub ruleset exprs_rules = (exprs_blocked, exprs_shape, room_goes, room_stays)

pub ruleset power_rules = (power_shape, room_goes, room_stays)

pub ruleset not_rules = (not_shape, two_goes, two_stays)

pub ruleset unary_rules = (unary_shape, two_goes, two_stays)

pub ruleset other_rules = (other_blocked, other_shape)
