-- ITEMS with commas between them: expressions, pairs of a dictionary, arguments.
use Rattle.std.proofs.Common.{◌≡◌, ℕ, ◌-◌, ◌+◌, ◌<◌, ◌≤◌, max, true, false, cond, not, Option, Some, None, List, [], ◌∷◌, length, refl, sym, ap, ◌∙◌, arith}
use Rattle.py_tokens.specs.declared.token.Token.{Token}
use Rattle.parsing.specs.Reading.{Read, Found, ◌>>=◌, seen_or}
use Rattle.grammar.specs.Levels.{readers}
use Rattle.grammar_code.specs.Walk.{ground, up, pick, first_of, starts_with, wanted, whole}
use Rattle.py_cursor.specs.token_kinds.Kinds.{kind}
use Rattle.py_cursor.specs.token_kinds.Numbers as k
use Rattle.py_cursor.specs.py_expressions.Values as v
use Rattle.py_cursor.specs.declared.stop.Stop.{Stop}
use Rattle.py_cursor.specs.Cursor.{FailsAs}
use Rattle.grammar_code.proofs.Walk.{bind_eq, pick_eq, part_eats, round_commas, walked, walked_on}
use Rattle.py_tree.specs.declared.expr.ArgName.{ArgName}
use Rattle.py_tree.specs.Trees as t
use Rattle.py_tree.specs.Trees.{Tree}
use Rattle.py_cursor.specs.py_expressions.Sorts.{expr, row, pairs, args, finished, arguments}
use Rattle.py_cursor.specs.py_expressions.Lines.{expressions, no_reader, part, pair, no_more, arg, expr_begins}
use Rattle.py_cursor.proofs.Loops.{items_over, items_end, items_fails, items_next, fails_on}
use Rattle.py_expression_parser.specs.Reads.{reads, reads_part}
use Rattle.py_expression_parser.specs.Pieces.{items, pairs_more, pair_on, args_more, arg_on, assigned_on}
use Rattle.py_expression_parser.proofs.Lines.{line, all_eat}
use Rattle.py_expression_parser.proofs.Shapes.{pair_is}

-- an expression behind others
abbrev pub item_on : ℕ → v.Row × ℕ → List Token → Read Token (v.Row × ℕ)
item_on m s ts = reads (m - 1) expr ts >>= λ y. Found (v.item s.0 y.0.0, max s.1 y.0.1) y.1

row_done : (m : ℕ) (s : v.Row × ℕ) (ts : List Token) → items m (v.close_row s.0, s.1) ts ≡ Found (v.close_row s.0, s.1) ts
row_done m s ts = round_commas expressions (m - 1) no_reader (readers expressions no_reader m) (readers expressions no_reader (m - 1)) (all_eat m) (all_eat (m - 1)) (λ q. absurd q) {S = row} (λ r. not r.ended) (k.comma ∷ []) (λ r _. r) (part expr v.item) v.close_row (v.close_row s.0, s.1) ts

row_both : (m : ℕ) (s : v.Row × ℕ) (ts : List Token) → cond (starts_with kind expr_begins ts) (reads_part m {S = row} (part expr v.item) s ts >>= λ y. items m y.0 y.1) (items m (v.close_row s.0, s.1) ts) ≡ cond (starts_with kind expr_begins ts) (item_on m s ts >>= λ y. items m y.0 y.1) (Found (v.close_row s.0, s.1) ts)
row_both m s ts = ap (λ z. cond (starts_with kind expr_begins ts) (reads_part m {S = row} (part expr v.item) s ts >>= λ y. items m y.0 y.1) z) (row_done m s ts)

pub row_line : (m : ℕ) (s : v.Row × ℕ) (ts : List Token) → s.0.ended ≡ false → items m s ts ≡ pick (first_of kind (k.comma ∷ []) ts) (λ o. cond (starts_with kind expr_begins o.1) (item_on m s o.1 >>= λ y. items m y.0 y.1) (Found (v.close_row s.0, s.1) o.1)) (Found s ts)
row_line m s ts h = round_commas expressions (m - 1) no_reader (readers expressions no_reader m) (readers expressions no_reader (m - 1)) (all_eat m) (all_eat (m - 1)) (λ q. absurd q) {S = row} (λ r. not r.ended) (k.comma ∷ []) (λ r _. r) (part expr v.item) v.close_row s ts
    ∙ ap (λ b. cond (not b) (pick (first_of kind (k.comma ∷ []) ts) (λ o. cond (starts_with kind expr_begins o.1) (reads_part m {S = row} (part expr v.item) s o.1 >>= λ y. items m y.0 y.1) (items m (v.close_row s.0, s.1) o.1)) (Found s ts)) (Found s ts)) h
    ∙ pick_eq (first_of kind (k.comma ∷ []) ts) _ _ (Found s ts) (λ o. row_both m s o.1)

pub row_over : (m : ℕ) (s : v.Row × ℕ) (ts : List Token) → s.0.ended ≡ false → first_of kind (k.comma ∷ []) ts ≡ None → items m s ts ≡ Found s ts
row_over m s ts h e = items_over (items m) (k.comma ∷ []) expr_begins (item_on m) (λ s. (v.close_row s.0, s.1)) (λ s ts. Found s ts) (λ s. s.0.ended ≡ false) (row_line m) s ts h e

pub row_end : (m : ℕ) (s : v.Row × ℕ) (ts : List Token) (o : Token) (after : List Token) (t : v.Row) (l : ℕ) (whole : Read Token (v.Row × ℕ)) → s.0.ended ≡ false → first_of kind (k.comma ∷ []) ts ≡ Some (o, after) → starts_with kind expr_begins after ≡ false → t ≡ v.close_row s.0 → l ≡ s.1 → items m s ts ≡ whole → whole ≡ Found (t, l) after
row_end m s ts o after t l whole h e i j d w = items_end (items m) (k.comma ∷ []) expr_begins (item_on m) (λ s. (v.close_row s.0, s.1)) (λ s ts. Found s ts) (λ s. s.0.ended ≡ false) (row_line m) s ts o after (t, l) whole h e i (rw (j, d) refl) w

pub row_fails : (m : ℕ) (s : v.Row × ℕ) (ts : List Token) (o : Token) (after : List Token) (stop : Stop) (whole : Read Token (v.Row × ℕ)) → s.0.ended ≡ false → first_of kind (k.comma ∷ []) ts ≡ Some (o, after) → starts_with kind expr_begins after ≡ true → FailsAs stop (item_on m s after) → items m s ts ≡ whole → FailsAs stop whole
row_fails m s ts o after stop whole h e i d w = items_fails (items m) (k.comma ∷ []) expr_begins (item_on m) (λ s. (v.close_row s.0, s.1)) (λ s ts. Found s ts) (λ s. s.0.ended ≡ false) (row_line m) s ts o after stop whole h e i d w

pub row_next : (m : ℕ) (s : v.Row × ℕ) (ts : List Token) (o : Token) (after : List Token) (t : v.Row × ℕ) (rest : List Token) (whole : Read Token (v.Row × ℕ)) → s.0.ended ≡ false → first_of kind (k.comma ∷ []) ts ≡ Some (o, after) → starts_with kind expr_begins after ≡ true → item_on m s after ≡ Found t rest → items m s ts ≡ whole → items m t rest ≡ whole
row_next m s ts o after t rest whole h e i d w = items_next (items m) (k.comma ∷ []) expr_begins (item_on m) (λ s. (v.close_row s.0, s.1)) (λ s ts. Found s ts) (λ s. s.0.ended ≡ false) (row_line m) s ts o after t rest whole h e i d w

pairs_done : (m : ℕ) (s : v.Pairs × ℕ) (ts : List Token) → pairs_more m (no_more s.0, s.1) ts ≡ Found (no_more s.0, s.1) ts
pairs_done m s ts = round_commas expressions (m - 1) no_reader (readers expressions no_reader m) (readers expressions no_reader (m - 1)) (all_eat m) (all_eat (m - 1)) (λ q. absurd q) {S = pairs} (λ r. not r.ended) (k.comma ∷ []) (λ r _. r) pair no_more (no_more s.0, s.1) ts

pairs_both : (m : ℕ) (s : v.Pairs × ℕ) (ts : List Token) → cond (starts_with kind expr_begins ts) (reads_part m pair s ts >>= λ y. pairs_more m y.0 y.1) (pairs_more m (no_more s.0, s.1) ts) ≡ cond (starts_with kind expr_begins ts) (pair_on m s ts >>= λ y. pairs_more m y.0 y.1) (Found (no_more s.0, s.1) ts)
pairs_both m s ts = ap (λ v. cond (starts_with kind expr_begins ts) (reads_part m pair s ts >>= λ y. pairs_more m y.0 y.1) v) (pairs_done m s ts) ∙ ap (λ v. cond (starts_with kind expr_begins ts) (v >>= λ y. pairs_more m y.0 y.1) (Found (no_more s.0, s.1) ts)) (pair_is m s ts)

pub pairs_line : (m : ℕ) (s : v.Pairs × ℕ) (ts : List Token) → s.0.ended ≡ false → pairs_more m s ts ≡ pick (first_of kind (k.comma ∷ []) ts) (λ o. cond (starts_with kind expr_begins o.1) (pair_on m s o.1 >>= λ y. pairs_more m y.0 y.1) (Found (no_more s.0, s.1) o.1)) (Found s ts)
pairs_line m s ts h = round_commas expressions (m - 1) no_reader (readers expressions no_reader m) (readers expressions no_reader (m - 1)) (all_eat m) (all_eat (m - 1)) (λ q. absurd q) {S = pairs} (λ r. not r.ended) (k.comma ∷ []) (λ r _. r) pair no_more s ts
    ∙ ap (λ b. cond (not b) (pick (first_of kind (k.comma ∷ []) ts) (λ o. cond (starts_with kind expr_begins o.1) (reads_part m pair s o.1 >>= λ y. pairs_more m y.0 y.1) (pairs_more m (no_more s.0, s.1) o.1)) (Found s ts)) (Found s ts)) h
    ∙ pick_eq (first_of kind (k.comma ∷ []) ts) _ _ (Found s ts) (λ o. pairs_both m s o.1)

pub pairs_over : (m : ℕ) (s : v.Pairs × ℕ) (ts : List Token) → s.0.ended ≡ false → first_of kind (k.comma ∷ []) ts ≡ None → pairs_more m s ts ≡ Found s ts
pairs_over m s ts h e = items_over (pairs_more m) (k.comma ∷ []) expr_begins (pair_on m) (λ s. (no_more s.0, s.1)) (λ s ts. Found s ts) (λ s. s.0.ended ≡ false) (pairs_line m) s ts h e

pub pairs_end : (m : ℕ) (s : v.Pairs × ℕ) (ts : List Token) (o : Token) (after : List Token) (t : v.Pairs) (l : ℕ) (whole : Read Token (v.Pairs × ℕ)) → s.0.ended ≡ false → first_of kind (k.comma ∷ []) ts ≡ Some (o, after) → starts_with kind expr_begins after ≡ false → t ≡ no_more s.0 → l ≡ s.1 → pairs_more m s ts ≡ whole → whole ≡ Found (t, l) after
pairs_end m s ts o after t l whole h e i j d w = items_end (pairs_more m) (k.comma ∷ []) expr_begins (pair_on m) (λ s. (no_more s.0, s.1)) (λ s ts. Found s ts) (λ s. s.0.ended ≡ false) (pairs_line m) s ts o after (t, l) whole h e i (rw (j, d) refl) w

pub pairs_fails : (m : ℕ) (s : v.Pairs × ℕ) (ts : List Token) (o : Token) (after : List Token) (stop : Stop) (whole : Read Token (v.Pairs × ℕ)) → s.0.ended ≡ false → first_of kind (k.comma ∷ []) ts ≡ Some (o, after) → starts_with kind expr_begins after ≡ true → FailsAs stop (pair_on m s after) → pairs_more m s ts ≡ whole → FailsAs stop whole
pairs_fails m s ts o after stop whole h e i d w = items_fails (pairs_more m) (k.comma ∷ []) expr_begins (pair_on m) (λ s. (no_more s.0, s.1)) (λ s ts. Found s ts) (λ s. s.0.ended ≡ false) (pairs_line m) s ts o after stop whole h e i d w

pub pairs_next : (m : ℕ) (s : v.Pairs × ℕ) (ts : List Token) (o : Token) (after : List Token) (t : v.Pairs × ℕ) (rest : List Token) (whole : Read Token (v.Pairs × ℕ)) → s.0.ended ≡ false → first_of kind (k.comma ∷ []) ts ≡ Some (o, after) → starts_with kind expr_begins after ≡ true → pair_on m s after ≡ Found t rest → pairs_more m s ts ≡ whole → pairs_more m t rest ≡ whole
pairs_next m s ts o after t rest whole h e i d w = items_next (pairs_more m) (k.comma ∷ []) expr_begins (pair_on m) (λ s. (no_more s.0, s.1)) (λ s ts. Found s ts) (λ s. s.0.ended ≡ false) (pairs_line m) s ts o after t rest whole h e i d w

args_done : (m : ℕ) (s : v.Args × ℕ) (ts : List Token) → args_more m (v.end_args s.0, s.1) ts ≡ Found (v.end_args s.0, s.1) ts
args_done m s ts = round_commas expressions (m - 1) no_reader (readers expressions no_reader m) (readers expressions no_reader (m - 1)) (all_eat m) (all_eat (m - 1)) (λ q. absurd q) {S = args} (λ r. not r.ended) (k.comma ∷ []) (λ r _. r) arg v.end_args (v.end_args s.0, s.1) ts

args_both : (m : ℕ) (s : v.Args × ℕ) (ts : List Token) → cond (starts_with kind expr_begins ts) (reads_part m arg s ts >>= λ y. args_more m y.0 y.1) (args_more m (v.end_args s.0, s.1) ts) ≡ cond (starts_with kind expr_begins ts) (arg_on m s ts >>= λ y. args_more m y.0 y.1) (Found (v.end_args s.0, s.1) ts)
unfolding arg_on
args_both m s ts = ap (λ z. cond (starts_with kind expr_begins ts) (reads_part m arg s ts >>= λ y. args_more m y.0 y.1) z) (args_done m s ts)

pub args_line : (m : ℕ) (s : v.Args × ℕ) (ts : List Token) → s.0.ended ≡ false → args_more m s ts ≡ pick (first_of kind (k.comma ∷ []) ts) (λ o. cond (starts_with kind expr_begins o.1) (arg_on m s o.1 >>= λ y. args_more m y.0 y.1) (Found (v.end_args s.0, s.1) o.1)) (Found s ts)
args_line m s ts h = round_commas expressions (m - 1) no_reader (readers expressions no_reader m) (readers expressions no_reader (m - 1)) (all_eat m) (all_eat (m - 1)) (λ q. absurd q) {S = args} (λ r. not r.ended) (k.comma ∷ []) (λ r _. r) arg v.end_args s ts
    ∙ ap (λ b. cond (not b) (pick (first_of kind (k.comma ∷ []) ts) (λ o. cond (starts_with kind expr_begins o.1) (reads_part m arg s o.1 >>= λ y. args_more m y.0 y.1) (args_more m (v.end_args s.0, s.1) o.1)) (Found s ts)) (Found s ts)) h
    ∙ pick_eq (first_of kind (k.comma ∷ []) ts) _ _ (Found s ts) (λ o. args_both m s o.1)

pub args_over : (m : ℕ) (s : v.Args × ℕ) (ts : List Token) → s.0.ended ≡ false → first_of kind (k.comma ∷ []) ts ≡ None → args_more m s ts ≡ Found s ts
args_over m s ts h e = items_over (args_more m) (k.comma ∷ []) expr_begins (arg_on m) (λ s. (v.end_args s.0, s.1)) (λ s ts. Found s ts) (λ s. s.0.ended ≡ false) (args_line m) s ts h e

pub args_end : (m : ℕ) (s : v.Args × ℕ) (ts : List Token) (o : Token) (after : List Token) (t : v.Args) (l : ℕ) (whole : Read Token (v.Args × ℕ)) → s.0.ended ≡ false → first_of kind (k.comma ∷ []) ts ≡ Some (o, after) → starts_with kind expr_begins after ≡ false → t ≡ v.end_args s.0 → l ≡ s.1 → args_more m s ts ≡ whole → whole ≡ Found (t, l) after
args_end m s ts o after t l whole h e i j d w = items_end (args_more m) (k.comma ∷ []) expr_begins (arg_on m) (λ s. (v.end_args s.0, s.1)) (λ s ts. Found s ts) (λ s. s.0.ended ≡ false) (args_line m) s ts o after (t, l) whole h e i (rw (j, d) refl) w

pub args_fails : (m : ℕ) (s : v.Args × ℕ) (ts : List Token) (o : Token) (after : List Token) (stop : Stop) (whole : Read Token (v.Args × ℕ)) → s.0.ended ≡ false → first_of kind (k.comma ∷ []) ts ≡ Some (o, after) → starts_with kind expr_begins after ≡ true → FailsAs stop (arg_on m s after) → args_more m s ts ≡ whole → FailsAs stop whole
args_fails m s ts o after stop whole h e i d w = items_fails (args_more m) (k.comma ∷ []) expr_begins (arg_on m) (λ s. (v.end_args s.0, s.1)) (λ s ts. Found s ts) (λ s. s.0.ended ≡ false) (args_line m) s ts o after stop whole h e i d w

pub args_next : (m : ℕ) (s : v.Args × ℕ) (ts : List Token) (o : Token) (after : List Token) (t : v.Args × ℕ) (rest : List Token) (whole : Read Token (v.Args × ℕ)) → s.0.ended ≡ false → first_of kind (k.comma ∷ []) ts ≡ Some (o, after) → starts_with kind expr_begins after ≡ true → arg_on m s after ≡ Found t rest → args_more m s ts ≡ whole → args_more m t rest ≡ whole
args_next m s ts o after t rest whole h e i d w = items_next (args_more m) (k.comma ∷ []) expr_begins (arg_on m) (λ s. (v.end_args s.0, s.1)) (λ s ts. Found s ts) (λ s. s.0.ended ≡ false) (args_line m) s ts o after t rest whole h e i d w

-- arg = expr | NAME "=" expr
pub arg_shape : (m : ℕ) (s : v.Args × ℕ) (ts : List Token) → arg_on m s ts ≡ (reads (m - 1) expr ts >>= λ e. seen_or (Found (v.plain_arg (s.0, e.0.0), max s.1 e.0.1) e.1)
    (λ n. pick (first_of kind (k.equal ∷ []) e.1) (λ o. reads (m - 1) expr o.1 >>= λ x. Found (v.named_arg n x.0.0, max (max s.1 e.0.1) x.0.1) x.1) (Found (v.plain_arg (s.0, e.0.0), max s.1 e.0.1) e.1)) (v.named_by (s.0, e.0.0)))
unfolding arg_on
arg_shape m s ts = walked expressions (m - 1) no_reader (readers expressions no_reader m) (readers expressions no_reader (m - 1)) arg (s.0, up s.1) ts

abbrev args_behind : ℕ → v.Args × ℕ → List Token → Read Token (v.Args × ℕ)
args_behind m p ts = args_more m p ts >>= λ z. wanted kind (k.right_paren ∷ []) z.1 >>= λ c. Found (z.0.0, 1 + z.0.1) c.1

-- arguments = "(" [ arg { "," arg } [ "," ] ] ")"
pub arguments_shape : (m : ℕ) (ts : List Token) → 0 < m → reads m arguments ts ≡ (wanted kind (k.left_paren ∷ []) ts >>= λ o. pick (first_of kind (k.right_paren ∷ []) o.1) (λ c. Found (v.no_args, 1) c.1)
    (arg_on m (v.no_args, 0) o.1 >>= λ y. args_more m y.0 y.1 >>= λ z. wanted kind (k.right_paren ∷ []) z.1 >>= λ c. Found (z.0.0, 1 + z.0.1) c.1))
unfolding arg_on
arguments_shape m ts h = line m arguments ts h ∙ bind_eq (wanted kind (k.left_paren ∷ []) ts) _ _ (λ o rest. ap (λ z. pick (first_of kind (k.right_paren ∷ []) rest) (λ c. Found (v.no_args, 1) c.1) z) (sym (walked_on expressions (m - 1) no_reader (readers expressions no_reader m) (readers expressions no_reader (m - 1)) {S = args} {A = args} {B = finished} arg (v.no_args, ground) rest (λ p. args_behind m p.0 p.1))))

-- as the code meets them
pub row_stops : (m : ℕ) (s : v.Row × ℕ) (ts : List Token) (o : Token) (after : List Token) (stop : Stop) (whole : Read Token (v.Row × ℕ)) → s.0.ended ≡ false → first_of kind (k.comma ∷ []) ts ≡ Some (o, after) → starts_with kind expr_begins after ≡ true → FailsAs stop (reads (m - 1) expr after) → items m s ts ≡ whole → FailsAs stop whole
row_stops m s ts o after stop whole h e i d w = row_fails m s ts o after stop whole h e i (fails_on stop (reads (m - 1) expr after) (item_on m s after) (λ y. Found (v.item s.0 y.0.0, max s.1 y.0.1) y.1) d refl) w

pub row_goes : (m : ℕ) (s : v.Row × ℕ) (ts : List Token) (o : Token) (after : List Token) (y : Tree × ℕ) (rest : List Token) (t : v.Row) (l : ℕ) (whole : Read Token (v.Row × ℕ)) → s.0.ended ≡ false → first_of kind (k.comma ∷ []) ts ≡ Some (o, after) → starts_with kind expr_begins after ≡ true → reads (m - 1) expr after ≡ Found y rest → t ≡ v.item s.0 y.0 → l ≡ max s.1 y.1 → items m s ts ≡ whole → items m (t, l) rest ≡ whole
row_goes m s ts o after y rest t l whole h e i d a b w = row_next m s ts o after (t, l) rest whole h e i (ap (λ r. r >>= λ y. Found (v.item s.0 y.0.0, max s.1 y.0.1) y.1) d ∙ rw (a, b) refl) w

pub arg_takes : (m : ℕ) (s : v.Args × ℕ) (ts : List Token) (y : v.Args × ℕ) (rest : List Token) → arg_on m s ts ≡ Found y rest → length rest < length ts
unfolding arg_on
arg_takes m s ts y rest e = part_eats expressions (m - 1) no_reader (readers expressions no_reader m) (readers expressions no_reader (m - 1)) (all_eat m) (all_eat (m - 1)) (λ q. absurd q) {S = args} {A = args} arg refl s ts y rest e

pub pair_takes : (m : ℕ) (s : v.Pairs × ℕ) (ts : List Token) (y : v.Pairs × ℕ) (rest : List Token) → pair_on m s ts ≡ Found y rest → length rest < length ts
pair_takes m s ts y rest e = part_eats expressions (m - 1) no_reader (readers expressions no_reader m) (readers expressions no_reader (m - 1)) (all_eat m) (all_eat (m - 1)) (λ q. absurd q) {S = pairs} {A = pairs} pair refl s ts y rest (pair_is m s ts ∙ e)

-- a name is one high
name_low : (e : Tree) (n : ArgName) → v.name_in e ≡ Some n → v.height e ≡ 1
name_low (t.Name at x) n e = refl
name_low x n e = absurd (cc)

abbrev some_name : ArgName → List Token → Option (ArgName × List Token)
some_name n ts = Some (n, ts)

-- what has a name is one high
assigned_low : (e : Tree) (ts : List Token) (n : ArgName) (rest : List Token) → assigned_on e ts ≡ Some (n, rest) → v.height e ≡ 1
assigned_low e ts n rest h = go (first_of kind (k.equal ∷ []) ts) (v.name_in e) refl h
  where
    go : (o : Option (Token × List Token)) (a : Option ArgName) → v.name_in e ≡ a → pick o (λ o. pick a (λ n. some_name n o.1) None) None ≡ some_name n rest → v.height e ≡ 1
    go (Some o) (Some x) i h = name_low e x i
    go (Some o) None i h = absurd (cc)
    go None a i h = absurd (cc)

-- an argument by the value that it begins with: without a name, or with this one
abbrev plain_read : v.Args × ℕ → Tree × ℕ → List Token → Read Token (v.Args × ℕ)
plain_read s e after = Found (v.plain_arg (s.0, e.0), max s.1 e.1) after

abbrev named_read : ℕ → v.Args × ℕ → Tree × ℕ → v.Args × ArgName → List Token → Read Token (v.Args × ℕ)
named_read m s e n ts = reads (m - 1) expr ts >>= λ x. Found (v.named_arg n x.0.0, max (max s.1 e.1) x.0.1) x.1

abbrev named_found : v.Args × ArgName → Tree → ℕ → List Token → Read Token (v.Args × ℕ)
named_found n t h ts = Found (v.named_arg n t, h) ts

arg_then : (m : ℕ) (s : v.Args × ℕ) (ts : List Token) (e : Tree × ℕ) (after : List Token) → reads (m - 1) expr ts ≡ Found e after → arg_on m s ts ≡ pick (assigned_on e.0 after) (λ x. named_read m s e (s.0, x.0) x.1) (plain_read s e after)
arg_then m s ts e after d = arg_shape m s ts
    ∙ ap (λ r. r >>= λ e. seen_or (plain_read s e.0 e.1) (λ n. pick (first_of kind (k.equal ∷ []) e.1) (λ o. named_read m s e.0 n o.1) (plain_read s e.0 e.1)) (v.named_by (s.0, e.0.0))) d
    ∙ go (first_of kind (k.equal ∷ []) after) (v.name_in e.0)
  where
    go : (o : Option (Token × List Token)) (a : Option ArgName) → seen_or (plain_read s e after) (λ n. pick o (λ o. named_read m s e n o.1) (plain_read s e after)) (v.with_name s.0 a) ≡ pick (pick o (λ o. pick a (λ n. some_name n o.1) None) None) (λ x. named_read m s e (s.0, x.0) x.1) (plain_read s e after)
    go (Some o) (Some x) = refl
    go (Some o) None = refl
    go None (Some x) = refl
    go None None = refl

pub arg_plain : (m : ℕ) (s : v.Args × ℕ) (ts : List Token) (e : Tree × ℕ) (after : List Token) → reads (m - 1) expr ts ≡ Found e after → assigned_on e.0 after ≡ None → arg_on m s ts ≡ Found (v.plain_arg (s.0, e.0), max s.1 e.1) after
arg_plain m s ts e after d i = arg_then m s ts e after d ∙ ap (λ w. pick w (λ x. named_read m s e (s.0, x.0) x.1) (plain_read s e after)) i

arg_goes : (m : ℕ) (s : v.Args × ℕ) (ts : List Token) (e : Tree × ℕ) (after : List Token) (n : ArgName) (behind : List Token) → reads (m - 1) expr ts ≡ Found e after → assigned_on e.0 after ≡ some_name n behind → arg_on m s ts ≡ named_read m s e (s.0, n) behind
arg_goes m s ts e after n behind d i = arg_then m s ts e after d ∙ ap (λ w. pick w (λ x. named_read m s e (s.0, x.0) x.1) (plain_read s e after)) i

pub arg_stops : (m : ℕ) (s : v.Args × ℕ) (ts : List Token) (e : Tree × ℕ) (after : List Token) (n : ArgName) (behind : List Token) (stop : Stop) → reads (m - 1) expr ts ≡ Found e after → assigned_on e.0 after ≡ Some (n, behind) → FailsAs stop (reads (m - 1) expr behind) → FailsAs stop (arg_on m s ts)
arg_stops m s ts e after n behind stop d i f = fails_on stop (reads (m - 1) expr behind) (arg_on m s ts) (λ y. Found (v.named_arg (s.0, n) y.0.0, max (max s.1 e.1) y.0.1) y.1) f (sym (arg_goes m s ts e after n behind d i))

pub arg_named : (m : ℕ) (s : v.Args × ℕ) (ts : List Token) (e : Tree × ℕ) (after : List Token) (n : ArgName) (behind : List Token) (x : Tree × ℕ) (rest : List Token)
    → reads (m - 1) expr ts ≡ Found e after → e.1 ≡ v.height e.0 → assigned_on e.0 after ≡ Some (n, behind) → reads (m - 1) expr behind ≡ Found x rest → 0 < x.1 → arg_on m s ts ≡ Found (v.named_arg (s.0, n) x.0, max s.1 x.1) rest
arg_named m s ts e after n behind x rest d h i g z = arg_goes m s ts e after n behind d i
    ∙ ap (λ r. r >>= λ x. named_found (s.0, n) x.0.0 (max (max s.1 e.1) x.0.1) x.1) g
    ∙ ap (λ j. named_found (s.0, n) x.0 j rest) high
  where
    high : max (max s.1 e.1) x.1 ≡ max s.1 x.1
    high = let j = assigned_low e.0 after n behind i in omega arith
