-- THE LADDER of binary operators: one loop for all ranks.
use Rattle.std.proofs.Common.{◌≡◌, ℕ, ◌-◌, ◌+◌, ◌<◌, ◌≤◌, max, cond, Some, None, List, [], ◌∷◌, length, refl, sym, ap, ◌∙◌, subst}
use Rattle.py_tokens.specs.declared.token.Token.{Token}
use Rattle.py_tree.specs.declared.op.BinOp.{BinOp}
use Rattle.py_tree.specs.Trees.{Tree, Binary}
use Rattle.parsing.specs.Reading.{Read, Found, Deep, ◌>>=◌}
use Rattle.grammar.specs.Table.{room, inner, ◌⨾◌}
use Rattle.grammar.specs.Levels.{readers, fits}
use Rattle.grammar_code.specs.Walk.{up, tall, above, pick, first_meant, whole, behind_height}
use Rattle.grammar_code.proofs.Walk.{round_walk, walk_one_of, bind_found_same}
use Rattle.py_cursor.specs.token_kinds.Kinds.{kind}
use Rattle.py_cursor.specs.py_expressions.Values.{at_of}
use Rattle.py_cursor.specs.py_expressions.Sorts.{unary, prod, sum, shift, band, xor, bitor, tree, left, operands}
use Rattle.py_cursor.specs.py_expressions.Lines.{P, OpRow, expressions, no_reader, products, sums, shifts, ands, xors, ors, operator, two_sides, binary_node}
use Rattle.py_cursor.specs.declared.stop.Stop.{Stop}
use Rattle.py_cursor.specs.Cursor.{FailsAs}
use Rattle.py_cursor.proofs.Loops.{steps_over, steps_deep, steps_fails, steps_next}
use Rattle.py_expression_parser.specs.declared.ranks.Rank.{Rank}
use Rattle.py_expression_parser.specs.declared.ranks.Rank.TheVariants as rank
use Rattle.py_expression_parser.specs.Reads.{reads, reads_all, ranked, lower_of, operators_of}
use Rattle.py_expression_parser.proofs.Lines.{line, takes, all_eat, room_goes, room_stays}

abbrev step : OpRow → P left operands → P tree tree
step ops right = room (operator ops ⨾ right ⨾ binary_node)

-- what stands behind an operand: operators of a rank with operands of the rank below
unfoldable pub more : ℕ → Rank → Tree × ℕ → List Token → Read Token (Tree × ℕ)
more m rank.Unary s ts = Found s ts
more m rank.Product s ts = reads_all m (step products (inner unary two_sides)) s ts >>= behind_height whole
more m rank.Sum s ts = reads_all m (step sums (inner prod two_sides)) s ts >>= behind_height whole
more m rank.Shift s ts = reads_all m (step shifts (inner sum two_sides)) s ts >>= behind_height whole
more m rank.And s ts = reads_all m (step ands (inner shift two_sides)) s ts >>= behind_height whole
more m rank.Xor s ts = reads_all m (step xors (inner band two_sides)) s ts >>= behind_height whole
more m rank.Or s ts = reads_all m (step ors (inner xor two_sides)) s ts >>= behind_height whole

pub rank_shape : (m : ℕ) (k : Rank) (ts : List Token) → 0 < m → ranked m k ts ≡ (ranked m (lower_of k) ts >>= λ y. more m k y.0 y.1)
unfolding more
rank_shape m rank.Unary ts h = sym (bind_found_same (reads m unary ts))
rank_shape m rank.Product ts h = line m prod ts h
rank_shape m rank.Sum ts h = line m sum ts h
rank_shape m rank.Shift ts h = line m shift ts h
rank_shape m rank.And ts h = line m band ts h
rank_shape m rank.Xor ts h = line m xor ts h
rank_shape m rank.Or ts h = line m bitor ts h

abbrev pub joined : Tree × ℕ → Token × BinOp → Tree × ℕ → Tree × ℕ
joined s o r = (Binary (at_of s.0) s.0 o.1 r.0, 1 + max s.1 r.1)

abbrev pub on : ℕ → Rank → Tree × ℕ → List Token → Read Token (Tree × ℕ)
on m k s ts = pick (first_meant kind (operators_of k) ts) (λ o. cond (fits (m - 1) s.1) (ranked (m - 1) (lower_of k) o.1 >>= λ r. more m k (joined s o.0 r.0) r.1) (Deep ts)) (Found s ts)

pub more_line : (m : ℕ) (k : Rank) (s : Tree × ℕ) (ts : List Token) → more m k s ts ≡ on m k s ts
unfolding more
more_line m rank.Unary s [] = refl
more_line m rank.Unary s (t ∷ ts) = refl
more_line m rank.Product s ts = round_walk expressions (m - 1) no_reader (readers expressions no_reader m) (readers expressions no_reader (m - 1)) (all_eat m) (all_eat (m - 1)) (λ q. absurd q) {S = tree} {B = tree} (step products (inner unary two_sides)) refl s ts (behind_height whole)
    ∙ walk_one_of expressions (m - 1) no_reader (readers expressions no_reader m) (readers expressions no_reader (m - 1)) (fits (m - 1) s.1) {S = tree} {A = left} {B = tree} (λ l _ o. (l, o)) products.0 products.1 (s.0, up s.1) ts (λ y. reads (m - 1) unary y.1 >>= λ r. reads_all m (step products (inner unary two_sides)) (Binary (at_of y.0.0.0) y.0.0.0 y.0.0.1 r.0.0, 1 + tall (above y.0.1 r.0.1)) r.1 >>= behind_height whole) (Found s ts)
more_line m rank.Sum s ts = round_walk expressions (m - 1) no_reader (readers expressions no_reader m) (readers expressions no_reader (m - 1)) (all_eat m) (all_eat (m - 1)) (λ q. absurd q) {S = tree} {B = tree} (step sums (inner prod two_sides)) refl s ts (behind_height whole)
    ∙ walk_one_of expressions (m - 1) no_reader (readers expressions no_reader m) (readers expressions no_reader (m - 1)) (fits (m - 1) s.1) {S = tree} {A = left} {B = tree} (λ l _ o. (l, o)) sums.0 sums.1 (s.0, up s.1) ts (λ y. reads (m - 1) prod y.1 >>= λ r. reads_all m (step sums (inner prod two_sides)) (Binary (at_of y.0.0.0) y.0.0.0 y.0.0.1 r.0.0, 1 + tall (above y.0.1 r.0.1)) r.1 >>= behind_height whole) (Found s ts)
more_line m rank.Shift s ts = round_walk expressions (m - 1) no_reader (readers expressions no_reader m) (readers expressions no_reader (m - 1)) (all_eat m) (all_eat (m - 1)) (λ q. absurd q) {S = tree} {B = tree} (step shifts (inner sum two_sides)) refl s ts (behind_height whole)
    ∙ walk_one_of expressions (m - 1) no_reader (readers expressions no_reader m) (readers expressions no_reader (m - 1)) (fits (m - 1) s.1) {S = tree} {A = left} {B = tree} (λ l _ o. (l, o)) shifts.0 shifts.1 (s.0, up s.1) ts (λ y. reads (m - 1) sum y.1 >>= λ r. reads_all m (step shifts (inner sum two_sides)) (Binary (at_of y.0.0.0) y.0.0.0 y.0.0.1 r.0.0, 1 + tall (above y.0.1 r.0.1)) r.1 >>= behind_height whole) (Found s ts)
more_line m rank.And s ts = round_walk expressions (m - 1) no_reader (readers expressions no_reader m) (readers expressions no_reader (m - 1)) (all_eat m) (all_eat (m - 1)) (λ q. absurd q) {S = tree} {B = tree} (step ands (inner shift two_sides)) refl s ts (behind_height whole)
    ∙ walk_one_of expressions (m - 1) no_reader (readers expressions no_reader m) (readers expressions no_reader (m - 1)) (fits (m - 1) s.1) {S = tree} {A = left} {B = tree} (λ l _ o. (l, o)) ands.0 ands.1 (s.0, up s.1) ts (λ y. reads (m - 1) shift y.1 >>= λ r. reads_all m (step ands (inner shift two_sides)) (Binary (at_of y.0.0.0) y.0.0.0 y.0.0.1 r.0.0, 1 + tall (above y.0.1 r.0.1)) r.1 >>= behind_height whole) (Found s ts)
more_line m rank.Xor s ts = round_walk expressions (m - 1) no_reader (readers expressions no_reader m) (readers expressions no_reader (m - 1)) (all_eat m) (all_eat (m - 1)) (λ q. absurd q) {S = tree} {B = tree} (step xors (inner band two_sides)) refl s ts (behind_height whole)
    ∙ walk_one_of expressions (m - 1) no_reader (readers expressions no_reader m) (readers expressions no_reader (m - 1)) (fits (m - 1) s.1) {S = tree} {A = left} {B = tree} (λ l _ o. (l, o)) xors.0 xors.1 (s.0, up s.1) ts (λ y. reads (m - 1) band y.1 >>= λ r. reads_all m (step xors (inner band two_sides)) (Binary (at_of y.0.0.0) y.0.0.0 y.0.0.1 r.0.0, 1 + tall (above y.0.1 r.0.1)) r.1 >>= behind_height whole) (Found s ts)
more_line m rank.Or s ts = round_walk expressions (m - 1) no_reader (readers expressions no_reader m) (readers expressions no_reader (m - 1)) (all_eat m) (all_eat (m - 1)) (λ q. absurd q) {S = tree} {B = tree} (step ors (inner xor two_sides)) refl s ts (behind_height whole)
    ∙ walk_one_of expressions (m - 1) no_reader (readers expressions no_reader m) (readers expressions no_reader (m - 1)) (fits (m - 1) s.1) {S = tree} {A = left} {B = tree} (λ l _ o. (l, o)) ors.0 ors.1 (s.0, up s.1) ts (λ y. reads (m - 1) xor y.1 >>= λ r. reads_all m (step ors (inner xor two_sides)) (Binary (at_of y.0.0.0) y.0.0.0 y.0.0.1 r.0.0, 1 + tall (above y.0.1 r.0.1)) r.1 >>= behind_height whole) (Found s ts)

pub more_over : (m : ℕ) (k : Rank) (s : Tree × ℕ) (ts : List Token) → first_meant kind (operators_of k) ts ≡ None → more m k s ts ≡ Found s ts
more_over m k s ts e = steps_over (more m k) (first_meant kind (operators_of k)) (λ s. fits (m - 1) s.1) (ranked (m - 1) (lower_of k)) (λ s o y. joined s o y) (λ s ts. Found s ts) (more_line m k) s ts e

pub more_deep : (m : ℕ) (k : Rank) (s : Tree × ℕ) (ts : List Token) (o : Token × BinOp) (after : List Token) (whole : Read Token (Tree × ℕ)) → 0 < s.1 → m ≤ s.1 → first_meant kind (operators_of k) ts ≡ Some (o, after) → more m k s ts ≡ whole → whole ≡ Deep ts
more_deep m k s ts o after whole h i e w = steps_deep (more m k) (first_meant kind (operators_of k)) (λ s. fits (m - 1) s.1) (ranked (m - 1) (lower_of k)) (λ s o y. joined s o y) (λ s ts. Found s ts) (more_line m k) s ts o after whole e (room_stays m s.1 h i) w

pub more_fails : (m : ℕ) (k q : Rank) (s : Tree × ℕ) (ts : List Token) (o : Token × BinOp) (after : List Token) (stop : Stop) (whole : Read Token (Tree × ℕ)) → q ≡ lower_of k → 0 < s.1 → s.1 < m → first_meant kind (operators_of k) ts ≡ Some (o, after) → FailsAs stop (ranked (m - 1) q after) → more m k s ts ≡ whole → FailsAs stop whole
more_fails m k q s ts o after stop whole j h i e d w = steps_fails (more m k) (first_meant kind (operators_of k)) (λ s. fits (m - 1) s.1) (ranked (m - 1) (lower_of k)) (λ s o y. joined s o y) (λ s ts. Found s ts) (more_line m k) s ts o after stop whole e (room_goes m s.1 h i) (subst (λ v. FailsAs stop (ranked (m - 1) v after)) j d) w

pub more_next : (m : ℕ) (k q : Rank) (s : Tree × ℕ) (ts : List Token) (o : Token × BinOp) (after : List Token) (y : Tree × ℕ) (rest : List Token) (t : Tree) (l : ℕ) (whole : Read Token (Tree × ℕ)) → q ≡ lower_of k → 0 < s.1 → s.1 < m → first_meant kind (operators_of k) ts ≡ Some (o, after) → ranked (m - 1) q after ≡ Found y rest
    → t ≡ Binary (at_of s.0) s.0 o.1 y.0 → l ≡ 1 + max s.1 y.1 → more m k s ts ≡ whole → more m k (t, l) rest ≡ whole
more_next m k q s ts o after y rest t l whole j h i e d a b w = steps_next (more m k) (first_meant kind (operators_of k)) (λ s. fits (m - 1) s.1) (ranked (m - 1) (lower_of k)) (λ s o y. joined s o y) (λ s ts. Found s ts) (more_line m k) s ts o after y rest (t, l) whole e (room_goes m s.1 h i) (ap (λ v. ranked (m - 1) v after) (sym j) ∙ d) (rw (a, b) refl) w

pub rank_takes : (m : ℕ) (k : Rank) (ts : List Token) (y : Tree × ℕ) (rest : List Token) → ranked m k ts ≡ Found y rest → length rest < length ts
rank_takes m rank.Unary ts y rest e = takes m unary ts y rest e
rank_takes m rank.Product ts y rest e = takes m prod ts y rest e
rank_takes m rank.Sum ts y rest e = takes m sum ts y rest e
rank_takes m rank.Shift ts y rest e = takes m shift ts y rest e
rank_takes m rank.And ts y rest e = takes m band ts y rest e
rank_takes m rank.Xor ts y rest e = takes m xor ts y rest e
rank_takes m rank.Or ts y rest e = takes m bitor ts y rest e

pub ruleset ladder_rules = (rank_shape, more_over)
