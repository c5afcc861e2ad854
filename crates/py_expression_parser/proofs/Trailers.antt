-- WHAT STANDS BEHIND A VALUE: attributes, calls, subscripts; slices.
use Rattle.std.proofs.Common.{◌≡◌, ℕ, ◌-◌, ◌+◌, ◌<◌, ◌≤◌, max, true, false, cond, List, [], ◌∷◌, length, refl, sym, ap, ◌∙◌, arith}
use Rattle.py_tokens.specs.declared.token.Token.{Token}
use Rattle.parsing.specs.Reading.{Read, Found, Deep, ◌>>=◌}
use Rattle.parsing.proofs.Loops.{bind_assoc}
use Rattle.grammar.specs.Levels.{readers, fits}
use Rattle.grammar_code.specs.Walk.{ground, up, pick, first_of, starts_with, wanted, whole}
use Rattle.py_cursor.specs.token_kinds.Kinds.{kind, text_of}
use Rattle.py_cursor.specs.token_kinds.Numbers as k
use Rattle.py_cursor.specs.py_expressions.Values as v
use Rattle.py_cursor.specs.py_expressions.Values.{at_of}
use Rattle.py_cursor.specs.declared.stop.Stop.{Stop}
use Rattle.py_cursor.specs.Cursor.{FailsAs}
use Rattle.grammar_code.proofs.Walk.{bind_eq, bind_found_same, part_eats, round_room, walked}
use Rattle.py_tree.specs.Trees.{Tree, Maybe, Absent, Present, Attribute}
use Rattle.py_cursor.specs.py_expressions.Sorts.{tree, primary, atom, arguments, slice, expr, upto, nothing, sliced}
use Rattle.grammar.specs.Table.{room, inner, join, ◌⨾◌, ◌∣◌}
use Rattle.py_cursor.specs.py_expressions.Lines.{expressions, no_reader, attribute, subscript, second}
use Rattle.py_cursor.proofs.Loops.{begun_over, begun_deep, begun_fails, begun_next}
use Rattle.py_expression_parser.specs.Reads.{reads, reads_all}
use Rattle.py_expression_parser.specs.Pieces.{trailer_on, index_on, slice_more}
use Rattle.py_expression_parser.proofs.Lines.{line, all_eat, room_goes, room_stays}

-- "." NAME | arguments | "[" index "]"
pub trailer_shape : (m : ℕ) (s : Tree × ℕ) (ts : List Token) → trailer_on m s ts ≡ pick (first_of kind (k.dot ∷ []) ts) (λ o. wanted kind (k.name ∷ []) o.1 >>= λ u. Found (Attribute (at_of s.0) s.0 (text_of u.0), 1 + s.1) u.1)
    (cond (starts_with kind (k.left_paren ∷ []) ts) (reads m arguments ts >>= λ a. Found (v.call s.0 a.0.0, max (1 + s.1) a.0.1) a.1) (wanted kind (k.left_bracket ∷ []) ts >>= λ o. index_on m s o.1))
trailer_shape m s ts = walked expressions (m - 1) no_reader (readers expressions no_reader m) (readers expressions no_reader (m - 1)) {S = tree} {A = tree} (attribute ∣ join arguments v.call ∣ subscript) (s.0, up s.1) ts

-- primary = atom { "." NAME | arguments | "[" index "]" }
unfoldable pub trailers : ℕ → Tree × ℕ → List Token → Read Token (Tree × ℕ)
trailers m s ts = reads_all m {S = tree} (room (attribute ∣ join arguments v.call ∣ subscript)) s ts

pub primary_shape : (m : ℕ) (ts : List Token) → 0 < m → reads m primary ts ≡ (reads m atom ts >>= λ y. trailers m y.0 y.1)
unfolding trailers
primary_shape m ts h = line m primary ts h ∙ bind_eq (reads m atom ts) _ _ (λ y rest. bind_found_same (trailers m y rest))

trailers_line : (m : ℕ) (s : Tree × ℕ) (ts : List Token) → trailers m s ts ≡ cond (starts_with kind (k.dot ∷ k.left_paren ∷ k.left_bracket ∷ []) ts) (cond (fits (m - 1) s.1) (trailer_on m s ts >>= λ y. trailers m y.0 y.1) (Deep ts)) (Found s ts)
unfolding trailers
trailers_line m s ts = round_room expressions (m - 1) no_reader (readers expressions no_reader m) (readers expressions no_reader (m - 1)) (all_eat m) (all_eat (m - 1)) (λ q. absurd q) {S = tree} (attribute ∣ join arguments v.call ∣ subscript) refl s ts

pub trailers_over : (m : ℕ) (s : Tree × ℕ) (ts : List Token) → starts_with kind (k.dot ∷ k.left_paren ∷ k.left_bracket ∷ []) ts ≡ false → trailers m s ts ≡ Found s ts
trailers_over m s ts e = begun_over (trailers m) (k.dot ∷ k.left_paren ∷ k.left_bracket ∷ []) (λ s. fits (m - 1) s.1) (trailer_on m) (λ s ts. Found s ts) (trailers_line m) s ts e

pub trailers_deep : (m : ℕ) (s : Tree × ℕ) (ts : List Token) (whole : Read Token (Tree × ℕ)) → 0 < s.1 → m ≤ s.1 → starts_with kind (k.dot ∷ k.left_paren ∷ k.left_bracket ∷ []) ts ≡ true → trailers m s ts ≡ whole → whole ≡ Deep ts
trailers_deep m s ts whole h i e w = begun_deep (trailers m) (k.dot ∷ k.left_paren ∷ k.left_bracket ∷ []) (λ s. fits (m - 1) s.1) (trailer_on m) (λ s ts. Found s ts) (trailers_line m) s ts whole e (room_stays m s.1 h i) w

pub trailers_fails : (m : ℕ) (s : Tree × ℕ) (ts : List Token) (stop : Stop) (whole : Read Token (Tree × ℕ)) → 0 < s.1 → s.1 < m → starts_with kind (k.dot ∷ k.left_paren ∷ k.left_bracket ∷ []) ts ≡ true → FailsAs stop (trailer_on m s ts) → trailers m s ts ≡ whole → FailsAs stop whole
trailers_fails m s ts stop whole h i e d w = begun_fails (trailers m) (k.dot ∷ k.left_paren ∷ k.left_bracket ∷ []) (λ s. fits (m - 1) s.1) (trailer_on m) (λ s ts. Found s ts) (trailers_line m) s ts stop whole e (room_goes m s.1 h i) d w

pub trailers_next : (m : ℕ) (s : Tree × ℕ) (ts : List Token) (t : Tree × ℕ) (rest : List Token) (whole : Read Token (Tree × ℕ)) → 0 < s.1 → s.1 < m → starts_with kind (k.dot ∷ k.left_paren ∷ k.left_bracket ∷ []) ts ≡ true → trailer_on m s ts ≡ Found t rest → trailers m s ts ≡ whole → trailers m t rest ≡ whole
trailers_next m s ts t rest whole h i e d w = begun_next (trailers m) (k.dot ∷ k.left_paren ∷ k.left_bracket ∷ []) (λ s. fits (m - 1) s.1) (trailer_on m) (λ s ts. Found s ts) (trailers_line m) s ts t rest whole e (room_goes m s.1 h i) d w

-- behind the end of a slice
pub bounds_shape : (m : ℕ) (s : Maybe × ℕ) (ts : List Token) → slice_more m s ts ≡ pick (first_of kind (k.right_bracket ∷ []) ts) (λ c. Found ((s.0, Absent), 1 + s.1) c.1)
    (wanted kind (k.colon ∷ []) ts >>= λ q. pick (first_of kind (k.right_bracket ∷ []) q.1) (λ c. Found ((s.0, Absent), 1 + s.1) c.1) (reads (m - 1) expr q.1 >>= λ e. wanted kind (k.right_bracket ∷ []) e.1 >>= λ c. Found ((s.0, Present e.0.0), 1 + max s.1 e.0.1) c.1))
unfolding slice_more
bounds_shape m s ts = walked expressions (m - 1) no_reader (readers expressions no_reader m) (readers expressions no_reader (m - 1)) {S = upto} {A = sliced} (second (λ x. x)) (s.0, up s.1) ts

max_none : (h : ℕ) → max 0 h ≡ h
max_none h = omega arith

-- slice = ":" [ expr ] [ ":" [ expr ] ] "]"
pub slice_shape : (m : ℕ) (ts : List Token) → 0 < m → reads m slice ts ≡ (wanted kind (k.colon ∷ []) ts >>= λ o. cond (starts_with kind (k.right_bracket ∷ k.colon ∷ []) o.1) (slice_more m (Absent, 0) o.1) (reads (m - 1) expr o.1 >>= λ e. slice_more m (Present e.0.0, e.0.1) e.1))
unfolding slice_more
slice_shape m ts h = line m slice ts h ∙ bind_eq (wanted kind (k.colon ∷ []) ts) _ _ (λ o rest.
    sym (walked expressions (m - 1) no_reader (readers expressions no_reader m) (readers expressions no_reader (m - 1)) {S = nothing} {A = sliced} (second (λ _. Absent) ∣ inner {A = upto} expr (λ _ e. Present e) ⨾ second (λ x. x)) (tt, ground) rest)
    ∙ ap (λ z. cond (starts_with kind (k.right_bracket ∷ k.colon ∷ []) rest) (slice_more m (Absent, 0) rest) z)
    (bind_assoc (reads (m - 1) expr rest) _ _ ∙ bind_eq (reads (m - 1) expr rest) _ _ (λ e after. ap (λ l. slice_more m (Present e.0, l) after) (max_none e.1))))

pub trailer_takes : (m : ℕ) (s : Tree × ℕ) (ts : List Token) (y : Tree × ℕ) (rest : List Token) → trailer_on m s ts ≡ Found y rest → length rest < length ts
trailer_takes m s ts y rest e = part_eats expressions (m - 1) no_reader (readers expressions no_reader m) (readers expressions no_reader (m - 1)) (all_eat m) (all_eat (m - 1)) (λ q. absurd q) {S = tree} {A = tree} (attribute ∣ join arguments v.call ∣ subscript) refl s ts y rest e

pub ruleset primary_rules = (primary_shape, trailers_over)
