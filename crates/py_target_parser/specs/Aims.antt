-- TARGETS: what is read where a target may stand, as code has it.
use Rattle.std.specs.Prelude.{◌≡◌, ℕ, ◌-◌, ◌+◌, max, nat_le, Bool, true, false, cond, not, List, [], ◌∷◌, Option, Some, None}
use Rattle.py_tokens.specs.declared.token.Token.{Token}
use Rattle.py_tree.specs.Trees.{Tree, Absent, Present}
use Rattle.py_tree.specs.Statements.{Place, NamePlace, AttributePlace, SubscriptPlace}
use Rattle.parsing.specs.Reading.{Read, Found, Deep, ◌>>=◌, deep_at, has, is_some}
use Rattle.grammar.specs.Table.{give, ◌⨾◌, ◌∣◌, when}
use Rattle.grammar.specs.Levels.{readers, fits}
use Rattle.grammar_code.specs.Walk.{first_of, starts_with, wanted, pick, pursue}
use Rattle.py_cursor.specs.token_kinds.Kinds.{kind, text_of}
use Rattle.py_cursor.specs.token_kinds.Numbers as k
use Rattle.py_cursor.specs.py_expressions.Values as v
use Rattle.py_cursor.specs.py_expressions.Values.{at_of, place_in, Aim, Target, Carrier}
use Rattle.py_cursor.specs.py_expressions.Sorts.{aim, place, places, tree, other, expr, slice, arguments, single}
use Rattle.py_cursor.specs.py_expressions.Lines.{expressions, no_reader, key, part, slice_of, attribute_place, aim_step}
use Rattle.py_expression_parser.specs.Reads.{reads, reads_all}
use Rattle.py_tree.specs.Statements.{places as places_of_singles}
use Rattle.py_target_parser.specs.declared.reader.Places.{Places}
use Rattle.std.proofs.Common.{refl}

-- an expression as a target, or as what must become a part of one
abbrev pub as_target : Option Place → Tree → Aim
as_target None e = Carrier e
as_target (Some p) e = Target p

abbrev pub aim_of : Bool → Tree → Aim
aim_of true e = as_target (place_in e) e
aim_of false e = Carrier e

-- counted with the node that it must become a part of
abbrev pub aim_tall : Bool → ℕ → ℕ
aim_tall true h = h
aim_tall false h = 1 + h

-- what is said to be a target is one
abbrev pub IsPlace : Bool → Tree → Type 0
IsPlace true e = is_some (place_in e) ≡ true
IsPlace false e = Unit {0}

-- a name, or another atom, which is no target
abbrev pub start_on : ℕ → List Token → Read Token (Aim × ℕ)
start_on m ts = pick (first_of kind (k.name ∷ []) ts) (λ o. Found (Target (NamePlace o.0.at (text_of o.0)), 1) o.1) (reads (m - 1) other ts >>= λ y. Found (Carrier y.0.0, 1 + y.0.1) y.1)

-- what goes on up to a target
abbrev pub aims : ℕ → Aim × ℕ → List Token → Read Token (Place × ℕ)
aims m x ts = pursue expressions (m - 1) no_reader (readers expressions no_reader m) (readers expressions no_reader (m - 1)) {S = aim} {A = place} {B = tree} {D = place} v.target_in v.aimed v.Target (λ _. refl) attribute_place aim_step x ts

-- an index behind "[", where only a target may stand
abbrev pub aim_index_on : ℕ → Tree × ℕ → List Token → Read Token (Aim × ℕ)
aim_index_on m s ts = cond (starts_with kind (k.colon ∷ []) ts) (cond (nat_le (1 + s.1) (m - 1)) (reads (m - 1) slice ts >>= λ b. Found (Carrier (slice_of s.0 Absent b.0.0), 1 + max (1 + s.1) b.0.1) b.1) (Deep ts))
    (reads (m - 1) expr ts >>= λ i. pick (first_of kind (k.right_bracket ∷ []) i.1) (λ c. Found (Target (SubscriptPlace (at_of s.0) s.0 i.0.0), 1 + max s.1 i.0.1) c.1)
    (cond (nat_le (1 + max s.1 i.0.1) (m - 1)) (reads (m - 1) slice i.1 >>= λ b. Found (Carrier (slice_of s.0 (Present i.0.0) b.0.0), 1 + max (1 + max s.1 i.0.1) b.0.1) b.1) (deep_at (λ t. has (kind t) (k.colon ∷ [])) i.1)))

-- ".", "[" or "(" behind an expression, where only a target may stand
abbrev pub step_on : ℕ → Tree × ℕ → List Token → Read Token (Aim × ℕ)
step_on m s ts = pick (first_of kind (k.dot ∷ []) ts) (λ o. wanted kind (k.name ∷ []) o.1 >>= λ u. Found (Target (AttributePlace (at_of s.0) s.0 (text_of u.0)), 1 + s.1) u.1)
    (pick (first_of kind (k.left_bracket ∷ []) ts) (λ o. cond (fits (m - 1) s.1) (aim_index_on m s o.1) (Deep ts))
    (cond (nat_le (1 + s.1) (m - 1)) (reads (m - 1) arguments ts >>= λ a. Found (Carrier (v.call s.0 a.0.0), 1 + max (1 + s.1) a.0.1) a.1) (deep_at (λ t. has (kind t) (k.left_paren ∷ [])) ts)))

-- targets behind the first, with commas between them
abbrev pub places_more : ℕ → v.Places × ℕ → List Token → Read Token (v.Places × ℕ)
places_more m s ts = reads_all m {S = places} (when (λ r. not r.ended) (key k.comma ⨾ (part single v.one_place ∣ give v.no_place))) s ts

abbrev pub places_of : Places → v.Places
places_of p = record { all = places_of_singles p.all.items; ended = p.ended }
