-- What the functions read: lines of the grammar of expressions, with so many levels left, and parts of lines.
use Rattle.std.specs.Prelude.{ℕ, ◌-◌, List, [], ◌∷◌}
use Rattle.py_tokens.specs.declared.token.Token.{Token}
use Rattle.py_tree.specs.declared.op.BinOp.{BinOp}
use Rattle.py_tree.specs.Trees.{Tree}
use Rattle.parsing.specs.Reading.{Read}
use Rattle.grammar.specs.Levels.{readers, read}
use Rattle.grammar_code.specs.Walk.{round}
use Rattle.py_cursor.specs.py_expressions.Sorts.{Sort, El, sort, Name, unary, prod, sum, shift, band, xor, bitor}
use Rattle.py_cursor.specs.py_expressions.Lines.{P, expressions, no_reader, products, sums, shifts, ands, xors, ors}
use Rattle.py_expression_parser.specs.declared.ranks.Rank.{Rank}
use Rattle.py_expression_parser.specs.declared.ranks.Rank.TheVariants as rank

-- what a line reads with m levels left, its own among them
abbrev pub reads : (m : ℕ) (r : Name) → List Token → Read Token (El (sort r) × ℕ)
reads m r ts = readers expressions no_reader m r ts

-- what a part of a line reads, behind a value and its height
abbrev pub reads_part : (m : ℕ) {S A : Sort} → P S A → El S × ℕ → List Token → Read Token (El A × ℕ)
reads_part m p x ts = read expressions (m - 1) no_reader (readers expressions no_reader m) (readers expressions no_reader (m - 1)) p x ts

-- what a part reads again and again
abbrev pub reads_all : (m : ℕ) {S : Sort} → P S S → El S × ℕ → List Token → Read Token (El S × ℕ)
reads_all m p x ts = round expressions (m - 1) no_reader (readers expressions no_reader m) (readers expressions no_reader (m - 1)) p x ts

-- RANKS of binary operators
abbrev pub ranked : ℕ → Rank → List Token → Read Token (Tree × ℕ)
ranked m rank.Unary ts = reads m unary ts
ranked m rank.Product ts = reads m prod ts
ranked m rank.Sum ts = reads m sum ts
ranked m rank.Shift ts = reads m shift ts
ranked m rank.And ts = reads m band ts
ranked m rank.Xor ts = reads m xor ts
ranked m rank.Or ts = reads m bitor ts

abbrev pub lower_of : Rank → Rank
lower_of rank.Unary = rank.Unary
lower_of rank.Product = rank.Unary
lower_of rank.Sum = rank.Product
lower_of rank.Shift = rank.Sum
lower_of rank.And = rank.Shift
lower_of rank.Xor = rank.And
lower_of rank.Or = rank.Xor

abbrev pub place_of : Rank → ℕ
place_of rank.Unary = 0
place_of rank.Product = 1
place_of rank.Sum = 2
place_of rank.Shift = 3
place_of rank.And = 4
place_of rank.Xor = 5
place_of rank.Or = 6

abbrev pub operator_list : {V : Type 0} → (ℕ × V) × List (ℕ × V) → List (ℕ × V)
operator_list ops = ops.0 ∷ ops.1

abbrev pub operators_of : Rank → List (ℕ × BinOp)
operators_of rank.Unary = []
operators_of rank.Product = operator_list products
operators_of rank.Sum = operator_list sums
operators_of rank.Shift = operator_list shifts
operators_of rank.And = operator_list ands
operators_of rank.Xor = operator_list xors
operators_of rank.Or = operator_list ors
