-- THE HEIGHT in a reading of statements is that of their blocks: a fact an action.
use Rattle.std.proofs.Common.{◌≡◌, ℕ, ◌+◌, max, List, Some, refl, sym, ap, ◌∙◌, arith}
use Rattle.py_source.specs.declared.pos.Pos.{Pos}
use Rattle.py_expressions.specs.py_tokens.declared.token.Token.{Token}
use Rattle.py_tree.specs.Statements.{Statement, Block, NoStatement, Next, Do, Assign, Place, Taker}
use Rattle.grammar.specs.Table.{Line}
use Rattle.grammar.specs.Heights.{Sized}
use Rattle.grammar.proofs.Heights.{as_high}
use Rattle.grammar.proofs.Operators.{one_of_sized}
use Rattle.py_expressions.proofs.Heights.{alone, with_node, group, end, one_end}
use Rattle.py_grammar.specs.Depth.{block_depth, block_depths, block_depths_of, handler_depths}
use Rattle.py_grammar.specs.Sorts.{targets_in, changed_in, attempt_size, BlockValue, block_height, block_sort, changing, change, BlockName, simple, simples, stmt, stmts, body, source}
use Rattle.py_grammar.specs.Lines.{behind, changes, defining, naming, statements}
use Rattle.py_grammar.specs.Sources.{unlimited}

-- where targets or a place are seen there is no block
no_blocks_left : (s : Statement) (b : Pos × List Taker) → targets_in s ≡ Some b → 0 ≡ block_depth s
no_blocks_left (Do at x) b e = refl
no_blocks_left (Assign at us x) b e = refl
no_blocks_left s b e = absurd (cc)

no_blocks_changed : (s : Statement) (b : Pos × Place) → changed_in s ≡ Some b → 0 ≡ block_depth s
no_blocks_changed (Do at x) b e = refl
no_blocks_changed s b e = absurd (cc)

first_of_all : (h : ℕ) → 1 + max 0 h ≡ max 0 (1 + h)
first_of_all h = omega arith

one_alone : (h : ℕ) → 1 + max 0 h ≡ 1 + h
one_alone h = omega arith

-- an absent block behind one that is there
absent : (a h : ℕ) → max (max a (1 + h)) (1 + 0) ≡ max a (1 + h)
absent a h = omega arith

absent_first : (h a : ℕ) → max (max (1 + h) a) (1 + 0) ≡ max (1 + h) a
absent_first h a = omega arith

absent_between : (h a k : ℕ) → max (max (max (1 + h) a) (1 + 0)) (1 + k) ≡ max (max (1 + h) a) (1 + k)
absent_between h a k = omega arith

behind_deep : (b c : Block) → block_depths (behind b c) ≡ max (block_depths b) (block_depths c)
behind_deep b NoStatement = sym (end (block_depths b))
behind_deep b (Next c s) = ap (λ v. max v (block_depth s)) (behind_deep b c) ∙ sym (group (block_depths b) (block_depths c) (block_depth s))

behind_high : (b c : Block) → 1 + block_depths (behind b c) ≡ max (1 + block_depths b) (1 + block_depths c)
behind_high b c = ap (λ v. 1 + v) (behind_deep b c) ∙ with_node (block_depths b) (block_depths c)

defining_sized : Sized statements block_height defining
defining_sized = (((((((λ _ _. refl), (λ _ _. refl)), ((λ _ _. refl), (((((λ _ _. refl), (((λ _ _. refl), (λ _ _. refl)), (λ _. refl))), (((λ _ _. refl), (λ _ _. refl)), (λ _. refl))), ((λ _ _. refl), ((((λ _ _. refl), (((λ _ _. refl), (λ _ _. refl)), (λ _. refl))), (((λ _ _. refl), (λ _ _. refl)), (λ _. refl))), (λ _. refl)))), (λ _ _. refl)))), (((λ _ _. refl), (λ _ _. refl)), (λ _. refl))), (λ _ _. refl)), (λ _ b. alone (1 + block_depths b))), (λ x. one_alone (1 + block_depths x.1)))

naming_sized : Sized statements block_height naming
naming_sized = (((((λ _ _. refl), (((λ _ _. refl), ((λ _ _. refl), ((λ _ _. refl), (λ _ _. refl)))), (λ _. refl))), (λ _ _. refl)), (λ _ b. alone (1 + block_depths b))), (λ x. one_alone (1 + block_depths x.1)))

pub sized : (r : BlockName) → Sized statements block_height (statements.body r)
sized simple = ((((λ _ _. refl), (λ _. refl)), (((λ _ _. refl), (λ _. refl)), (((λ _ _. refl), (λ _. refl)), (((λ _ _. refl), (((λ _ _ _. refl), ((((λ _ _. refl), (λ _ _. refl)), (λ _ _. refl)), (λ _ _. refl))), (λ _. refl))), (((λ _ _. refl), ((λ _ _. refl), (λ _. refl))), ((((λ _ _. refl), (λ _ _. refl)), (((λ _ _. refl), (λ _ _. refl)), (λ _. refl))), (((λ _ _. refl), (λ _ _. refl)), ((((λ _ _. refl), ((λ _ _. refl), ((λ _ _. refl), (λ _ _. refl)))), (λ _. refl)), (((λ _ _. refl), ((λ _ _. refl), (λ _. refl))), ((((λ _ _. refl), ((λ _ _. refl), ((λ _ _. refl), (λ _ _. refl)))), (((λ _ _. refl), (λ _ _. refl)), (λ _. refl))), ((((((λ _ _. refl), ((λ _ _. refl), ((λ _ _. refl), (λ _ _. refl)))), (λ _ _. refl)), ((((λ _ _. refl), (((λ _ _. refl), (λ _ _. refl)), (λ _. refl))), ((λ _ _. refl), ((λ _ _. refl), (((λ _ _. refl), (λ _ _. refl)), (λ _. refl))))), ((((λ _ _. refl), ((λ _ _. refl), (((λ _ _. refl), (λ _ _. refl)), (λ _. refl)))), ((λ _ _. refl), (((λ _ _. refl), (((λ _ _. refl), (λ _ _. refl)), (λ _. refl))), (λ _. refl)))), (λ _ _. refl)))), (λ _. refl)), ((λ _ _. refl), ((no_blocks_changed, (one_of_sized statements block_height {S = changing} {A = change} (λ p _ o. (p, o)) (λ _ _ _. refl) changes.0 changes.1, (λ _ _. refl))), (no_blocks_left, ((λ _ _. refl), ((λ _ _. refl), ((λ _ _. refl), ((λ _ _. refl), (λ _. refl))))))))))))))))))), (λ _. refl))
sized simples = (((λ _ s. first_of_all (block_depth s)), ((λ _ _. refl), ((λ r s. with_node (block_depths r.all) (block_depth s)), (λ _. refl)))), (λ _ _. refl))
sized stmt = (((((((λ _ _. refl), (((λ _ _. refl), (λ _ _. refl)), (λ _ _. refl))), ((λ _ _. refl), (((λ _ _. refl), (λ _ _. refl)), (λ _ _. refl)))), ((((λ _ _. refl), (λ _ _. refl)), (λ _ _. refl)), (λ c. absent (block_depths_of c.before) (block_depths c.body)))), (λ x. one_alone (max (max (block_depths_of x.0.before) (1 + block_depths x.0.body)) (1 + block_depths x.1)))), ((((((λ _ _. refl), (λ _ _. refl)), (λ _ _. refl)), (λ _ b. alone (1 + block_depths b))), (λ x. one_alone (1 + block_depths x.1))), ((((((((λ _ _. refl), (λ _ _. refl)), (λ _ _. refl)), (λ _ _. refl)), (λ _ _. refl)), (λ _ b. alone (1 + block_depths b))), (λ x. one_alone (1 + block_depths x.1))), ((((((λ _ _. refl), (λ _ _. refl)), (λ _ b. one_end (1 + block_depths b))), ((((((((λ _ _. refl), (((λ _ _. refl), (((λ _ _. refl), (λ _ _. refl)), (λ _. refl))), (λ _. refl))), (λ _ _. refl)), (λ c b. group (1 + block_depths c.of.tried) (handler_depths c.of.handlers) (1 + block_depths b))), ((((λ _ _. refl), (((λ _ _. refl), (((λ _ _. refl), (λ _ _. refl)), (λ _. refl))), (λ _. refl))), (λ _ _. refl)), (λ c b. group (1 + block_depths c.of.tried) (handler_depths c.of.handlers) (1 + block_depths b)))), ((((λ _ _. refl), (λ _ _. refl)), (λ _ _. refl)), (λ a. absent_first (block_depths a.tried) (handler_depths a.handlers)))), ((((λ _ _. refl), (λ _ _. refl)), (λ _ _. refl)), (λ x. absent (attempt_size x.0) (block_depths x.1)))), (((λ _ _. refl), (λ _ _. refl)), (λ a b. absent_between (block_depths a.tried) (handler_depths a.handlers) (block_depths b))))), (λ x. one_alone (max (max (attempt_size x.0.0) (1 + block_depths x.0.1)) (1 + block_depths x.1)))), (((((((λ _ _. refl), (λ _ _. refl)), (((λ _ _. refl), (λ _ _. refl)), (λ _. refl))), (λ _ _. refl)), (λ _ b. alone (1 + block_depths b))), (λ x. one_alone (1 + block_depths x.1))), ((((λ _ _. refl), defining_sized), ((λ _ _. refl), naming_sized)), (((((λ _ _. refl), (λ _ _. refl)), (λ _ _. refl)), (((λ _ _. refl), (λ _ _. refl)), (λ _ _. refl))), (((λ _ _. refl), defining_sized), ((λ _ _. refl), naming_sized))))))))), (λ _ b. alone (1 + block_depths b)))
sized stmts = ((λ _ b. alone (1 + block_depths b)), behind_high)
sized body = (((((λ _ _. refl), (λ _ _. refl)), (λ _ b. alone (1 + block_depths b))), (λ _ _. refl)), (λ _ b. alone (1 + block_depths b)))
sized source = (((λ _ _. refl), (λ _. refl)), ((λ _ b. alone (1 + block_depths b)), (λ _ _. refl)))

-- WHAT A LINE READS is as high as the reading says
pub reading_depth : (r : BlockName) (w : List Token) (y : BlockValue (block_sort r) × ℕ) → Line statements unlimited r w y → block_height (block_sort r) y.0 ≡ y.1
reading_depth = as_high statements block_height (refl, sized) unlimited
