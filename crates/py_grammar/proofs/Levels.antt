-- THE LEVELS OF EXPRESSIONS in a reading are those of its tree: a fact an action.
use Rattle.std.proofs.Common.{◌≡◌, ℕ, ◌≤◌, ◌+◌, max, List, [], ◌∷◌, ◌++◌, Option, Some, None, refl, sym, ap, ◌∙◌, arith}
use Rattle.py_source.specs.declared.pos.Pos.{Pos}
use Rattle.py_expressions.specs.py_tokens.declared.token.Token.{Token}
use Rattle.py_tree.specs.Trees as t
use Rattle.py_tree.specs.Trees.{Tree, Trees, Maybe, Empty, More}
use Rattle.py_tree.specs.Statements.{Place, Taker, One, Unpack, Parameter, Parameter_at, Statement, Block, NoStatement, Next, Do, Assign}
use Rattle.grammar.specs.Table.{one_of, Line}
use Rattle.grammar.specs.Measures.{Measured}
use Rattle.grammar.proofs.Measures.{is_low, in_limit}
use Rattle.py_expressions.specs.Sorts as e
use Rattle.py_expressions.specs.Values.{height, heights, high, place_height, places_height, taker_height, place_in, places_in, behind_places, taker_in, one_taker, several_taker}
use Rattle.py_expressions.proofs.Heights.{alone, end, one_end, group, reading_height}
use Rattle.py_grammar.specs.Depth.{takers_height, params_height, expression_level, expression_levels, expression_levels_of, handler_levels}
use Rattle.py_grammar.specs.Sorts.{targets_in, next_target, changed_in, at_place, Attempt, Head, BlockSort, nothing, position, twice, read, plain, targeted, changing, change, yielding, tested, names, listing, aliasing, statement, run, block, opening, testing, choice, repeated, aiming, looped, looping, context, holding, attempt, catching, classing, catch, begun, decor, head, param, function, titled, maybe, classed, both, BlockValue, BlockName, simple, simples, stmt, stmts, body, source, block_sort}
use Rattle.py_grammar.specs.Lines.{behind, changes, defining, naming, statements}
use Rattle.py_grammar.specs.Sources.{limited, unlimited}

-- the highest expression in a value
abbrev attempt_level : Attempt → ℕ
attempt_level a = max (expression_levels a.tried) (handler_levels a.handlers)

abbrev head_level : Head → ℕ
head_level h = max (heights h.begun.decorators) (params_height h.params)

abbrev level : (S : BlockSort) → BlockValue S → ℕ
level nothing x = 0
level position x = 0
level twice x = 0
level (read S) x = e.size S x.0
level plain x = expression_level x
level targeted x = takers_height x.1
level changing x = place_height x.1
level change x = place_height x.0.1
level yielding x = takers_height x.0.1
level tested x = height x.1
level names x = 0
level listing x = 0
level aliasing x = 0
level statement x = expression_level x
level run x = expression_levels x.all
level block x = expression_levels x
level opening x = expression_levels_of x.before
level testing x = max (expression_levels_of x.0.before) (height x.1)
level choice x = max (max (expression_levels_of x.before) (height x.test)) (expression_levels x.body)
level repeated x = max (height x.0.1) (expression_levels x.1)
level aiming x = taker_height x.1
level looped x = max (taker_height x.0.1) (height x.1)
level looping x = max (max (taker_height x.0.0.1) (height x.0.1)) (expression_levels x.1)
level context x = height x.of
level holding x = max (height x.0.of) (expression_levels x.1)
level attempt x = attempt_level x
level catching x = attempt_level x.0
level classing x = max (attempt_level x.0.0) (height x.1)
level catch x = max (attempt_level x.of) (high x.class)
level begun x = heights x.decorators
level decor x = heights x.1
level head x = head_level x
level param x = head_level x.head
level function x = max (max (head_level x.0.0) (high x.0.1)) (expression_levels x.1)
level titled x = heights x.0.decorators
level maybe x = high x
level classed x = max (max (heights x.0.0.0.decorators) (high x.0.1)) (expression_levels x.1)
level (both S T) x = max (level S x.0) (level T x.1)

-- what is read by a line of expressions
abbrev far_level : (q : e.Name) → e.El (e.sort q) × ℕ → ℕ
far_level q x = e.size (e.sort q) x.0

last : (h : ℕ) → h ≡ max h 0
last h = omega arith

no_other : (h k : ℕ) → max (max h 0) k ≡ max h k
no_other h k = omega arith

handler : (t h c b : ℕ) → max t (max (max h c) b) ≡ max (max (max t h) c) b
handler t h c b = omega arith

-- TARGETS are as high as the expressions that they are
place_high : (x : Tree) (p : Place) → place_in x ≡ Some p → place_height p ≡ height x
place_high (t.Name at n) p e = sym (ap (high_of 1) e)
  where
    high_of : ℕ → Option Place → ℕ
    high_of h None = h
    high_of h (Some p) = place_height p
place_high (t.Attribute at x n) p e = sym (ap high_of e)
  where
    high_of : Option Place → ℕ
    high_of None = 0
    high_of (Some p) = place_height p
place_high (t.Subscript at x i) p e = sym (ap high_of e)
  where
    high_of : Option Place → ℕ
    high_of None = 0
    high_of (Some p) = place_height p
place_high x p e = absurd (cc)

one_high : (x : Tree) (o : Option Place) (u : Taker) → place_in x ≡ o → one_taker o ≡ Some u → taker_height u ≡ height x
one_high x None u d e = absurd (cc)
one_high x (Some p) u d e = let q : One p ≡ u = cc in sym (ap taker_height q) ∙ place_high x p d

places_end : (ps : List Place) (p : Place) → places_height (ps ++ p ∷ []) ≡ max (places_height ps) (place_height p)
places_end [] p = one_end (place_height p)
places_end (q ∷ ps) p = ap (λ v. max (place_height q) v) (places_end ps p) ∙ group (place_height q) (places_height ps) (place_height p)

places_high : (es : Trees) (ps : List Place) → places_in es ≡ Some ps → places_height ps ≡ heights es
places_high Empty ps e = let d : [] ≡ ps = cc in sym (ap places_height d)
places_high (More es x) ps e = go (places_in es) (place_in x) refl refl (λ qs c. places_high es qs c) e
  where
    go : (o : Option (List Place)) (q : Option Place) → places_in es ≡ o → place_in x ≡ q → ((qs : List Place) → places_in es ≡ Some qs → places_height qs ≡ heights es) → behind_places o q ≡ Some ps → places_height ps ≡ max (heights es) (height x)
    go None q c d r e = absurd (cc)
    go (Some qs) None c d r e = absurd (cc)
    go (Some qs) (Some p) c d r e = let f : qs ++ p ∷ [] ≡ ps = cc in
        sym (ap places_height f) ∙ places_end qs p ∙ ap (λ v. max v (place_height p)) (r qs c) ∙ ap (λ v. max (heights es) v) (place_high x p d)

several_high : (es : Trees) (o : Option (List Place)) (u : Taker) → places_in es ≡ o → several_taker o ≡ Some u → taker_height u ≡ 1 + heights es
several_high es None u d e = absurd (cc)
several_high es (Some ps) u d e = let q : Unpack ps ≡ u = cc in sym (ap taker_height q) ∙ ap (λ v. 1 + v) (places_high es ps d)

taker_high : (x : Tree) (u : Taker) → taker_in x ≡ Some u → taker_height u ≡ height x
taker_high (t.Tuple at Empty) u e = absurd (cc)
taker_high (t.Tuple at (More es x)) u e = several_high (More es x) (places_in (More es x)) u refl e
taker_high x u e = one_high x (place_in x) u refl e

takers_end : (us : List Taker) (u : Taker) → takers_height (us ++ u ∷ []) ≡ max (takers_height us) (taker_height u)
takers_end [] u = one_end (taker_height u)
takers_end (w ∷ us) u = ap (λ v. max (taker_height w) v) (takers_end us u) ∙ group (taker_height w) (takers_height us) (taker_height u)

next_high : (at : Pos) (us : List Taker) (x : Tree) (o : Option Taker) (b : Pos × List Taker) → taker_in x ≡ o → next_target at us o ≡ Some b → takers_height b.1 ≡ max (takers_height us) (height x)
next_high at us x None b d e = absurd (cc)
next_high at us x (Some u) b d e = let q : (at, us ++ u ∷ []) ≡ b = cc in sym (ap (λ v. takers_height v.1) q) ∙ takers_end us u ∙ ap (λ v. max (takers_height us) v) (taker_high x u d)

targets_high : (s : Statement) (b : Pos × List Taker) → targets_in s ≡ Some b → takers_height b.1 ≡ expression_level s
targets_high (Do at x) b e = next_high at [] x (taker_in x) b refl e ∙ sym (alone (height x))
targets_high (Assign at us x) b e = next_high at us x (taker_in x) b refl e
targets_high s b e = absurd (cc)

at_high : (at : Pos) (x : Tree) (o : Option Place) (b : Pos × Place) → place_in x ≡ o → at_place at o ≡ Some b → place_height b.1 ≡ height x
at_high at x None b d e = absurd (cc)
at_high at x (Some p) b d e = let q : (at, p) ≡ b = cc in sym (ap (λ v. place_height v.1) q) ∙ place_high x p d

changed_high : (s : Statement) (b : Pos × Place) → changed_in s ≡ Some b → place_height b.1 ≡ expression_level s
changed_high (Do at x) b e = at_high at x (place_in x) b refl e
changed_high s b e = absurd (cc)

-- PARAMETERS
param_end : (n a d : ℕ) → max (max a d) 0 ≡ max a d
param_end n a d = omega arith

params_end : (ps : List Parameter) (at : Pos) (name : List ℕ) (a d : Maybe) → params_height (ps ++ Parameter_at at name a d ∷ []) ≡ max (params_height ps) (max (high a) (high d))
params_end [] at name a d = one_end (max (high a) (high d))
params_end (Parameter_at p n b c ∷ ps) at name a d = ap (λ v. max (max (high b) (high c)) v) (params_end ps at name a d) ∙ group (max (high b) (high c)) (params_height ps) (max (high a) (high d))

with_param_high : (h : Head) (at : Pos) (name : List ℕ) (a d : Maybe) → max (heights h.begun.decorators) (params_height (h.params ++ Parameter_at at name a d ∷ [])) ≡ max (max (head_level h) (high a)) (high d)
with_param_high h at name a d = ap (λ v. max (heights h.begun.decorators) v) (params_end h.params at name a d) ∙ four (heights h.begun.decorators) (params_height h.params) (high a) (high d)
  where
    four : (u p a d : ℕ) → max u (max p (max a d)) ≡ max (max (max u p) a) d
    four u p a d = omega arith

behind_level : (b c : Block) → expression_levels (behind b c) ≡ max (expression_levels b) (expression_levels c)
behind_level b NoStatement = last (expression_levels b)
behind_level b (Next c s) = ap (λ v. max v (expression_level s)) (behind_level b c) ∙ sym (group (expression_levels b) (expression_levels c) (expression_level s))

defining_measured : Measured statements level far_level defining
defining_measured = (((((((λ d _. end (heights d.decorators)), (λ _ _. refl)), ((λ _ _. refl), (((((λ _ _. refl), (((λ _ _. refl), (λ _ _. refl)), (λ p. end (head_level p.head)))), (((λ _ _. refl), (λ p x. with_param_high p.0.head p.0.at p.0.name p.1 (t.Present x.0))), (λ p. with_param_high p.0.head p.0.at p.0.name p.1 t.Absent ∙ end (max (head_level p.0.head) (high p.1))))), ((λ _ _. refl), ((((λ _ _. refl), (((λ _ _. refl), (λ _ _. refl)), (λ p. end (head_level p.head)))), (((λ _ _. refl), (λ p x. with_param_high p.0.head p.0.at p.0.name p.1 (t.Present x.0))), (λ p. with_param_high p.0.head p.0.at p.0.name p.1 t.Absent ∙ end (max (head_level p.0.head) (high p.1))))), (λ _. refl)))), (λ _ _. refl)))), (((λ _ _. refl), (λ _ _. refl)), (λ h. end (head_level h)))), (λ _ _. refl)), (λ _ _. refl)), (λ x. sym (alone (max (max (head_level x.0.0) (high x.0.1)) (expression_levels x.1)))))

naming_measured : Measured statements level far_level naming
naming_measured = (((((λ _ _. refl), (((λ _ _. refl), ((λ d _. end (heights d.0.decorators)), ((λ _ _. refl), (λ _ _. refl)))), (λ d. end (heights d.0.decorators)))), (λ _ _. refl)), (λ _ _. refl)), (λ x. sym (alone (max (max (heights x.0.0.0.decorators) (high x.0.1)) (expression_levels x.1)))))

changes_measured : Measured statements level far_level (one_of {S = changing} {A = change} (λ p _ o. (p, o)) changes.0 changes.1)
changes_measured = ((λ _ _. refl), ((λ _ _. refl), ((λ _ _. refl), ((λ _ _. refl), ((λ _ _. refl), ((λ _ _. refl), ((λ _ _. refl), ((λ _ _. refl), ((λ _ _. refl), ((λ _ _. refl), (λ _ _. refl)))))))))))

measured : (r : BlockName) → Measured statements level far_level (statements.body r)
measured simple = ((((λ _ _. refl), (λ _. refl)), (((λ _ _. refl), (λ _. refl)), (((λ _ _. refl), (λ _. refl)), (((λ _ _. refl), (((λ _ _ _. refl), ((((λ _ x. alone (height x.0)), (λ _ _. refl)), (λ _ _. refl)), (λ _ x. alone (height x.0)))), (λ _. refl))), (((λ _ _. refl), ((λ _ x. alone (height x.0)), (λ _. refl))), ((((λ _ _. refl), (λ _ x. alone (height x.0))), (((λ _ _. refl), (λ _ _. refl)), (λ x. end (height x.1)))), (((λ _ _. refl), (λ _ x. alone (place_height x.0))), ((((λ _ _. refl), ((λ _ _. refl), ((λ _ _. refl), (λ _ _. refl)))), (λ _. refl)), (((λ _ _. refl), ((λ _ x. alone (height x.0)), (λ _. refl))), ((((λ _ _. refl), ((λ _ _. refl), ((λ _ _. refl), (λ _ _. refl)))), (((λ _ _. refl), (λ _ _. refl)), (λ _. refl))), ((((((λ _ _. refl), ((λ _ _. refl), ((λ _ _. refl), (λ _ _. refl)))), (λ _ _. refl)), ((((λ _ _. refl), (((λ _ _. refl), (λ _ _. refl)), (λ _. refl))), ((λ _ _. refl), ((λ _ _. refl), (((λ _ _. refl), (λ _ _. refl)), (λ _. refl))))), ((((λ _ _. refl), ((λ _ _. refl), (((λ _ _. refl), (λ _ _. refl)), (λ _. refl)))), ((λ _ _. refl), (((λ _ _. refl), (((λ _ _. refl), (λ _ _. refl)), (λ _. refl))), (λ _. refl)))), (λ _ _. refl)))), (λ _. refl)), ((λ _ x. alone (height x.0)), ((changed_high, (changes_measured, (λ _ _. refl))), (targets_high, ((λ _ _. refl), ((λ _ _. refl), ((λ _ _. refl), ((λ _ _. refl), (λ y. end (takers_height y.0.1)))))))))))))))))))), (λ _. refl))
measured simples = (((λ _ s. refl), ((λ _ _. refl), ((λ r s. refl), (λ _. refl)))), (λ _ _. refl))
measured stmt = (((((((λ _ _. refl), (((λ _ _. refl), (λ _ _. refl)), (λ _ _. refl))), ((λ _ _. refl), (((λ _ _. refl), (λ _ _. refl)), (λ _ _. refl)))), ((((λ _ _. refl), (λ _ _. refl)), (λ _ _. refl)), (λ c. end (max (max (expression_levels_of c.before) (height c.test)) (expression_levels c.body))))), (λ x. sym (alone (max (max (max (expression_levels_of x.0.before) (height x.0.test)) (expression_levels x.0.body)) (expression_levels x.1))))), ((((((λ _ _. refl), (λ _ x. alone (height x.0))), (λ _ _. refl)), (λ _ _. refl)), (λ x. sym (alone (max (height x.0.1) (expression_levels x.1))))), ((((((((λ _ _. refl), (λ _ x. alone (taker_height x.0))), (λ _ _. refl)), (λ _ _. refl)), (λ _ _. refl)), (λ _ _. refl)), (λ x. sym (alone (max (max (taker_height x.0.0.1) (height x.0.1)) (expression_levels x.1))))), ((((((λ _ _. refl), (λ _ _. refl)), (λ _ b. one_end (expression_levels b))), ((((((((λ _ _. refl), (((λ _ _. refl), (((λ _ _. refl), (λ _ _. refl)), (λ _. refl))), (λ c. end (attempt_level c.0)))), (λ _ _. refl)), (λ c b. handler (expression_levels c.of.tried) (handler_levels c.of.handlers) (high c.class) (expression_levels b))), ((((λ _ _. refl), (((λ _ _. refl), (((λ _ _. refl), (λ _ _. refl)), (λ _. refl))), (λ c. end (attempt_level c.0)))), (λ _ _. refl)), (λ c b. handler (expression_levels c.of.tried) (handler_levels c.of.handlers) (high c.class) (expression_levels b)))), ((((λ _ _. refl), (λ _ _. refl)), (λ _ _. refl)), (λ a. end (attempt_level a)))), ((((λ _ _. refl), (λ _ _. refl)), (λ _ _. refl)), (λ x. end (max (attempt_level x.0) (expression_levels x.1))))), (((λ _ _. refl), (λ _ _. refl)), (λ a b. no_other (attempt_level a) (expression_levels b))))), (λ x. sym (alone (max (max (attempt_level x.0.0) (expression_levels x.0.1)) (expression_levels x.1))))), (((((((λ _ _. refl), (λ _ x. alone (height x.0))), (((λ _ _. refl), (λ _ _. refl)), (λ _. refl))), (λ _ _. refl)), (λ _ _. refl)), (λ x. sym (alone (max (height x.0.of) (expression_levels x.1))))), ((((λ _ _. refl), defining_measured), ((λ _ _. refl), naming_measured)), (((((λ _ _. refl), (λ _ _. refl)), (λ _ _. refl)), (((λ _ _. refl), (λ _ _. refl)), (λ _ _. refl))), (((λ _ _. refl), defining_measured), ((λ _ _. refl), naming_measured))))))))), (λ _ b. alone (expression_levels b)))
measured stmts = ((λ _ b. alone (expression_levels b)), behind_level)
measured body = (((((λ _ _. refl), (λ _ _. refl)), (λ _ b. alone (expression_levels b))), (λ _ _. refl)), (λ _ b. alone (expression_levels b)))
measured source = (((λ _ _. refl), (λ _. refl)), ((λ _ b. alone (expression_levels b)), (λ _ _. refl)))

-- WHAT IS READ WITHIN A LIMIT is read, and has no deeper expression; and the other way round
of_limited : (n : ℕ) (q : e.Name) (w : List Token) (x : e.El (e.sort q) × ℕ) → limited n q w x → unlimited q w x × (far_level q x ≤ n)
of_limited n q w x d = let h = reading_height q w x d.0 in let i = d.1 in (d.0, omega (arith, h, i))

to_limited : (n : ℕ) (q : e.Name) (w : List Token) (x : e.El (e.sort q) × ℕ) → unlimited q w x → far_level q x ≤ n → limited n q w x
to_limited n q w x d i = let h = reading_height q w x d in (d, omega (arith, h, i))

pub limited_low : (n : ℕ) (r : BlockName) (w : List Token) (x : BlockValue (block_sort r) × ℕ) → Line statements (limited n) r w x → Line statements unlimited r w x × (level (block_sort r) x.0 ≤ n)
limited_low n = is_low statements level far_level (refl, measured) n (limited n) unlimited (of_limited n)

pub low_limited : (n : ℕ) (r : BlockName) (w : List Token) (x : BlockValue (block_sort r) × ℕ) → Line statements unlimited r w x → level (block_sort r) x.0 ≤ n → Line statements (limited n) r w x
low_limited n = in_limit statements level far_level (refl, measured) n (limited n) unlimited (to_limited n)
