-- THE HEIGHT in a reading of an expression is that of its tree: a fact an action.
use Rattle.std.proofs.Common.{◌≡◌, ℕ, zero, suc, ◌+◌, ◌≤◌, max, List, [], ◌∷◌, ◌++◌, Some, refl, sym, ap, ◌∙◌, arith}
use Rattle.token_kinds.specs.py_tokens.declared.token.Token.{Token}
use Rattle.py_tree.specs.Trees as t
use Rattle.grammar.specs.Table.{less, taken, Line}
use Rattle.grammar.specs.Heights.{Sized}
use Rattle.grammar.proofs.Heights.{as_high}
use Rattle.grammar.proofs.Operators.{one_of_sized}
use Rattle.py_tree.specs.declared.expr.ArgName.{ArgName}
use Rattle.py_tree.specs.Statements.{Place, NamePlace, AttributePlace, SubscriptPlace}
use Rattle.parsing.specs.Reading.{is_some}
use Rattle.py_expressions.specs.Values.{height, heights, high, op_more, operand_chain as first_chain, Args, with_name, name_in, named_by, place_height, places_height, Aim, Target, Carrier, target_in, aimed, aim_height}
use Rattle.py_expressions.specs.Sorts.{nothing, tree, left, prefix, chain, El, size, sort, Name, other, atom, arguments, slice, primary, single, power, unary, prod, sum, shift, band, xor, bitor, compare, negation, conjunct, disjunct, expr, exprs, targets}
use Rattle.py_expressions.specs.Lines.{OpRow, operator, powers, products, sums, shifts, ands, xors, ors, comparisons, prefixes, expressions, no_fars}

tall : (e : t.Tree) → 1 ≤ height e
tall (t.Name a b) = omega arith
tall (t.Number a b) = omega arith
tall (t.Text a b) = omega arith
tall (t.True a) = omega arith
tall (t.False a) = omega arith
tall (t.NoneTree a) = omega arith
tall (t.Paren a b) = omega arith
tall (t.Tuple a b) = omega arith
tall (t.Listed a b) = omega arith
tall (t.Dict a b c) = omega arith
tall (t.Attribute a b c) = omega arith
tall (t.Call a b c d) = omega arith
tall (t.Subscript a b c) = omega arith
tall (t.Slice a b c d e) = omega arith
tall (t.Unary a b c) = omega arith
tall (t.Binary a b c d) = omega arith
tall (t.Compare a b c d) = omega arith
tall (t.Not a b) = omega arith
tall (t.And a b c) = omega arith
tall (t.Or a b c) = omega arith
tall (t.IfElse a b c d) = omega arith

pub alone : (h : ℕ) → h ≡ max 0 h
alone h = omega arith

pub end : (h : ℕ) → max h 0 ≡ h
end h = omega arith

pub with_node : (h k : ℕ) → 1 + max h k ≡ max (1 + h) (1 + k)
with_node h k = omega arith

end_node : (h k : ℕ) → 1 + max (max h 0) k ≡ max (1 + h) (1 + k)
end_node h k = omega arith

swap : (a b c : ℕ) → max (max a c) b ≡ max (max a b) c
swap a b c = omega arith

pub group : (a b c : ℕ) → max a (max b c) ≡ max (max a b) c
group a b c = omega arith

drop : (a h : ℕ) → 1 ≤ h → max a h ≡ max (max a 1) h
drop a h i = omega (arith, i)

less_one : (h : ℕ) → h ≡ less (1 + h)
less_one h = go (1 + h) (omega arith)
  where
    go : (j : ℕ) → 1 + h ≡ j → h ≡ less j
    go zero e = absurd (omega (arith, e))
    go (suc j) e = omega (arith, e)

taken_up : (s : Aim) → height (aimed s) ≡ taken (is_some (target_in s)) (aim_height s)
taken_up (Target (NamePlace at n)) = refl
taken_up (Target (AttributePlace at e n)) = refl
taken_up (Target (SubscriptPlace at e i)) = refl
taken_up (Carrier e) = less_one (height e)

seen_height : (s : Aim) (p : Place) → target_in s ≡ Some p → place_height p ≡ aim_height s
seen_height (Target q) p e = let d : q ≡ p = cc in ap place_height (sym d)
seen_height (Carrier q) p e = absurd (cc)

-- a name is one high
name_low : (x : Args × t.Tree) (b : Args × ArgName) → named_by x ≡ Some b → (b.0 ≡ x.0) × (height x.1 ≡ 1)
name_low x b e = go x.1 e
  where
    go : (t : t.Tree) → with_name x.0 (name_in t) ≡ Some b → (b.0 ≡ x.0) × (height t ≡ 1)
    go (t.Name at n) e = let d : (x.0, record { at = at; name = n }) ≡ b = cc in (sym (ap (λ v. v.0) d), refl)
    go t e = absurd (cc)

named_low : (x : Args × t.Tree) (b : Args × ArgName) → named_by x ≡ Some b → max (heights b.0.all) 1 ≡ max (heights x.0.all) (height x.1)
named_low x b e = let d = name_low x b e in ap (λ v. max (heights v.all) 1) d.0 ∙ ap (λ v. max (heights x.0.all) v) (sym d.1)

pub one_end : (a : ℕ) → max a 0 ≡ max 0 a
one_end a = omega arith

places_end : (ps : List Place) (p : Place) → places_height (ps ++ p ∷ []) ≡ max (places_height ps) (place_height p)
places_end [] p = one_end (place_height p)
places_end (q ∷ ps) p = ap (λ v. max (place_height q) v) (places_end ps p) ∙ group (place_height q) (places_height ps) (place_height p)

-- operators keep heights
ops : (r : OpRow) → Sized expressions size (operator r)
ops r = one_of_sized expressions size {S = tree} {A = left} (λ l _ o. (l, o)) (λ _ _ _. refl) r.0 r.1

pub sized : (r : Name) → Sized expressions size (expressions.body r)
sized other = (((λ _ _. refl), (λ _. refl)), (((λ _ _. refl), (λ _. refl)), (((λ _ _. refl), (λ _. refl)), (((λ _ _. refl), (λ _. refl)), ((((λ _ _. refl), (λ _ _. refl)), (λ _. refl)), (((λ _ _. refl), (((λ _ _. refl), (λ _. refl)), (((λ _ e. alone (height e)), (λ _ _. refl)), (λ _. refl)))), (((λ _ _. refl), (((λ _ _. refl), (λ _. refl)), (((λ _ _. refl), ((λ _ _. refl), ((λ _ _. refl), (λ _. refl)))), ((λ _ _. refl), (λ _. refl))))), ((λ _ _. refl), (((λ _ _. refl), (λ _. refl)), (((((λ d e. swap (heights d.names) (heights d.values) (height e)), (λ _ _. refl)), (λ d e. group (heights d.names) (heights d.values) (height e))), ((λ _ _. refl), ((((λ d e. swap (heights d.names) (heights d.values) (height e)), (λ _ _. refl)), (λ d e. group (heights d.names) (heights d.values) (height e))), (λ _. refl)))), ((λ _ _. refl), (λ _. refl))))))))))))
sized atom = (((λ _ _. refl), (λ _. refl)), (λ _ e. alone (height e)))
sized arguments = ((λ _ _. refl), (((λ _ _. refl), (λ _. refl)), ((((λ _ _. refl), ((named_low, ((λ _ _. refl), (λ x e. drop (heights x.0.all) (height e) (tall e)))), (λ _. refl))), ((λ _ _. refl), (((λ _ _. refl), ((named_low, ((λ _ _. refl), (λ x e. drop (heights x.0.all) (height e) (tall e)))), (λ _. refl))), (λ _. refl)))), ((λ _ _. refl), (λ _. refl)))))
sized slice = ((λ _ _. refl), ((((λ _ _. refl), (λ _. refl)), ((λ _ _. refl), (((λ m _. end (high m)), (λ _. refl)), (((λ _ _. refl), (λ _ _. refl)), (λ _. refl))))), ((λ _ e. alone (height e)), (((λ m _. end (high m)), (λ _. refl)), ((λ _ _. refl), (((λ m _. end (high m)), (λ _. refl)), (((λ _ _. refl), (λ _ _. refl)), (λ _. refl))))))))
sized primary = ((λ _ e. alone (height e)), ((((λ _ _. refl), (λ _ _. refl)), (λ _. refl)), ((λ e a. with_node (height e) (heights a.all)), ((λ _ _. refl), ((λ e s. end_node (height e) (max (high s.0) (high s.1))), ((λ _ _. refl), (((λ _ _. refl), (λ _. refl)), (λ x s. with_node (max (height x.0) (height x.1)) (max (high s.0) (high s.1))))))))))
sized single = ((((λ _ _. refl), (λ _. refl)), ((λ _ e. alone (height e)), (λ _. refl))), ((taken_up, ((λ _. refl), seen_height)), ((((λ _ _. refl), (λ _ _. refl)), (λ _. refl)), (((λ _ _. refl), (((λ _. refl), ((λ e s. end_node (height e) (max (high s.0) (high s.1))), (λ _. refl))), ((λ _ _. refl), (((λ _ _. refl), (λ _. refl)), ((λ _. refl), ((λ x s. with_node (max (height x.0) (height x.1)) (max (high s.0) (high s.1))), (λ _. refl))))))), ((λ _. refl), ((λ e a. with_node (height e) (heights a.all)), (λ _. refl)))))))
sized power = ((λ _ e. alone (height e)), (((ops powers, (λ _ _. refl)), (λ _. refl)), (λ _. refl)))
sized unary = (((one_of_sized expressions size {S = nothing} {A = prefix} (λ _ u o. (u.at, o)) (λ _ _ _. refl) prefixes.0 prefixes.1, (λ _ e. alone (height e))), (λ _. refl)), (λ _ e. alone (height e)))
sized prod = ((λ _ e. alone (height e)), ((ops products, (λ _ _. refl)), (λ _. refl)))
sized sum = ((λ _ e. alone (height e)), ((ops sums, (λ _ _. refl)), (λ _. refl)))
sized shift = ((λ _ e. alone (height e)), ((ops shifts, (λ _ _. refl)), (λ _. refl)))
sized band = ((λ _ e. alone (height e)), ((ops ands, (λ _ _. refl)), (λ _. refl)))
sized xor = ((λ _ e. alone (height e)), ((ops xors, (λ _ _. refl)), (λ _. refl)))
sized bitor = ((λ _ e. alone (height e)), ((ops ors, (λ _ _. refl)), (λ _. refl)))
sized compare = ((λ _ e. alone (height e)), (((((one_of_sized expressions size {S = tree} {A = chain} (λ e _ o. op_more (first_chain e) o) (λ e _ _. end (height e)) comparisons.0 comparisons.1, (((λ _ _. refl), (λ e _. end (height e))), ((λ e _. end (height e)), ((λ _ _. refl), (λ _. refl))))), (λ c e. group (height c.head) (heights c.more) (height e))), ((one_of_sized expressions size {S = chain} {A = chain} (λ c _ o. op_more c o) (λ _ _ _. refl) comparisons.0 comparisons.1, (((λ _ _. refl), (λ _ _. refl)), ((λ _ _. refl), ((λ _ _. refl), (λ _. refl))))), (λ c e. group (height c.head) (heights c.more) (height e)))), (λ _. refl)), (λ _. refl)))
sized negation = ((((λ _ _. refl), (λ _ e. alone (height e))), (λ _. refl)), (λ _ e. alone (height e)))
sized conjunct = ((λ _ e. alone (height e)), (((((λ e _. end (height e)), (λ c e. group (height c.head) (heights c.more) (height e))), ((λ _ _. refl), (λ c e. group (height c.head) (heights c.more) (height e)))), (λ _. refl)), (λ _. refl)))
sized disjunct = ((λ _ e. alone (height e)), (((((λ e _. end (height e)), (λ c e. group (height c.head) (heights c.more) (height e))), ((λ _ _. refl), (λ c e. group (height c.head) (heights c.more) (height e)))), (λ _. refl)), (λ _. refl)))
sized expr = ((λ _ e. alone (height e)), ((((((λ _ _. refl), (λ _ _. refl)), (λ _ _. refl)), (λ _ _. refl)), (λ _. refl)), (λ _. refl)))
sized exprs = ((λ _ e. alone (height e)), (((((λ e _. sym (alone (height e))), ((λ _ _. refl), (λ _. refl))), ((λ _ _. refl), ((λ _ _. refl), (λ _. refl)))), (λ _. refl)), (λ _. refl)))
sized targets = ((λ _ p. alone (place_height p)), (((((λ p _. end (place_height p)), ((λ r p. places_end r.all p), (λ _. refl))), ((λ _ _. refl), ((λ r p. places_end r.all p), (λ _. refl)))), (λ _. refl)), (λ _. refl)))

-- WHAT A LINE READS is as high as the reading says
pub reading_height : (r : Name) (w : List Token) (y : El (sort r) × ℕ) → Line expressions no_fars r w y → size (sort r) y.0 ≡ y.1
reading_height = as_high expressions size (refl, sized) no_fars
