-- Parts one behind another.
use Rattle.std.proofs.Common.{◌≡◌, ◌<◌, ◌≤◌, ◌+◌, ◌∙◌, ℕ, suc, List, [], ◌∷◌, ◌++◌, Bool, true, false, Option, codes, length, take, get_or, refl, sym, ap, arith}
use Rattle.std.specs.Prelude.{if◌then◌else◌, eqb}
use Rattle.std.proofs.Math.Dec.{eqb-suc-zero}
use Rattle.std.proofs.lemmas.List.{append_assoc, append-nil, length-append, take_all, length-take-le}
use Rattle.std.specs.declared.alloc.Global.{Global}
use Rattle.std.specs.declared.rc.Rc.{Rc}
use Rattle.py_tree.specs.declared.expr.ArgName.{ArgName}
use Rattle.py_tree.specs.declared.expr.Expr.{Expr}
use Rattle.py_tree.specs.declared.op.CmpOp.{CmpOp}
use Rattle.py_tree.specs.Trees.{Tree, Trees, Empty, More, tree, trees, trees_behind}
use Rattle.py_values.specs.declared.object.Obj.{Obj}
use Rattle.py_world.specs.World.{Temps}
use Rattle.py_world.specs.Explained.{Explanation, shows, evaluated, joined_shows, kept_count, kept_count_all, last_operand, last_pair, kept_text, kept_value, came_from, named_show, named_shows, pair_shows, show_all, show_evaluated, show_part, tree_count}
use Rattle.assert_explain.specs.Texts.{attribute_show, in_parens, joined_with, arg_name_at, with_operand, word_at}
use Rattle.assert_explain.proofs.Counted.{trees_one_more}
use Rattle.assert_explain.proofs.Evaluated.{heap_aside}

-- one more behind some
pub joined_more : (word : List ℕ) (x : Explanation) (xs : List Explanation) (s : Explanation) → joined_shows word (x ∷ (xs ++ s ∷ [])) ≡ joined_with word false (joined_shows word (x ∷ xs)) s
joined_more word x [] s = refl
joined_more word x (y ∷ ys) s =
    ap (λ (j : Explanation). shows (x.text ++ (word ++ j.text)) (x.facts ++ j.facts)) (joined_more word y ys s) ∙ simp append_assoc refl

-- whether there is none
abbrev is_none : List Explanation → Bool
is_none [] = true
is_none (x ∷ xs) = false

joined_any : (word : List ℕ) (xs : List Explanation) (s : Explanation) → joined_shows word (xs ++ s ∷ []) ≡ joined_with word (is_none xs) (joined_shows word xs) s
joined_any word [] s = refl
joined_any word (x ∷ xs) s = joined_more word x xs s

name_next : (n : Option ArgName) (names : List (Option ArgName)) (at : ℕ) → arg_name_at (n ∷ names) (suc at) ≡ arg_name_at names at
name_next n names at = refl

no_names : (xs : List Explanation) (s : Explanation) → named_shows [] (xs ++ s ∷ []) ≡ named_shows [] xs ++ s ∷ []
no_names [] s = refl
no_names (x ∷ xs) s = ap (λ (ys : List Explanation). x ∷ ys) (no_names xs s)

-- one argument more
named_more : (names : List (Option ArgName)) (xs : List Explanation) (s : Explanation) → named_shows names (xs ++ s ∷ []) ≡ named_shows names xs ++ named_show (arg_name_at names (length xs)) s ∷ []
named_more [] xs s = no_names xs s
named_more (n ∷ names) [] s = refl
named_more (n ∷ names) (x ∷ xs) s = ap (λ (ys : List Explanation). named_show n x ∷ ys) (named_more names xs s)

named_none : (names : List (Option ArgName)) (xs : List Explanation) → is_none (named_shows names xs) ≡ is_none xs
named_none names [] = refl
named_none [] (x ∷ xs) = refl
named_none (n ∷ names) (x ∷ xs) = refl

none_by : (xs : List Explanation) → is_none xs ≡ eqb (length xs) 0
none_by [] = refl
none_by (x ∷ xs) = sym (eqb-suc-zero (length xs))

count_on : (before : Trees) (es : List (Rc Expr Global)) → tree_count (trees_behind before es) ≡ tree_count before + length es
count_on before [] = omega arith
count_on before (e ∷ es) = let h : tree_count (trees_behind (More before (tree e.value)) es) ≡ suc (tree_count before) + length es = count_on (More before (tree e.value)) es in omega (arith, h)

count_taken : (es : List (Rc Expr Global)) (i : ℕ) → i ≤ length es → tree_count (trees (take i es)) ≡ i
count_taken es i le =
    let h : tree_count (trees (take i es)) ≡ 0 + length (take i es) = count_on Empty (take i es) in
    let g : length (take i es) ≡ i = length-take-le i es le in
    omega (arith, h, g)

-- the place of the next one
pub place_more : (n : ℕ) (es : List (Rc Expr Global)) (i : ℕ) (e : Rc Expr Global) (e' : Expr) (at next : ℕ) → i < length es → e ≡ get_or es i e → e' ≡ e.value → at ≡ n + kept_count_all (trees (take i es))
    → next ≡ at + kept_count (tree e') → next ≡ n + kept_count_all (trees (take (i + 1) es))
place_more n es i e e' at next w is same place more =
    let k : kept_count_all (trees (take (i + 1) es)) ≡ kept_count_all (trees (take i es)) + kept_count (tree e.value) = ap kept_count_all (trees_one_more es i e w is) in
    let j : kept_count (tree e') ≡ kept_count (tree e.value) = ap (λ (x : Expr). kept_count (tree x)) same in
    omega (arith, k, j)

module _ (heap : List Obj) (kept : Temps) where
  shows_count : (n : ℕ) (ts : Trees) → length (show_all heap kept n ts) ≡ tree_count ts
  shows_count n Empty = refl
  shows_count n (More before e) =
      let h : length (show_all heap kept n before) ≡ tree_count before = shows_count n before in
      let g : length (show_all heap kept n before ++ show_part heap kept (n + kept_count_all before) e ∷ []) ≡ length (show_all heap kept n before) + 1 = length-append (show_all heap kept n before) (show_part heap kept (n + kept_count_all before) e ∷ []) in
      omega (arith, h, g)

  module _ (n : ℕ) (es : List (Rc Expr Global)) (i : ℕ) (e : Rc Expr Global) (e' : Expr) (at : ℕ) (w : i < length es) (is : e ≡ get_or es i e) (same : e' ≡ e.value)
      (place : at ≡ n + kept_count_all (trees (take i es))) where
    here : show_part heap kept at (tree e') ≡ show_part heap kept (n + kept_count_all (trees (take i es))) (tree e.value)
    here = ap (λ (x : ℕ). show_part heap kept x (tree e')) place ∙ ap (λ (x : Expr). show_part heap kept (n + kept_count_all (trees (take i es))) (tree x)) same

    -- one argument more
    pub args_more : (word : List ℕ) (names : List (Option ArgName)) (b : Bool) (all arg out : Explanation)
        → all ≡ joined_shows word (named_shows names (show_all heap kept n (trees (take i es)))) → arg ≡ named_show (arg_name_at names i) (show_part heap kept at (tree e'))
        → b ≡ eqb i 0 → out ≡ joined_with word b all arg → out ≡ joined_shows word (named_shows names (show_all heap kept n (trees (take (i + 1) es))))
    args_more word names b all arg out so_far shown first joined =
        let xs = show_all heap kept n (trees (take i es)) in
        let p = show_part heap kept (n + kept_count_all (trees (take i es))) (tree e.value) in
        let size : length xs ≡ i = shows_count n (trees (take i es)) ∙ count_taken es i (omega arith) in
        let b' : b ≡ is_none (named_shows names xs) = first ∙ ap (λ (k : ℕ). eqb k 0) (sym size) ∙ sym (none_by xs) ∙ sym (named_none names xs) in
        let one : arg ≡ named_show (arg_name_at names (length xs)) p = shown ∙ ap (λ (x : Explanation). named_show (arg_name_at names i) x) here ∙ ap (λ (k : ℕ). named_show (arg_name_at names k) p) (sym size) in
        joined ∙ ap (λ (x : Bool). joined_with word x all arg) b' ∙ ap (λ (x : Explanation). joined_with word (is_none (named_shows names xs)) x arg) so_far
        ∙ ap (λ (x : Explanation). joined_with word (is_none (named_shows names xs)) (joined_shows word (named_shows names xs)) x) one
        ∙ sym (joined_any word (named_shows names xs) (named_show (arg_name_at names (length xs)) p))
        ∙ ap (joined_shows word) (sym (named_more names xs p))
        ∙ ap (λ (ts : Trees). joined_shows word (named_shows names (show_all heap kept n ts))) (sym (trees_one_more es i e w is))

    known : (b : Bool) → b ≡ evaluated [] kept at (tree e') → evaluated heap kept (n + kept_count_all (trees (take i es))) (tree e.value) ≡ b
    known b h =
        sym (h ∙ sym (heap_aside heap kept at (tree e')) ∙ ap (λ (x : ℕ). evaluated heap kept x (tree e')) place
        ∙ ap (λ (x : Expr). evaluated heap kept (n + kept_count_all (trees (take i es))) (tree x)) same)

    -- one operand more, which was evaluated or not
    operand_by : (b : Bool) → b ≡ evaluated [] kept at (tree e') → (word : List ℕ) (first all out : Explanation) → all ≡ joined_shows word (first ∷ show_evaluated heap kept n (trees (take i es)))
        → out ≡ (if b then joined_with word false all (show_part heap kept at (tree e')) else all) → out ≡ joined_shows word (first ∷ show_evaluated heap kept n (trees (take (i + 1) es)))
    operand_by true test word first all out so_far joined =
        let xs = show_evaluated heap kept n (trees (take i es)) in
        let p = show_part heap kept (n + kept_count_all (trees (take i es))) (tree e.value) in
        let more : show_evaluated heap kept n (More (trees (take i es)) (tree e.value)) ≡ xs ++ p ∷ [] = rw (known true test) refl in
        joined ∙ ap (λ (x : Explanation). joined_with word false x (show_part heap kept at (tree e'))) so_far ∙ ap (λ (x : Explanation). joined_with word false (joined_shows word (first ∷ xs)) x) here
        ∙ sym (joined_more word first xs p) ∙ ap (λ (ys : List Explanation). joined_shows word (first ∷ ys)) (sym more)
        ∙ ap (λ (ts : Trees). joined_shows word (first ∷ show_evaluated heap kept n ts)) (sym (trees_one_more es i e w is))
    operand_by false test word first all out so_far joined =
        let less : show_evaluated heap kept n (More (trees (take i es)) (tree e.value)) ≡ show_evaluated heap kept n (trees (take i es)) = rw (known false test) refl in
        joined ∙ so_far ∙ ap (λ (ys : List Explanation). joined_shows word (first ∷ ys)) (sym less)
        ∙ ap (λ (ts : Trees). joined_shows word (first ∷ show_evaluated heap kept n ts)) (sym (trees_one_more es i e w is))

    pub operand_more : (word : List ℕ) (first all out : Explanation) → all ≡ joined_shows word (first ∷ show_evaluated heap kept n (trees (take i es)))
        → out ≡ with_operand heap kept at word (tree e') all → out ≡ joined_shows word (first ∷ show_evaluated heap kept n (trees (take (i + 1) es)))
    operand_more = operand_by (evaluated [] kept at (tree e')) refl

    -- one comparison more, which was made or not
    pub pair_more : (b : Bool) → b ≡ evaluated [] kept at (tree e') → (ops : List CmpOp) (first last next pair out : Explanation) (word : List ℕ) → last ≡ last_operand heap kept n first (trees (take i es))
        → pair ≡ last_pair heap kept n first ops (trees (take i es)) → next ≡ show_part heap kept at (tree e') → word ≡ word_at ops i
        → out ≡ (if b then pair_shows word last next else pair) → out ≡ last_pair heap kept n first ops (trees (take (i + 1) es))
    pair_more true test ops first last next pair out word before so_far shown by is_pair =
        let more : last_pair heap kept n first ops (More (trees (take i es)) (tree e.value))
        ≡ pair_shows (word_at ops (tree_count (trees (take i es)))) (last_operand heap kept n first (trees (take i es))) (show_part heap kept (n + kept_count_all (trees (take i es))) (tree e.value)) = rw (known true test) refl in
        let c : tree_count (trees (take i es)) ≡ i = count_taken es i (omega arith) in
        is_pair ∙ ap (λ (x : List ℕ). pair_shows x last next) (by ∙ ap (word_at ops) (sym c))
        ∙ ap (λ (x : Explanation). pair_shows (word_at ops (tree_count (trees (take i es)))) x next) before
        ∙ ap (λ (x : Explanation). pair_shows (word_at ops (tree_count (trees (take i es)))) (last_operand heap kept n first (trees (take i es))) x) (shown ∙ here)
        ∙ sym more ∙ ap (λ (ts : Trees). last_pair heap kept n first ops ts) (sym (trees_one_more es i e w is))
    pair_more false test ops first last next pair out word before so_far shown by is_pair =
        let less : last_pair heap kept n first ops (More (trees (take i es)) (tree e.value)) ≡ last_pair heap kept n first ops (trees (take i es)) = rw (known false test) refl in
        is_pair ∙ so_far ∙ sym less ∙ ap (λ (ts : Trees). last_pair heap kept n first ops ts) (sym (trees_one_more es i e w is))

    pub last_more : (first next : Explanation) → next ≡ show_part heap kept at (tree e') → next ≡ last_operand heap kept n first (trees (take (i + 1) es))
    last_more first next shown = shown ∙ here ∙ ap (λ (ts : Trees). last_operand heap kept n first ts) (sym (trees_one_more es i e w is))

  -- all of them
  module _ (n : ℕ) (es : List (Rc Expr Global)) (i : ℕ) (le : length es ≤ i) where
    pub args_all : (word : List ℕ) (names : List (Option ArgName)) (all : Explanation) → all ≡ joined_shows word (named_shows names (show_all heap kept n (trees (take i es))))
        → all ≡ joined_shows word (named_shows names (show_all heap kept n (trees es)))
    args_all word names all is = is ∙ ap (λ (xs : List (Rc Expr Global)). joined_shows word (named_shows names (show_all heap kept n (trees xs)))) (take_all i es le)

    pub operands_all : (word : List ℕ) (first all out : Explanation) → all ≡ joined_shows word (first ∷ show_evaluated heap kept n (trees (take i es))) → out ≡ in_parens all
        → out ≡ in_parens (joined_shows word (first ∷ show_evaluated heap kept n (trees es)))
    operands_all word first all out is behind =
        behind ∙ ap in_parens (is ∙ ap (λ (xs : List (Rc Expr Global)). joined_shows word (first ∷ show_evaluated heap kept n (trees xs))) (take_all i es le))

    pub pairs_all : (ops : List CmpOp) (first pair : Explanation) → pair ≡ last_pair heap kept n first ops (trees (take i es)) → pair ≡ last_pair heap kept n first ops (trees es)
    pairs_all ops first pair is = is ∙ ap (λ (xs : List (Rc Expr Global)). last_pair heap kept n first ops (trees xs)) (take_all i es le)

  -- how an attribute came
  pub attribute_came : (n : ℕ) (t : Tree) (name : List ℕ) (next : ℕ) (how dot one out : Explanation) (text : List ℕ)
      → next ≡ n + 1 → how ≡ show_part heap kept next t → dot ≡ shows (codes "." ++ name) [] → one ≡ shows (how.text ++ dot.text) (how.facts ++ dot.facts)
      → text ≡ kept_text heap kept (kept_value heap kept n) → out ≡ came_from text one.text one.facts → out ≡ attribute_show heap kept n t name
  attribute_came n t name next how dot one out text e1 e2 e3 e4 e5 e6 =
      let e : next ≡ suc n = omega arith in rw (e6, e5, e4, e3, e2, e) (simp append-nil refl)
