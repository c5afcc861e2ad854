-- What the code reads and selects is what options say.
use Rattle.std.proofs.Common.{◌≡◌, ◌↔◌, ℕ, Bool, true, false, ◌&&◌, List, Option, Some, None, Ok, Err, IsTrue, refl, sym, ap, ap₂, subst, ◌∙◌, chars, option_map}
use Rattle.cli_words.specs.declared.options.Options.{Options}
use Rattle.mark_expr.specs.Answer.{ParseResult, Gave, Reads, Wrong, TooDeep}
use Rattle.mark_expr.specs.Expression.{ExpressionTree}
use Rattle.mark_expr.specs.Matching.{Holds, truth}
use Rattle.mark_expr.specs.declared.fault.ExprFault.{ExprFault}
use Rattle.mark_expr.specs.declared.fault.ExprFault.TheVariants as expr
use Rattle.mark_expr.specs.declared.matching.How.{How}
use Rattle.mark_expr.specs.declared.matching.How.TheVariants.{Part, Whole}
use Rattle.mark_expr.specs.declared.tree.MarkExpr.{MarkExpr}
use Rattle.mark_expr.proofs.Meaning.{truth_is}
use Rattle.selection.specs.Exprs.{AreExprs, IsRefused, IsValueRead, accepts, answer_for, earlier_fault, fault_seen, flag_fault, is_blank_value, is_selected, refused_expression, selection_text, tree_given, tree_seen, value_fault}
use Rattle.selection.specs.Reading.{expression_answer}
use Rattle.selection.specs.declared.exprs.Exprs.{Exprs}
use Rattle.selection.specs.declared.fault.Flag.{Flag}
use Rattle.selection.specs.declared.fault.Flag.TheVariants.{Keyword, Marks}
use Rattle.selection.specs.declared.fault.SelectionFault.{SelectionFault}
use Rattle.selection.specs.declared.fault.SelectionFault.TheVariants as faults

-- a value
pub blank_read : (flag : Flag) (text : List ℕ) → true ≡ is_blank_value text → IsValueRead flag (answer_for text) (Ok None)
blank_read flag text e = rw (← e) (refl, refl)

ok_answer : (flag : Flag) (e : MarkExpr) (a : ParseResult) → Gave (Ok e) a → IsValueRead flag (Some a) (Ok (Some e))
ok_answer flag e (Reads tree) g = (ap Some g, refl)
ok_answer flag e (Wrong column) g = absurd g
ok_answer flag e TooDeep g = absurd g

pub ok_read : (flag : Flag) (text : List ℕ) (e : MarkExpr) → false ≡ is_blank_value text → Gave (Ok e) (expression_answer (chars text)) → IsValueRead flag (answer_for text) (Ok (Some e))
ok_read flag text e blank g = rw (← blank) (ok_answer flag e (expression_answer (chars text)) g)

err_answer : (flag : Flag) (fault : ExprFault) (a : ParseResult) → Gave (Err fault) a → IsValueRead flag (Some a) (Err (fault_seen flag fault))
err_answer flag (expr.Bad c) (Reads tree) g = absurd g
err_answer flag (expr.Bad c) (Wrong column) g = ap (λ k. Some (faults.Wrong flag k)) (sym g)
err_answer flag (expr.Bad c) TooDeep g = absurd g
err_answer flag expr.Nesting (Reads tree) g = absurd g
err_answer flag expr.Nesting (Wrong column) g = absurd g
err_answer flag expr.Nesting TooDeep g = refl
err_answer flag expr.OutOfMemory a g = tt

pub err_read : (flag : Flag) (text : List ℕ) (fault : ExprFault) → false ≡ is_blank_value text → Gave (Err fault) (expression_answer (chars text)) → IsValueRead flag (answer_for text) (Err (fault_seen flag fault))
err_read flag text fault blank g = rw (← blank) (err_answer flag fault (expression_answer (chars text)) g)

-- both values
exprs_are : (o : Options) (k m : Option MarkExpr) → IsValueRead Keyword (answer_for o.keyword) (Ok k) → IsValueRead Marks (answer_for o.marks) (Ok m) → AreExprs o (record { keyword = k; marks = m })
unfolding tree_given refused_expression flag_fault
exprs_are o k m p q = record { keyword = p.0; marks = q.0; fine = rw (p.1, q.1) refl }

-- the faults of both
abbrev of_keyword : Options → Option SelectionFault
of_keyword o = value_fault Keyword (answer_for o.keyword)

abbrev of_marks : Options → Option SelectionFault
of_marks o = value_fault Marks (answer_for o.marks)

refused_is : (o : Options) → refused_expression o ≡ option_map selection_text (earlier_fault (of_keyword o) (of_marks o))
unfolding refused_expression flag_fault
refused_is o = refl

refused_as : (o : Options) (fault : SelectionFault) → earlier_fault (of_keyword o) (of_marks o) ≡ Some fault → refused_expression o ≡ Some (selection_text fault)
refused_as o fault f = refused_is o ∙ ap (option_map selection_text) f

first_is : (k m : Option SelectionFault) (fault : SelectionFault) → k ≡ Some fault → earlier_fault k m ≡ Some fault
first_is k m fault e = rw e refl

second_is : (k m : Option SelectionFault) (fault : SelectionFault) → k ≡ None → m ≡ Some fault → earlier_fault k m ≡ Some fault
second_is k m fault e f = rw (e, f) refl

keyword_refused : (o : Options) (fault : SelectionFault) → IsValueRead Keyword (answer_for o.keyword) (Err fault) → IsRefused o fault
keyword_refused o (faults.Wrong flag column) p = refused_as o (faults.Wrong flag column) (first_is (of_keyword o) (of_marks o) (faults.Wrong flag column) p)
keyword_refused o (faults.TooDeep flag) p = refused_as o (faults.TooDeep flag) (first_is (of_keyword o) (of_marks o) (faults.TooDeep flag) p)
keyword_refused o faults.OutOfMemory p = tt

marks_refused : (o : Options) (k : Option MarkExpr) (fault : SelectionFault) → IsValueRead Keyword (answer_for o.keyword) (Ok k) → IsValueRead Marks (answer_for o.marks) (Err fault) → IsRefused o fault
marks_refused o k (faults.Wrong flag column) p q = refused_as o (faults.Wrong flag column) (second_is (of_keyword o) (of_marks o) (faults.Wrong flag column) p.1 q)
marks_refused o k (faults.TooDeep flag) p q = refused_as o (faults.TooDeep flag) (second_is (of_keyword o) (of_marks o) (faults.TooDeep flag) p.1 q)
marks_refused o k faults.OutOfMemory p q = tt

-- the same for texts that are the options' values
pub exprs_for : (o : Options) (keyword marks : List ℕ) (k m : Option MarkExpr) → keyword ≡ o.keyword → marks ≡ o.marks → IsValueRead Keyword (answer_for keyword) (Ok k) → IsValueRead Marks (answer_for marks) (Ok m) → AreExprs o (record { keyword = k; marks = m })
exprs_for o keyword marks k m e f p q =
    exprs_are o k m (subst (λ (text : List ℕ). IsValueRead Keyword (answer_for text) (Ok k)) e p) (subst (λ (text : List ℕ). IsValueRead Marks (answer_for text) (Ok m)) f q)

pub keyword_for : (o : Options) (keyword : List ℕ) (fault : SelectionFault) → keyword ≡ o.keyword → IsValueRead Keyword (answer_for keyword) (Err fault) → IsRefused o fault
keyword_for o keyword fault e p = keyword_refused o fault (subst (λ (text : List ℕ). IsValueRead Keyword (answer_for text) (Err fault)) e p)

pub marks_for : (o : Options) (keyword marks : List ℕ) (k : Option MarkExpr) (fault : SelectionFault) → keyword ≡ o.keyword → marks ≡ o.marks → IsValueRead Keyword (answer_for keyword) (Ok k) → IsValueRead Marks (answer_for marks) (Err fault) → IsRefused o fault
marks_for o keyword marks k fault e f p q =
    marks_refused o k fault (subst (λ (text : List ℕ). IsValueRead Keyword (answer_for text) (Ok k)) e p) (subst (λ (text : List ℕ). IsValueRead Marks (answer_for text) (Err fault)) f q)

-- what is accepted
same_truth : (a b : Bool) → (a ≡ true → b ≡ true) → (b ≡ true → a ≡ true) → a ≡ b
same_truth true b f g = sym (f refl)
same_truth false true f g = g refl
same_truth false false f g = refl

pub accepted : (how : How) (names : List (List ℕ)) (tree : ExpressionTree) (b : Bool) → (IsTrue b ↔ Holds how names tree) → b ≡ truth how names tree
accepted how names tree b h = let t = truth_is how names tree in same_truth b (truth how names tree) (λ e. t.1 (h.0 e)) (λ e. h.1 (t.0 e))

both_accept : (o : Options) (exprs : Exprs) (keywords marks : List (List ℕ)) → AreExprs o exprs → (accepts Part keywords (tree_seen exprs.keyword) && accepts Whole marks (tree_seen exprs.marks)) ≡ is_selected o keywords marks
unfolding is_selected
both_accept o exprs keywords marks are = ap₂ (λ k m. accepts Part keywords k && accepts Whole marks m) are.keyword are.marks

pub by_both : (o : Options) (exprs : Exprs) (keywords marks : List (List ℕ)) (n m : Bool) → n ≡ accepts Part keywords (tree_seen exprs.keyword) → m ≡ accepts Whole marks (tree_seen exprs.marks) → n ≡ true → AreExprs o exprs → m ≡ is_selected o keywords marks
by_both o exprs keywords marks n m e f is are =
    let both : (true && m) ≡ (accepts Part keywords (tree_seen exprs.keyword) && accepts Whole marks (tree_seen exprs.marks)) = ap₂ (λ a b. a && b) (sym is ∙ e) f in
    both ∙ both_accept o exprs keywords marks are

pub by_none : (o : Options) (exprs : Exprs) (keywords marks : List (List ℕ)) (n m : Bool) → n ≡ accepts Part keywords (tree_seen exprs.keyword) → m ≡ accepts Whole marks (tree_seen exprs.marks) → n ≡ false → AreExprs o exprs → n ≡ is_selected o keywords marks
by_none o exprs keywords marks n m e f is are =
    let both : (false && m) ≡ (accepts Part keywords (tree_seen exprs.keyword) && accepts Whole marks (tree_seen exprs.marks)) = ap₂ (λ a b. a && b) (sym is ∙ e) f in
    is ∙ both ∙ both_accept o exprs keywords marks are
