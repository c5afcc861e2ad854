use Rattle.std.proofs.Common.{◌≡◌, true, false, [], ◌∷◌, length, sym, ap, ◌∙◌, subst, arith}
use Rattle.py_tree.specs.Trees.{tree}
use Rattle.py_tree.specs.Statements.{Statement, statement, taker, takers}
use Rattle.py_tokens.specs.declared.token.Token.{Token}
use Rattle.parsing.specs.Reading.{Read}
use Rattle.py_cursor.specs.token_kinds.Numbers as k
use Rattle.py_cursor.specs.py_expressions.Sorts.{exprs}
use Rattle.py_cursor.specs.py_expressions.Values.{taker_in}
use Rattle.py_cursor.specs.py_expressions.Lines.{expr_begins}
use Rattle.py_cursor.specs.Parser.{Gives}
use Rattle.py_expression_parser.proofs.Made.{made_reads}
use Rattle.statement_readers.proofs.Expressions.{takes}
use Rattle.statement_readers.specs.Words.{starts}
use Rattle.statement_readers.proofs.Turns.{first_takes}
use Rattle.statement_readers.proofs.Loops.{assigns_none, assigns_yield, assigns_bad, assigns_fails, assigns_next}
use Rattle.py_parse.proofs.simple.assigning.Goals as goal

pub returns-then-not-begins_expression : goal.returns-then-not-begins_expression
returns-then-not-begins_expression c =
    let t = ap (λ e. taker_in (tree e)) (sym c.deref.ensures) ∙ rw c.in-Some-found.is at (rw c.in-Some-made.ensures.makes.0 at c.target_in.ensures) in
    let m = c.in-Some-made-2.ensures.makes.1 ∙ c.in-Some-made.ensures.makes.1 in
    let a = rw c.in-Some-made-2.ensures.makes.0 at c.add_target.ensures in
    let b : starts expr_begins c.made-in-loop-equal-2.new.self.rest.now ≡ false = cc in
    subst (λ (r : Read Token Statement). Gives (λ x. statement x) c.assigned_yield.result c.assigned_yield.new.p r)
    (assigns_yield c.args.at (takers c.loop-equal.targets.items) (tree c.loop-equal.last.value) c.loop-equal.p.rest.now c.in-Some._equal.now c.take_op.new.self.rest.now (taker c.in-Some-found.target) (takers c.in-Some-made-2.more.items) c.in-Some-expect_op.word.now c.expect_op.new.self.rest.now _
    c.in-Some.ensures t a (rw m at b) (rw m at c.in-Some-expect_op.ensures) c.loop-equal.invariant) c.assigned_yield.ensures

pub returns-in_default-expect_op : goal.returns-in_default-expect_op
returns-in_default-expect_op c =
    let t = ap (λ e. taker_in (tree e)) (sym c.deref.ensures) ∙ rw c.in-Some-found.is at (rw c.in-Some-made.ensures.makes.0 at c.target_in.ensures) in
    let m = c.in-Some-made-2.ensures.makes.1 ∙ c.in-Some-made.ensures.makes.1 in
    let b : starts expr_begins c.made-in-loop-equal-2.new.self.rest.now ≡ false = cc in
    assigns_bad c.args.at (takers c.loop-equal.targets.items) (tree c.loop-equal.last.value) c.loop-equal.p.rest.now c.in-Some._equal.now c.take_op.new.self.rest.now (taker c.in-Some-found.target) c.expect_op.new.self.stop _ c.in-Some.ensures t (rw m at b) (rw m at c.in_default-expect_op.ensures) c.loop-equal.invariant

pub returns-in_default-expressions : goal.returns-in_default-expressions
returns-in_default-expressions c =
    let t = ap (λ e. taker_in (tree e)) (sym c.deref.ensures) ∙ rw c.in-Some-found.is at (rw c.in-Some-made.ensures.makes.0 at c.target_in.ensures) in
    let m = c.in-Some-made-2.ensures.makes.1 ∙ c.in-Some-made.ensures.makes.1 in
    let b : starts expr_begins c.made-in-loop-equal-2.new.self.rest.now ≡ true = cc in
    assigns_fails c.args.at (takers c.loop-equal.targets.items) (tree c.loop-equal.last.value) c.loop-equal.p.rest.now c.in-Some._equal.now c.take_op.new.self.rest.now (taker c.in-Some-found.target) c.expressions.new.p.stop _ c.in-Some.ensures t (rw m at b) (rw m at c.in_default-expressions.ensures.reads) c.loop-equal.invariant

pub loop-equal-smaller : goal.loop-equal-smaller
loop-equal-smaller c = omega (arith, ap length (c.in-Some-made-2.ensures.makes.1 ∙ c.in-Some-made.ensures.makes.1), first_takes (k.equal ∷ []) c.loop-equal.p.rest.now c.in-Some._equal.now c.take_op.new.self.rest.now c.in-Some.ensures, takes 100 exprs c.made-in-loop-equal-2.new.self.rest.now (tree c.in-Some-expressions.value.expr.value, c.in-Some-expressions.value.height) c.expressions.new.p.rest.now c.in-Some-expressions.ensures.reads)

pub loop-equal-preserved : goal.loop-equal-preserved
loop-equal-preserved c =
    let t = ap (λ e. taker_in (tree e)) (sym c.deref.ensures) ∙ rw c.in-Some-found.is at (rw c.in-Some-made.ensures.makes.0 at c.target_in.ensures) in
    let m = c.in-Some-made-2.ensures.makes.1 ∙ c.in-Some-made.ensures.makes.1 in
    let a = rw c.in-Some-made-2.ensures.makes.0 at c.add_target.ensures in
    let b : starts expr_begins c.made-in-loop-equal-2.new.self.rest.now ≡ true = cc in
    assigns_next c.args.at (takers c.loop-equal.targets.items) (tree c.loop-equal.last.value) c.loop-equal.p.rest.now c.in-Some._equal.now c.take_op.new.self.rest.now (taker c.in-Some-found.target) (takers c.in-Some-made-2.more.items) (tree c.in-Some-expressions.value.expr.value) c.in-Some-expressions.value.height c.expressions.new.p.rest.now _
    c.in-Some.ensures t a (rw m at b) (rw m at c.in-Some-expressions.ensures.reads) c.loop-equal.invariant

pub returns-in_default-found : goal.returns-in_default-found
returns-in_default-found c =
    let t = ap (λ e. taker_in (tree e)) (sym c.deref.ensures) ∙ rw c.in_default-found.is at (rw c.in-Some-made.ensures.makes.0 at c.target_in.ensures) in
    made_reads statement c.assignment-in_default-found.result c.loop-equal.p.rest.now c.made-in_default-found.result c.made-in_default-found.new.self _ _ c.made-in_default-found.ensures.makes c.assignment-in_default-found.ensures (assigns_none c.args.at (takers c.loop-equal.targets.items) (tree c.loop-equal.last.value) c.loop-equal.p.rest.now c.in-Some._equal.now c.take_op.new.self.rest.now _ c.in-Some.ensures t c.loop-equal.invariant)
