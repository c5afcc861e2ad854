use Rattle.std.proofs.Common.{rules, arith, ◌≡◌, ap, sym, subst, ◌∙◌, ◌+◌, take, Vec, Global}
use Rattle.std.specs.declared.rc.Rc.{Rc}
use Rattle.py_tree.specs.declared.expr.Expr.{Expr}
use Rattle.assert_rewrite.specs.Lowers.{Watches, WatchesEach}
use Rattle.assert_rewrite.proofs.WatchForms.{binary_form, compare_form, and_form, or_form, call_form, each_more}
use Rattle.assert_rewrite.proofs.watched.+watched.Goals as goal

pub watch_between-returns-in_ok-right-in-Binary : goal.watch_between-returns-in_ok-right-in-Binary
watch_between-returns-in_ok-right-in-Binary t c =
    binary_form c.args.e.now.at c.args.e.now.kind c.args.next.now c.watch_expr-in-Binary-2.new.next c.watch_expr-in-Binary.new.next c.in-Binary.op c.in-Binary.left c.in-Binary.right c.in_ok-left-in-Binary.left c.in_ok-right-in-Binary.right c.in-Binary.is
    (subst (λ e. Watches c.args.next.now e c.in_ok-left-in-Binary.left.value c.watch_expr-in-Binary.new.next) c.deref-in-Binary.ensures c.in_ok-left-in-Binary.ensures)
    (subst (λ e. Watches c.watch_expr-in-Binary.new.next e c.in_ok-right-in-Binary.right.value c.watch_expr-in-Binary-2.new.next) c.deref-in-Binary-2.ensures c.in_ok-right-in-Binary.ensures)

pub watch_row-returns-in_ok-clone-in-Compare : goal.watch_row-returns-in_ok-clone-in-Compare
watch_row-returns-in_ok-clone-in-Compare t c =
    let same : c.in_ok-clone-in-Compare.field-0.value ≡ c.in-Compare.ops.value = search rules in
    compare_form c.args.e.now.at c.args.e.now.kind c.args.next.now c.watch_each.new.next c.watch_expr.new.next c.in-Compare.first c.in-Compare.ops c.in_ok-clone-in-Compare.field-0 c.in-Compare.rest c.in_ok-first-in-Compare.first c.in_ok-rest-in-Compare.rest c.in-Compare.is same
    (subst (λ e. Watches c.args.next.now e c.in_ok-first-in-Compare.first.value c.watch_expr.new.next) c.deref.ensures c.in_ok-first-in-Compare.ensures)
    (subst (λ es. WatchesEach c.watch_expr.new.next es c.in_ok-rest-in-Compare.rest.value.items c.watch_each.new.next) (c.deref-in-Compare-2.ensures.value ∙ ap (λ (v : Vec (Rc Expr Global) Global). v.items) c.deref-in-Compare.ensures) c.in_ok-rest-in-Compare.ensures)

pub watch_row-returns-in_ok-watch_each-in-And : goal.watch_row-returns-in_ok-watch_each-in-And
watch_row-returns-in_ok-watch_each-in-And t c =
    and_form c.args.e.now.at c.args.e.now.kind c.args.next.now c.watch_each-in-And.new.next c.watch_expr-in-And.new.next c.in-And.first c.in-And.rest c.in_ok-first-in-And.first c.in_ok-watch_each-in-And.field-0 c.in-And.is
    (subst (λ e. Watches c.args.next.now e c.in_ok-first-in-And.first.value c.watch_expr-in-And.new.next) c.deref-in-And.ensures c.in_ok-first-in-And.ensures)
    (subst (λ es. WatchesEach c.watch_expr-in-And.new.next es c.in_ok-watch_each-in-And.field-0.value.items c.watch_each-in-And.new.next) (c.deref-in-And-3.ensures.value ∙ ap (λ (v : Vec (Rc Expr Global) Global). v.items) c.deref-in-And-2.ensures) c.in_ok-watch_each-in-And.ensures)

pub watch_row-returns-in_ok-watch_each-in-Or : goal.watch_row-returns-in_ok-watch_each-in-Or
watch_row-returns-in_ok-watch_each-in-Or t c =
    or_form c.args.e.now.at c.args.e.now.kind c.args.next.now c.watch_each-in-Or.new.next c.watch_expr-in-Or.new.next c.in-Or.first c.in-Or.rest c.in_ok-first-in-Or.first c.in_ok-watch_each-in-Or.field-0 c.in-Or.is
    (subst (λ e. Watches c.args.next.now e c.in_ok-first-in-Or.first.value c.watch_expr-in-Or.new.next) c.deref-in-Or.ensures c.in_ok-first-in-Or.ensures)
    (subst (λ es. WatchesEach c.watch_expr-in-Or.new.next es c.in_ok-watch_each-in-Or.field-0.value.items c.watch_each-in-Or.new.next) (c.deref-in-Or-3.ensures.value ∙ ap (λ (v : Vec (Rc Expr Global) Global). v.items) c.deref-in-Or-2.ensures) c.in_ok-watch_each-in-Or.ensures)

pub watch_came-returns-in_ok-core-in-Call : goal.watch_came-returns-in_ok-core-in-Call
watch_came-returns-in_ok-core-in-Call t c =
    let same : c.in_ok-clone-in-Call.field-0.value ≡ c.in-Call.names.value = search rules in
    call_form c.args.e.now.at c.args.e.now.kind c.args.next.now c.watch_each.new.next c.taken.new.next c.watch_expr.new.next c.in_ok-number.number c.in-Call.callee c.in-Call.args c.in-Call.names c.in_ok-clone-in-Call.field-0 c.in_ok-callee-in-Call.callee c.in_ok-args-in-Call.args c.in_ok-core-in-Call.core c.in-Call.is same
    c.in_ok-number.ensures.this c.in_ok-number.ensures.behind
    (subst (λ e. Watches c.taken.new.next e c.in_ok-callee-in-Call.callee.value c.watch_expr.new.next) c.deref.ensures c.in_ok-callee-in-Call.ensures)
    (subst (λ es. WatchesEach c.watch_expr.new.next es c.in_ok-args-in-Call.args.value.items c.watch_each.new.next) (c.deref-in-Call-2.ensures.value ∙ ap (λ (v : Vec (Rc Expr Global) Global). v.items) c.deref-in-Call.ensures) c.in_ok-args-in-Call.ensures)
    c.in_ok-core-in-Call.ensures

pub watch_each-loop-e-preserved : goal.watch_each-loop-e-preserved
watch_each-loop-e-preserved t c =
    subst (λ xs. WatchesEach c.args.next.now (take (c.loop-e.e-index + 1) c.args.all.now) xs c.watch_expr.new.next) (sym c.in_ok-push.ensures.items)
    (each_more c.args.next.now c.loop-e.next c.watch_expr.new.next c.args.all.now c.loop-e.done.items c.loop-e.e-index c.e-item.result c.in_ok-watch_expr.field-0 (omega arith) c.e-item.is c.loop-e.invariant
    (subst (λ e. Watches c.loop-e.next e c.in_ok-watch_expr.field-0.value c.watch_expr.new.next) c.deref.ensures c.in_ok-watch_expr.ensures))
