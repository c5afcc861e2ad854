use Rattle.std.proofs.Common.{◌≡◌, ◌∙◌, ◌+◌, ◌∷◌, List, Option, codes, refl, ap}
use Rattle.std.proofs.lemmas.Result.{IfOk-weaker}
use Rattle.std.specs.declared.alloc.Global.{Global}
use Rattle.std.specs.declared.rc.Rc.{Rc}
use Rattle.std.specs.declared.vec.Vec.{Vec}
use Rattle.py_tree.specs.declared.expr.ArgName.{ArgName}
use Rattle.py_tree.specs.declared.expr.Expr.{Expr}
use Rattle.py_tree.specs.declared.op.CmpOp.{CmpOp}
use Rattle.py_tree.specs.Trees.{tree, trees}
use Rattle.py_world.specs.Explained.{Explanation, joined_shows, kept_count, last_pair, named_shows, show_all, show_evaluated, show_part}
use Rattle.assert_explain.specs.Texts.{call_with, in_parens, joint_text}
use Rattle.assert_explain.proofs.Forms.{and_shown, call_shown, compare_shown, or_shown}
use Rattle.assert_explain.proofs.Joining.{args_more, last_more, operand_more, pair_more, place_more}
use Rattle.assert_explain.proofs.parts.+part.Goals as goal

pub show_args-loop-i-preserved : goal.show_args-loop-i-preserved
show_args-loop-i-preserved t c =
    let es = c.args.es.now in
    let i = c.loop-i.i in
    let e = c.index-es-i.result in
    let e' = c.deref-e.result.now in
    record {
      place = place_more c.args.n es i e e' c.loop-i.at c.in_ok-at.at c.loop-i-test.true c.index-es-i.is c.deref-e.ensures c.loop-i.invariant.place c.in_ok-at.ensures;
      so_far = args_more c.args.heap.now c.args.kept.now c.args.n es i e e' c.loop-i.at c.loop-i-test.true c.index-es-i.is c.deref-e.ensures c.loop-i.invariant.place
          (codes ", ") c.args.names.now _ c.loop-i.all c.in_ok-arg.arg c.push_joined.new.self c.loop-i.invariant.so_far c.in_ok-arg.ensures refl c.in_ok-push_joined.ensures;
    }

pub show_others-loop-i-preserved : goal.show_others-loop-i-preserved
show_others-loop-i-preserved t c =
    let es = c.args.es.now in
    let i = c.loop-i.i in
    let e = c.index-es-i.result in
    let e' = c.deref-e.result.now in
    record {
      place = place_more c.args.n es i e e' c.loop-i.at c.in_ok-at.at c.loop-i-test.true c.index-es-i.is c.deref-e.ensures c.loop-i.invariant.place c.in_ok-at.ensures;
      so_far = operand_more c.args.heap.now c.args.kept.now c.args.n es i e e' c.loop-i.at c.loop-i-test.true c.index-es-i.is c.deref-e.ensures c.loop-i.invariant.place
          (joint_text c.args.joint) c.args.first c.loop-i.all c.push_operand.new.all c.loop-i.invariant.so_far c.in_ok-push_operand.ensures;
    }

pub show_pairs-loop-i-preserved : goal.show_pairs-loop-i-preserved
show_pairs-loop-i-preserved t c =
    let es = c.args.es.now in
    let i = c.loop-i.i in
    let e = c.index-es-i.result in
    let e' = c.deref-e.result.now in
    let heap = c.args.heap.now in
    let kept = c.args.kept.now in
    record {
      place = place_more c.args.n es i e e' c.loop-i.at c.in_ok-at.at c.loop-i-test.true c.index-es-i.is c.deref-e.ensures c.loop-i.invariant.place c.in_ok-at.ensures;
      last = last_more heap kept c.args.n es i e e' c.loop-i.at c.loop-i-test.true c.index-es-i.is c.deref-e.ensures c.loop-i.invariant.place c.args.first c.in_ok-next.next c.in_ok-next.ensures;
      pair = pair_more heap kept c.args.n es i e e' c.loop-i.at c.loop-i-test.true c.index-es-i.is c.deref-e.ensures c.loop-i.invariant.place
          c.evaluated-is_compared.result c.evaluated-is_compared.ensures c.args.ops.now c.args.first c.loop-i.last c.in_ok-next.next c.loop-i.pair c.set_pair.new.pair c.word_at.result.now
          c.loop-i.invariant.last c.loop-i.invariant.pair c.in_ok-next.ensures c.word_at.ensures c.in_ok-set_pair.ensures;
    }

pub show_call-returns : goal.show_call-returns
show_call-returns t c =
    let e = c.args.e.now in
    let heap = c.args.heap.now in
    let kept = c.args.kept.now in
    let n = c.args.n in
    let next = c.in_ok-next.next in
    let behind = c.in_ok-place_behind.field-0 in
    let callee = c.in_ok-callee.callee in
    let given = c.in_ok-args.args in
    let es' = c.deref-4.result.now in
    IfOk-weaker c.call_shows.result (λ (s : Explanation). s ≡ call_with heap kept n callee given) (λ (s : Explanation). s ≡ show_part heap kept n (tree e))
    (λ s h. call_shown heap kept n e.at e.kind s c.args.f.now c.args.es.now c.args.names.now callee given next behind c.requires c.in_ok-next.ensures
    (c.in_ok-callee.ensures ∙ ap (λ (x : Expr). show_part heap kept next (tree x)) c.deref.ensures)
    (c.in_ok-place_behind.ensures ∙ ap (λ (x : Expr). next + kept_count (tree x)) c.deref-2.ensures)
    (c.in_ok-args.ensures
    ∙ ap (λ (xs : List (Option ArgName)). joined_shows (codes ", ") (named_shows xs (show_all heap kept behind (trees es')))) (c.deref-6.ensures.value ∙ ap (λ (v : Vec (Option ArgName) Global). v.items) c.deref-5.ensures)
    ∙ ap (λ (xs : List (Rc Expr Global)). joined_shows (codes ", ") (named_shows c.args.names.now.value.items (show_all heap kept behind (trees xs)))) (c.deref-4.ensures.value ∙ ap (λ (v : Vec (Rc Expr Global) Global). v.items) c.deref-3.ensures))
    h)
    c.call_shows.ensures

pub show_compare-returns : goal.show_compare-returns
show_compare-returns t c =
    let e = c.args.e.now in
    let heap = c.args.heap.now in
    let kept = c.args.kept.now in
    let n = c.args.n in
    let next = c.in_ok-place_behind.field-0 in
    let first = c.in_ok-first.first in
    let ops' = c.deref-4.result.now in
    let es' = c.deref-6.result.now in
    IfOk-weaker c.show_pairs.result (λ (s : Explanation). s ≡ last_pair heap kept next first ops' (trees es')) (λ (s : Explanation). s ≡ show_part heap kept n (tree e))
    (λ s h. compare_shown heap kept n e.at e.kind s c.args.a.now c.args.es.now first next
    (c.in_ok-first.ensures ∙ ap (λ (x : Expr). show_part heap kept n (tree x)) c.deref.ensures)
    (c.in_ok-place_behind.ensures ∙ ap (λ (x : Expr). n + kept_count (tree x)) c.deref-2.ensures)
    c.args.ops.now c.requires
    (h ∙ ap (λ (xs : List CmpOp). last_pair heap kept next first xs (trees es')) (c.deref-4.ensures.value ∙ ap (λ (v : Vec CmpOp Global). v.items) c.deref-3.ensures)
    ∙ ap (λ (xs : List (Rc Expr Global)). last_pair heap kept next first c.args.ops.now.value.items (trees xs)) (c.deref-6.ensures.value ∙ ap (λ (v : Vec (Rc Expr Global) Global). v.items) c.deref-5.ensures)))
    c.show_pairs.ensures

pub show_and-returns : goal.show_and-returns
show_and-returns t c =
    let e = c.args.e.now in
    let heap = c.args.heap.now in
    let kept = c.args.kept.now in
    let n = c.args.n in
    let next = c.in_ok-place_behind.field-0 in
    let first = c.in_ok-first.first in
    let es' = c.deref-4.result.now in
    IfOk-weaker c.show_others.result (λ (s : Explanation). s ≡ in_parens (joined_shows (codes " and ") (first ∷ show_evaluated heap kept next (trees es')))) (λ (s : Explanation). s ≡ show_part heap kept n (tree e))
    (λ s h. and_shown heap kept n e.at e.kind s c.args.a.now c.args.es.now first next
    (c.in_ok-first.ensures ∙ ap (λ (x : Expr). show_part heap kept n (tree x)) c.deref.ensures)
    (c.in_ok-place_behind.ensures ∙ ap (λ (x : Expr). n + kept_count (tree x)) c.deref-2.ensures)
    c.requires
    (h ∙ ap (λ (xs : List (Rc Expr Global)). in_parens (joined_shows (codes " and ") (first ∷ show_evaluated heap kept next (trees xs)))) (c.deref-4.ensures.value ∙ ap (λ (v : Vec (Rc Expr Global) Global). v.items) c.deref-3.ensures)))
    c.show_others.ensures

pub show_or-returns : goal.show_or-returns
show_or-returns t c =
    let e = c.args.e.now in
    let heap = c.args.heap.now in
    let kept = c.args.kept.now in
    let n = c.args.n in
    let next = c.in_ok-place_behind.field-0 in
    let first = c.in_ok-first.first in
    let es' = c.deref-4.result.now in
    IfOk-weaker c.show_others.result (λ (s : Explanation). s ≡ in_parens (joined_shows (codes " or ") (first ∷ show_evaluated heap kept next (trees es')))) (λ (s : Explanation). s ≡ show_part heap kept n (tree e))
    (λ s h. or_shown heap kept n e.at e.kind s c.args.a.now c.args.es.now first next
    (c.in_ok-first.ensures ∙ ap (λ (x : Expr). show_part heap kept n (tree x)) c.deref.ensures)
    (c.in_ok-place_behind.ensures ∙ ap (λ (x : Expr). n + kept_count (tree x)) c.deref-2.ensures)
    c.requires
    (h ∙ ap (λ (xs : List (Rc Expr Global)). in_parens (joined_shows (codes " or ") (first ∷ show_evaluated heap kept next (trees xs)))) (c.deref-4.ensures.value ∙ ap (λ (v : Vec (Rc Expr Global) Global). v.items) c.deref-3.ensures)))
    c.show_others.ensures
