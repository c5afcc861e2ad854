use Rattle.std.proofs.Common.{◌≡◌, ◌∙◌, ap, arith}
use Rattle.std.proofs.lemmas.Result.{IfOk-weaker}
use Rattle.machine_state.specs.py_world.Attributes.{attribute_part}
use Rattle.machine_state.specs.py_world.Displays.{collected, displayed, dict_part, subscript_part, slice_part}
use Rattle.machine_state.specs.core_meaning.Expressions.{eval}
use Rattle.machine_state.specs.core_meaning.Statements.{some_part}
use Rattle.machine_state.specs.declared.frame.Display.TheVariants.{Tuple, List}
use Rattle.machine_state.specs.declared.machine.NextAction.{NextAction}
use Rattle.machine_state.specs.Places.{parts_from}
use Rattle.machine_state.specs.Frames.{display_of, machine_rest, site_now, state_of, todo}
use Rattle.machine_expr.specs.Noting.{with_note}
use Rattle.machine_expr.proofs.Rows.{tuple_begins, list_begins, dict_begins, attribute_begins, subscript_begins, slice_begins, tuple_weight, list_weight, dict_weight, attribute_weight, subscript_weight, slice_weight}
use Rattle.machine_expr.proofs.evaluate.begin_container.Goals as goal

pub returns-in-Tuple-clause-next : goal.returns-in-Tuple-clause-next
returns-in-Tuple-clause-next c =
    let m = c.args.m.now in
    let e = c.args.e.now in
    let m' = c.begin_display.new.m in
    let p = site_now m in
    let s = state_of m in
    let k = machine_rest m in
    IfOk-weaker c.begin_display.result (λ (d : NextAction). todo d m' ≡ collected (λ heap vs. displayed (display_of Tuple) vs) (parts_from 0 c.in-Tuple.es) p s k) (λ (d : NextAction). with_note e.at e.kind (todo d m') ≡ eval e p s k)
    (λ d h. ap (with_note e.at e.kind) h ∙ tuple_begins e.kind e.at p s k c.in-Tuple.es c.in-Tuple.is)
    c.begin_display.ensures.next

pub returns-in-Tuple-clause-work : goal.returns-in-Tuple-clause-work
returns-in-Tuple-clause-work c =
    IfOk-weaker c.begin_display.result _ _ (λ d h. omega (arith, h, tuple_weight c.args.e.now.kind c.in-Tuple.es c.in-Tuple.is)) c.begin_display.ensures.work

pub returns-in-List-clause-next : goal.returns-in-List-clause-next
returns-in-List-clause-next c =
    let m = c.args.m.now in
    let e = c.args.e.now in
    let m' = c.begin_display-in-List.new.m in
    let p = site_now m in
    let s = state_of m in
    let k = machine_rest m in
    IfOk-weaker c.begin_display-in-List.result (λ (d : NextAction). todo d m' ≡ collected (λ heap vs. displayed (display_of List) vs) (parts_from 0 c.in-List.es) p s k) (λ (d : NextAction). with_note e.at e.kind (todo d m') ≡ eval e p s k)
    (λ d h. ap (with_note e.at e.kind) h ∙ list_begins e.kind e.at p s k c.in-List.es c.in-List.is)
    c.begin_display-in-List.ensures.next

pub returns-in-List-clause-work : goal.returns-in-List-clause-work
returns-in-List-clause-work c =
    IfOk-weaker c.begin_display-in-List.result _ _ (λ d h. omega (arith, h, list_weight c.args.e.now.kind c.in-List.es c.in-List.is)) c.begin_display-in-List.ensures.work

pub returns-in-Dict-clause-next : goal.returns-in-Dict-clause-next
returns-in-Dict-clause-next c =
    let m = c.args.m.now in
    let e = c.args.e.now in
    let m' = c.begin_dict.new.m in
    let p = site_now m in
    let s = state_of m in
    let k = machine_rest m in
    IfOk-weaker c.begin_dict.result (λ (d : NextAction). todo d m' ≡ dict_part (parts_from 0 c.in-Dict.ks) (parts_from 0 c.in-Dict.es) p s k) (λ (d : NextAction). with_note e.at e.kind (todo d m') ≡ eval e p s k)
    (λ d h. ap (with_note e.at e.kind) h ∙ dict_begins e.kind e.at p s k c.in-Dict.ks c.in-Dict.es c.in-Dict.is)
    c.begin_dict.ensures.next

pub returns-in-Dict-clause-work : goal.returns-in-Dict-clause-work
returns-in-Dict-clause-work c =
    IfOk-weaker c.begin_dict.result _ _ (λ d h. omega (arith, h, dict_weight c.args.e.now.kind c.in-Dict.es c.in-Dict.ks c.in-Dict.is)) c.begin_dict.ensures.work

pub returns-in-Attribute-clause-next : goal.returns-in-Attribute-clause-next
returns-in-Attribute-clause-next c =
    let m = c.args.m.now in
    let e = c.args.e.now in
    let m' = c.begin_attribute.new.m in
    let p = site_now m in
    let s = state_of m in
    let k = machine_rest m in
    IfOk-weaker c.begin_attribute.result (λ (d : NextAction). todo d m' ≡ attribute_part (eval c.in-Attribute.a.value) c.in-Attribute.name p s k) (λ (d : NextAction). with_note e.at e.kind (todo d m') ≡ eval e p s k)
    (λ d h. ap (with_note e.at e.kind) h ∙ attribute_begins e.kind e.at p s k c.in-Attribute.a c.in-Attribute.name c.in-Attribute.is)
    c.begin_attribute.ensures.next

pub returns-in-Attribute-clause-work : goal.returns-in-Attribute-clause-work
returns-in-Attribute-clause-work c =
    IfOk-weaker c.begin_attribute.result _ _ (λ d h. omega (arith, h, attribute_weight c.args.e.now.kind c.in-Attribute.a c.in-Attribute.name c.in-Attribute.is)) c.begin_attribute.ensures.work

pub returns-in-Subscript-clause-next : goal.returns-in-Subscript-clause-next
returns-in-Subscript-clause-next c =
    let m = c.args.m.now in
    let e = c.args.e.now in
    let m' = c.begin_subscript.new.m in
    let p = site_now m in
    let s = state_of m in
    let k = machine_rest m in
    IfOk-weaker c.begin_subscript.result (λ (d : NextAction). todo d m' ≡ subscript_part (eval c.in-Subscript.a.value) (eval c.in-Subscript.i.value) p s k) (λ (d : NextAction). with_note e.at e.kind (todo d m') ≡ eval e p s k)
    (λ d h. ap (with_note e.at e.kind) h ∙ subscript_begins e.kind e.at p s k c.in-Subscript.a c.in-Subscript.i c.in-Subscript.is)
    c.begin_subscript.ensures.next

pub returns-in-Subscript-clause-work : goal.returns-in-Subscript-clause-work
returns-in-Subscript-clause-work c =
    IfOk-weaker c.begin_subscript.result _ _ (λ d h. omega (arith, h, subscript_weight c.args.e.now.kind c.in-Subscript.a c.in-Subscript.i c.in-Subscript.is)) c.begin_subscript.ensures.work

pub returns-in-Slice-clause-next : goal.returns-in-Slice-clause-next
returns-in-Slice-clause-next c =
    let m = c.args.m.now in
    let e = c.args.e.now in
    let m' = c.begin_slice.new.m in
    let p = site_now m in
    let s = state_of m in
    let k = machine_rest m in
    IfOk-weaker c.begin_slice.result (λ (d : NextAction). todo d m' ≡ slice_part (eval c.in-Slice.a.value) (some_part c.in-Slice.from) (some_part c.in-Slice.to) (some_part c.in-Slice.by) p s k) (λ (d : NextAction). with_note e.at e.kind (todo d m') ≡ eval e p s k)
    (λ d h. ap (with_note e.at e.kind) h ∙ slice_begins e.kind e.at p s k c.in-Slice.a c.in-Slice.from c.in-Slice.to c.in-Slice.by c.in-Slice.is)
    c.begin_slice.ensures.next

pub returns-in-Slice-clause-work : goal.returns-in-Slice-clause-work
returns-in-Slice-clause-work c =
    IfOk-weaker c.begin_slice.result _ _ (λ d h. omega (arith, h, slice_weight c.args.e.now.kind c.in-Slice.a c.in-Slice.from c.in-Slice.to c.in-Slice.by c.in-Slice.is)) c.begin_slice.ensures.work
