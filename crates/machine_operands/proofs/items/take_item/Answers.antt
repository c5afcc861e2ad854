use Rattle.std.proofs.Common.{◌≡◌, ◌∙◌, ap, sym, length}
use Rattle.std.proofs.lemmas.Result.{IfOk-weaker}
use Rattle.machine_state.specs.py_world.Displays.{displayed, dict_displayed}
use Rattle.machine_state.specs.py_world.Expressions.{arguments}
use Rattle.machine_state.specs.py_world.Outcome.{costing}
use Rattle.machine_state.specs.py_world.Site.{trace_of}
use Rattle.machine_state.specs.py_world.World.{heap_of}
use Rattle.machine_state.specs.declared.frame.ItemFrame.{ItemFrame}
use Rattle.machine_state.specs.declared.machine.TurnEnd.{TurnEnd}
use Rattle.machine_state.specs.Places.{parts_from, ends}
use Rattle.machine_state.specs.Frames.{Follows, display_of, on_item, machine_rest, site_now, state_of}
use Rattle.machine_expr.specs.Pairs.{pairs_from}
use Rattle.machine_expr.proofs.Displays.{element_taken, pair_taken}
use Rattle.machine_operands.proofs.items.take_item.Goals as goal

pub returns-in_ok-push-in-Collect-clause-next : goal.returns-in_ok-push-in-Collect-clause-next
returns-in_ok-push-in-Collect-clause-next c =
    let m = c.args.m.now in
    let p = site_now m in
    let s = state_of m in
    let k = machine_rest m in
    let d = c.in-Collect.display in
    let es = c.in-Collect.es in
    let vs = c.push.new.self.items in
    let tree = arguments (parts_from (length vs) es) vs p s k (λ vs s. costing (displayed (display_of d) vs) (trace_of p) s k) in
    let whole = on_item c.args.frame p c.args.v s k in
    let same : whole ≡ tree =
    ap (λ (f : ItemFrame). on_item f p c.args.v s k) c.in-Collect.is
    ∙ sym (element_taken d es c.in-Collect.so_far.items vs c.args.v p s k c.in_ok-push-in-Collect.ensures.items)
    in
    IfOk-weaker c.element.result (λ (t : TurnEnd). Follows t c.element.new.m m.left tree) (λ (t : TurnEnd). Follows t c.element.new.m m.left whole)
    (λ t h. ap (ends m.left) same ∙ h) c.element.ensures.next

pub returns-in_ok-push-in-Pairs-clause-next : goal.returns-in_ok-push-in-Pairs-clause-next
returns-in_ok-push-in-Pairs-clause-next c =
    let m = c.args.m.now in
    let p = site_now m in
    let s = state_of m in
    let k = machine_rest m in
    let ks = c.in-Pairs.ks in
    let es = c.in-Pairs.es in
    let vs = c.push-in-Pairs.new.self.items in
    let tree = arguments (pairs_from (length vs) ks es) vs p s k (λ vs s. costing (dict_displayed (heap_of s) vs) (trace_of p) s k) in
    let whole = on_item c.args.frame p c.args.v s k in
    let same : whole ≡ tree =
    ap (λ (f : ItemFrame). on_item f p c.args.v s k) c.in-Pairs.is
    ∙ sym (pair_taken ks es c.in-Pairs.so_far.items vs c.args.v p s k c.in_ok-push-in-Pairs.ensures.items)
    in
    IfOk-weaker c.pair.result (λ (t : TurnEnd). Follows t c.pair.new.m m.left tree) (λ (t : TurnEnd). Follows t c.pair.new.m m.left whole)
    (λ t h. ap (ends m.left) same ∙ h) c.pair.ensures.next
