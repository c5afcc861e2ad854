use Rattle.std.proofs.Common.{◌≡◌, ◌-◌, ◌++◌, ◌∙◌, ap, sym, refl, Some, None}
use Rattle.py_values.specs.Ends.{cost_of}
use Rattle.call_products.specs.Products.{product_within}
use Rattle.py_calls.specs.Calls.{called_of, printed_within}
use Rattle.machine_state.specs.py_world.World.{Locals}
use Rattle.machine_state.specs.Frames.{todo}
use Rattle.machine_call.proofs.Calling.{builtin_goes, builtin_stops}
use Rattle.machine_call.proofs.builtins.call_builtin.Goals as goal

pub returns-in_ok-finish-in-Some-clause-next : goal.returns-in_ok-finish-in-Some-clause-next
returns-in_ok-finish-in-Some-clause-next c =
    let m = c.args.m.now in
    let made : Some c.in-Some.product ≡ product_within m.left (called_of c.args.which m.heap c.args.args.now c.args.named.now).product =
    sym c.in-Some.is ∙ (c.in_ok-product.ensures.made ∙ ap (λ (xs : Locals). product_within m.left (called_of c.args.which m.heap c.args.args.now xs).product) c.entries.ensures) in
    let printed : c.called.new.printed.items ≡ m.printed.items ++ printed_within m.left (called_of c.args.which m.heap c.args.args.now c.args.named.now) =
    c.in_ok-product.ensures.printed ∙ ap (λ (xs : Locals). m.printed.items ++ printed_within m.left (called_of c.args.which m.heap c.args.args.now xs)) c.entries.ensures in
    let less : c.finish.new.m.left ≡ m.left - cost_of c.in-Some.product.made = cc in
    builtin_goes c.args.origin m (record m { printed = c.called.new.printed; left = c.saturating_sub-m.result }) (called_of c.args.which m.heap c.args.args.now c.args.named.now)
    c.in-Some.product c.finish.new.m.left (todo c.in_ok-finish-in-Some.field-0 c.finish.new.m)
    made printed refl refl refl refl less c.in_ok-finish-in-Some.ensures.next

pub returns-in_ok-trace-in-None-clause-next : goal.returns-in_ok-trace-in-None-clause-next
returns-in_ok-trace-in-None-clause-next c =
    let m = c.args.m.now in
    let none : None ≡ product_within m.left (called_of c.args.which m.heap c.args.args.now c.args.named.now).product =
    sym c.in-None.is ∙ (c.in_ok-product.ensures.made ∙ ap (λ (xs : Locals). product_within m.left (called_of c.args.which m.heap c.args.args.now xs).product) c.entries.ensures) in
    let printed : c.called.new.printed.items ≡ m.printed.items ++ printed_within m.left (called_of c.args.which m.heap c.args.args.now c.args.named.now) =
    c.in_ok-product.ensures.printed ∙ ap (λ (xs : Locals). m.printed.items ++ printed_within m.left (called_of c.args.which m.heap c.args.args.now xs)) c.entries.ensures in
    builtin_stops c.args.origin m (record m { printed = c.called.new.printed }) (called_of c.args.which m.heap c.args.args.now c.args.named.now)
    c.in_ok-trace-in-None.field-0 none printed refl refl refl c.in_ok-trace-in-None.ensures
