use Rattle.std.proofs.Common.{◌≡◌, ◌-◌, ◌∙◌, sym, refl, Some, None}
use Rattle.py_values.specs.Ends.{cost_of}
use Rattle.call_products.specs.Products.{product_within}
use Rattle.machine_state.specs.Frames.{todo}
use Rattle.machine_call.proofs.Calling.{product_goes, product_stops}
use Rattle.machine_call.proofs.builtins.call_product.Goals as goal

pub returns-in_ok-finish-in-Some-clause-next : goal.returns-in_ok-finish-in-Some-clause-next
returns-in_ok-finish-in-Some-clause-next c =
    let m = c.args.m.now in
    let made : Some c.in-Some.product ≡ product_within m.left c.args.product = sym c.in-Some.is ∙ c.product_within.ensures in
    let less : c.finish.new.m.left ≡ m.left - cost_of c.in-Some.product.made = cc in
    product_goes c.args.origin m (record m { left = c.saturating_sub-m.result }) c.args.product
    c.in-Some.product c.finish.new.m.left (todo c.in_ok-finish-in-Some.field-0 c.finish.new.m)
    made refl refl refl refl less c.in_ok-finish-in-Some.ensures.next

pub returns-in_ok-trace-in-None-clause-next : goal.returns-in_ok-trace-in-None-clause-next
returns-in_ok-trace-in-None-clause-next c =
    let m = c.args.m.now in
    let none : None ≡ product_within m.left c.args.product = sym c.in-None.is ∙ c.product_within.ensures in
    product_stops c.args.origin m m c.args.product c.in_ok-trace-in-None.field-0 none c.in_ok-trace-in-None.ensures
