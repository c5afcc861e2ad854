use Rattle.std.proofs.Common.{◌++◌, List, length, get_or, map, ap, ◌∙◌, arith}
use Rattle.param_rows.specs.Rows.{set_choice}
use Rattle.param_rows.specs.Steps.{with_choice}
use Rattle.param_rows.specs.declared.param.ParamSet.{ParamSet}
use Rattle.param_rows.proofs.Product.{each_more, each_all}
use Rattle.param_rows.proofs.joining.RowMaker.with_mark.Goals as goal

pub loop-set-preserved : goal.loop-set-preserved
loop-set-preserved g c =
    let i = c.loop-set.set-index in
    let set = c.set-item.result in
    each_more (λ choice. map (with_choice c.args.self.now.named choice) c.args.rest.now) (set_choice c.args.mark.now.names) c.args.mark.now.sets i set c.loop-set.rows.items c.push_set.new.rows.items
    (omega (arith, ap length c.items-set-items.ensures))
    (c.set-item.is ∙ ap (λ (xs : List (ParamSet _)). get_or xs i set) c.items-set-items.ensures)
    c.loop-set.invariant
    (c.in_ok-push_set.ensures ∙ ap (λ names. c.loop-set.rows.items ++ map (with_choice c.args.self.now.named (set_choice names set)) c.args.rest.now) c.items.ensures)

pub returns : goal.returns
returns g c =
    each_all (λ choice. map (with_choice c.args.self.now.named choice) c.args.rest.now) (set_choice c.args.mark.now.names) c.args.mark.now.sets c.loop-set.set-index c.loop-set.rows.items
    (omega (arith, ap length c.items-set-items.ensures)) c.loop-set.invariant
