use Rattle.std.proofs.Common.{map, arith}
use Rattle.std.specs.List.{enumerate_from}
use Rattle.std.proofs.lemmas.List.FromFn.{length-enumerate_from}
use Rattle.param_rows.specs.Rows.{param_choice}
use Rattle.param_rows.specs.Steps.{with_choice}
use Rattle.param_rows.proofs.Product.{each_more, each_all, numbered_at}
use Rattle.param_rows.proofs.joining.RowMaker.with_fixture.Goals as goal

pub loop-number-preserved : goal.loop-number-preserved
loop-number-preserved g c =
    each_more (λ choice. map (with_choice c.args.self.now.named choice) c.args.rest.now) (param_choice c.args.fixture) (enumerate_from 0 c.args.ids.now) c.loop-number.number (c.loop-number.number, c.index-ids-number.result) c.loop-number.rows.items c.push_param.new.rows.items
    (omega (arith, length-enumerate_from 0 c.args.ids.now))
    (numbered_at c.args.ids.now c.loop-number.number c.index-ids-number.result (omega arith) c.index-ids-number.is)
    c.loop-number.invariant
    c.in_ok-push_param.ensures

pub returns : goal.returns
returns g c =
    each_all (λ choice. map (with_choice c.args.self.now.named choice) c.args.rest.now) (param_choice c.args.fixture) (enumerate_from 0 c.args.ids.now) c.loop-number.number c.loop-number.rows.items
    (omega (arith, length-enumerate_from 0 c.args.ids.now)) c.loop-number.invariant
