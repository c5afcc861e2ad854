use Rattle.std.proofs.Common.{◌∙◌, sym, ap, Some}
use Rattle.setup_stack.specs.Views.{answer_in}
use Rattle.setup_stack.proofs.Begins.{found_is}
use Rattle.setup_stack.proofs.stack.found.Goals as goal

pub returns : goal.returns
returns g c =
    found_is (g.W.Executor.rules c.args.setting.now) c.args.id.order c.args.stack.now.live.live c.get-one.result.now c.held.result.now c.in_ok-bases.bases c.in_ok-told.told
    c.get-one.ensures c.held.ensures c.in_ok-told.ensures c.in_ok-bases.ensures
    ∙ ap (λ a. Some (answer_in (g.W.Executor.rules c.args.setting.now) a)) (sym c.answer_with.ensures)
