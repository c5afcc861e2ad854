use Rattle.std.proofs.Common.{ap, ◌∙◌, ◌+◌, ℕ, Bool}
use Rattle.runtest_loop.proofs.Parts.{is_called}
use Rattle.runtest_loop.proofs.item.call_item.Goals as goal
use Rattle.session_rules.specs.Session.{as_count}

pub returns-clause-called : goal.returns-clause-called
returns-clause-called g c =
    is_called (g.S.Stage.rules c.args.setting.now) (g.S.Stage.fixture c.args.setting.now) c.args.show (g.S.Stage.selected c.args.setting.now c.args.item.now) c.args.bad (g.S.Stage.state c.args.stage.now)
    (g.S.Stage.state c.open.new.self) (g.S.Stage.state c.set_up.new.stage) (g.S.Stage.state c.behind_set_up.new.stage)
    c.in_ok-up.up.kept c.in_ok-up.up.passed (c.args.bad + c.count.result) c.in_ok-called.called
    c.in_ok-open.ensures.state c.in_ok-up.ensures.kept c.in_ok-up.ensures.passed c.in_ok-up.ensures.state
    (ap (λ (n : ℕ). c.args.bad + n) (c.count.ensures.count ∙ ap (λ (b : Bool). as_count b) c.is_raised.ensures))
    c.in_ok-called.ensures.set_up c.in_ok-called.ensures.call c.in_ok-called.ensures.bad c.in_ok-called.ensures.state
