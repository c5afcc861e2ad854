use Rattle.std.proofs.Common.{ap}
use Rattle.std.specs.Prelude.{option_map}
use Rattle.fixture_world.specs.fixture_calls.declared.failure.Failure.{Failure}
use Rattle.fixture_world.specs.runtest_rules.Language.{python}
use Rattle.hook_phases.specs.Views.{implement_answer}
use Rattle.py_values.specs.declared.value.Value.{Value}
use Rattle.run_items.proofs.Doings.{gathered_same, implement_same}
use Rattle.run_items.specs.Stands.{stand_state}
use Rattle.session_rules.specs.Hooks.{HookAnswer}
use Rattle.session_rules.specs.World.{WorldAnswer}
use Rattle.run_items.proofs.hooking.implement.Goals as goal

pub returns-in-Ok-clause-answer : goal.returns-in-Ok-clause-answer
returns-in-Ok-clause-answer c =
    ap (λ (x : WorldAnswer python (HookAnswer Value Failure)). x.answer)
    (implement_same c.args.plan.now c.args.item.now c.requires.item (option_map (λ item. item.now) c.args.next) c.args.which.now (stand_state c.args.stand.now) c.own_object-given.result c.next_object-behind.result c.implement_with.new.world
    (implement_answer python c.in_ok-end.end) c.own_object-given.ensures c.next_object-behind.ensures c.in_ok-end.ensures)

pub returns-in-Ok-clause-state : goal.returns-in-Ok-clause-state
returns-in-Ok-clause-state c =
    let next = option_map (λ item. item.now) c.args.next in
    let s = stand_state c.args.stand.now in
    let answer = implement_answer python c.in_ok-end.end in
    gathered_same c.args.plan.now c.args.item.now c.requires.item next c.args.which.now s c.implement_with.new.world answer c.gather.new.values
    (implement_same c.args.plan.now c.args.item.now c.requires.item next c.args.which.now s c.own_object-given.result c.next_object-behind.result c.implement_with.new.world answer c.own_object-given.ensures c.next_object-behind.ensures c.in_ok-end.ensures)
    c.in-Ok.ensures
