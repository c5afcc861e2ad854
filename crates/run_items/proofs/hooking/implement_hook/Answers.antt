use Rattle.std.proofs.Common.{◌∙◌, ap}
use Rattle.fixture_world.specs.fixture_calls.Hooks.{hook_called}
use Rattle.fixture_world.specs.fixture_calls.declared.failure.Failure.{Failure}
use Rattle.fixture_world.specs.fixture_calls.declared.hooks.CallEnd.{CallEnd}
use Rattle.fixture_world.specs.fixture_calls.source_meaning.Meaning.{SourceWorld}
use Rattle.fixture_world.specs.runtest_rules.Language.{python}
use Rattle.fixture_world.specs.runtest_rules.Rules.{call_end_of}
use Rattle.py_values.specs.declared.value.Value.{Value}
use Rattle.session_rules.specs.Hooks.{HookAnswer}
use Rattle.session_rules.specs.Session.{answered}
use Rattle.test_suite.specs.declared.hook.Hook.{Hook}
use Rattle.run_items.proofs.hooking.implement_hook.Goals as goal

pub returns : goal.returns
returns c =
    ap (λ (a : HookAnswer Value Failure). answered {L = python} a c.call_hook.new.world) c.call_end.ensures
    ∙ ap (λ (x : CallEnd × SourceWorld). call_end_of x)
    (c.in_ok-end.ensures ∙ ap (λ (h : Hook). hook_called c.args.run.now.limit h c.args.given c.args.next c.args.world.now) c.hook_or-hook.ensures)
