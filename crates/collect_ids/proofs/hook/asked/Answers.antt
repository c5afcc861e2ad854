use Rattle.std.proofs.Common.{List, ℕ, ap, ◌∙◌}
use Rattle.std.proofs.lemmas.Result.{IfOk-weaker}
use Rattle.runtest_rules.specs.fixture_calls.Failing.{in_heap}
use Rattle.py_values.specs.declared.object.Obj.TheVariants as obj
use Rattle.py_values.specs.declared.value.Value.{Value}
use Rattle.runtest_rules.specs.tracebacks.runner_values.Given.{added_object}
use Rattle.runtest_rules.specs.tracebacks.source_meaning.Meaning.{SourceWorld}
use Rattle.collect_ids.specs.Hook.{id_asked, id_hook_call}
use Rattle.collect_ids.proofs.hook.asked.Goals as goal

pub returns : goal.returns
unfolding id_hook_call
returns c =
    IfOk-weaker c.asked_named.result _ _
    (λ made e. e
    ∙ (ap (λ (m : Value × SourceWorld). id_asked c.args.limit c.args.table.now c.args.impls.now c.args.value m) c.in_ok-name.ensures
    ∙ ap (λ (t : List ℕ). id_asked c.args.limit c.args.table.now c.args.impls.now c.args.value (in_heap (added_object (obj.Text t) c.args.world.now.heap) c.args.world.now)) (c.in_ok-text.ensures ∙ c.chars.ensures))) c.asked_named.ensures
