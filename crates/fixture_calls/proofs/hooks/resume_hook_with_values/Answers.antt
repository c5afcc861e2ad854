use Rattle.std.proofs.Common.{◌∙◌, ap}
use Rattle.py_machine.specs.source_meaning.Meaning.{SourceWorld}
use Rattle.py_values.specs.declared.value.Value.{Value}
use Rattle.py_world.specs.Resuming.{is_out}
use Rattle.fixture_calls.proofs.hooks.resume_hook_with_values.Goals as goal

-- a new object leaves the frames
pub resume_sent-requires : goal.resume_sent-requires
resume_sent-requires c = record { out = ap (λ (p : Value × SourceWorld). is_out c.args.rest p.1) c.in-Ok.ensures ∙ c.requires.out }
