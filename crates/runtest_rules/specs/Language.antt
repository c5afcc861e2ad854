-- THE LANGUAGE of sessions over sources: worlds of sources, values, failures, and the numbers of the frames that stand at a `yield`.
use Rattle.std.specs.Prelude.{ℕ}
use Rattle.py_values.specs.declared.value.Value.{Value}
use Rattle.tracebacks.specs.source_meaning.Meaning.{SourceWorld}
use Rattle.report_rules.specs.Collected.{report_language}
use Rattle.session_rules.specs.World.{Language}
use Rattle.fixture_calls.specs.declared.failure.Failure.{Failure}

abbrev pub python : Language
python = report_language SourceWorld Value Failure ℕ
