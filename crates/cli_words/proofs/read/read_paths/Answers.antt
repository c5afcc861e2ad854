use Rattle.std.proofs.Common.{sym, ◌∙◌}
use Rattle.std.specs.Prelude.{string_bytes}
use Rattle.cli_words.proofs.Outcomes.{with_parts-nil}
use Rattle.cli_words.proofs.Cut.{path_step}
use Rattle.cli_words.proofs.read.read_paths.Goals as goal

pub loop-word-init : goal.loop-word-init
loop-word-init c = sym (with_parts-nil c.args.options.now)

pub loop-word-preserved : goal.loop-word-preserved
loop-word-preserved c =
    path_step string_bytes c.args.options.now c.loop-word.options c.push_path.new.self c.args.words.now c.loop-word.word-index c.word-item.result c.in_ok-from_str.field-0 c.loop-word-test.true c.loop-word.invariant c.in_ok-push_path.ensures c.word-item.is (c.in_ok-from_str.ensures ∙ c.as_str.ensures.value)
