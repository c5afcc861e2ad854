use Rattle.std.proofs.Common.{length, ap, ◌∙◌}
use Rattle.std.specs.Str.{chars}
use Rattle.mark_expr.specs.Text.{tokens_of}
use Rattle.mark_expr.proofs.Main.{found_law, cause_law, only_law, exact_for}
use Rattle.mark_expr.proofs.reading.read_expr.Goals as goal

pub returns : goal.returns
returns c =
    let all = c.chars.ensures ∙ c.in_ok-written.ensures in
    let e = exact_for (chars c.args.text.now) c.as_slice.result.now c.len.result c.read_tokens.result (c.as_slice.ensures.value ∙ c.in_ok-tokens.ensures ∙ ap tokens_of all) (c.len.ensures ∙ ap length c.in_ok-written.ensures) c.read_tokens.ensures in
    record { found = found_law _ _ e; cause = cause_law _ _ e; only = only_law _ _ e }
