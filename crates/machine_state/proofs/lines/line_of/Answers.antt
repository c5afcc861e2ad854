use Rattle.std.proofs.Common.{◌≡◌, ◌≤◌, ◌∙◌, ℕ, List, ap, drop, length, subst, sym}
use Rattle.std.specs.Prelude.{slice_get}
use Rattle.std.specs.Str.Lines.{lines}
use Rattle.machine_state.specs.Lines.{behind}
use Rattle.machine_state.proofs.LineStarts.{line_behind, line_starts}
use Rattle.machine_state.proofs.lines.line_of.Goals as goal

pub range_from-requires : goal.range_from-requires
range_from-requires c = λ some.
    line_starts c.args.text.now c.args.before c.line_start-at.result c.utf8.text
    (subst (λ (bs : List ℕ). c.line_start-at.result ≤ length bs) c.as_bytes.ensures.value c.line_start-at.ensures.within)
    (subst (λ (bs : List ℕ). drop c.line_start-at.result bs ≡ behind c.args.before bs) c.as_bytes.ensures.value c.line_start-at.ensures.behind)

pub returns : goal.returns
returns c =
    let rest : drop c.line_start-at.result c.args.text.now ≡ behind c.args.before c.args.text.now =
    subst (λ (bs : List ℕ). drop c.line_start-at.result bs ≡ behind c.args.before bs) c.as_bytes.ensures.value c.line_start-at.ensures.behind in
    c.first_line.ensures
    ∙ (ap (λ (bs : List ℕ). slice_get (lines bs) 0) (c.range_from.ensures.value ∙ rest) ∙ sym (line_behind c.args.before c.args.text.now))
