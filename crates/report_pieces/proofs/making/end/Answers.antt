use Rattle.std.proofs.Common.{[], List, ℕ, length, not, eqb, ap, ap₂, cond, codes, Bool, ◌∙◌}
use Rattle.report_pieces.proofs.Pieces.{is_end, is_pieces}
use Rattle.report_pieces.specs.Pieces.{has_whole_lines, pieces_of}
use Rattle.report_pieces.proofs.making.end.Goals as goal

pub returns : goal.returns
returns c =
    let o = c.args.options.now in
    c.end_of.ensures
    ∙ (ap (λ (b : Bool). cond c.has_lines-any.result (cond b (codes "\n") (codes "\n\n")) []) c.has_whole_lines.ensures
    ∙ is_end o (pieces_of o [] c.args.reports.now) c.in_ok-lines.lines.items c.has_lines-any.result (c.in_ok-lines.ensures ∙ is_pieces o c.args.reports.now c.requires)
    (c.has_lines-any.ensures ∙ ap (λ (l : List ℕ). not (eqb (length l) 0)) c.as_slice.ensures.value))
