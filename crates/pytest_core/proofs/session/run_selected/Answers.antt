use Rattle.std.proofs.Common.{[], refl, sym, ap, ◌∙◌}
use Rattle.report_pieces.specs.Pieces.{pieces_end, pieces_of}
use Rattle.pytest_core.proofs.Streamed.{breaks_behind, ran_to}
use Rattle.pytest_core.proofs.session.run_selected.Goals as goal

pub returns-in-Ok-clause-ran : goal.returns-in-Ok-clause-ran
returns-in-Ok-clause-ran g c =
    λ errors whole. ran_to c.args.options.now c.args.found c.args.selected errors c.args.world _ _ c.in_ok-ran.ran _ c.requires.running refl refl
    (c.in-Ok.ensures ∙ ap (λ reports. pieces_end c.args.options.now (pieces_of c.args.options.now [] reports)) c.as_slice.ensures.value) (c.in_ok-ran.ensures.ran errors whole)

pub returns-in-Err-clause-broke : goal.returns-in-Err-clause-broke
returns-in-Err-clause-broke g c =
    λ errors whole. breaks_behind c.args.options.now c.args.found c.args.selected errors c.args.world _ _ c.in_ok-ran.ran c.requires.running (c.in_ok-ran.ensures.ran errors whole)
