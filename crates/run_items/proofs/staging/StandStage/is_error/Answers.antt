use Rattle.run_items.proofs.staging.StandStage.is_error.Goals as goal

pub returns : goal.returns
returns c = c.in_ok-error.ensures
