use Rattle.std.proofs.Common.{◌≡◌, ◌∙◌, List, ℕ, Some, None, ap, subst, sym, true}
use Rattle.machine_state.specs.Spelled.{is_text}
use Rattle.machine_import.specs.Lookups.{Leads, place_among}
use Rattle.machine_import.proofs.Lookups.{leads_nowhere, leads_there}
use Rattle.machine_import.proofs.paths.path_with.Goals as goal

pub returns-in-Some : goal.returns-in-Some
returns-in-Some c =
    let xs = c.args.m.now.sources in
    let p = c.in_ok-path.path in
    let t : is_text p ≡ true = ap is_text (sym c.chars.ensures) ∙ c.know_text.ensures in
    subst (λ (q : List ℕ). Leads xs (place_among xs q) (Some p)) c.in_ok-path.ensures (leads_there p xs _ t c.know_paths.ensures c.in-Some.ensures)

pub returns-in-None : goal.returns-in-None
returns-in-None c =
    let xs = c.args.m.now.sources in
    let p = c.in_ok-path.path in
    let t : is_text p ≡ true = ap is_text (sym c.chars.ensures) ∙ c.know_text.ensures in
    subst (λ (q : List ℕ). Leads xs (place_among xs q) None) c.in_ok-path.ensures (leads_nowhere p xs t c.know_paths.ensures c.in-None.ensures)
