use Rattle.std.proofs.Common.{◌≡◌, List, ℕ, [], Option, Some, None, subst}
use Rattle.std.proofs.lemmas.Result.{IfOk-weaker}
use Rattle.machine_state.specs.py_world.Imports as imports
use Rattle.machine_state.specs.Places.{path_in}
use Rattle.machine_import.specs.Lookups.{Leads}
use Rattle.machine_import.proofs.Lookups.{either_place, import_first, import_second}
use Rattle.machine_import.proofs.paths.import_path.Goals as goal

pub returns-in-Some : goal.returns-in-Some
returns-in-Some c =
    let xs = c.args.m.now.sources in
    let folder = c.folder_of-folder.result.now in
    let dotted = c.args.dotted.now in
    let first : Leads xs (either_place xs folder dotted) (Some c.in-Some.path) = subst (λ (r : Option (List ℕ)). Leads xs (either_place xs folder dotted) r) c.in-Some.is c.in_ok-first.ensures in
    import_first xs (path_in c.args.m.now.here.place) folder c.chars.result.now c.path.result.now dotted c.in-Some.path c.folder_of-folder.ensures c.chars.ensures c.path.ensures first

pub returns-in-None : goal.returns-in-None
returns-in-None c =
    let xs = c.args.m.now.sources in
    let folder = c.folder_of-folder.result.now in
    let dotted = c.args.dotted.now in
    let first : Leads xs (either_place xs folder dotted) None = subst (λ (r : Option (List ℕ)). Leads xs (either_place xs folder dotted) r) c.in-None.is c.in_ok-first.ensures in
    IfOk-weaker c.path_within-in-None.result
    (λ r. Leads xs (either_place xs [] dotted) r)
    (λ r. r ≡ imports.import_path (imports.source_paths xs) (path_in c.args.m.now.here.place) dotted)
    (λ r second. import_second xs (path_in c.args.m.now.here.place) folder c.chars.result.now c.path.result.now dotted r c.folder_of-folder.ensures c.chars.ensures c.path.ensures first second)
    c.path_within-in-None.ensures
