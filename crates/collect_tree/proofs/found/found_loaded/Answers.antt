use Rattle.std.proofs.Common.{List, sym, subst, ap, ◌∙◌}
use Rattle.std.specs.Prelude.{slice_get}
use Rattle.std.proofs.lemmas.Result.{IfOk-weaker}
use Rattle.collect_items.specs.Items.{Findings}
use Rattle.conftest_hooks.specs.hook_order.declared.implementation.Impl.{Impl}
use Rattle.collect_tree.proofs.Finds.{found_by_hook, found_without}
use Rattle.collect_tree.specs.Loads.{LoadResults}
use Rattle.collect_tree.specs.Told.{IsFound, loaded_told}
use Rattle.collect_tree.specs.declared.loads.LoadedTests.{LoadedTests}
use Rattle.collect_tree.proofs.found.found_loaded.Goals as goal

pub returns-in-Some-clause-found : goal.returns-in-Some-clause-found
returns-in-Some-clause-found c =
    let e = found_by_hook c.args.limit c.args.hooks.now c.args.walk.now c.args.above.now (loaded_told c.args.loaded c.args.world.now) c.args.hooks.now.ids _ (c.in-Some.ensures.value ∙ ap (λ (l : List Impl). slice_get l 0) c.items.ensures) in
    IfOk-weaker c.found_asked.result _ _ (λ f i. subst (λ (x : Findings × LoadResults). IsFound c.args.walk.now f.found x.0) (sym e) i) c.found_asked.ensures.found

pub returns-in-Some-clause-loaded : goal.returns-in-Some-clause-loaded
returns-in-Some-clause-loaded c =
    let e = found_by_hook c.args.limit c.args.hooks.now c.args.walk.now c.args.above.now (loaded_told c.args.loaded c.args.world.now) c.args.hooks.now.ids _ (c.in-Some.ensures.value ∙ ap (λ (l : List Impl). slice_get l 0) c.items.ensures) in
    IfOk-weaker c.found_asked.result _ _ (λ f i. i ∙ ap (λ (x : Findings × LoadResults). x.1) (sym e)) c.found_asked.ensures.loaded

pub returns-in-None-clause-found : goal.returns-in-None-clause-found
returns-in-None-clause-found c =
    let e = found_without c.args.limit c.args.hooks.now c.args.walk.now c.args.above.now (loaded_told c.args.loaded c.args.world.now) c.args.hooks.now.ids (c.in-None.ensures.value ∙ ap (λ (l : List Impl). slice_get l 0) c.items.ensures) in
    IfOk-weaker c.found_at_once.result _ _ (λ f i. subst (λ (x : Findings × LoadResults). IsFound c.args.walk.now f.found x.0) (sym e) i) c.found_at_once.ensures.found

pub returns-in-None-clause-loaded : goal.returns-in-None-clause-loaded
returns-in-None-clause-loaded c =
    let e = found_without c.args.limit c.args.hooks.now c.args.walk.now c.args.above.now (loaded_told c.args.loaded c.args.world.now) c.args.hooks.now.ids (c.in-None.ensures.value ∙ ap (λ (l : List Impl). slice_get l 0) c.items.ensures) in
    IfOk-weaker c.found_at_once.result _ _ (λ f i. ap (λ (l : LoadedTests). loaded_told l c.args.world.now) i ∙ ap (λ (x : Findings × LoadResults). x.1) (sym e)) c.found_at_once.ensures.loaded
