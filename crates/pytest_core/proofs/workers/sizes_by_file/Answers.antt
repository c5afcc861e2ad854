use Rattle.std.proofs.Common.{◌<◌, List, ap, length, map, subst, sym, ◌∙◌, ℕ}
use Rattle.std.proofs.lemmas.Result.{IfOk-weaker}
use Rattle.pytest_core.proofs.ByWorkers.{small_groups}
use Rattle.share_files.specs.Deal.{Every}
use Rattle.pytest_core.proofs.workers.sizes_by_file.Goals as goal

pub sizes_of-requires : goal.sizes_of-requires
sizes_of-requires c =
    subst (λ (gs : List (List ℕ)). Every (λ group. length group < 4294967296) gs) (sym c.as_slice.ensures.value) (small_groups c.in_ok-groups.groups.items (length c.args.selected.now) c.in_ok-groups.ensures.few c.requires)

pub returns : goal.returns
returns c =
    IfOk-weaker c.sizes_of.result _ _ (λ sizes same. same ∙ ap (λ (gs : List (List ℕ)). map (λ group. length group) gs) (c.as_slice.ensures.value ∙ c.in_ok-groups.ensures.groups)) c.sizes_of.ensures
