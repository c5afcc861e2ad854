use Rattle.std.proofs.Common.{◌<◌, ◌^◌, ◌≡◌, ap, length, subst, sym, ◌∙◌}
use Rattle.collect_tree.proofs.file_source_lemmas.OneSource.{one_source}
use Rattle.worker_sessions.proofs.Collection.{are_sizes}
use Rattle.worker_sessions.specs.Project.{Collects, ProjectParts}
use Rattle.worker_sessions.proofs.project.ProjectBench.sizes.Goals as goal

pub returns-clause-collected : goal.returns-clause-collected
returns-clause-collected c =
    let i = c.self.invariant in
    (i.collection, subst (λ (p : ProjectParts). Collects p.files p.options i.collection) c.self.view_is i.collected)

pub returns-clause-whole : goal.returns-clause-whole
returns-clause-whole c = subst (λ (p : ProjectParts). p.options.maxfail ≡ 0) c.self.view_is c.self.invariant.whole

pub returns-clause-groups : goal.returns-clause-groups
returns-clause-groups c = ap length c.as_slice.ensures.value ∙ ap (λ (p : ProjectParts). length p.sizes) c.self.view_is

pub returns-clause-few : goal.returns-clause-few
returns-clause-few c = subst (λ (p : ProjectParts). length p.sizes < 2 ^ 32) c.self.view_is c.self.invariant.few

pub returns-clause-sizes : goal.returns-clause-sizes
returns-clause-sizes c =
    let i = c.self.invariant in
    let p = c.self.inside in
    λ d a. c.as_slice.ensures.value ∙ are_sizes one_source p.files.now p.options.now p.sizes.items i.collection d i.collected i.sized (subst (λ (x : ProjectParts). Collects x.files x.options d) (sym c.self.view_is) a)
