use Rattle.std.proofs.Common.{ap, length, refl, sym, ◌∙◌}
use Rattle.std.proofs.lemmas.Result.{IfOk-weaker}
use Rattle.collect_tree.proofs.file_source_lemmas.OneSource.{one_source}
use Rattle.collect_tree.specs.Told.{collected_told}
use Rattle.run_items.specs.runtest_rules.Rules.{rules}
use Rattle.worker_sessions.proofs.Collection.{as_many_groups, collects, reports_by, wants_memory}
use Rattle.worker_sessions.specs.Project.{ProjectParts}
use Rattle.worker_sessions.proofs.project.ProjectBench.run.Goals as goal

pub collect-requires-clause-order : goal.collect-requires-clause-order
collect-requires-clause-order g c = c.self.invariant.order

pub collect-requires-clause-exprs : goal.collect-requires-clause-exprs
collect-requires-clause-exprs g c = c.self.invariant.expressions

pub run_collected-requires-clause-limit : goal.run_collected-requires-clause-limit
run_collected-requires-clause-limit g c =
    let i = c.self.invariant in
    let p = c.self.inside in
    let told = c.in-Ok.ensures.told in
    let d = collected_told c.in-Ok.collected c.collect.new.world in
    as_many_groups one_source p.files.now p.options.now p.sizes.items i.collection d i.collected i.sized (collects p.files.now p.options.now d told.0 told.1 told.2) (g.F.Feed.limit c.args.feed.now)
    (c.requires.limit ∙ sym (ap (λ (x : ProjectParts). length x.sizes) c.self.view_is))

pub run_collected-requires-clause-whole : goal.run_collected-requires-clause-whole
run_collected-requires-clause-whole g c = c.self.invariant.whole

pub returns-in-Ok-clause-reports : goal.returns-in-Ok-clause-reports
returns-in-Ok-clause-reports g c =
    let p = c.self.inside in
    let told = c.in-Ok.ensures.told in
    let d = collected_told c.in-Ok.collected c.collect.new.world in
    let parts : ProjectParts = record { files = p.files.now; options = p.options.now; sizes = p.sizes.items } in
    IfOk-weaker c.run_collected.result _ _
    (λ reports h. reports_by one_source (λ o sources x same. c.what_is_collected_fits.ensures o sources x same (rules o x.table) refl (λ n. refl)) parts c.args.self.now c.self.view_is d (g.F.Feed.given c.run_collected.new.feed) reports.items
    (collects p.files.now p.options.now d told.0 told.1 told.2) h)
    c.run_collected.ensures.reports

pub memory_fault-requires : goal.memory_fault-requires
memory_fault-requires g c =
    let i = c.self.invariant in
    let p = c.self.inside in
    let told = c.in-Err.ensures.told in
    wants_memory one_source p.files.now p.options.now i.collection i.collected c.in-Err.fault c.collect.new.world told.0 told.1 told.2
