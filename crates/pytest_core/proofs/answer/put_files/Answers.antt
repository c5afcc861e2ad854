use Rattle.std.proofs.Common.{[], refl, sym}
use Rattle.std.specs.Prelude.{Err}
use Rattle.worker_sessions.specs.collect_tree.Told.{collection_end}
use Rattle.worker_sessions.specs.collect_tree.file_source.Sources.{HoldsSource}
use Rattle.pytest_core.proofs.Ran.{are_distinct, faulty_said}
use Rattle.pytest_core.proofs.Streamed.{no_tree, wrote_as, wrote_response}
use Rattle.pytest_core.proofs.Wrote.{wrote_collected}
use Rattle.pytest_core.specs.Profile.{profile}
use Rattle.pytest_core.specs.Report.{FilesSay}
use Rattle.worker_sessions.specs.run_items.report_rules.Report as says
use Rattle.worker_sessions.specs.run_items.runtest_rules.Rules.{rules}
use Rattle.pytest_core.proofs.answer.put_files.Goals as goal

pub put_collected-requires-clause-distinct : goal.put_collected-requires-clause-distinct
put_collected-requires-clause-distinct g c κs within =
    are_distinct c.args.options.now c.in-Ok.ensures.told.0 c.in-Ok.collected c.collect.new.world c.in-Ok.ensures.told.2
    (λ options sources collected same. c.what_is_collected_fits.ensures options sources collected same (rules options collected.table) refl (λ d. refl))

pub put_collected-requires-clause-collects : goal.put_collected-requires-clause-collects
put_collected-requires-clause-collects g c κs within = (c.in-Ok.ensures.told.0, c.in-Ok.ensures.told.1, sym c.in-Ok.ensures.told.2)

pub returns-in-Ok-clause-wrote : goal.returns-in-Ok-clause-wrote
returns-in-Ok-clause-wrote g c =
    wrote_collected c.args.options.now c.args.files.now c.in-Ok.ensures.told.0 c.in-Ok.collected c.collect.new.world c.requires.fits c.in-Ok.ensures.told.1 c.in-Ok.ensures.told.2
    (g.S.Sink.told c.args.out.now) (g.S.Sink.told c.put_collected.new.out) c.put_collected.result c.put_collected.ensures.wrote

pub returns-in_ok-response-in-Err-clause-wrote : goal.returns-in_ok-response-in-Err-clause-wrote
returns-in_ok-response-in-Err-clause-wrote g c =
    let r = c.in_ok-response-in-Err.response in
    wrote_as (says.SaysOfFiles HoldsSource profile c.args.options.now [] c.args.files.now) (FilesSay c.args.options.now c.args.files.now) (g.S.Sink.told c.args.out.now) (g.S.Sink.told c.put_response.new.out) c.put_response.result (λ answer said. ([], said))
    (wrote_response (says.SaysOfFiles HoldsSource profile c.args.options.now [] c.args.files.now) r.0.items r.1 (g.S.Sink.told c.args.out.now) (g.S.Sink.told c.put_response.new.out) c.put_response.result
    (faulty_said c.args.options.now c.args.files.now c.in-Err.ensures.told.0 (collection_end (Err c.in-Err.fault) c.collect.new.world) (r.0.items, r.1) c.requires.fits c.in-Err.ensures.told.1 c.in-Err.ensures.told.2
    (c.in_ok-response-in-Err.ensures.response c.collect.new.world)) c.put_response.ensures.put)

pub returns-in_ok-response-in-Err-clause-no_tree : goal.returns-in_ok-response-in-Err-clause-no_tree
returns-in_ok-response-in-Err-clause-no_tree g c = no_tree _ _ _ _ c.put_response.result c.put_response.ensures.put
