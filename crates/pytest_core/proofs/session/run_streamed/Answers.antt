use Rattle.std.proofs.Common.{◌∙◌}
use Rattle.std.proofs.lemmas.Result.{IfErr-weaker, IfOk-weaker}
use Rattle.pytest_core.proofs.Streamed.{breaks_in, broke_as, none_broke_in, streamed_all}
use Rattle.pytest_core.proofs.session.run_streamed.Goals as goal

pub returns-in-Ok-clause-ran : goal.returns-in-Ok-clause-ran
returns-in-Ok-clause-ran g c =
    IfOk-weaker c.run_group.result _ _
    (λ ran h errors whole. streamed_all c.args.options.now c.args.found c.args.selected c.args.world c.requires.numbers c.as_slice.result.now (c.as_slice.ensures.value ∙ c.in-Ok.ensures) c.requires.single c.requires.running c.requires.apart
    _ _ ran h errors whole) c.run_group.ensures.ran

pub returns-in-Ok-clause-broke : goal.returns-in-Ok-clause-broke
returns-in-Ok-clause-broke g c =
    IfErr-weaker c.run_group.result _ _
    (λ fault h. broke_as _ _ fault
    (λ b errors whole. breaks_in c.args.options.now c.args.found c.args.selected c.args.world c.requires.numbers c.as_slice.result.now (c.as_slice.ensures.value ∙ c.in-Ok.ensures) c.requires.single c.requires.running c.requires.apart
    _ _ b errors whole) h) c.run_group.ensures.broke

pub returns-in-Err-clause-broke : goal.returns-in-Err-clause-broke
returns-in-Err-clause-broke g c = λ errors whole. none_broke_in c.args.options.now c.args.found c.args.selected errors c.args.world (g.S.Sink.told c.args.out.now)
