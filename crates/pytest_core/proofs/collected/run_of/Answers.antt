use Rattle.std.proofs.Common.{◌≡◌, ℕ, List, [], refl, sym, subst, ◌∙◌}
use Rattle.std.proofs.lemmas.Result.{IfErr-weaker, IfOk-weaker}
use Rattle.pytest_core.proofs.NoWorkers.{wants_as}
use Rattle.pytest_core.proofs.Streamed.{broke_as, left_of, listed_to, none_broke_in, right_of}
use Rattle.pytest_core.specs.Streamed.{BreaksIn, Broke, ListedTo}
use Rattle.pytest_core.specs.declared.refusal.RunFault.{RunFault}
use Rattle.pytest_core.proofs.collected.run_of.Goals as goal

pub unrun-answer-requires-clause-resting : goal.unrun-answer-requires-clause-resting
unrun-answer-requires-clause-resting g c = sym c.rests.ensures ∙ c.if-rests.true

pub returns-then-rests-clause-ran : goal.returns-then-rests-clause-ran
returns-then-rests-clause-ran g c =
    IfOk-weaker c.unrun-answer.result _ _
    (λ answer h. listed_to c.args.options.now c.args.found c.args.selected c.args.errors.now c.args.world (g.S.Sink.told c.args.out.now) answer
    (subst (λ (ns : List ℕ). ListedTo c.args.options.now c.args.found ns c.args.errors.now c.args.world answer) c.items.ensures (h c.args.world))) c.unrun-answer.ensures.listed

pub returns-then-rests-clause-broke : goal.returns-then-rests-clause-broke
returns-then-rests-clause-broke g c =
    let Known : Type 0 = BreaksIn c.args.options.now c.args.found c.args.selected c.args.errors.now c.args.world (g.S.Sink.told c.args.out.now) (g.S.Sink.told c.args.out.now) in
    IfErr-weaker c.unrun-answer.result _ _
    (λ f e. subst (λ (x : RunFault). Broke Known x) (sym e) (none_broke_in c.args.options.now c.args.found c.args.selected c.args.errors.now c.args.world (g.S.Sink.told c.args.out.now))) c.unrun-answer.ensures.fault

pub run_selected-requires-clause-single : goal.run_selected-requires-clause-single
run_selected-requires-clause-single g c =
    wants_as c.args.options.now c.args.selected c.args.errors.now [] (right_of _ _ (sym c.rests.ensures ∙ c.if-rests.false)) refl c.requires.single

pub run_selected-requires-clause-running : goal.run_selected-requires-clause-running
run_selected-requires-clause-running g c = left_of _ _ (sym c.rests.ensures ∙ c.if-rests.false)

pub returns-clause-ran : goal.returns-clause-ran
returns-clause-ran g c =
    IfOk-weaker c.run_selected.result _ _ (λ answer h. h c.args.errors.now (right_of _ _ (sym c.rests.ensures ∙ c.if-rests.false))) c.run_selected.ensures.ran

pub returns-clause-broke : goal.returns-clause-broke
returns-clause-broke g c =
    IfErr-weaker c.run_selected.result _ _ (λ f h. broke_as _ _ f (λ b. b c.args.errors.now (right_of _ _ (sym c.rests.ensures ∙ c.if-rests.false))) h) c.run_selected.ensures.broke
