use Rattle.std.proofs.Common.{◌≡◌, ◌∙◌, ℕ, List, Option, None, Some, ap, sym, subst}
use Rattle.std.specs.Prelude.{IfOk, OnOk}
use Rattle.fixture_instances.specs.Views.{body_end}
use Rattle.fixture_instances.specs.declared.ends.BodyEnd.{BodyEnd}
use Rattle.demand_tests.specs.Logs.{def_in, logging, went_on_where}
use Rattle.demand_tests.specs.declared.logs.Cause.{Cause}
use Rattle.demand_tests.proofs.logs.LogExecutor.resume.Goals as goal

pub returns-in-Some-clause-how : goal.returns-in-Some-clause-how
returns-in-Some-clause-how c =
    let w = c.args.self.now in
    let script = c.args.setting.now in
    let e : def_in w.frames c.args.rest ≡ Some c.in-Some.def = sym (ap (λ (fs : List (Option ℕ)). def_in fs c.args.rest) c.items.ensures) ∙ (sym c.def_in.ensures ∙ c.in-Some.is) in
    subst (λ (o : Option ℕ). IfOk c.go_on.result (λ (end : BodyEnd ℕ Cause ℕ). body_end (logging script) end ≡ (went_on_where script c.args.rest o w).how)) (sym e) c.go_on.ensures.how

pub returns-in-Some-clause-world : goal.returns-in-Some-clause-world
returns-in-Some-clause-world c =
    let w = c.args.self.now in
    let script = c.args.setting.now in
    let e : def_in w.frames c.args.rest ≡ Some c.in-Some.def = sym (ap (λ (fs : List (Option ℕ)). def_in fs c.args.rest) c.items.ensures) ∙ (sym c.def_in.ensures ∙ c.in-Some.is) in
    subst (λ (o : Option ℕ). OnOk c.go_on.result (c.go_on.new.log ≡ (went_on_where script c.args.rest o w).world)) (sym e) c.go_on.ensures.world

pub returns-in-None-clause-how : goal.returns-in-None-clause-how
returns-in-None-clause-how c =
    let w = c.args.self.now in
    let e : def_in w.frames c.args.rest ≡ None = sym (ap (λ (fs : List (Option ℕ)). def_in fs c.args.rest) c.items.ensures) ∙ (sym c.def_in.ensures ∙ c.in-None.is) in
    ap (λ (o : Option ℕ). (went_on_where c.args.setting.now c.args.rest o w).how) (sym e)

pub returns-in-None-clause-world : goal.returns-in-None-clause-world
returns-in-None-clause-world c =
    let w = c.args.self.now in
    let e : def_in w.frames c.args.rest ≡ None = sym (ap (λ (fs : List (Option ℕ)). def_in fs c.args.rest) c.items.ensures) ∙ (sym c.def_in.ensures ∙ c.in-None.is) in
    ap (λ (o : Option ℕ). (went_on_where c.args.setting.now c.args.rest o w).world) (sym e)
