use Rattle.std.proofs.Common.{◌≡◌, ◌∙◌, length}
use Rattle.std.proofs.lemmas.Result.{IfOk-weaker}
use Rattle.machine_state.specs.py_world.Expressions.{arguments}
use Rattle.machine_state.specs.core_meaning.Expressions.{parts_of}
use Rattle.machine_state.specs.core_meaning.Statements.{define_fn}
use Rattle.machine_state.specs.declared.machine.NextAction.{NextAction}
use Rattle.machine_state.specs.Definings.{fn_behind}
use Rattle.machine_state.specs.Places.{parts_from}
use Rattle.machine_state.specs.Frames.{machine_rest, site_now, state_of, todo}
use Rattle.machine_define.proofs.Functions.{define_begins}
use Rattle.machine_define.proofs.function.begin_def.Goals as goal

pub returns-clause-next : goal.returns-clause-next
returns-clause-next c =
    let m = c.args.m.now in
    let m' = c.next_decorator.new.m in
    let none = c.new-none.result.items in
    let ds = c.in_ok-decorators.decorators in
    let es = c.in_ok-defaults.defaults in
    let f = c.in_ok-again.again in
    IfOk-weaker c.next_decorator.result
    (λ (d : NextAction). todo d m' ≡ arguments (parts_from (length none) ds) none (site_now m) (state_of m) (machine_rest m) (λ vs s. fn_behind (parts_from 0 es) f.value vs (site_now m) s (machine_rest m)))
    (λ (d : NextAction). todo d m' ≡ define_fn (parts_of c.args.ds.now.value.items) (parts_of c.args.es.now.value.items) c.args.function.now.value (site_now m) (state_of m) (machine_rest m))
    (λ d h. h ∙ define_begins c.args.function.now.value f.value c.args.ds.now ds c.args.es.now es none (site_now m) (state_of m) (machine_rest m)
    c.in_ok-again.ensures.cases c.in_ok-decorators.ensures.cases c.in_ok-defaults.ensures.cases c.new-none.ensures.items)
    c.next_decorator.ensures.next
