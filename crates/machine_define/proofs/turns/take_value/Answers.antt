use Rattle.std.proofs.Common.{◌≡◌, ◌∙◌, List, length, sym, ap}
use Rattle.std.proofs.lemmas.Result.{IfOk-weaker}
use Rattle.py_values.specs.declared.value.Value.{Value}
use Rattle.machine_state.specs.py_world.Expressions.{arguments}
use Rattle.machine_state.specs.core_meaning.Statements.{some_part}
use Rattle.machine_state.specs.declared.frame.DefineFrame.{DefineFrame}
use Rattle.machine_state.specs.declared.machine.NextAction.{NextAction}
use Rattle.machine_state.specs.Definings.{core_class_behind, fn_behind, fn_made, on_define}
use Rattle.machine_state.specs.Places.{CoreRest, CoreState, parts_from}
use Rattle.machine_state.specs.Frames.{machine_rest, site_now, state_of, todo}
use Rattle.machine_define.proofs.Functions.{one_more}
use Rattle.machine_define.proofs.turns.take_value.Goals as goal

pub returns-in_ok-values-in-Decorator-clause-next : goal.returns-in_ok-values-in-Decorator-clause-next
returns-in_ok-values-in-Decorator-clause-next c =
    let m = c.args.m.now in
    let m' = c.next_decorator.new.m in
    let p = site_now m in
    let a = c.in-Decorator in
    let vs = c.in_ok-values-in-Decorator.values.items in
    let go : List Value → CoreState → CoreRest = λ ws s. fn_behind (parts_from 0 a.es) a.function.value ws p s (machine_rest m) in
    IfOk-weaker c.next_decorator.result (λ (d : NextAction). todo d m' ≡ arguments (parts_from (length vs) a.ds) vs p (state_of m) (machine_rest m) go) (λ (d : NextAction). todo d m' ≡ on_define c.args.frame p c.args.v (state_of m) (machine_rest m))
    (λ d h. h ∙ one_more a.ds a.so_far.items vs c.args.v p (state_of m) (machine_rest m) go c.in_ok-values-in-Decorator.ensures ∙ sym (ap (λ (f : DefineFrame). on_define f p c.args.v (state_of m) (machine_rest m)) a.is))
    c.next_decorator.ensures.next

pub returns-in_ok-values-in-Default-clause-next : goal.returns-in_ok-values-in-Default-clause-next
returns-in_ok-values-in-Default-clause-next c =
    let m = c.args.m.now in
    let m' = c.next_default.new.m in
    let p = site_now m in
    let a = c.in-Default in
    let vs = c.in_ok-values-in-Default.values.items in
    let go : List Value → CoreState → CoreRest = λ ws s. fn_made a.function.value a.ds.items ws p s (machine_rest m) in
    IfOk-weaker c.next_default.result (λ (d : NextAction). todo d m' ≡ arguments (parts_from (length vs) a.es) vs p (state_of m) (machine_rest m) go) (λ (d : NextAction). todo d m' ≡ on_define c.args.frame p c.args.v (state_of m) (machine_rest m))
    (λ d h. h ∙ one_more a.es a.so_far.items vs c.args.v p (state_of m) (machine_rest m) go c.in_ok-values-in-Default.ensures ∙ sym (ap (λ (f : DefineFrame). on_define f p c.args.v (state_of m) (machine_rest m)) a.is))
    c.next_default.ensures.next

pub returns-in_ok-values-in-ClassDecorator-clause-next : goal.returns-in_ok-values-in-ClassDecorator-clause-next
returns-in_ok-values-in-ClassDecorator-clause-next c =
    let m = c.args.m.now in
    let m' = c.next_decorator-in-ClassDecorator.new.m in
    let p = site_now m in
    let a = c.in-ClassDecorator in
    let vs = c.in_ok-values-in-ClassDecorator.values.items in
    let go : List Value → CoreState → CoreRest = λ ws s. core_class_behind (some_part a.base) a.class.value ws p s (machine_rest m) in
    IfOk-weaker c.next_decorator-in-ClassDecorator.result (λ (d : NextAction). todo d m' ≡ arguments (parts_from (length vs) a.ds) vs p (state_of m) (machine_rest m) go) (λ (d : NextAction). todo d m' ≡ on_define c.args.frame p c.args.v (state_of m) (machine_rest m))
    (λ d h. h ∙ one_more a.ds a.so_far.items vs c.args.v p (state_of m) (machine_rest m) go c.in_ok-values-in-ClassDecorator.ensures ∙ sym (ap (λ (f : DefineFrame). on_define f p c.args.v (state_of m) (machine_rest m)) a.is))
    c.next_decorator-in-ClassDecorator.ensures.next
