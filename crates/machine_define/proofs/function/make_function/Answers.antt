use Rattle.std.proofs.Common.{◌≡◌, ◌∙◌, List, length, map, ap, arith}
use Rattle.std.proofs.lemmas.Result.{IfOk-weaker}
use Rattle.std.specs.declared.alloc.Global.{Global}
use Rattle.std.specs.declared.vec.Vec.{Vec}
use Rattle.py_core.specs.declared.stmt.CoreFn.{CoreFn, out-CoreFn}
use Rattle.py_core.specs.declared.stmt.CoreParam.{CoreParam}
use Rattle.py_values.specs.declared.value.Value.TheVariants as val
use Rattle.py_values.specs.Ends.{id_at}
use Rattle.machine_state.specs.py_world.Definitions.{define_as, with_defaults}
use Rattle.machine_state.specs.py_world.World.{state}
use Rattle.machine_state.specs.core_meaning.Statements.{written}
use Rattle.machine_state.specs.declared.machine.NextAction.{NextAction}
use Rattle.machine_state.specs.Definings.{fn_made}
use Rattle.machine_state.specs.Frames.{frozen_of, machine_rest, site_now, state_of, todo}
use Rattle.machine_define.proofs.Functions.{makes}
use Rattle.machine_define.proofs.function.make_function.Goals as goal

pub returns-clause-next : goal.returns-clause-next
returns-clause-next c =
    let m = c.args.m.now in
    let m' = c.define_as.new.m in
    let f = c.args.function.now.value in
    let at : c.len-at.result ≡ length m.codes.items = omega (arith, c.len-at.ensures, m.codes.ok.0) in
    let g = c.deref-4.result.now in
    let params : c.in_ok-params.params ≡ with_defaults (written (out-CoreFn f).params.value.items) c.args.defaults.now =
    c.in_ok-params.ensures
    ∙ ap (λ (ws : List CoreParam). with_defaults (written ws) c.args.defaults.now)
    (c.deref-3.ensures.value ∙ ap (λ (v : Vec CoreParam Global). v.items) c.deref-2.ensures ∙ ap (λ (x : CoreFn). (out-CoreFn x).params.value.items) c.deref.ensures) in
    IfOk-weaker c.define_as.result
    (λ (d : NextAction). todo d m' ≡ define_as c.args.ds.now (out-CoreFn g).name (val.Ref (id_at c.in_ok-id.id.at)) (site_now m)
    (state m.locals m.temps.items (record { sources = m.sources; modules = m.modules; heap = c.add.new.self; codes = c.push.new.self.items; printed = m.printed.items; frozen = map frozen_of m.stack.frozen; traces = m.traces })) (machine_rest m))
    (λ (d : NextAction). todo d m' ≡ fn_made f c.args.ds.now c.args.defaults.now (site_now m) (state_of m) (machine_rest m))
    (λ d h. h ∙ makes f g m c.push.new.self.items c.add.new.self c.in_ok-code.code c.in_ok-params.params c.in_ok-object.object c.len-at.result c.in_ok-id.id.at c.args.ds.now c.args.defaults.now
    c.deref-4.ensures c.in_ok-code.ensures params c.in_ok-object.ensures at c.in_ok-push.ensures.items c.in_ok-id.ensures.1 c.in_ok-id.ensures.0)
    c.define_as.ensures.next
