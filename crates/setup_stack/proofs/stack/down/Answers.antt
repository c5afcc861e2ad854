use Rattle.std.proofs.Common.{◌∙◌, ◌++◌, [], ◌∷◌, List, refl, ap}
use Rattle.session_types.specs.declared.journal.Event.{Event}
use Rattle.session_types.specs.declared.journal.Event.TheVariants.{Down}
use Rattle.session_rules.specs.Teardown.{finalize_all, rest_resumed, some_raised}
use Rattle.setup_stack.proofs.Downs.{went_down}
use Rattle.setup_stack.proofs.Outs.{closed_held}
use Rattle.setup_stack.proofs.stack.down.Goals as goal

pub returns-clause-state : goal.returns-clause-state
returns-clause-state g c =
    (went_down (g.W.Executor.rules c.args.setting.now) c.args.id.order c.take-def.result c.held.result.now c.in_ok-finalizers.finalizers c.in_ok-more.more c.has_any-any.result c.args.world.now c.close_request.new.world c.tear.new.world c.args.stack.now
    (record { live = c.take-def.new.self; events = c.push-2.new.self; given = c.args.stack.now.given; own = c.args.stack.now.own })
    c.take-def.ensures.value c.held.ensures c.in_ok-finalizers.ensures
    (c.in_ok-more.ensures ∙ ap (λ l. finalize_all (g.W.Executor.rules c.args.setting.now) l (rest_resumed (g.W.Executor.rules c.args.setting.now) c.take-def.result.def c.take-def.result.slot.rest c.close_request.new.world)) c.items.ensures)
    (c.has_any-any.ensures ∙ ap some_raised c.items-2.ensures)
    (ap (λ v. v.live) c.take-def.ensures.taken) (ap (λ v. v.next) c.take-def.ensures.taken)
    (c.in_ok-push-2.ensures.ok ∙ ap (λ (l : List Event). l ++ Down c.take-def.result.order c.has_any-any.result ∷ []) c.in_ok-push.ensures.ok) refl refl).state

pub returns-clause-raised : goal.returns-clause-raised
returns-clause-raised g c =
    c.in_ok-push_all.ensures ∙ ap (λ l. c.args.raised.now ++ l) (went_down (g.W.Executor.rules c.args.setting.now) c.args.id.order c.take-def.result c.held.result.now c.in_ok-finalizers.finalizers c.in_ok-more.more c.has_any-any.result c.args.world.now c.close_request.new.world c.tear.new.world c.args.stack.now
    (record { live = c.take-def.new.self; events = c.push-2.new.self; given = c.args.stack.now.given; own = c.args.stack.now.own })
    c.take-def.ensures.value c.held.ensures c.in_ok-finalizers.ensures
    (c.in_ok-more.ensures ∙ ap (λ l. finalize_all (g.W.Executor.rules c.args.setting.now) l (rest_resumed (g.W.Executor.rules c.args.setting.now) c.take-def.result.def c.take-def.result.slot.rest c.close_request.new.world)) c.items.ensures)
    (c.has_any-any.ensures ∙ ap some_raised c.items-2.ensures)
    (ap (λ v. v.live) c.take-def.ensures.taken) (ap (λ v. v.next) c.take-def.ensures.taken)
    (c.in_ok-push-2.ensures.ok ∙ ap (λ (l : List Event). l ++ Down c.take-def.result.order c.has_any-any.result ∷ []) c.in_ok-push.ensures.ok) refl refl).raised

pub tear-requires : goal.tear-requires
tear-requires g c = record {
  out = λ r e. closed_held (g.W.Executor.rules c.args.setting.now) g.W.Executor.is_out (g.met.W.Executor.keeps c.args.setting.now) c.args.world.now c.close_request.new.world c.args.stack.now c.args.id.order c.take-def.result c.held.result.now.request c.in_ok-finalizers.finalizers r
      c.requires.frames c.take-def.ensures.value c.in_ok-finalizers.ensures e;
}
