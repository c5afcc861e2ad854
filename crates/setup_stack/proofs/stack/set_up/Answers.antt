use Rattle.std.proofs.Common.{◌∙◌, ◌+◌, ◌++◌, ℕ, [], ◌∷◌, refl, sym, ap, subst, None}
use Rattle.session_types.specs.declared.instance.Instance.{Instance}
use Rattle.fixture_instances.specs.declared.ends.CachedResult.{CachedResult}
use Rattle.setup_stack.specs.Borne.{answer_with}
use Rattle.fixture_instances.specs.Items.{item_for_session, parameter_in}
use Rattle.session_rules.proofs.Standing.{settle_stands}
use Rattle.session_rules.specs.Frames.{StandsWith}
use Rattle.session_rules.specs.Teardown.{SessionState}
use Rattle.session_rules.specs.World.{language}
use Rattle.setup_stack.specs.Views.{answer_in, grants_of, stack_state}
use Rattle.setup_stack.proofs.Births.{was_set_up}
use Rattle.setup_stack.proofs.Givens.{bases_same, orders_same}
use Rattle.setup_stack.proofs.stack.set_up.Goals as goal

pub returns-clause-answer : goal.returns-clause-answer
returns-clause-answer g c =
    let rules = g.W.Executor.rules c.args.setting.now in
    let i : Instance (CachedResult _ _ _) = record { def = c.args.def; param = c.parameter_in.result; node = c.place_of.result; scope = c.def.result.now.scope; order = c.next-order.result; bases = c.in_ok-bases.bases; slot = c.in_ok-made.made.held } in
    let order = c.next-order.ensures ∙ ap (λ v. v.next) c.reserve.ensures.same in
    ap (answer_in rules) (c.answer_with.ensures ∙ ap (λ (o : ℕ). answer_with c.args.def o c.in_ok-copy.copy c.in_ok-made.made.told) order)
    ∙ (was_set_up rules (item_for_session c.args.table.now c.args.item.now) c.args.def (grants_of rules c.args.given.now) i c.in_ok-direct.direct c.in_ok-copy.copy c.in_ok-made.made.told c.args.world.now c.begin.new.world c.args.stack.now c.bear.new.stack
    (record {
      made = c.in_ok-made.ensures.made;
      told_is = c.in_ok-made.ensures.told;
      direct_is = c.in_ok-direct.ensures ∙ orders_same rules c.args.given.now [];
      bases = c.in_ok-bases.ensures ∙ bases_same rules c.args.given.now [];
      copy_is = c.in_ok-copy.ensures;
      def = refl;
      param = c.parameter_in.ensures ∙ ap (λ l. parameter_in l c.args.def) c.items.ensures;
      node = c.place_of.ensures;
      scope = ap (λ d. d.scope) c.def.ensures ∙ sym (c.requires.scopes c.args.def c.requires.def);
      order = order;
    })
    (c.in_ok-bear.ensures.live ∙ ap (λ v. v.live ++ i ∷ []) c.reserve.ensures.same)
    (c.in_ok-bear.ensures.next ∙ ap (λ v. v.next + 1) c.reserve.ensures.same)
    c.in_ok-bear.ensures.events c.in_ok-bear.ensures.given c.in_ok-bear.ensures.own).answer

pub returns-clause-state : goal.returns-clause-state
returns-clause-state g c =
    let rules = g.W.Executor.rules c.args.setting.now in
    let i : Instance (CachedResult _ _ _) = record { def = c.args.def; param = c.parameter_in.result; node = c.place_of.result; scope = c.def.result.now.scope; order = c.next-order.result; bases = c.in_ok-bases.bases; slot = c.in_ok-made.made.held } in
    let order = c.next-order.ensures ∙ ap (λ v. v.next) c.reserve.ensures.same in
    (was_set_up rules (item_for_session c.args.table.now c.args.item.now) c.args.def (grants_of rules c.args.given.now) i c.in_ok-direct.direct c.in_ok-copy.copy c.in_ok-made.made.told c.args.world.now c.begin.new.world c.args.stack.now c.bear.new.stack
    (record {
      made = c.in_ok-made.ensures.made;
      told_is = c.in_ok-made.ensures.told;
      direct_is = c.in_ok-direct.ensures ∙ orders_same rules c.args.given.now [];
      bases = c.in_ok-bases.ensures ∙ bases_same rules c.args.given.now [];
      copy_is = c.in_ok-copy.ensures;
      def = refl;
      param = c.parameter_in.ensures ∙ ap (λ l. parameter_in l c.args.def) c.items.ensures;
      node = c.place_of.ensures;
      scope = ap (λ d. d.scope) c.def.ensures ∙ sym (c.requires.scopes c.args.def c.requires.def);
      order = order;
    })
    (c.in_ok-bear.ensures.live ∙ ap (λ v. v.live ++ i ∷ []) c.reserve.ensures.same)
    (c.in_ok-bear.ensures.next ∙ ap (λ v. v.next + 1) c.reserve.ensures.same)
    c.in_ok-bear.ensures.events c.in_ok-bear.ensures.given c.in_ok-bear.ensures.own).state

pub returns-clause-frames : goal.returns-clause-frames
returns-clause-frames g c =
    let rules = g.W.Executor.rules c.args.setting.now in
    let i : Instance (CachedResult _ _ _) = record { def = c.args.def; param = c.parameter_in.result; node = c.place_of.result; scope = c.def.result.now.scope; order = c.next-order.result; bases = c.in_ok-bases.bases; slot = c.in_ok-made.made.held } in
    let order = c.next-order.ensures ∙ ap (λ v. v.next) c.reserve.ensures.same in
    subst (λ (s : SessionState (language g.row.W.Denot g.row.W-Value.Denot g.row.W-Thrown.Denot g.row.W-Rest.Denot g.row.W-Told.Denot g.W.Executor.is_bad)). StandsWith s g.W.Executor.is_out [])
    (sym (was_set_up rules (item_for_session c.args.table.now c.args.item.now) c.args.def (grants_of rules c.args.given.now) i c.in_ok-direct.direct c.in_ok-copy.copy c.in_ok-made.made.told c.args.world.now c.begin.new.world c.args.stack.now c.bear.new.stack
    (record {
      made = c.in_ok-made.ensures.made;
      told_is = c.in_ok-made.ensures.told;
      direct_is = c.in_ok-direct.ensures ∙ orders_same rules c.args.given.now [];
      bases = c.in_ok-bases.ensures ∙ bases_same rules c.args.given.now [];
      copy_is = c.in_ok-copy.ensures;
      def = refl;
      param = c.parameter_in.ensures ∙ ap (λ l. parameter_in l c.args.def) c.items.ensures;
      node = c.place_of.ensures;
      scope = ap (λ d. d.scope) c.def.ensures ∙ sym (c.requires.scopes c.args.def c.requires.def);
      order = order;
    })
    (c.in_ok-bear.ensures.live ∙ ap (λ v. v.live ++ i ∷ []) c.reserve.ensures.same)
    (c.in_ok-bear.ensures.next ∙ ap (λ v. v.next + 1) c.reserve.ensures.same)
    c.in_ok-bear.ensures.events c.in_ok-bear.ensures.given c.in_ok-bear.ensures.own).state)
    (settle_stands g.W.Executor.is_out rules (g.met.W.Executor.keeps c.args.setting.now) [] (item_for_session c.args.table.now c.args.item.now) c.args.def (grants_of rules c.args.given.now) None (stack_state rules c.args.world.now c.args.stack.now) c.requires.frames)
