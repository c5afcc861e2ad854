use Rattle.std.proofs.Common.{◌≤◌, ℕ, List, length, ap, sym, subst, ◌∙◌}
use Rattle.std.proofs.lemmas.Result.{IfErr-weaker, IfOk-weaker}
use Rattle.run_items.specs.Runs.{BeginsPlan, RunsPlan}
use Rattle.run_items.specs.Stands.{planned}
use Rattle.runtest_loop.specs.Course.{chosen_in}
use Rattle.runtest_loop.specs.Fed.{numbers_fed, numbers_in_range, unfed}
use Rattle.share_files.specs.Work.{held_lists}
use Rattle.test_session.proofs.Left.{same_frames}
use Rattle.test_session.proofs.Numbers.{are_known, few, in_range, none_begun, on_err}
use Rattle.test_session.specs.Collections.{in_suite}
use Rattle.test_session.specs.Runs.{chosen_of, plan_of}
use Rattle.test_session.specs.Stacks.{in_world}
use Rattle.test_session.specs.declared.items.Item.{Item}
use Rattle.test_session.proofs.running.run.Goals as goal

pub returns-in_err-numbers-clause-begun : goal.returns-in_err-numbers-clause-begun
returns-in_err-numbers-clause-begun g c =
    on_err c.from_residual.result _
    (none_begun (plan_of c.args.options.now c.args.collected.now) c.args.options.now (chosen_of c.args.options.now c.args.collected.now (held_lists c.args.groups.now) (g.F.Feed.given c.args.feed.now)) c.args.collected.now.world (g.P.Receiver.taken c.args.to.now))

pub run_in-requires-clause-known : goal.run_in-requires-clause-known
run_in-requires-clause-known g c = are_known c.args.options.now.step_limit c.args.collected.now.stack c.requires.runs.runnable

pub run_in-requires-clause-in_range : goal.run_in-requires-clause-in_range
run_in-requires-clause-in_range g c =
    let s = c.args.collected.now.stack.plan.run.suite in
    subst (λ (gs : List (List ℕ)). numbers_in_range (length s.items) gs)
    (sym (c.deref.ensures.value ∙ (c.in_ok-numbers.ensures ∙ ap (λ (is : List Item). in_suite s.outer is (held_lists c.args.groups.now)) c.as_slice.ensures.value)))
    (in_range s.outer (length s.items) c.args.collected.now.items.items c.requires.runs.items (held_lists c.args.groups.now) c.requires.in_range)

pub run_in-requires-clause-few : goal.run_in-requires-clause-few
run_in-requires-clause-few g c =
    let s = c.args.collected.now.stack.plan.run.suite in
    subst (λ (gs : List (List ℕ)). unfed gs (g.F.Feed.given c.args.feed.now) ≤ 131072)
    (sym (c.deref.ensures.value ∙ (c.in_ok-numbers.ensures ∙ ap (λ (is : List Item). in_suite s.outer is (held_lists c.args.groups.now)) c.as_slice.ensures.value)))
    (few s.outer c.args.collected.now.items.items (held_lists c.args.groups.now) (g.F.Feed.given c.args.feed.now) c.requires.few)

pub returns-clause-run : goal.returns-clause-run
returns-clause-run g c =
    let s = c.args.collected.now.stack.plan.run.suite in
    let plan = plan_of c.args.options.now c.args.collected.now in
    IfOk-weaker c.run_in.result _ _
    (λ end r. (
      r.0,
      r.1,
      subst (λ (gs : List (List ℕ)). RunsPlan plan c.args.options.now (chosen_in (planned plan) s.items (numbers_fed gs (g.F.Feed.given c.run_in.new.feed))) c.args.collected.now.world r.0 end (in_world c.run_in.new.world c.run_in.new.stand))
          (c.deref.ensures.value ∙ (c.in_ok-numbers.ensures ∙ ap (λ (is : List Item). in_suite s.outer is (held_lists c.args.groups.now)) c.as_slice.ensures.value)) r.2,
    )) c.run_in.ensures.run

pub returns-clause-begun : goal.returns-clause-begun
returns-clause-begun g c =
    let s = c.args.collected.now.stack.plan.run.suite in
    let plan = plan_of c.args.options.now c.args.collected.now in
    IfErr-weaker c.run_in.result _ _
    (λ fault b.
    subst (λ (gs : List (List ℕ)). BeginsPlan plan c.args.options.now (chosen_in (planned plan) s.items (numbers_fed gs (g.F.Feed.given c.run_in.new.feed))) c.args.collected.now.world (g.P.Receiver.taken c.args.to.now) (g.P.Receiver.taken c.run_in.new.to))
    (c.deref.ensures.value ∙ (c.in_ok-numbers.ensures ∙ ap (λ (is : List Item). in_suite s.outer is (held_lists c.args.groups.now)) c.as_slice.ensures.value)) b) c.run_in.ensures.begun

pub returns-clause-frames : goal.returns-clause-frames
returns-clause-frames g c =
    let s = c.args.collected.now.stack.plan.run.suite in
    let plan = plan_of c.args.options.now c.args.collected.now in
    IfOk-weaker c.run_in.result _ _
    (λ end r d.
    same_frames plan s.items (are_known c.args.options.now.step_limit c.args.collected.now.stack c.requires.runs.runnable) (c.sources_keep_their_frames.ensures c.args.options.now s) c.args.options.now
    (numbers_fed (in_suite s.outer c.args.collected.now.items.items (held_lists c.args.groups.now)) (g.F.Feed.given c.run_in.new.feed)) c.args.collected.now.world r.0 end (in_world c.run_in.new.world c.run_in.new.stand) r.2 d)
    (returns-clause-run g c)

pub returns-clause-none_out : goal.returns-clause-none_out
returns-clause-none_out g c = IfOk-weaker c.run_in.result _ _ (λ end same d none n. same d n ∙ none n) (returns-clause-frames g c)
