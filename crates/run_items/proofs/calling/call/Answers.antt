use Rattle.std.proofs.Common.{[], None, subst, sym}
use Rattle.fixture_world.specs.runtest_rules.py_world.Resuming.{is_out}
use Rattle.session_rules.specs.Frames.{StandsWith}
use Rattle.fixture_world.specs.Items.{item_in_session}
use Rattle.fixture_world.specs.runtest_rules.Language.{python}
use Rattle.run_items.proofs.Doings.{call_same}
use Rattle.run_items.specs.Stands.{plan_rules, stand_state}
use Rattle.session_rules.specs.Demand.{numbers_of}
use Rattle.session_rules.specs.Session.{in_hooks, pyfunc_call}
use Rattle.session_rules.specs.Teardown.{SessionState}
use Rattle.session_rules.specs.World.{Call}
use Rattle.session_types.specs.declared.journal.Event.TheVariants.{CallBegins, CallEnds}
use Rattle.run_items.proofs.calling.call.Goals as goal

pub returns-in-Ok-clause-state : goal.returns-in-Ok-clause-state
returns-in-Ok-clause-state c =
    let item = c.args.item.now in
    let rules = plan_rules c.args.plan.now in
    let known = item_in_session c.args.plan.now.table item in
    let s = stand_state c.args.stand.now in
    call_same (λ (t : SessionState python). in_hooks rules Call known None (pyfunc_call rules known) t) (CallBegins item.node (numbers_of s.given [])) (CallEnds item.node) s (stand_state c.begin_call.new.stand) (stand_state c.call_hooked.new.stand) (stand_state c.end_call.new.stand) c.in_ok-raised.raised
    c.in_ok-begin_call.ensures c.in_ok-raised.ensures.state c.in-Ok.ensures

-- the events of a call leave the frames as they are
pub call_hooked-requires-clause-frames : goal.call_hooked-requires-clause-frames
call_hooked-requires-clause-frames c = subst (λ (s : SessionState python). StandsWith s is_out []) (sym c.in_ok-begin_call.ensures) c.requires.frames

pub returns-in-Ok-clause-frames : goal.returns-in-Ok-clause-frames
returns-in-Ok-clause-frames c = subst (λ (s : SessionState python). StandsWith s is_out []) (sym c.in-Ok.ensures) c.in_ok-raised.ensures.frames
