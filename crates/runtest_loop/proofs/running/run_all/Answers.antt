use Rattle.std.proofs.Common.{◌≡◌, ℕ, true, false, ◌+◌, ◌++◌, length, sym, ap, subst, ◌∙◌, arith, List, Option, option_to_list}
use Rattle.std.specs.Prelude.{option_copied}
use Rattle.runtest_loop.proofs.Loop.{Course, course_done, course_first, course_front, course_stop, course_turn, on_broken, on_err, report_front, turn_front, unreached_zero}
use Rattle.session_rules.specs.Session.{reaches}
use Rattle.runtest_loop.proofs.running.run_all.Goals as goal

pub items-init : goal.items-init
items-init g c =
    let d = c.next_number-first.ensures.drawn in
    let falls = c.next_number-first.ensures.falls in let few = c.requires.few in let same = c.next_number-first.ensures.limit in let limit = c.requires.limit in
    record {
      course = course_first (g.S.Stage.rules c.args.setting.now) (g.S.Stage.fixture c.args.setting.now) c.args.options.now (g.S.Stage.selected c.args.setting.now) c.args.items.now c.args.groups.now
          (g.F.Feed.given c.args.feed.now) d.more (g.F.Feed.given c.next_number-first.new.feed) (option_to_list c.next_number-first.result.0 ++ c.next_number-first.result.1.now) (g.F.Feed.ended c.next_number-first.new.feed) (g.P.Receiver.taken c.args.to.now) (g.S.Stage.state c.args.stage.now)
          c.new-arrived.result c.new-arrived.ensures c.requires.fresh d.gave d.numbers;
      none = d.none;
      here = c.requires.here;
      origin = c.next_number-first.ensures.origin;
      most = c.next_number-first.ensures.limit;
      limit = omega (arith, same, limit);
      in_range = c.next_number-first.ensures.in_range;
      few = omega (arith, falls, few);
      going = unreached_zero c.args.options.now.maxfail;
      stems = c.requires.from;
      faults = omega arith;
    }

pub items-preserved : goal.items-preserved
items-preserved g c =
    let rules = g.S.Stage.rules c.args.setting.now in
    let fixture = g.S.Stage.fixture c.args.setting.now in
    let options = c.args.options.now in
    let selected = g.S.Stage.selected c.args.setting.now in
    let told = c.in_ok-told.ensures.told c.items.bad (g.S.Stage.state c.items.stage) c.in_ok-called.ensures.called in
    let d = c.next_number-next.ensures.drawn in
    let few = c.items.invariant.few in let falls = c.next_number-next.ensures.falls in let more = c.in_ok-told.ensures.more in let called = c.in_ok-called.ensures.more in
    let many : length (option_to_list c.items.current ++ c.items.rest.now) ≡ 1 + length c.items.rest.now = ap (λ (o : Option ℕ). length (option_to_list o ++ c.items.rest.now)) c.in-Some.is ∙ omega arith in
    let same = c.next_number-next.ensures.limit in let limit = c.items.invariant.limit in let was = c.items.invariant.faults in let rises = c.in_ok-report.ensures.falls in
    let going = sym c.reaches.ensures ∙ c.if-reaches.false in
    record {
      course = course_turn rules fixture options selected c.args.items.now c.args.groups.now
          (g.F.Feed.given c.items.feed) d.more (g.F.Feed.given c.next_number-next.new.feed) (g.F.Feed.ended c.items.feed) (g.F.Feed.ended c.next_number-next.new.feed) (g.P.Receiver.taken c.args.to.now) (g.P.Receiver.taken c.items.to) (g.S.Stage.state c.args.stage.now)
          c.items.arrived c.in-Some.number c.items.rest.now c.items.bad (g.S.Stage.state c.items.stage)
          (subst (λ (o : Option ℕ). Course rules fixture options selected c.args.items.now c.args.groups.now (g.F.Feed.given c.items.feed) (g.F.Feed.ended c.items.feed) (g.P.Receiver.taken c.args.to.now) (g.P.Receiver.taken c.items.to) (g.S.Stage.state c.args.stage.now) c.items.arrived (option_to_list o ++ c.items.rest.now) c.items.bad (g.S.Stage.state c.items.stage)) c.in-Some.is c.items.invariant.course)
          d.gave c.next_number-next.result.0 c.next_number-next.result.1.now d.numbers d.none d.stays c.value_at-item.result.now c.value_at-item.ensures (option_copied c.item_if.result) c.item_if.ensures
          c.in_ok-told.told.report (g.P.Receiver.taken c.report.new.self) c.tell_item.new.arrived c.in_ok-told.told.bad (g.S.Stage.state c.tell_item.new.stage) told.report c.in_ok-report.ensures.taken told.bad told.state going;
      none = d.none;
      here = c.in_ok-told.ensures.here;
      origin = c.next_number-next.ensures.origin ∙ c.items.invariant.origin;
      most = c.next_number-next.ensures.limit ∙ c.items.invariant.most;
      limit = omega (arith, same, limit);
      in_range = c.next_number-next.ensures.in_range;
      few = omega (arith, few, falls, more, called, many);
      going = going;
      stems = c.in_ok-report.ensures.stems c.args.to.now c.items.invariant.stems;
      faults = omega (arith, was, rises);
    }

pub returns-then-reaches-clause-reports : goal.returns-then-reaches-clause-reports
returns-then-reaches-clause-reports g c =
    let rules = g.S.Stage.rules c.args.setting.now in
    let fixture = g.S.Stage.fixture c.args.setting.now in
    let options = c.args.options.now in
    let selected = g.S.Stage.selected c.args.setting.now in
    let told = c.in_ok-told.ensures.told c.items.bad (g.S.Stage.state c.items.stage) c.in_ok-called.ensures.called in
    let d = c.next_number-next.ensures.drawn in
    (course_stop rules fixture options selected c.args.items.now c.args.groups.now
    (g.F.Feed.given c.items.feed) d.more (g.F.Feed.given c.next_number-next.new.feed) (g.F.Feed.ended c.items.feed) (g.F.Feed.ended c.next_number-next.new.feed) (g.P.Receiver.taken c.args.to.now) (g.P.Receiver.taken c.items.to) (g.S.Stage.state c.args.stage.now)
    c.items.arrived c.in-Some.number c.items.rest.now c.items.bad (g.S.Stage.state c.items.stage)
    (subst (λ (o : Option ℕ). Course rules fixture options selected c.args.items.now c.args.groups.now (g.F.Feed.given c.items.feed) (g.F.Feed.ended c.items.feed) (g.P.Receiver.taken c.args.to.now) (g.P.Receiver.taken c.items.to) (g.S.Stage.state c.args.stage.now) c.items.arrived (option_to_list o ++ c.items.rest.now) c.items.bad (g.S.Stage.state c.items.stage)) c.in-Some.is c.items.invariant.course)
    d.gave c.next_number-next.result.0 c.next_number-next.result.1.now d.numbers d.none d.stays c.value_at-item.result.now c.value_at-item.ensures (option_copied c.item_if.result) c.item_if.ensures
    c.in_ok-told.told.report (g.P.Receiver.taken c.report.new.self) c.tell_item.new.arrived c.in_ok-told.told.bad (g.S.Stage.state c.tell_item.new.stage) told.report c.in_ok-report.ensures.taken told.bad told.state (sym c.reaches.ensures ∙ c.if-reaches.true)).reports

pub returns-then-reaches-clause-state : goal.returns-then-reaches-clause-state
returns-then-reaches-clause-state g c =
    let rules = g.S.Stage.rules c.args.setting.now in
    let fixture = g.S.Stage.fixture c.args.setting.now in
    let options = c.args.options.now in
    let selected = g.S.Stage.selected c.args.setting.now in
    let told = c.in_ok-told.ensures.told c.items.bad (g.S.Stage.state c.items.stage) c.in_ok-called.ensures.called in
    let d = c.next_number-next.ensures.drawn in
    (course_stop rules fixture options selected c.args.items.now c.args.groups.now
    (g.F.Feed.given c.items.feed) d.more (g.F.Feed.given c.next_number-next.new.feed) (g.F.Feed.ended c.items.feed) (g.F.Feed.ended c.next_number-next.new.feed) (g.P.Receiver.taken c.args.to.now) (g.P.Receiver.taken c.items.to) (g.S.Stage.state c.args.stage.now)
    c.items.arrived c.in-Some.number c.items.rest.now c.items.bad (g.S.Stage.state c.items.stage)
    (subst (λ (o : Option ℕ). Course rules fixture options selected c.args.items.now c.args.groups.now (g.F.Feed.given c.items.feed) (g.F.Feed.ended c.items.feed) (g.P.Receiver.taken c.args.to.now) (g.P.Receiver.taken c.items.to) (g.S.Stage.state c.args.stage.now) c.items.arrived (option_to_list o ++ c.items.rest.now) c.items.bad (g.S.Stage.state c.items.stage)) c.in-Some.is c.items.invariant.course)
    d.gave c.next_number-next.result.0 c.next_number-next.result.1.now d.numbers d.none d.stays c.value_at-item.result.now c.value_at-item.ensures (option_copied c.item_if.result) c.item_if.ensures
    c.in_ok-told.told.report (g.P.Receiver.taken c.report.new.self) c.tell_item.new.arrived c.in_ok-told.told.bad (g.S.Stage.state c.tell_item.new.stage) told.report c.in_ok-report.ensures.taken told.bad told.state (sym c.reaches.ensures ∙ c.if-reaches.true)).state

pub returns-then-reaches-clause-stopped : goal.returns-then-reaches-clause-stopped
returns-then-reaches-clause-stopped g c =
    let rules = g.S.Stage.rules c.args.setting.now in
    let fixture = g.S.Stage.fixture c.args.setting.now in
    let options = c.args.options.now in
    let selected = g.S.Stage.selected c.args.setting.now in
    let told = c.in_ok-told.ensures.told c.items.bad (g.S.Stage.state c.items.stage) c.in_ok-called.ensures.called in
    let d = c.next_number-next.ensures.drawn in
    sym (ap (λ (m : ℕ). reaches options.maxfail m) (sym (course_stop rules fixture options selected c.args.items.now c.args.groups.now
    (g.F.Feed.given c.items.feed) d.more (g.F.Feed.given c.next_number-next.new.feed) (g.F.Feed.ended c.items.feed) (g.F.Feed.ended c.next_number-next.new.feed) (g.P.Receiver.taken c.args.to.now) (g.P.Receiver.taken c.items.to) (g.S.Stage.state c.args.stage.now)
    c.items.arrived c.in-Some.number c.items.rest.now c.items.bad (g.S.Stage.state c.items.stage)
    (subst (λ (o : Option ℕ). Course rules fixture options selected c.args.items.now c.args.groups.now (g.F.Feed.given c.items.feed) (g.F.Feed.ended c.items.feed) (g.P.Receiver.taken c.args.to.now) (g.P.Receiver.taken c.items.to) (g.S.Stage.state c.args.stage.now) c.items.arrived (option_to_list o ++ c.items.rest.now) c.items.bad (g.S.Stage.state c.items.stage)) c.in-Some.is c.items.invariant.course)
    d.gave c.next_number-next.result.0 c.next_number-next.result.1.now d.numbers d.none d.stays c.value_at-item.result.now c.value_at-item.ensures (option_copied c.item_if.result) c.item_if.ensures
    c.in_ok-told.told.report (g.P.Receiver.taken c.report.new.self) c.tell_item.new.arrived c.in_ok-told.told.bad (g.S.Stage.state c.tell_item.new.stage) told.report c.in_ok-report.ensures.taken told.bad told.state (sym c.reaches.ensures ∙ c.if-reaches.true)).bads) ∙ (sym c.reaches.ensures ∙ c.if-reaches.true))

pub returns-clause-reports : goal.returns-clause-reports
returns-clause-reports g c =
    (course_done (g.S.Stage.rules c.args.setting.now) (g.S.Stage.fixture c.args.setting.now) c.args.options.now (g.S.Stage.selected c.args.setting.now) c.args.items.now c.args.groups.now
    (g.F.Feed.given c.items.feed) (g.F.Feed.ended c.items.feed) (g.P.Receiver.taken c.args.to.now) (g.P.Receiver.taken c.items.to) (g.S.Stage.state c.args.stage.now) c.items.arrived c.items.bad (g.S.Stage.state c.items.stage)
    (subst (λ (l : List ℕ). Course (g.S.Stage.rules c.args.setting.now) (g.S.Stage.fixture c.args.setting.now) c.args.options.now (g.S.Stage.selected c.args.setting.now) c.args.items.now c.args.groups.now (g.F.Feed.given c.items.feed) (g.F.Feed.ended c.items.feed) (g.P.Receiver.taken c.args.to.now) (g.P.Receiver.taken c.items.to) (g.S.Stage.state c.args.stage.now) c.items.arrived l c.items.bad (g.S.Stage.state c.items.stage))
    (ap (λ (o : Option ℕ). option_to_list o ++ c.items.rest.now) c.in_default.is ∙ (c.items.invariant.none c.in_default.is).0) c.items.invariant.course)).reports

pub returns-clause-state : goal.returns-clause-state
returns-clause-state g c =
    (course_done (g.S.Stage.rules c.args.setting.now) (g.S.Stage.fixture c.args.setting.now) c.args.options.now (g.S.Stage.selected c.args.setting.now) c.args.items.now c.args.groups.now
    (g.F.Feed.given c.items.feed) (g.F.Feed.ended c.items.feed) (g.P.Receiver.taken c.args.to.now) (g.P.Receiver.taken c.items.to) (g.S.Stage.state c.args.stage.now) c.items.arrived c.items.bad (g.S.Stage.state c.items.stage)
    (subst (λ (l : List ℕ). Course (g.S.Stage.rules c.args.setting.now) (g.S.Stage.fixture c.args.setting.now) c.args.options.now (g.S.Stage.selected c.args.setting.now) c.args.items.now c.args.groups.now (g.F.Feed.given c.items.feed) (g.F.Feed.ended c.items.feed) (g.P.Receiver.taken c.args.to.now) (g.P.Receiver.taken c.items.to) (g.S.Stage.state c.args.stage.now) c.items.arrived l c.items.bad (g.S.Stage.state c.items.stage))
    (ap (λ (o : Option ℕ). option_to_list o ++ c.items.rest.now) c.in_default.is ∙ (c.items.invariant.none c.in_default.is).0) c.items.invariant.course)).state

pub returns-clause-stopped : goal.returns-clause-stopped
returns-clause-stopped g c =
    sym (ap (λ (m : ℕ). reaches c.args.options.now.maxfail m) (sym (course_done (g.S.Stage.rules c.args.setting.now) (g.S.Stage.fixture c.args.setting.now) c.args.options.now (g.S.Stage.selected c.args.setting.now) c.args.items.now c.args.groups.now
    (g.F.Feed.given c.items.feed) (g.F.Feed.ended c.items.feed) (g.P.Receiver.taken c.args.to.now) (g.P.Receiver.taken c.items.to) (g.S.Stage.state c.args.stage.now) c.items.arrived c.items.bad (g.S.Stage.state c.items.stage)
    (subst (λ (l : List ℕ). Course (g.S.Stage.rules c.args.setting.now) (g.S.Stage.fixture c.args.setting.now) c.args.options.now (g.S.Stage.selected c.args.setting.now) c.args.items.now c.args.groups.now (g.F.Feed.given c.items.feed) (g.F.Feed.ended c.items.feed) (g.P.Receiver.taken c.args.to.now) (g.P.Receiver.taken c.items.to) (g.S.Stage.state c.args.stage.now) c.items.arrived l c.items.bad (g.S.Stage.state c.items.stage))
    (ap (λ (o : Option ℕ). option_to_list o ++ c.items.rest.now) c.in_default.is ∙ (c.items.invariant.none c.in_default.is).0) c.items.invariant.course)).bads) ∙ c.items.invariant.going)

pub returns-in_err-called-clause-broken : goal.returns-in_err-called-clause-broken
returns-in_err-called-clause-broken g c = on_broken _ (λ b. g.P.Receiver.stems c.args.to.now b c.items.to) true c.items.invariant.stems

pub returns-in_err-called-clause-begun : goal.returns-in_err-called-clause-begun
returns-in_err-called-clause-begun g c =
    let rules = g.S.Stage.rules c.args.setting.now in
    let fixture = g.S.Stage.fixture c.args.setting.now in
    let options = c.args.options.now in
    let selected = g.S.Stage.selected c.args.setting.now in
    on_err _ _ (course_front rules fixture options selected c.args.items.now c.args.groups.now (g.F.Feed.given c.items.feed) (g.F.Feed.ended c.items.feed) (g.P.Receiver.taken c.args.to.now) (g.P.Receiver.taken c.items.to) (g.S.Stage.state c.args.stage.now)
    c.items.arrived (option_to_list c.items.current ++ c.items.rest.now) c.items.bad (g.S.Stage.state c.items.stage) c.items.invariant.course)

pub returns-in_err-told-clause-broken : goal.returns-in_err-told-clause-broken
returns-in_err-told-clause-broken g c = on_broken _ (λ b. g.P.Receiver.stems c.args.to.now b c.items.to) true c.items.invariant.stems

pub returns-in_err-told-clause-begun : goal.returns-in_err-told-clause-begun
returns-in_err-told-clause-begun g c =
    let rules = g.S.Stage.rules c.args.setting.now in
    let fixture = g.S.Stage.fixture c.args.setting.now in
    let options = c.args.options.now in
    let selected = g.S.Stage.selected c.args.setting.now in
    let d = c.next_number-next.ensures.drawn in
    on_err _ _ (turn_front rules fixture options selected c.args.items.now c.args.groups.now
    (g.F.Feed.given c.items.feed) d.more (g.F.Feed.given c.next_number-next.new.feed) (g.F.Feed.ended c.items.feed) (g.F.Feed.ended c.next_number-next.new.feed) (g.P.Receiver.taken c.args.to.now) (g.P.Receiver.taken c.items.to) (g.S.Stage.state c.args.stage.now)
    c.items.arrived c.in-Some.number c.items.rest.now c.items.bad (g.S.Stage.state c.items.stage)
    (subst (λ (o : Option ℕ). Course rules fixture options selected c.args.items.now c.args.groups.now (g.F.Feed.given c.items.feed) (g.F.Feed.ended c.items.feed) (g.P.Receiver.taken c.args.to.now) (g.P.Receiver.taken c.items.to) (g.S.Stage.state c.args.stage.now) c.items.arrived (option_to_list o ++ c.items.rest.now) c.items.bad (g.S.Stage.state c.items.stage)) c.in-Some.is c.items.invariant.course)
    d.gave (option_to_list c.next_number-next.result.0 ++ c.next_number-next.result.1.now) d.numbers d.stays c.value_at-item.result.now c.value_at-item.ensures)

pub returns-in_err-report-clause-broken : goal.returns-in_err-report-clause-broken
returns-in_err-report-clause-broken g c = on_broken _ (λ b. g.P.Receiver.stems c.args.to.now b c.report.new.self) false (c.in_err-report.ensures.broken c.args.to.now c.items.invariant.stems)

pub returns-in_err-report-clause-begun : goal.returns-in_err-report-clause-begun
returns-in_err-report-clause-begun g c =
    let rules = g.S.Stage.rules c.args.setting.now in
    let fixture = g.S.Stage.fixture c.args.setting.now in
    let options = c.args.options.now in
    let selected = g.S.Stage.selected c.args.setting.now in
    let told = c.in_ok-told.ensures.told c.items.bad (g.S.Stage.state c.items.stage) c.in_ok-called.ensures.called in
    let d = c.next_number-next.ensures.drawn in
    on_err _ _ (report_front rules fixture options selected c.args.items.now c.args.groups.now
    (g.F.Feed.given c.items.feed) d.more (g.F.Feed.given c.next_number-next.new.feed) (g.F.Feed.ended c.items.feed) (g.F.Feed.ended c.next_number-next.new.feed) (g.P.Receiver.taken c.args.to.now) (g.P.Receiver.taken c.items.to) (g.S.Stage.state c.args.stage.now)
    c.items.arrived c.in-Some.number c.items.rest.now c.items.bad (g.S.Stage.state c.items.stage)
    (subst (λ (o : Option ℕ). Course rules fixture options selected c.args.items.now c.args.groups.now (g.F.Feed.given c.items.feed) (g.F.Feed.ended c.items.feed) (g.P.Receiver.taken c.args.to.now) (g.P.Receiver.taken c.items.to) (g.S.Stage.state c.args.stage.now) c.items.arrived (option_to_list o ++ c.items.rest.now) c.items.bad (g.S.Stage.state c.items.stage)) c.in-Some.is c.items.invariant.course)
    d.gave c.next_number-next.result.0 c.next_number-next.result.1.now d.numbers d.none d.stays c.value_at-item.result.now c.value_at-item.ensures (option_copied c.item_if.result) c.item_if.ensures
    c.in_ok-told.told.report (g.P.Receiver.taken c.report.new.self) c.tell_item.new.arrived told.report c.in_err-report.ensures.part)
