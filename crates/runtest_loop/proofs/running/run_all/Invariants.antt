use Rattle.std.proofs.Common.{◌≡◌, ◌<◌, ◌≤◌, ◌+◌, ◌*◌, ◌++◌, [], length, None, option_to_list, true, false}
use Rattle.runtest_loop.proofs.Loop.{Course}
use Rattle.runtest_loop.specs.Fed.{unfed}
use Rattle.session_rules.specs.Session.{reaches}
use Rattle.share_files.specs.Deal.{Every}
use Rattle.runtest_loop.proofs.running.run_all.Given as goal

abbrev pub invariant-items : goal.invariant-items
invariant-items g l = record {
  course : Course (g.S.Stage.rules l.setting) (g.S.Stage.fixture l.setting) l.options (g.S.Stage.selected l.setting) l.items l.groups (g.F.Feed.given l.feed) (g.F.Feed.ended l.feed) (g.P.Receiver.taken l.fn.to) (g.P.Receiver.taken l.to) (g.S.Stage.state l.fn.stage) l.arrived (option_to_list l.current ++ l.rest) l.bad (g.S.Stage.state l.stage);
  none : l.current ≡ None → (l.rest ≡ []) × (g.F.Feed.ended l.feed ≡ true);
  here : g.S.Stage.stands l.setting l.stage;
  origin : g.F.Feed.origin l.feed ≡ g.F.Feed.origin l.fn.feed;
  most : g.F.Feed.limit l.feed ≡ g.F.Feed.limit l.fn.feed;
  limit : g.F.Feed.limit l.feed ≤ length l.groups;
  in_range : Every (λ n. n < length l.items) (option_to_list l.current ++ l.rest);
  few : l.bad + 3 * (unfed l.groups (g.F.Feed.given l.feed) + length (option_to_list l.current ++ l.rest)) ≤ 393216;
  going : reaches l.options.maxfail l.bad ≡ false;
  stems : g.P.Receiver.stems l.fn.to true l.to;
  faults : g.P.Receiver.faults l.fn.to ≤ g.P.Receiver.faults l.to;
}

abbrev pub decreases-items : goal.decreases-items
decreases-items g l = unfed l.groups (g.F.Feed.given l.feed) + length (option_to_list l.current ++ l.rest)
