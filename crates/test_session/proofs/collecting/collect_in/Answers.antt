use Rattle.std.proofs.Common.{subst, sym}
use Rattle.collect_tree.specs.Told.{collected_told}
use Rattle.test_session.proofs.Shown.{can_run, shows_collection, told_whole}
use Rattle.test_session.specs.Stacks.{NoneOut}
use Rattle.test_session.proofs.collecting.collect_in.Goals as goal

pub returns-in-Ok-shown-clause-told : goal.returns-in-Ok-shown-clause-told
returns-in-Ok-shown-clause-told c =
    let t = c.collect.ensures.told in
    let options = c.args.options.now in (
      t.0,
      t.1,
      shows_collection options t.0 c.in-Ok.found c.in-Ok-shown.collected c.collect.new.world c.in-Ok-shown.ensures.world (told_whole options t.0 c.collect.result c.in-Ok.found c.collect.new.world c.in-Ok.is t.2)
          c.in-Ok.ensures.within c.in-Ok-shown.ensures.shows,
    )

pub returns-in-Ok-shown-clause-runs : goal.returns-in-Ok-shown-clause-runs
returns-in-Ok-shown-clause-runs c = can_run c.in-Ok.found c.in-Ok-shown.collected c.in-Ok.ensures.within c.in-Ok-shown.ensures.shows

pub returns-in-Ok-shown-clause-none_out : goal.returns-in-Ok-shown-clause-none_out
returns-in-Ok-shown-clause-none_out c =
    let t = c.collect.ensures.told in
    let options = c.args.options.now in
    let world = c.collect.new.world in
    subst NoneOut (sym c.in-Ok-shown.ensures.world)
    (c.collection_leaves_no_frame_out.ensures options t.0 (collected_told c.in-Ok.found world) (told_whole options t.0 c.collect.result c.in-Ok.found world c.in-Ok.is t.2))
