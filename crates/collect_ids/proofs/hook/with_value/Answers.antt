use Rattle.collect_ids.proofs.Called.{end_resumed}
use Rattle.session_rules.specs.Hooks.{InnerGave}
use Rattle.collect_ids.proofs.Frames.{sent_out}
use Rattle.collect_ids.proofs.hook.with_value.Goals as goal

pub returns-in-Ok : goal.returns-in-Ok
returns-in-Ok c = λ inside i. end_resumed c.args.limit c.args.table.now c.args.frame.which inside _ _ c.args.world.now _ _ _ c.in-Ok.ensures (c.behind_value.ensures inside i)

pub behind_value-requires : goal.behind_value-requires
behind_value-requires c = record { out = sent_out c.args.limit c.args.table.now c.args.frame.rest (InnerGave c.args.value) c.args.world.now _ _ c.in-Ok.ensures c.requires.out }
