use Rattle.session_rules.specs.Hooks.{InnerRaised}
use Rattle.collect_ids.proofs.Called.{end_resumed}
use Rattle.collect_ids.proofs.Frames.{sent_out}
use Rattle.collect_ids.proofs.hook.with_exception.Goals as goal

pub returns-in-Ok : goal.returns-in-Ok
returns-in-Ok c = λ value name. end_resumed c.args.limit c.args.table.now c.args.frame.which (InnerRaised c.args.got) _ _ c.args.world.now _ _ _ c.in-Ok.ensures c.behind_exception.ensures

pub behind_exception-requires : goal.behind_exception-requires
behind_exception-requires c = record { out = sent_out c.args.limit c.args.table.now c.args.frame.rest (InnerRaised c.args.got) c.args.world.now _ _ c.in-Ok.ensures c.requires.out }
