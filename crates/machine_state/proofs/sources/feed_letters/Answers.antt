use Rattle.std.proofs.Common.{◌≡◌, ◌∙◌, sym}
use Rattle.std.specs.Str.{chars}
use Rattle.std.proofs.lemmas.Iterator.{YieldsList-from_chars}
use Rattle.std.proofs.lemmas.Iterator.Consumers.{YieldsList-end}
use Rattle.machine_state.proofs.Spelled.{fed_all, same_map}
use Rattle.machine_state.proofs.sources.feed_letters.Goals as goal

pub returns : goal.returns
returns g c =
    let t = YieldsList-end (YieldsList-from_chars c.args.text.now c.utf8.text cc) c.loop-c.yielded _ c.loop-c.yielded_by _ _ c.in-None.is c.next.ensures.steps in
    let all : c.loop-c.yielded ≡ chars c.args.text.now = sym (same_map c.loop-c.yielded) ∙ t.0 in
    fed_all g.H.Hasher.write c.args.state.now c.write_usize.new.self c.loop-c.state c.letter_count.result c.loop-c.yielded (chars c.args.text.now) c.letter_count.ensures all c.write_usize.ensures c.loop-c.invariant
