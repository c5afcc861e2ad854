use Rattle.std.proofs.Common.{sym, ◌∙◌}
use Rattle.cli_words.proofs.Letters.{flag_step, flags_end}
use Rattle.cli_words.proofs.read.read_flags.Goals as goal

pub loop-given-preserved : goal.loop-given-preserved
loop-given-preserved c = record {
  text = c.in-Some.ensures.text;
  set = flag_step c.loop-given.options c.set.new.self _ c.loop-given.rest.now c.in-Some.behind.now c.in-Some.given c.in-Some.ensures (rw c.setting.ensures at c.in_ok-set.ensures) c.loop-given.invariant.set;
  behind = sym c.in-Some.ensures.behind ∙ c.loop-given.invariant.behind;
}

pub returns-clause-set : goal.returns-clause-set
returns-clause-set c = flags_end c.loop-given.options _ c.loop-given.rest.now c.in_default.ensures c.loop-given.invariant.set
