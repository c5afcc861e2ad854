use Rattle.std.proofs.Common.{sym, ◌∙◌}
use Rattle.cli_words.proofs.Notices.{rest_is}
use Rattle.cli_words.proofs.asked.behind_flags.Goals as goal

pub loop-behind-preserved : goal.loop-behind-preserved
loop-behind-preserved c = record {
  text = c.in-Some.ensures.text;
  behind = sym c.in-Some.ensures.behind ∙ c.loop-behind.invariant.behind;
}

pub returns : goal.returns
returns c = rest_is c.args.letters.now c.loop-behind.rest.now c.in_default.ensures c.loop-behind.invariant.behind
