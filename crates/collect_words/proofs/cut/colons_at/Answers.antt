use Rattle.std.proofs.Common.{◌≡◌, ◌∙◌, ap, sym, true, false, drop, arith}
use Rattle.std.proofs.lemmas.List.{take_rest}
use Rattle.collect_words.specs.Words.{at_colons}
use Rattle.collect_words.proofs.Colons.{behind_here, behind_on, before_on}
use Rattle.collect_words.proofs.cut.colons_at.Goals as goal

pub returns-then-starts_with-clause-behind : goal.returns-then-starts_with-clause-behind
returns-then-starts_with-clause-behind c =
    let test : at_colons (drop c.loop-at.at c.args.word.now) ≡ true = ap at_colons (sym (take_rest c.args.word.now c.loop-at.at)) ∙ (sym c.starts_with.ensures.value ∙ c.if-starts_with.true) in
    behind_here c.args.word.now c.loop-at.at test c.loop-at.invariant.behind

pub loop-at-preserved : goal.loop-at-preserved
loop-at-preserved c =
    let test : at_colons (drop c.loop-at.at c.args.word.now) ≡ false = ap at_colons (sym (take_rest c.args.word.now c.loop-at.at)) ∙ (sym c.starts_with.ensures.value ∙ c.if-starts_with.false) in
    record {
      before = before_on c.args.word.now c.loop-at.at (omega arith) test c.loop-at.invariant.before;
      behind = behind_on c.args.word.now c.loop-at.at (omega arith) test c.loop-at.invariant.behind;
    }
