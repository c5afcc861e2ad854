use Rattle.std.proofs.Common.{List, sym, subst}
use Rattle.match_pattern.specs.declared.pattern.Item.{Item}
use Rattle.match_pattern.specs.Reading.{UpTo}
use Rattle.match_pattern.proofs.Patterns.{up_to_more}
use Rattle.match_pattern.proofs.Taking.{Left, left_next, left_none}
use Rattle.match_pattern.proofs.reading.items_at.Goals as goal

pub loop-item-preserved : goal.loop-item-preserved
loop-item-preserved c =
    subst (λ (ws : List Item). UpTo c.args.text.now ws c.in-Some.behind.now × Left c.args.text.now ws c.in-Some.behind.now) (sym c.in_ok-push.ensures.ok) (
      up_to_more c.args.text.now c.loop-item.items c.loop-item.rest.now c.in-Some.item c.in-Some.behind.now c.loop-item.invariant.0 c.in-Some.ensures,
      left_next c.args.text.now c.loop-item.items c.loop-item.rest.now c.in-Some.item c.in-Some.behind.now c.in-Some.ensures c.loop-item.invariant.1,
    )

pub returns-clause-exact : goal.returns-clause-exact
returns-clause-exact c = left_none c.args.text.now c.loop-item.items c.loop-item.rest.now c.in_default.ensures c.loop-item.invariant.1
