use Rattle.mark_expr.proofs.Meaning.{and_rest, and_first, or_rest, or_first}
use Rattle.mark_expr.proofs.matching.+holds.Goals as goal

pub holds-returns-then-holds : goal.holds-returns-then-holds
holds-returns-then-holds t c =
    and_rest c.args.how c.args.names.now c.args.expr.now c.in-And.first c.in-And.more c.deref-in-And.result.now c.holds-in-And.result c.deref-in-And.ensures c.holds-in-And.ensures c.in-And.is c.if-holds.true c.all_hold.result c.as_slice.result.now c.as_slice.ensures.value c.all_hold.ensures

pub holds-returns-else-holds : goal.holds-returns-else-holds
holds-returns-else-holds t c =
    and_first c.args.how c.args.names.now c.args.expr.now c.in-And.first c.in-And.more c.deref-in-And.result.now c.holds-in-And.result c.deref-in-And.ensures c.holds-in-And.ensures c.in-And.is c.if-holds.false

pub holds-returns-then-holds-2 : goal.holds-returns-then-holds-2
holds-returns-then-holds-2 t c =
    or_first c.args.how c.args.names.now c.args.expr.now c.in-Or.first c.in-Or.more c.deref-in-Or.result.now c.holds-in-Or.result c.deref-in-Or.ensures c.holds-in-Or.ensures c.in-Or.is c.if-holds-2.true

pub holds-returns-else-holds-2 : goal.holds-returns-else-holds-2
holds-returns-else-holds-2 t c =
    or_rest c.args.how c.args.names.now c.args.expr.now c.in-Or.first c.in-Or.more c.deref-in-Or.result.now c.holds-in-Or.result c.deref-in-Or.ensures c.holds-in-Or.ensures c.in-Or.is c.if-holds-2.false c.any_holds.result c.as_slice-else-holds-2.result.now c.as_slice-else-holds-2.ensures.value c.any_holds.ensures
