use Rattle.std.proofs.Common.{◌∙◌, ap, arith, get_or}
use Rattle.std.proofs.lemmas.List.{get_or_read}
use Rattle.session_types.specs.Scopes.{rank}
use Rattle.live_chains.specs.Chained.{head_at}
use Rattle.live_chains.proofs.Calls.{pushed_at, linked_chains, linked_shown}
use Rattle.live_chains.proofs.chains.Chains.link.Goals as goal

pub invariant_of-self : goal.invariant_of-self
invariant_of-self g c =
    linked_chains c.self.inside.cells c.self.inside.heads.items c.self.invariant c.args.instance c.push_back-cell.result c.push_back-cell.new.self
    (rw (← c.self.view_is) at c.requires.latest) (rw (← c.self.view_is) at c.requires.free) c.push_back-cell.ensures.fresh
    (pushed_at c.self.inside.cells c.push_back-cell.new.self c.args.instance c.push_back-cell.result c.index-head.result.now (head_at c.self.inside.heads.items (rank c.args.instance.scope))
    (get_or_read c.self.inside.heads.items _ _ (omega (arith, c.rank.ensures.below, c.self.invariant.many)) c.index-head.ensures 0 ∙ ap (λ r. get_or c.self.inside.heads.items r 0) c.rank.ensures.rank)
    c.push_back-cell.ensures.pushed)

pub returns-clause-linked : goal.returns-clause-linked
returns-clause-linked g c =
    rw (← c.self.view_is, c.new.ensures)
    (linked_shown c.self.inside.cells c.self.inside.heads.items c.self.invariant c.args.instance c.push_back-cell.result c.push_back-cell.new.self
    (rw (← c.self.view_is) at c.requires.latest) (rw (← c.self.view_is) at c.requires.free) c.push_back-cell.ensures.fresh
    (pushed_at c.self.inside.cells c.push_back-cell.new.self c.args.instance c.push_back-cell.result c.index-head.result.now (head_at c.self.inside.heads.items (rank c.args.instance.scope))
    (get_or_read c.self.inside.heads.items _ _ (omega (arith, c.rank.ensures.below, c.self.invariant.many)) c.index-head.ensures 0 ∙ ap (λ r. get_or c.self.inside.heads.items r 0) c.rank.ensures.rank)
    c.push_back-cell.ensures.pushed))
