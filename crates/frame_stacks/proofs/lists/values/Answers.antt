use Rattle.std.proofs.Common.{◌∙◌, [], ◌∷◌, map, ap}
use Rattle.std.proofs.lemmas.List.{map-append}
use Rattle.frame_stacks.proofs.Listed.{left_all, left_more, left_used}
use Rattle.frame_stacks.proofs.lists.values.Goals as goal

pub loop-at-init : goal.loop-at-init
loop-at-init g c = left_all c.args.cells.now c.args.head c.first-at.result _ c.requires c.first-at.ensures (ap (map (λ v. v.now)) c.new-values.ensures.items)

pub get-requires : goal.get-requires
get-requires g c = left_used c.args.cells.now c.args.head c.loop-at.at _ c.in-Some.id c.loop-at.invariant c.in-Some.is

pub next-at-requires : goal.next-at-requires
next-at-requires g c = left_used c.args.cells.now c.args.head c.loop-at.at _ c.in-Some.id c.loop-at.invariant c.in-Some.is

pub loop-at-preserved : goal.loop-at-preserved
loop-at-preserved g c =
    left_more c.args.cells.now c.args.head c.loop-at.at _ c.in-Some.id c.loop-at.invariant c.in-Some.is c.get.result.now c.next-at.result _
    (ap (map (λ v. v.now)) c.in_ok-push.ensures.items ∙ map-append (λ v. v.now) c.loop-at.values.items (c.get.result ∷ [])) c.get.ensures c.next-at.ensures
