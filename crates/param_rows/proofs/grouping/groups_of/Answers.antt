use Rattle.std.proofs.Common.{◌≤◌, ℕ, length, get_or, refl, arith, ap, sym, subst, ◌∙◌}
use Rattle.param_rows.specs.Gathering.{with_member}
use Rattle.param_rows.proofs.Regrouped.{gather_within, gather_more}
use Rattle.param_rows.proofs.grouping.groups_of.Goals as goal

pub push_member-requires : goal.push_member-requires
push_member-requires c =
    let place = get_or c.args.order.now c.loop-place.place-index 0 in
    subst (λ (n : ℕ). n ≤ length c.loop-place.groups.items) (sym c.in_ok-at.ensures.number)
    (gather_within c.args.keys.now c.args.order.now c.loop-place.place-index place c.key_at.result.now c.loop-place.numbers.keys c.loop-place.groups.items c.key_at.ensures c.loop-place.invariant.0 c.loop-place.invariant.1)

pub loop-place-preserved : goal.loop-place-preserved
loop-place-preserved c =
    let place = get_or c.args.order.now c.loop-place.place-index 0 in
    gather_more c.args.keys.now c.args.order.now c.loop-place.place-index place c.key_at.result.now c.loop-place.numbers.keys c.loop-place.groups.items _ _ (omega arith) 0 refl c.key_at.ensures c.loop-place.invariant.0
    c.loop-place.invariant.1 c.in_ok-at.ensures.keys (c.in_ok-push_member.ensures ∙ ap (λ (n : ℕ). with_member n place c.loop-place.groups.items) c.in_ok-at.ensures.number)
