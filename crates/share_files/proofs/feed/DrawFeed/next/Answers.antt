use Rattle.std.proofs.Common.{◌≡◌, ◌++◌, ◌∷◌, [], None, refl, arith, rules}
use Rattle.share_files.specs.Deal.{times}
use Rattle.share_files.proofs.Feeding.{room_left, last_above}
use Rattle.share_files.proofs.feed.DrawFeed.next.Goals as goal

pub unwrap-requires : goal.unwrap-requires
unwrap-requires g c =
    let v = c.self.invariant in
    let left = room_left c.self.inside.worker c.self.inside.groups c.number-number.result c.self.inside.taken.items (rw c.as_slice.ensures.value at c.number-number.ensures.rising) v.below (omega (arith, c.if-number-self.false)) v.inside in
    c.push.ensures.succeeds (omega (arith, left, v.reserved))

pub returns-clause-some : goal.returns-clause-some
returns-clause-some g c =
    let new : times c.number-number.result c.self.inside.taken.items ≡ 0 = (last_above c.self.inside.worker c.number-number.result c.self.inside.taken.items (rw c.as_slice.ensures.value at c.number-number.ensures.rising)).1 in
    let none : c.self.inside.last ≡ None = search rules in
    let items : c.push.new.self.items ≡ c.self.inside.taken.items ++ c.number-number.result ∷ [] = search rules in
    rw (← c.self.view_is) (none, omega (arith, c.if-number-self.false), new, rw (c.number-number.ensures.table, items) refl)
